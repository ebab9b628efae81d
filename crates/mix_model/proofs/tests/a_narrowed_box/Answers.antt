use Rattle.std.proofs.Common.{◌^◌, ◌∙◌, [], ◌∷◌, ap, refl, lit≤}
use Rattle.mix_model.specs.Base.{base_at}
use Rattle.mix_model.proofs.Examples.{few_mix}
use Rattle.mix_model.proofs.tests.a_narrowed_box.Goals as goal

pub of-sums-requires : goal.of-sums-requires
of-sums-requires g c = (lit≤ tt, few_mix c.of-base.result c.rust.result (c.of-base.ensures.is ∙ ap (base_at (10 ^ 12)) c.even.ensures) c.rust.ensures)

pub narrow-narrowed-requires : goal.narrow-narrowed-requires
narrow-narrowed-requires g c = (
  lit≤ tt,
  (
    record {
      base = c.of-base.result;
      lo = 0 ∷ [];
      hi = 4 ∷ [];
      are = record { is_base = c.of-base.ensures.held; mixes = few_mix c.of-base.result c.rust.result (c.of-base.ensures.is ∙ ap (base_at (10 ^ 12)) c.even.ensures) c.rust.ensures; are = c.of-sums.ensures.is };
      range_is = record { fewest = refl; most = refl };
    },
    record { fewest = lit≤ tt; ordered = lit≤ tt; most = lit≤ tt },
  ),
)
