use Rattle.std.proofs.Common.{◌≤◌, ◌*◌, ◌∙◌, ap, subst, sym, unsigned_abs}
use Rattle.std.proofs.lemmas.Int.{to_z-of_z}
use Rattle.std.specs.Int.{w128}
use Rattle.root_bounds.proofs.interval.times_unit_twice.Goals as goal

pub cbrt_radicand-requires : goal.cbrt_radicand-requires
cbrt_radicand-requires g c =
    subst (λ t. t ≤ 10 * g.S.Scale.unit) (sym (c.unsigned_abs.ensures.value ∙ ap unsigned_abs (to_z-of_z w128 c.args.end c.ranges.end))) c.requires
