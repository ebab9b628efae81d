use Rattle.std.proofs.Common.{◌^◌, ◌∙◌, ℕ, List, [], ◌∷◌, ap, refl, lit≤}
use Rattle.interval_specs.specs.Ends.{Ends}
use Rattle.ks_curves.specs.Dye.{DyeData}
use Rattle.mix_model.specs.Base.{base_at}
use Rattle.mix_model.specs.Sums.{AreNarrowed, AreSumsOf}
use Rattle.mix_model.proofs.Examples.{both_mix, first_sums}
use Rattle.mix_model.proofs.tests.boxes_narrowed_in_turn.Goals as goal

abbrev are_sums : (sums base : List Ends) (dye other : DyeData) (fewest fewest' most most' : ℕ) → Type 0
are_sums sums base dye other fewest fewest' most most' = AreSumsOf (10 ^ 12) sums base (dye ∷ other ∷ []) (0 ∷ 0 ∷ []) (fewest ∷ fewest' ∷ []) (most ∷ most' ∷ [])

second : (sums narrowed base : List Ends) (dye other : DyeData) → are_sums sums base dye other 0 0 9 7 → AreNarrowed (10 ^ 12) sums narrowed (dye ∷ other ∷ []) (0 ∷ 0 ∷ []) 0 (0, 9) (1, 9) → are_sums narrowed base dye other 1 0 9 7
second sums narrowed base dye other a h = h base (0 ∷ 0 ∷ []) (9 ∷ 7 ∷ []) a (record { fewest = refl; most = refl })

third : (sums narrowed base : List Ends) (dye other : DyeData) → are_sums sums base dye other 1 0 9 7 → AreNarrowed (10 ^ 12) sums narrowed (dye ∷ other ∷ []) (0 ∷ 0 ∷ []) 1 (0, 7) (0, 3) → are_sums narrowed base dye other 1 0 9 3
third sums narrowed base dye other a h = h base (1 ∷ 0 ∷ []) (9 ∷ 7 ∷ []) a (record { fewest = refl; most = refl })

last : (sums narrowed base : List Ends) (dye other : DyeData) → are_sums sums base dye other 1 0 9 3 → AreNarrowed (10 ^ 12) sums narrowed (dye ∷ other ∷ []) (0 ∷ 0 ∷ []) 0 (1, 9) (5, 5) → are_sums narrowed base dye other 5 0 5 3
last sums narrowed base dye other a h = h base (1 ∷ 0 ∷ []) (9 ∷ 3 ∷ []) a (record { fewest = refl; most = refl })

pub of-first-requires : goal.of-first-requires
of-first-requires g c = (lit≤ tt, both_mix c.of-base.result c.rust.result c.rust-2.result (c.of-base.ensures.is ∙ ap (base_at (10 ^ 12)) c.even.ensures) c.rust.ensures c.rust-2.ensures)

pub narrow-second-requires : goal.narrow-second-requires
narrow-second-requires g c = (
  lit≤ tt,
  (record { base = c.of-base.result; lo = 0 ∷ 0 ∷ []; hi = 9 ∷ 7 ∷ []; are = first_sums c.of-base.result c.rust.result c.rust-2.result c.of-first.result c.of-base.ensures.held (c.of-base.ensures.is ∙ ap (base_at (10 ^ 12)) c.even.ensures) c.rust.ensures c.rust-2.ensures c.of-first.ensures.is; range_is = record { fewest = refl; most = refl } }, record { fewest = lit≤ tt; ordered = lit≤ tt; most = lit≤ tt }),
)

pub of-second_anew-requires : goal.of-second_anew-requires
of-second_anew-requires g c = (lit≤ tt, (second c.of-first.result c.narrow-second.result c.of-base.result c.rust.result c.rust-2.result (first_sums c.of-base.result c.rust.result c.rust-2.result c.of-first.result c.of-base.ensures.held (c.of-base.ensures.is ∙ ap (base_at (10 ^ 12)) c.even.ensures) c.rust.ensures c.rust-2.ensures c.of-first.ensures.is) c.narrow-second.ensures).mixes)

pub narrow-third-requires : goal.narrow-third-requires
narrow-third-requires g c = (
  lit≤ tt,
  (record { base = c.of-base.result; lo = 1 ∷ 0 ∷ []; hi = 9 ∷ 7 ∷ []; are = second c.of-first.result c.narrow-second.result c.of-base.result c.rust.result c.rust-2.result (first_sums c.of-base.result c.rust.result c.rust-2.result c.of-first.result c.of-base.ensures.held (c.of-base.ensures.is ∙ ap (base_at (10 ^ 12)) c.even.ensures) c.rust.ensures c.rust-2.ensures c.of-first.ensures.is) c.narrow-second.ensures; range_is = record { fewest = refl; most = refl } }, record { fewest = lit≤ tt; ordered = lit≤ tt; most = lit≤ tt }),
)

pub of-third_anew-requires : goal.of-third_anew-requires
of-third_anew-requires g c = (lit≤ tt, (third c.narrow-second.result c.narrow-third.result c.of-base.result c.rust.result c.rust-2.result (second c.of-first.result c.narrow-second.result c.of-base.result c.rust.result c.rust-2.result (first_sums c.of-base.result c.rust.result c.rust-2.result c.of-first.result c.of-base.ensures.held (c.of-base.ensures.is ∙ ap (base_at (10 ^ 12)) c.even.ensures) c.rust.ensures c.rust-2.ensures c.of-first.ensures.is) c.narrow-second.ensures) c.narrow-third.ensures).mixes)

pub narrow-last-requires : goal.narrow-last-requires
narrow-last-requires g c = (
  lit≤ tt,
  (record { base = c.of-base.result; lo = 1 ∷ 0 ∷ []; hi = 9 ∷ 3 ∷ []; are = third c.narrow-second.result c.narrow-third.result c.of-base.result c.rust.result c.rust-2.result (second c.of-first.result c.narrow-second.result c.of-base.result c.rust.result c.rust-2.result (first_sums c.of-base.result c.rust.result c.rust-2.result c.of-first.result c.of-base.ensures.held (c.of-base.ensures.is ∙ ap (base_at (10 ^ 12)) c.even.ensures) c.rust.ensures c.rust-2.ensures c.of-first.ensures.is) c.narrow-second.ensures) c.narrow-third.ensures; range_is = record { fewest = refl; most = refl } }, record { fewest = lit≤ tt; ordered = lit≤ tt; most = lit≤ tt }),
)

pub of-last_anew-requires : goal.of-last_anew-requires
of-last_anew-requires g c = (lit≤ tt, (last c.narrow-third.result c.narrow-last.result c.of-base.result c.rust.result c.rust-2.result (third c.narrow-second.result c.narrow-third.result c.of-base.result c.rust.result c.rust-2.result (second c.of-first.result c.narrow-second.result c.of-base.result c.rust.result c.rust-2.result (first_sums c.of-base.result c.rust.result c.rust-2.result c.of-first.result c.of-base.ensures.held (c.of-base.ensures.is ∙ ap (base_at (10 ^ 12)) c.even.ensures) c.rust.ensures c.rust-2.ensures c.of-first.ensures.is) c.narrow-second.ensures) c.narrow-third.ensures) c.narrow-last.ensures).mixes)
