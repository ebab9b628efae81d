-- A landscape of one dye, for the tests: recipes with fewer steps than `first` fail, the others
-- pass; two limits exclude those with more steps than `last`.
use Rattle.std.specs.Prelude.{◌==◌, ◌&&◌, ◌||◌, ℕ, nat_lt, [], ◌∷◌, slice_index, if◌then◌else◌}
use Rattle.box_specs.specs.declared.judged.Judged.{Judged}
use Rattle.box_specs.specs.declared.judged.Judged.TheVariants.{Fail, Limit, Pass, StillOpen}
use Rattle.box_specs.specs.Landscape.{Land, fails, passes}

abbrev pub ladder : (most first last : ℕ) → Land
ladder most first last = record {
  top = record { lo = 0 ∷ []; hi = most ∷ [] };
  lights = 1;
  cost = λ steps. slice_index steps 0;
  grade = λ steps. if nat_lt (slice_index steps 0) first then fails else passes;
  excluded = λ limit b. ((limit == 3) || (limit == 5)) && nat_lt last (slice_index b.lo 0);
  failing = λ light b. (light == 1) && nat_lt (slice_index b.hi 0) first;
}

-- what is known of the recipes of `low` to `high` steps
abbrev pub judged_between : (first last low high : ℕ) → Judged
judged_between first last low high =
    if nat_lt last low then Limit 3 else if nat_lt high first then Fail 1 else if low == high then Pass else StillOpen
