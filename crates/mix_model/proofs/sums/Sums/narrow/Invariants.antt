use Rattle.std.proofs.Common.{◌≡◌, ℕ, List, set, take}
use Rattle.interval_specs.specs.Ends.{Ends}
use Rattle.mix_model.specs.Mixture.{mixture_ks_at, portions}
use Rattle.mix_model.specs.Sums.{AreSumsOf, HasRange}
use Rattle.mix_model.proofs.sums.Sums.narrow.Given as goal

abbrev pub invariant-loop-wave : goal.invariant-loop-wave
invariant-loop-wave g l =
    (base : List Ends) (lo hi : List ℕ) → AreSumsOf g.S.Scale.unit l.self base l.dyes l.bath lo hi → HasRange lo hi l.dye l.old
    → l.ends.items ≡ take l.wave (mixture_ks_at g.S.Scale.unit base (portions l.dyes l.bath (set lo l.dye l.new.0) (set hi l.dye l.new.1)))
