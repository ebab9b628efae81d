use Rattle.std.proofs.Common.{◌≡◌, ◌*◌, ◌^◌, ◌≤◌, pos, ap, sym, subst, ◌∙◌, SFits, rules, unsigned_abs, ℤ}
use Rattle.std.specs.Int.{w64}
use Rattle.std.proofs.lemmas.Int.{to_z-of_z}
use mir.Val.{to_z, of_z}
use Rattle.interval_specs.specs.Ends.{magnitude_of}
use Rattle.interval_specs.specs.Operations.{multiple_of}
use Rattle.interval_specs.proofs.Ranges.{carry_magnitude}
use Rattle.ks_curves.specs.Calibration.{weighted_addition}
use Rattle.ks_curves.proofs.Ranges.{weighted_room, weighted_magnitude}
use Rattle.ks_curves.proofs.calibration.weighted_addition.Given as given
use Rattle.ks_curves.proofs.calibration.weighted_addition.Goals as goal
use Rattle.ks_curves.proofs.calibration.weighted_addition.Goals.{After-from}

units_read : (g : given.Over) (c : After-from g) → to_z w64 (of_z w64 c.from.result) ≡ pos c.args.units
units_read g c = let fits : SFits w64 c.from.result = search rules in to_z-of_z w64 c.from.result fits ∙ c.from.ensures

pub scale_by-requires : goal.scale_by-requires
scale_by-requires g c =
    subst (λ (k : ℤ). magnitude_of c.added.result * unsigned_abs k ≤ 10 ^ 25) (sym (units_read g c))
    (weighted_room g.S.Scale.unit c.args.units c.added.result g.S.Scale.most c.requires.units c.added.ensures.range)

pub returns-clause-is : goal.returns-clause-is
unfolding weighted_addition
returns-clause-is g c =
    let d = (goal.at.returns-clause-is g c).After-from in
    c.scale_by.ensures.is ∙ (λ i. multiple_of (units_read g d i) (c.added.ensures.is i))

pub returns-clause-range : goal.returns-clause-range
returns-clause-range g c =
    let d = (goal.at.returns-clause-range g c).After-from in
    carry_magnitude (c.args.units * (10 ^ 4 * g.S.Scale.unit)) c.scale_by.result (multiple_of (pos c.args.units) c.added.result)
    (c.scale_by.ensures.is ∙ ap (λ (k : ℤ). multiple_of k c.added.result) (units_read g d))
    (weighted_magnitude g.S.Scale.unit c.args.units c.added.result c.added.ensures.range)
