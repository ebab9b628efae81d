use Rattle.std.proofs.Common.{◌≡◌, pos, ◌*◌, ◌∙◌, ap}
use Rattle.interval_specs.specs.Ends.{one_at}
use Rattle.interval_specs.specs.Operations.{difference_of, multiple_of}
use Rattle.interval_specs.proofs.Held.{is_ends}
use Rattle.interval_specs.proofs.Ranges.{carry_magnitude}
use Rattle.fix_bounds.proofs.Passed.{read}
use Rattle.cielab_bounds.proofs.LabRanges.{lightness_magnitude}
use Rattle.cielab_bounds.proofs.LabCalls.{lightness_room}
use Rattle.cielab_bounds.proofs.conversion.lightness.Given as given
use Rattle.cielab_bounds.proofs.conversion.lightness.Goals as goal
use Rattle.cielab_bounds.proofs.conversion.lightness.Goals.{After-scale_by-2}

-- the second multiple is the number 16
sixteen : (g : given.Over) (c : After-scale_by-2 g) → c.scale_by-2.result ≡ multiple_of (pos 16) (one_at g.S.Scale.unit)
unfolding one_at
sixteen g c =
    c.scale_by-2.ensures.is
    ∙ ap (multiple_of (pos 16)) (is_ends _ _ _ (one_at g.S.Scale.unit) c.of_ends-one.ensures.is (read _ _ c.UNIT.type_inv (c.UNIT.ensures ∙ g.S.Scale.unit_is)) (read _ _ c.UNIT-2.type_inv (c.UNIT-2.ensures ∙ g.S.Scale.unit_is)))

pub sub-requires : goal.sub-requires
sub-requires g c = lightness_room g.S.Scale.unit c.args.y c.scale_by.result c.scale_by-2.result g.S.Scale.most c.requires c.scale_by.ensures.is (sixteen g c)

pub returns-clause-is : goal.returns-clause-is
returns-clause-is g c = c.sub.ensures.is ∙ (λ i. difference_of (c.scale_by.ensures.is i) (sixteen g ((goal.at.returns-clause-is g c).After-scale_by-2) i))

pub returns-clause-range : goal.returns-clause-range
returns-clause-range g c = carry_magnitude (1000 * g.S.Scale.unit) c.sub.result _ (returns-clause-is g c) (lightness_magnitude g.S.Scale.unit c.args.y c.requires)
