use Rattle.std.proofs.Common.{◌≡◌, ◌*◌, ◌∙◌, subst, sym, lit≤}
use Rattle.interval_specs.specs.Ends.{one_at}
use Rattle.interval_specs.specs.Operations.{sum_of}
use Rattle.interval_specs.specs.Ranges.{AtLeast}
use Rattle.interval_specs.proofs.Held.{is_ends}
use Rattle.interval_specs.proofs.Ranges.{carry_up_to, one_up_to}
use Rattle.fix_bounds.proofs.Passed.{read}
use Rattle.lab_parts.proofs.Rooms.{sum_room, unit_magnitude, up_to_magnitude}
use Rattle.delta_specs.specs.Cie94.{weight_at}
use Rattle.delta_specs.proofs.Ranges.{gain_up_to, weight_at_least, weight_up_to}
use Rattle.other_deltas.proofs.difference.weight.Given as given
use Rattle.other_deltas.proofs.difference.weight.Goals as goal
use Rattle.other_deltas.proofs.difference.weight.Goals.{After-ratio_up}

one : (g : given.Over) (c : After-ratio_up g) → c.of_ends-one.result ≡ one_at g.S.Scale.unit
unfolding one_at
one g c =
    is_ends _ _ _ (one_at g.S.Scale.unit) c.of_ends-one.ensures.is (read _ _ c.UNIT.type_inv (c.UNIT.ensures ∙ g.S.Scale.unit_is)) (read _ _ c.UNIT-2.type_inv (c.UNIT-2.ensures ∙ g.S.Scale.unit_is))

pub add-requires : goal.add-requires
add-requires g c =
    let n = g.S.Scale.unit in
    sum_room n 1 69 c.of_ends-one.result c.ratio_up.result g.S.Scale.most (lit≤ tt) (lit≤ tt)
    (unit_magnitude n c.of_ends-one.result (carry_up_to n c.of_ends-one.result (one_at n) (one g c) (one_up_to n)))
    (up_to_magnitude (69 * n) c.ratio_up.result (carry_up_to (69 * n) c.ratio_up.result _ c.ratio_up.ensures.is (gain_up_to n c.args.k c.args.c1 c.requires.k c.requires.chroma)))

pub returns-clause-is : goal.returns-clause-is
unfolding weight_at
returns-clause-is g c =
    let d = (goal.at.returns-clause-is g c).After-ratio_up in
    c.add.ensures.is ∙ (λ i. sum_of (one g d i) (c.ratio_up.ensures.is i))

pub returns-clause-range : goal.returns-clause-range
returns-clause-range g c =
    carry_up_to (70 * g.S.Scale.unit) c.add.result (weight_at g.S.Scale.unit c.args.k c.args.c1) (returns-clause-is g c) (weight_up_to g.S.Scale.unit c.args.k c.args.c1 c.requires.k c.requires.chroma)

pub returns-clause-least : goal.returns-clause-least
returns-clause-least g c =
    subst (λ x. AtLeast 1 1 g.S.Scale.unit x) (sym (returns-clause-is g c)) (weight_at_least g.S.Scale.unit c.args.k c.args.c1 c.requires.chroma.not_negative)
