use Rattle.std.proofs.Common.{◌≡◌, pos, ◌-◌, ◌*◌, ◌^◌, ◌∙◌, ap, unsigned_abs}
use Rattle.interval_specs.specs.Operations.{ratio_at}
use Rattle.interval_specs.proofs.Ranges.{carry_up_to}
use Rattle.fix_bounds.proofs.Passed.{passed, read}
use Rattle.ks_curves.specs.KubelkaMunk.{ks_at}
use Rattle.ks_curves.proofs.Ranges.{ks_room, ks_magnitude, ks_up_to}
use Rattle.ks_curves.proofs.kubelka_munk.ks.Given as given
use Rattle.ks_curves.proofs.kubelka_munk.ks.Goals as goal
use Rattle.ks_curves.proofs.kubelka_munk.ks.Goals.{After-from-2}

numerator : (g : given.Over) (c : After-from-2 g) → passed c.from.result ≡ pos ((10 ^ 6 - c.args.millionths) * (10 ^ 6 - c.args.millionths))
numerator g c = read c.from.result _ c.from.type_inv (c.from.ensures ∙ ap (λ a. pos (a * a)) c.from-absorbed.ensures)

denominator : (g : given.Over) (c : After-from-2 g) → passed c.from-2.result ≡ pos (2 * 10 ^ 6 * c.args.millionths)
denominator g c = read c.from-2.result _ c.from-2.type_inv (c.from-2.ensures ∙ ap (λ a. pos (2000000 * a)) c.from-twice_reflected.ensures)

pub of_ratio-requires-clause-room : goal.of_ratio-requires-clause-room
of_ratio-requires-clause-room g c = ks_room c.args.millionths g.S.Scale.unit _ (numerator g c) g.S.Scale.most

pub of_ratio-requires-clause-magnitude : goal.of_ratio-requires-clause-magnitude
of_ratio-requires-clause-magnitude g c = ks_magnitude c.args.millionths g.S.Scale.unit _ _ (numerator g c) (denominator g c) g.S.Scale.most c.requires.0

pub returns-clause-is : goal.returns-clause-is
unfolding ks_at
returns-clause-is g c =
    let d = (goal.at.returns-clause-is g c).After-from-2 in
    c.of_ratio.ensures.is ∙ (λ i. ratio_at g.S.Scale.unit (numerator g d i) (unsigned_abs (denominator g d i)))

pub returns-clause-range : goal.returns-clause-range
returns-clause-range g c =
    carry_up_to (5000 * g.S.Scale.unit) c.of_ratio.result (ks_at g.S.Scale.unit c.args.millionths) (returns-clause-is g c) (ks_up_to g.S.Scale.unit c.args.millionths c.requires)
