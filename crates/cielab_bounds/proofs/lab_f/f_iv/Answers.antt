use Rattle.std.proofs.Common.{◌≡◌, ◌*◌, ◌∙◌, ap, unsigned_abs, arith}
use Rattle.std.proofs.lemmas.Int.{to_z_pos}
use Rattle.std.specs.Int.{w128}
use mir.Val.{to_z}
use Rattle.interval_specs.proofs.Held.{held_by, is_ends}
use Rattle.interval_specs.proofs.Ranges.{carry_up_to}
use Rattle.fix_bounds.proofs.Passed.{read}
use Rattle.cielab_bounds.specs.Cielab.{f_down, f_up, f_at}
use Rattle.cielab_bounds.proofs.LabRanges.{f_up_to, f_held}
use Rattle.cielab_bounds.proofs.lab_f.f_iv.Given as given
use Rattle.cielab_bounds.proofs.lab_f.f_iv.Goals as goal
use Rattle.cielab_bounds.proofs.lab_f.f_iv.Goals.{After-upper_end-greatest}

low : (g : given.Over) (c : After-upper_end-greatest g) → to_z w128 c.lower_end-least.result ≡ f_down g.S.Scale.unit (unsigned_abs c.args.t.lo)
low g c =
    to_z_pos w128 c.lower_end-least.result (omega (arith, c.lower_end-least.ensures.small, g.S.Scale.most)) ∙ c.lower_end-least.ensures.is
    ∙ ap (f_down g.S.Scale.unit) (c.unsigned_abs-low.ensures.value ∙ ap unsigned_abs (read c.lo.result c.args.t.lo c.lo.type_inv c.lo.ensures.is))

high : (g : given.Over) (c : After-upper_end-greatest g) → to_z w128 c.upper_end-greatest.result ≡ f_up g.S.Scale.unit (unsigned_abs c.args.t.hi)
high g c =
    to_z_pos w128 c.upper_end-greatest.result (omega (arith, c.upper_end-greatest.ensures.small, g.S.Scale.most)) ∙ c.upper_end-greatest.ensures.is
    ∙ ap (f_up g.S.Scale.unit) (c.unsigned_abs-high.ensures.value ∙ ap unsigned_abs (read c.hi.result c.args.t.hi c.hi.type_inv c.hi.ensures.is))

pub of_ends-requires : goal.of_ends-requires
unfolding f_at
of_ends-requires g c =
    held_by _ _ (f_at g.S.Scale.unit c.args.t) (low g c) (high g c)
    (f_held g.S.Scale.unit c.args.t g.S.Scale.most c.requires.not_below c.lo.ensures.held.ordered c.requires.magnitude)

pub returns-clause-is : goal.returns-clause-is
unfolding f_at
returns-clause-is g c =
    let d = (goal.at.returns-clause-is g c).After-upper_end-greatest in
    is_ends _ _ _ (f_at g.S.Scale.unit c.args.t) c.of_ends.ensures.is (low g d) (high g d)

pub returns-clause-range : goal.returns-clause-range
returns-clause-range g c =
    carry_up_to (2 * g.S.Scale.unit) c.of_ends.result (f_at g.S.Scale.unit c.args.t) (returns-clause-is g c)
    (f_up_to g.S.Scale.unit c.args.t c.requires.not_below c.lo.ensures.held.ordered c.requires.magnitude)
