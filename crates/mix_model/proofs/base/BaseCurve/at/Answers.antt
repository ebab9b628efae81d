use Rattle.std.proofs.Common.{◌*◌, get_or, Some, ap, sym, ◌∙◌}
use Rattle.interval_specs.proofs.Ranges.{carry_up_to}
use Rattle.spectral_tables.specs.Spectrum.{ends_of}
use Rattle.mix_model.proofs.BaseFacts.{range_at, value_at}
use Rattle.mix_model.proofs.base.BaseCurve.at.Goals as goal

pub interval_of-requires : goal.interval_of-requires
interval_of-requires g c =
    range_at g.S.Scale.unit c.self.inside.values.items c.as_slice.result.now c.args.self.now c.args.wave c.self.view_is c.as_slice.ensures.value c.self.invariant c.requires

pub returns-clause-is : goal.returns-clause-is
returns-clause-is g c =
    value_at c.self.inside.values.items c.as_slice.result.now c.args.self.now c.args.wave c.self.view_is c.as_slice.ensures.value c.requires ∙ ap Some (sym c.interval_of.ensures)

pub returns-clause-range : goal.returns-clause-range
returns-clause-range g c =
    carry_up_to (5000 * g.S.Scale.unit) c.interval_of.result (ends_of (get_or c.as_slice.result.now c.args.wave (0, 0))) c.interval_of.ensures
    (range_at g.S.Scale.unit c.self.inside.values.items c.as_slice.result.now c.args.self.now c.args.wave c.self.view_is c.as_slice.ensures.value c.self.invariant c.requires)
