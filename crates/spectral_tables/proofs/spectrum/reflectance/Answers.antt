use Rattle.std.proofs.Common.{◌≡◌, ◌^◌, pos, rules}
use Rattle.interval_specs.specs.Operations.{ratio_at}
use Rattle.interval_specs.proofs.Ranges.{carry_up_to}
use Rattle.spectral_tables.proofs.SpectrumFacts.{ratio-part}
use Rattle.spectral_tables.proofs.spectrum.reflectance.Goals as goal

pub returns-clause-range : goal.returns-clause-range
returns-clause-range g c =
    let ratio = ratio_at g.S.Scale.unit (pos c.args.millionths) (10 ^ 6) in
    let is : c.of_ratio.result ≡ ratio = search rules in
    carry_up_to g.S.Scale.unit c.of_ratio.result ratio is (ratio-part g.S.Scale.unit c.args.millionths c.requires)
