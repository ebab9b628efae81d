use Rattle.spectral_tables.proofs.SpectrumLaws.{spectrum_in_range}
use Rattle.spectral_tables.proofs.laws.range.Goals as goal

pub returns : goal.returns
returns c = spectrum_in_range
