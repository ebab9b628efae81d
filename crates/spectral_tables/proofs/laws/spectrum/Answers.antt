use Rattle.spectral_tables.proofs.SpectrumLaws.{spectrum_encloses}
use Rattle.spectral_tables.proofs.laws.spectrum.Goals as goal

pub returns : goal.returns
returns c = spectrum_encloses
