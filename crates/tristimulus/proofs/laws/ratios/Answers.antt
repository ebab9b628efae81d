use Rattle.tristimulus.proofs.RatioLaws.{ratios_enclose}
use Rattle.tristimulus.proofs.laws.ratios.Goals as goal

pub returns : goal.returns
returns c = ratios_enclose
