use Rattle.tristimulus.proofs.RatioLaws.{ratios_in_range}
use Rattle.tristimulus.proofs.laws.range.Goals as goal

pub returns : goal.returns
returns c = ratios_in_range
