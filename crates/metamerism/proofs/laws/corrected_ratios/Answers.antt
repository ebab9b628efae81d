use Rattle.metamerism.proofs.CorrectionLaws.{corrected_enclose, corrected_in_range}
use Rattle.metamerism.proofs.laws.corrected_ratios.Goals as goal

pub returns-clause-range : goal.returns-clause-range
returns-clause-range c = corrected_in_range

pub returns-clause-encloses : goal.returns-clause-encloses
returns-clause-encloses c = corrected_enclose
