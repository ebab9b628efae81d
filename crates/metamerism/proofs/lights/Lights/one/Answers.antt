use Rattle.metamerism.proofs.LightLists.{one_corrected, one_equal}
use Rattle.metamerism.proofs.lights.Lights.one.Goals as goal

pub invariant_of-result : goal.invariant_of-result
invariant_of-result g c = record { equal = one_equal c.args.first; corrected = λ e. one_corrected c.args.first (c.is_corrected_by-by_first.ensures.0 e) }
