use Rattle.box_search.proofs.Results.{one_result, result_is_canonical}
use Rattle.box_search.proofs.laws.one_result.Goals as goal

pub returns : goal.returns
returns c = record { one = λ l. one_result l; canonical = λ l. result_is_canonical l }
