use Rattle.box_specs.proofs.Answers.{answer_is, first_is_answer}
use Rattle.box_core.proofs.laws.answer.Goals as goal

pub returns : goal.returns
returns c = record { answer = λ l. answer_is l; first = λ l. first_is_answer l }
