use Rattle.std.proofs.Common.{◌≡◌, ◌+◌, ◌*◌, ◌∙◌, ap, arith}
use Rattle.ks_curves.proofs.Quotients.{next_is}
use Rattle.ks_curves.proofs.guessed.quotient.Goals as goal

pub returns-else-left-by-2 : goal.returns-else-left-by-2
returns-else-left-by-2 c =
    let product : c.from-guess.result * c.from-by.result ≡ c.args.near * c.args.divisor = λ i. c.from-guess.ensures i * c.from-by.ensures i in
    ap (λ k. k + 1) c.from-guess.ensures ∙ next_is c.args.z c.args.divisor c.args.near (omega arith) (omega arith) (omega arith)
