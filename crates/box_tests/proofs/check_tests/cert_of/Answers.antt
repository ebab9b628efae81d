use Rattle.std.proofs.Common.{◌≡◌, true, List, ℕ, sym, subst, arith}
use Rattle.box_specs.specs.declared.certificate.CertLine.{CertLine}
use Rattle.box_tests.specs.Certs.{are_parts}
use Rattle.box_tests.proofs.Fitting.{claim_fits, lines_fit, one_length, parts, recipes_fit}
use Rattle.box_tests.proofs.check_tests.cert_of.Goals as goal

pub invariant_of-result : goal.invariant_of-result
invariant_of-result c =
    let listed = subst (λ (rs : List (List ℕ)). are_parts c.args.claim rs c.args.lines.items ≡ true) (sym c.of.ensures) c.requires in
    let known = parts c.args.claim c.of.result c.of-2.result
    (subst (λ (xs : List CertLine). are_parts c.args.claim c.of.result xs ≡ true) (sym c.of-2.ensures) listed) in
    record {
      whole = known.whole;
      short = omega (arith, known.short);
      few = omega (arith, known.few);
      one_length = one_length c.args.claim c.of.result known.claimed known.recipes;
      numbers = (claim_fits c.args.claim known.claimed, recipes_fit c.of.result known.recipes, lines_fit c.of-2.result known.fit);
    }
