use Rattle.std.proofs.Common.{refl, sym, ap, ◌∙◌}
use Rattle.box_cert.specs.Spelling.{content}
use Rattle.dye_run.specs.Check.{unless_failing, valid_from}
use Rattle.run_core.specs.Outcome.{invalid}
use Rattle.dye_run.proofs.CheckFacts.{refused_failure}
use Rattle.dye_run.proofs.commands.check.valid_from.Goals as goal

pub returns : goal.returns
unfolding valid_from
returns c =
    (invalid c.in-Refused.line c.in-Refused.why, refl, ap (unless_failing (content c.args.cert)) (refused_failure _ c.in-Refused.line c.in-Refused.why (sym c.in_ok-check.ensures.is ∙ c.in-Refused.is)))
