use Rattle.std.proofs.Common.{◌∙◌, sym, ap}
use Rattle.cert_check.specs.Result.{checked_of}
use Rattle.cert_check.proofs.Exact.{nothing_fails, valid_if}
use Rattle.cert_check.proofs.Results.{accepted}
use Rattle.cert_check.proofs.Sound.{means}
use Rattle.cert_check.proofs.checking.check.Goals as goal

pub returns-clause-valid : goal.returns-clause-valid
returns-clause-valid g c = (
  λ e. valid_if (g.L.Landscape.land c.args.land.now) c.top-top.ensures.lawful.top c.args.cert.now.claim c.args.cert.now.undecided c.args.cert.now.lines c.args.cert.now.whole
      (sym c.in_ok-failure.ensures.is ∙ accepted c.in_ok-failure.failure (sym c.checked_of.ensures ∙ e)),
  λ v. c.checked_of.ensures ∙ ap checked_of (c.in_ok-failure.ensures.is
      ∙ nothing_fails (g.L.Landscape.land c.args.land.now) c.top-top.ensures.lawful.top c.args.cert.now.claim c.args.cert.now.undecided c.args.cert.now.lines v),
)

pub returns-clause-means : goal.returns-clause-means
returns-clause-means g c = λ e.
    means (g.L.Landscape.land c.args.land.now) c.args.cert.now.claim c.args.cert.now.undecided c.args.cert.now.lines c.top-top.ensures.lawful c.args.cert.now.whole
    (sym c.in_ok-failure.ensures.is ∙ accepted c.in_ok-failure.failure (sym c.checked_of.ensures ∙ e))
