-- The ranges of the numbers of a certificate are propositions: they have at most one proof.
use Rattle.std.proofs.Props.{props}
use Rattle.box_specs.specs.declared.certificate.CertLine.{CertLine}
use Rattle.box_specs.specs.declared.certificate.CertLine.TheVariants.{Dear, Fail, Limit, Pass, Split, Undecided}
use Rattle.box_specs.specs.declared.certificate.Claim.{Claim}
use Rattle.box_specs.specs.declared.certificate.Claim.TheVariants.{Floor, Match, NoMatch}
use Rattle.box_core.specs.Ranges.{ClaimFits, LineFits}

pub claim_fits_prop : (claim : Claim) → IsProp (ClaimFits claim)
claim_fits_prop (Match recipe) = hlevel props
claim_fits_prop NoMatch = hlevel props
claim_fits_prop (Floor cost) = hlevel props

pub line_fits_prop : (line : CertLine) → IsProp (LineFits line)
line_fits_prop (Split dye mid) = hlevel props
line_fits_prop (Limit k) = hlevel props
line_fits_prop (Fail j) = hlevel props
line_fits_prop Dear = hlevel props
line_fits_prop Undecided = hlevel props
line_fits_prop Pass = hlevel props
