-- `check`: whether a certificate is valid for a job.
use Rattle.std.specs.Prelude.{ℕ, List, [], length, Option, Some, None, Result, Ok, Err}
use Rattle.box_cert.specs.Spelling.{Content}
use Rattle.box_cert.specs.Text.{cert_of}
use Rattle.box_specs.specs.Validity.{first_failure}
use Rattle.box_specs.specs.declared.certificate.CertFault.{CertFault}
use Rattle.box_specs.specs.declared.certificate.Claim.{Claim}
use Rattle.box_specs.specs.declared.certificate.Why.{Why}
use Rattle.job_file.specs.declared.top.BatchRule.{BatchRule}
use Rattle.job_file.specs.declared.top.BatchRule.TheVariants.{Either}
use Rattle.job_file.specs.Resolve.{ResolvedJob}
use Rattle.recipe_judge.specs.Recipes.{recipe_land}
use Rattle.shade_report.specs.Outcomes.{accepted_text}
use Rattle.run_core.specs.Answers.{Report}
use Rattle.run_core.specs.Asking.{◌>>=◌}
use Rattle.run_core.specs.Outcome.{Fault, grammar, invalid}
use Rattle.run_core.specs.declared.statuses.Conclusion.TheVariants.{NoVerdict}

-- the job may have a batch or not
abbrev pub check_rule : BatchRule
check_rule = Either

abbrev pub unless_misspelled : Result Content CertFault → Result Content Fault
unless_misspelled (Ok content) = Ok content
unless_misspelled (Err fault) = Err (grammar fault)

-- the certificate that a text spells, of recipes with this number of dyes
unfoldable pub cert_from : ℕ → List ℕ → Result Content Fault
cert_from dims text = unless_misspelled (cert_of dims text)

abbrev pub unless_failing : Content → Option (ℕ × Why) → Result Content Fault
unless_failing content None = Ok content
unless_failing content (Some failure) = Err (invalid failure.0 failure.1)

-- the same certificate, where it is valid for the recipes of a job
unfoldable pub valid_from : ResolvedJob → Content → Result Content Fault
valid_from r content = unless_failing content (first_failure (recipe_land r) content.claim content.listed content.lines)

-- the report on a valid certificate: what it claims of the recipes of the job
abbrev pub accepted_report : ResolvedJob → Claim → Report
accepted_report r claim = record { conclusion = NoVerdict; text = accepted_text claim; evaluations = []; written = None; recipes = Some r }

-- the report, from a job and the text of a certificate
unfoldable pub check_report : ResolvedJob → List ℕ → Result Report Fault
check_report r text = do
  content ← cert_from (length (recipe_land r).top.lo) text
  valid ← valid_from r content
  Ok (accepted_report r valid.claim)
