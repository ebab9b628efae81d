-- The texts of refusals: one line each, but for the usage text and where a name has a line feed.
use Rattle.std.specs.Prelude.{ℕ, List, [], ◌∷◌, ◌++◌, codes, decimal, Option, Some, None}
use Rattle.spectral_tables.specs.declared.fault.TableFault.{TableFault}
use Rattle.spectral_tables.specs.declared.fault.TableRule.{TableRule}
use Rattle.spectral_tables.specs.declared.fault.TableRule.TheVariants as rule
use Rattle.price_grid.specs.declared.limit.LimitNo.{LimitNo}
use Rattle.job_keys.specs.declared.fault.JobFault.{JobFault}
use Rattle.job_keys.specs.declared.fault.JobRule.{JobRule}
use Rattle.job_keys.specs.declared.fault.JobRule.TheVariants as job
use Rattle.job_keys.specs.declared.fault.Part.{Part}
use Rattle.job_keys.specs.declared.fault.Part.TheVariants as part
use Rattle.box_specs.specs.declared.certificate.CertRule.{CertRule}
use Rattle.box_specs.specs.declared.certificate.CertRule.TheVariants as grammar
use Rattle.box_specs.specs.declared.certificate.Why.{Why}
use Rattle.box_specs.specs.declared.certificate.Why.TheVariants as why
use Rattle.shade_report.specs.declared.refusal.Refusal.{Refusal}
use Rattle.shade_report.specs.declared.refusal.Refusal.TheVariants.{CertGrammar, CertWrong, Job, NoColumn, NotWritten, Steps, Table, TooLong, Unreadable, Usage}

-- the forms that a command line may have
abbrev pub usage_text : List ℕ
usage_text =
    codes "usage: dye ks CURVES COLUMN\n" ++ codes "       dye xyz CURVES COLUMN WEIGHTS\n" ++ codes "       dye lab CURVES COLUMN WEIGHTS\n"
    ++ codes "       dye diff CURVES STANDARD SAMPLE WEIGHTS L10 C10 [TOL]\n" ++ codes "       dye show JOB STEPS\n"
    ++ codes "       dye predict JOB CERT\n" ++ codes "       dye correct JOB CERT\n" ++ codes "       dye check JOB CERT\n"
    ++ codes "       dye demo NUMBER\n"

-- a file could not be read
abbrev pub unreadable_text : List ℕ → List ℕ
unreadable_text name = codes "unreadable " ++ name ++ 10 ∷ []

-- a file was read and is refused, and why
abbrev pub refused_text : List ℕ → List ℕ → List ℕ
refused_text name why = codes "refused " ++ name ++ 32 ∷ why ++ 10 ∷ []

-- the file has more bytes than its limit
abbrev pub too_long_text : List ℕ
too_long_text = codes "TooLong"

abbrev pub rule_name : TableRule → List ℕ
rule_name rule.NoHeader = codes "NoHeader"
rule_name rule.BadWavelength = codes "BadWavelength"
rule_name rule.WrongCount = codes "WrongCount"
rule_name rule.BadNumber = codes "BadNumber"
rule_name rule.OutOfRange = codes "OutOfRange"
rule_name rule.DoubleName = codes "DoubleName"
rule_name rule.NoWhite = codes "NoWhite"
rule_name rule.WhiteNotPositive = codes "WhiteNotPositive"
rule_name rule.Unbalanced = codes "Unbalanced"

-- the cell and the rule of a table's fault
abbrev pub fault_text : TableFault → List ℕ
fault_text f = codes "row " ++ decimal f.row ++ codes " column " ++ decimal f.column ++ 32 ∷ rule_name f.rule

abbrev pub part_name : Part → List ℕ
part_name part.Job = codes "job"
part_name part.Light = codes "light"
part_name part.Dye = codes "dye"
part_name part.Dyeing = codes "dyeing"
part_name part.Pair = codes "pair"
part_name part.Batch = codes "batch"

abbrev pub job_rule_name : JobRule → List ℕ
job_rule_name job.NotToml = codes "NotToml"
job_rule_name job.NotVersion1 = codes "NotVersion1"
job_rule_name job.UnknownKey = codes "UnknownKey"
job_rule_name job.MissingKey = codes "MissingKey"
job_rule_name job.WrongKind = codes "WrongKind"
job_rule_name job.OutOfRange = codes "OutOfRange"
job_rule_name job.BadCount = codes "BadCount"
job_rule_name job.DoubleDye = codes "DoubleDye"
job_rule_name job.UnknownDye = codes "UnknownDye"
job_rule_name job.SamePair = codes "SamePair"
job_rule_name job.BatchLength = codes "BatchLength"
job_rule_name job.TooWide = codes "TooWide"
job_rule_name job.UnknownColumn = codes "UnknownColumn"
job_rule_name job.TooStrong = codes "TooStrong"

-- the part of a job, the numbers of its item and of the item's dyeing, and the rule
abbrev pub job_fault_text : JobFault → List ℕ
job_fault_text f = part_name f.part ++ 32 ∷ decimal f.item ++ 32 ∷ decimal f.sub ++ 32 ∷ job_rule_name f.rule

-- the file has no such column
abbrev pub no_column_text : List ℕ → List ℕ
no_column_text column = codes "no column " ++ column

-- the word is no recipe of the grid, or is one that breaks the limit with a number
abbrev pub steps_text : Option LimitNo → List ℕ
steps_text None = codes "steps refused\n"
steps_text (Some limit) = codes "steps refused limit " ++ decimal limit.0 ++ 10 ∷ []

-- the certificate could not be written into a file
abbrev pub not_written_text : List ℕ → List ℕ
not_written_text name = codes "not written " ++ name ++ 10 ∷ []

abbrev pub cert_rule_name : CertRule → List ℕ
cert_rule_name grammar.BadHeader = codes "BadHeader"
cert_rule_name grammar.BadClaim = codes "BadClaim"
cert_rule_name grammar.BadLine = codes "BadLine"
cert_rule_name grammar.Missing = codes "Missing"
cert_rule_name grammar.Left = codes "Left"

abbrev pub why_name : Why → List ℕ
why_name why.BadSplit = codes "BadSplit"
why_name why.NotLimit = codes "NotLimit"
why_name why.NotFailing = codes "NotFailing"
why_name why.NotDear = codes "NotDear"
why_name why.NotPoint = codes "NotPoint"
why_name why.NotUndecided = codes "NotUndecided"
why_name why.NotPassing = codes "NotPassing"
why_name why.WrongList = codes "WrongList"

-- a line of a certificate breaks a rule of the grammar, or does not hold
abbrev pub cert_text : ℕ → List ℕ → List ℕ
cert_text line rule = codes "certificate refused line " ++ decimal line ++ 32 ∷ rule ++ 10 ∷ []

-- the text of each refusal
abbrev pub refusal_text : Refusal → List ℕ
refusal_text Usage = usage_text
refusal_text (Unreadable name) = unreadable_text name.now
refusal_text (TooLong name) = refused_text name.now too_long_text
refusal_text (Table name fault) = refused_text name.now (fault_text fault)
refusal_text (Job name fault) = refused_text name.now (job_fault_text fault)
refusal_text (NoColumn name column) = refused_text name.now (no_column_text column.now)
refusal_text (Steps limit) = steps_text limit
refusal_text (NotWritten name) = not_written_text name.now
refusal_text (CertGrammar fault) = cert_text fault.line (cert_rule_name fault.rule)
refusal_text (CertWrong line why) = cert_text line (why_name why)
