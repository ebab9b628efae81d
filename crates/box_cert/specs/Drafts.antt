-- A certificate of which the first lines are read.
use Rattle.std.specs.Prelude.{◌≡◌, ◌==◌, ◌+◌, ◌≤◌, ◌++◌, ℕ, zero, suc, Bool, true, false, All, List, [], ◌∷◌, length, map, Result, Ok, Err}
use Rattle.box_core.specs.Ranges.{ClaimFits, LineFits}
use Rattle.box_specs.specs.Validity.{are_trees}
use Rattle.box_specs.specs.declared.certificate.CertFault.{CertFault}
use Rattle.box_specs.specs.declared.certificate.CertLine.{CertLine}
use Rattle.box_specs.specs.declared.certificate.CertRule.{CertRule}
use Rattle.box_specs.specs.declared.certificate.CertRule.TheVariants.{BadClaim, BadHeader, BadLine, Left, Missing}
use Rattle.box_specs.specs.declared.certificate.Claim.{Claim}
use Rattle.box_cert.specs.declared.draft.Draft.{Draft}
use Rattle.box_cert.specs.declared.draft.Part.{Part}
use Rattle.box_cert.specs.declared.draft.Part.TheVariants as parts
use Rattle.box_cert.specs.declared.fault.CertError.{CertError}
use Rattle.box_cert.specs.declared.fault.CertError.TheVariants as errors
use Rattle.box_cert.specs.Claims.{HasDims, claim_of}
use Rattle.box_cert.specs.Form.{header_of, lists_then, then_claim, then_end, then_lists, then_tree}
use Rattle.box_cert.specs.Reading.{◌>>=◌, AreRecipes, Cursor, FailsAs, next_of, recipes_at, trees_at, with_prefix}
use Rattle.box_cert.specs.Spelling.{Content, cert_form, made, undecided}

abbrev pub recipes : Draft → List (List ℕ)
recipes d = map (λ s. s.items) d.listed.items

-- the part that so many listed recipes are before
abbrev pub part_before : ℕ → Part
part_before zero = parts.Tree 1
part_before (suc more) = parts.Recipe more

-- how many listed recipes are to come, where their number is known
abbrev pub to_come : Part → ℕ
to_come parts.Header = 0
to_come parts.Claim = 0
to_come parts.Count = 0
to_come (parts.Recipe more) = suc more
to_come (parts.Tree wanted) = 0

-- how many trees are to come
abbrev pub trees_of : Part → ℕ
trees_of parts.Header = 1
trees_of parts.Claim = 1
trees_of parts.Count = 1
trees_of (parts.Recipe more) = 1
trees_of (parts.Tree wanted) = wanted

abbrev pub is_whole : Part → Bool
is_whole parts.Header = false
is_whole parts.Claim = false
is_whole parts.Count = false
is_whole (parts.Recipe more) = false
is_whole (parts.Tree wanted) = wanted == 0

-- what is read after the one list of a certificate
abbrev pub then_list : Claim → List (List ℕ) × Cursor → Result Content CertFault
then_list claim listed = then_tree made claim (listed.0 ∷ []) listed.1

-- what the whole text gives, from what was read of it and from the rest of its lines
abbrev pub still_at : ℕ → Claim → List (List ℕ) → List CertLine → Part → Cursor → Result Content CertFault
still_at dims claim listed lines parts.Header p = next_of BadHeader (header_of cert_form.header) p >>= then_claim cert_form made dims
still_at dims claim listed lines parts.Claim p = next_of BadClaim (claim_of dims) p >>= then_lists cert_form made dims
still_at dims claim listed lines parts.Count p = lists_then dims (undecided ∷ []) (then_tree made claim) p
still_at dims claim listed lines (parts.Recipe more) p = with_prefix listed (recipes_at dims (suc more) p) >>= then_list claim
still_at dims claim listed lines (parts.Tree wanted) p = with_prefix lines (trees_at wanted p) >>= then_end made claim (listed ∷ [])

-- the same for a draft, where these lines are to come, and then these bytes without a line feed
abbrev pub still : Draft → List (List ℕ) → List ℕ → Result Content CertFault
still d lines left = still_at d.dims d.claim (recipes d) d.lines.items d.part (record { number = d.number; lines = lines; left = left })

-- lists are empty before their first lines, and the trees to come make the lines one tree
abbrev pub IsBegun : Part → List (List ℕ) → List CertLine → Type 0
IsBegun parts.Header listed lines = (listed ≡ []) × (lines ≡ [])
IsBegun parts.Claim listed lines = (listed ≡ []) × (lines ≡ [])
IsBegun parts.Count listed lines = (listed ≡ []) × (lines ≡ [])
IsBegun (parts.Recipe more) listed lines = lines ≡ []
IsBegun (parts.Tree wanted) listed lines = (more : List CertLine) → are_trees 1 (lines ++ more) ≡ are_trees wanted more

pub record IsDraft (d : Draft) : Type 0 where
  pub some : 1 ≤ d.dims
  pub few : d.dims ≤ 12
  pub number : d.number ≤ 32000001
  pub lines : length d.lines.items + 1 ≤ d.number
  pub trees : trees_of d.part ≤ d.number
  pub claim : HasDims d.dims d.claim
  pub numbers : ClaimFits d.claim
  pub listed : AreRecipes d.dims (length (recipes d)) (recipes d)
  pub room : length (recipes d) + to_come d.part ≤ 1000000
  pub fits : All LineFits d.lines.items
  pub begun : IsBegun d.part (recipes d) d.lines.items

-- the line, which is not empty, was taken: with it before the lines to come the text gives the same
pub record Took (old : Draft) (line : List ℕ) (new : Draft) : Type 0 where
  pub draft : IsDraft new
  pub dims : new.dims ≡ old.dims
  pub number : new.number ≡ old.number + 1
  pub some : 1 ≤ length line
  pub same : (lines : List (List ℕ)) (left : List ℕ) → still new lines left ≡ still old (line ∷ lines) left

abbrev pub is_missing : CertRule → Bool
is_missing BadHeader = false
is_missing BadClaim = false
is_missing BadLine = false
is_missing Missing = true
is_missing Left = false

-- no bytes to come can mend the text: no line is only missing
abbrev pub IsLasting : CertError → Type 0
IsLasting errors.Memory = Unit {0}
IsLasting (errors.Fault f) = is_missing f.rule ≡ false

-- the line was taken, or it is the first fault of the text, whatever comes after it
abbrev pub Takes : {T : Type 0} → Draft → List ℕ → Result T CertError → Draft → Type 0
Takes old line (Ok _) new = Took old line new
Takes old line (Err e) new = IsLasting e × ((lines : List (List ℕ)) (left : List ℕ) → FailsAs e (still old (line ∷ lines) left))
