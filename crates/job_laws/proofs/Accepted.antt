-- The files and the budget of an accepted job.
use Rattle.std.proofs.Common.{◌≡◌, ◌≤◌, ◌&&◌, ◌==◌, ℕ, ℤ, pos, negsuc, Bool, true, false, Option, Some, None, Ok, List, [], ◌∷◌, All, refl, subst, arith}
use Rattle.std.specs.Prelude.{nat_le, not, codes, length, if◌then◌else◌}
use Rattle.std.specs.List.{ends_with}
use Rattle.std.proofs.lemmas.Bool.{and_parts, false≢true, leb-true}
use Rattle.std.proofs.lemmas.List.Elements.{All-nil}
use Rattle.toml.specs.Data.{Data, as_integer, as_str, get_member}
use Rattle.job_keys.specs.declared.fault.JobRule.TheVariants.{NotToml, OutOfRange, WrongKind}
use Rattle.job_keys.specs.declared.light.JobLight.{JobLight}
use Rattle.job_file.specs.declared.top.BatchRule.{BatchRule}
use Rattle.job_keys.specs.Arrays.{each, if_there}
use Rattle.job_file.specs.Batch.{batch_of}
use Rattle.job_file.specs.Dye.{has_dye, next_dye}
use Rattle.job_keys.specs.Faults.{or_fault}
use Rattle.job_file.specs.Job.{Values, job_at, job_of, job_position, tree_of}
use Rattle.job_keys.specs.Keys.{Entries, file_text, name, natural_in, only_keys, or_else, required, whole, whole_if_any, whole_in, whole_or}
use Rattle.job_keys.specs.Light.{light, next_light}
use Rattle.job_keys.specs.Pair.{next_pair}
use Rattle.job_keys.specs.Texts.{is_file_text}
use Rattle.job_file.specs.Top.{head, inner, keys}
use Rattle.job_laws.specs.Laws.{BudgetFits, FilesAreNoCerts, IsNoCert}
use Rattle.job_laws.proofs.Steps.{bind_ok, each_holds, err_ok, ok_same, then_ok}

-- ---- a text and a number

not_true : (b : Bool) → not b ≡ true → b ≡ false
not_true true h = absurd (false≢true h)
not_true false h = refl

passed : (test : List ℕ → Bool) (t : Entries) (text x : List ℕ) → or_fault t.position OutOfRange (if test text then Some text else None) ≡ Ok x → test x ≡ true
passed test t text x h = go (test text) refl h where
  go : (b : Bool) → test text ≡ b → or_fault t.position OutOfRange (if b then Some text else None) ≡ Ok x → test x ≡ true
  go true e k = subst (λ y. test y ≡ true) (ok_same text x k) e
  go false e k = absurd (err_ok _ x k)

no_cert : (text : List ℕ) → is_file_text text ≡ true → IsNoCert text
no_cert text h =
    let ends : Bool = ends_with ◌==◌ text (codes ".cert") in
    not_true ends (and_parts (nat_le 1 (length text) && nat_le (length text) 255) (not ends) h).1

file_is_no_cert : (key : List ℕ) (t : Entries) (name : List ℕ) → file_text key t ≡ Ok name → IsNoCert name
unfolding file_text
file_is_no_cert key t name h =
    let value = bind_ok (required key t) _ name h in
    let text = bind_ok (or_fault t.position WrongKind (as_str value.0)) _ name value.2 in
    no_cert name (passed is_file_text t text.0 name text.2)

abbrev IsIn : ℕ → ℕ → ℕ → Type 0
IsIn low high n = (low ≤ n) × (n ≤ high)

natural_is_in : (low high : ℕ) (t : Entries) (z : ℤ) (n : ℕ) → or_fault t.position OutOfRange (natural_in low high z) ≡ Ok n → IsIn low high n
natural_is_in low high t (pos m) n h = go (nat_le low m && nat_le m high) refl h where
  go : (b : Bool) → (nat_le low m && nat_le m high) ≡ b → or_fault t.position OutOfRange (if b then Some m else None) ≡ Ok n → IsIn low high n
  go true e k =
      let both = and_parts (nat_le low m) (nat_le m high) e in
      subst (IsIn low high) (ok_same m n k) (leb-true low m both.0, leb-true m high both.1)
  go false e k = absurd (err_ok _ n k)
natural_is_in low high t (negsuc m) n h = absurd (err_ok _ n h)

whole_is_in : (low high absent : ℕ) (t : Entries) (o : Option Data) (n : ℕ) → IsIn low high absent → or_else absent (whole_in low high t.position) o ≡ Ok n → IsIn low high n
whole_is_in low high absent t None n i h = subst (IsIn low high) (ok_same absent n h) i
whole_is_in low high absent t (Some value) n i h =
    let z = bind_ok (or_fault t.position WrongKind (as_integer value)) _ n h in
    natural_is_in low high t z.0 n z.2

budget_is_in : (t : Entries) (n : ℕ) → whole_or (codes "budget") 1 1000000 100000 t ≡ Ok n → IsIn 1 1000000 n
unfolding whole_or
budget_is_in t n h = whole_is_in 1 1000000 100000 t (get_member (codes "budget") t.members) n (omega arith, omega arith) h

-- ---- the texts and numbers of a job

head_fits : (t : Entries) (v : Values) → head t ≡ Ok v.head → IsNoCert v.head.curves × IsIn 1 1000000 v.head.budget
unfolding head
head_fits t v e =
    let curves = bind_ok (file_text (codes "curves") t) _ v.head e in
    let substrate = bind_ok (name (codes "substrate") t) _ v.head curves.2 in
    let standard = bind_ok (name (codes "standard") t) _ v.head substrate.2 in
    let load = bind_ok (whole_or (codes "load") 1 100000 1 t) _ v.head standard.2 in
    let max_dyes = bind_ok (whole_or (codes "max_dyes") 1 12 12 t) _ v.head load.2 in
    let max_total = bind_ok (whole_or (codes "max_total") 1 240000 240000 t) _ v.head max_dyes.2 in
    let max_cost = bind_ok (whole_if_any (codes "max_cost") 0 1000000000000000 t) _ v.head max_total.2 in
    let budget = bind_ok (whole_or (codes "budget") 1 1000000 100000 t) _ v.head max_cost.2 in
    let same = ok_same _ v.head budget.2 in
    (subst (λ h. IsNoCert h.curves) same (file_is_no_cert (codes "curves") t curves.0 curves.1), subst (λ h. IsIn 1 1000000 h.budget) same (budget_is_in t budget.0 budget.1))

-- ---- the lights

light_is_no_cert : (t : Entries) (l : JobLight) → light t ≡ Ok l → IsNoCert l.weights
unfolding light
light_is_no_cert t l e =
    let others = then_ok (only_keys (codes "weights" ∷ codes "tolerance" ∷ codes "l10" ∷ codes "c10" ∷ []) t) _ l e in
    let weights = bind_ok (file_text (codes "weights") t) _ l others.1 in
    let tolerance = bind_ok (whole (codes "tolerance") 0 100000 t) _ l weights.2 in
    let l10 = bind_ok (whole_or (codes "l10") 1 100 20 t) _ l tolerance.2 in
    let c10 = bind_ok (whole_or (codes "c10") 1 100 10 t) _ l l10.2 in
    subst (λ x. IsNoCert x.weights) (ok_same _ l c10.2) (file_is_no_cert (codes "weights") t weights.0 weights.1)

-- ---- a job

record Fits (v : Values) : Type 0 where
  head : IsNoCert v.head.curves × IsIn 1 1000000 v.head.budget
  light : All (λ l. IsNoCert l.weights) v.light

table_fits : (rule : BatchRule) (t : Entries) (v : Values) → job_at rule t ≡ Ok v → Fits v
unfolding job_at
table_fits rule t v h =
    let top = bind_ok (head t) _ v (then_ok (keys rule t) _ v h).1 in
    let found = bind_ok (inner rule t) _ v top.2 in
    let lights = bind_ok (each next_light [] found.0.light) _ v found.2 in
    let dyes = bind_ok (each next_dye [] found.0.dye) _ v lights.2 in
    let pairs = bind_ok (each (next_pair (has_dye dyes.0)) [] found.0.pair) _ v dyes.2 in
    let bath = bind_ok (if_there (batch_of dyes.0) found.0.batch) _ v pairs.2 in
    let made : Values = record { head = top.0; light = lights.0; dye = dyes.0; pair = pairs.0; batch = bath.0 } in
    subst Fits (ok_same made v bath.2) (record {
      head = head_fits t made top.1;
      light = each_holds (λ l. IsNoCert l.weights) next_light (λ before m l e. light_is_no_cert _ l e) [] found.0.light lights.0 (All-nil _) lights.1;
    })

job_fits : (rule : BatchRule) (text : List ℕ) (v : Values) → job_of rule text ≡ Ok v → Fits v
unfolding job_of
job_fits rule text v h =
    let members = bind_ok (or_fault job_position NotToml (tree_of text)) _ v h in
    table_fits rule (record { position = job_position; members = members.0 }) v members.2

pub files_are_no_certs : FilesAreNoCerts
files_are_no_certs rule text v h =
    let fits = job_fits rule text v h in
    (fits.head.0, fits.light)

pub budget_fits : BudgetFits
budget_fits rule text v h = (job_fits rule text v h).head.1
