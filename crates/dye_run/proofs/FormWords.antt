-- The words of a command on a job and its certificate: the first word does not end as a
-- certificate, and the second does.
use Rattle.std.proofs.Common.{◌≡◌, ℕ, List, [], ◌∷◌, Option, Some, None, Bool, true, false, not, ◌&&◌, ◌==◌, codes, if◌then◌else◌, option_map, refl, subst}
use Rattle.std.specs.List.{ends_with}
use Rattle.std.specs.Str.{bytes_eq}
use Rattle.dye_run.specs.Commands.{Task, confirms, finds, reports, summarises, task_of}
use Rattle.dye_run.specs.Demo.{demo_words}
use Rattle.dye_run.specs.Diff.{diff_words}
use Rattle.dye_run.specs.Forms.{Form, check, correct, demo, diff, form_of, ks, lab, predict, show, xyz}
use Rattle.dye_run.specs.Ks.{ks_words}
use Rattle.dye_run.specs.Show.{show_words}
use Rattle.dye_run.specs.Words.{CertWords, cert_words, is_cert_word, is_job_word, lit_column_of}

-- a word ends as a certificate
abbrev pub ends_as_cert : List ℕ → Bool
ends_as_cert word = ends_with ◌==◌ word (codes ".cert")

pub record AreCertWords (words : CertWords) : Type 0 where
  pub job : ends_as_cert words.job ≡ false
  pub cert : ends_as_cert words.cert ≡ true

both : (a b : Bool) → a && b ≡ true → (a ≡ true) × (b ≡ true)
both true true h = (refl, refl)
both true false h = cc
both false true h = cc
both false false h = cc

negated : (a : Bool) → not a ≡ true → a ≡ false
negated true h = cc
negated false h = refl

where_true : {T : Type 0} (b : Bool) (x y : T) → (if b then Some x else None) ≡ Some y → (b ≡ true) × (x ≡ y)
where_true true x y e = (refl, cc)
where_true false x y e = absurd (let h : None ≡ Some y = e in cc)

of_cert_words : (ws : List (List ℕ)) (words : CertWords) → cert_words ws ≡ Some words → AreCertWords words
of_cert_words [] words e = absurd (let h : None ≡ Some words = e in cc)
of_cert_words (job ∷ []) words e = absurd (let h : None ≡ Some words = e in cc)
of_cert_words (job ∷ (cert ∷ [])) words e =
    let kept = where_true (is_job_word job && is_cert_word cert) (record { job = job; cert = cert }) words e in
    let tests = both (is_job_word job) (is_cert_word cert) kept.0 in
    let j = negated (ends_as_cert job) (both _ _ tests.0).1 in
    let c = (both _ _ tests.1).1 in
    let P : CertWords → Type 0 = λ w. AreCertWords w in
    subst P kept.1 (record { job = j; cert = c })
of_cert_words (job ∷ (cert ∷ (more ∷ rest))) words e = absurd (let h : None ≡ Some words = e in cc)

pub mapped : {A B : Type 0} (f : A → B) (x : Option A) (y : B) → option_map f x ≡ Some y → (a : A) × (x ≡ Some a) × (f a ≡ y)
mapped f (Some a) y e = (a, refl, let h : Some (f a) ≡ Some y = e in cc)
mapped f None y e = absurd (let h : None ≡ Some y = e in cc)

-- what holds of the words of a task: those of a search are a job and a certificate
abbrev pub KeepsWords : Task → Type 0
KeepsWords (reports asking) = Unit {0}
KeepsWords (finds rule words) = AreCertWords words
KeepsWords (confirms words) = Unit {0}
KeepsWords (summarises number) = Unit {0}

abbrev FormKeeps : Form → Type 0
FormKeeps form = KeepsWords (task_of form)

-- what holds of each form of this branch and of those of the rest holds of the form
branch : {A : Type 0} (b : Bool) (f : A → Form) (x : Option A) (rest : Option Form) (form : Form) → ((a : A) → x ≡ Some a → FormKeeps (f a)) → (rest ≡ Some form → FormKeeps form) → (if b then option_map f x else rest) ≡ Some form → FormKeeps form
branch true f x rest form own others e = let m = mapped f x form e in subst FormKeeps m.2 (own m.0 m.1)
branch false f x rest form own others e = others e

none_kept : (form : Form) → None ≡ Some form → FormKeeps form
none_kept form e = absurd (let h : None ≡ Some form = e in cc)

pub form_keeps : (ws : List (List ℕ)) (form : Form) → form_of ws ≡ Some form → KeepsWords (task_of form)
form_keeps [] form e = none_kept form e
form_keeps (command ∷ ws) form e =
    branch (bytes_eq command (codes "ks")) ks (ks_words ws) _ form (λ a h. tt)
    (branch (bytes_eq command (codes "xyz")) xyz (lit_column_of ws) _ form (λ a h. tt)
    (branch (bytes_eq command (codes "lab")) lab (lit_column_of ws) _ form (λ a h. tt)
    (branch (bytes_eq command (codes "diff")) diff (diff_words ws) _ form (λ a h. tt)
    (branch (bytes_eq command (codes "show")) show (show_words ws) _ form (λ a h. tt)
    (branch (bytes_eq command (codes "predict")) predict (cert_words ws) _ form (of_cert_words ws)
    (branch (bytes_eq command (codes "correct")) correct (cert_words ws) _ form (of_cert_words ws)
    (branch (bytes_eq command (codes "check")) check (cert_words ws) _ form (λ a h. tt)
    (branch (bytes_eq command (codes "demo")) demo (demo_words ws) _ form (λ a h. tt) (none_kept form))))))))) e
