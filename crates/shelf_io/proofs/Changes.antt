-- A change of the file under one name, or of none, and what it leaves unchanged of the file under
-- any name.
use Rattle.std.proofs.Common.{◌≡◌, ◌≢◌, ◌≤◌, ℕ, Bool, true, false, Option, Some, None, List, option_map, if◌then◌else◌, is_some, IsSome, Result, Ok, Err, OnErr, OnOk, is_err, refl, sym, ap, ◌∙◌, subst, arith}
use Rattle.std.specs.Option.{option_map_or}
use Rattle.std.specs.Str.{bytes_eq}
use Rattle.std.proofs.lemmas.Bool.{false≢true}
use Rattle.std.proofs.lemmas.Bool.Decides.{nat_tests}
use Rattle.std.proofs.lemmas.Slice.Eq.{bytes_eq-Decides}
use Rattle.shelf_io.specs.Calls.{one_more}
use Rattle.shelf_io.specs.Counts.{CountsFailure, IsRaised}
use Rattle.shelf_io.specs.Held.{Held, held_under, change_under}
use Rattle.shelf_io.proofs.Files.{not_true, under_changed}
use Rattle.shelf_io.proofs.Shelves.{under_choice, choice_both}

pub grows_one : (n : ℕ) → n ≤ one_more n
grows_one n = grind (arith, nat_tests)

pub rose_one : (n : ℕ) → IsRaised n (one_more n)
rose_one n = grind (arith, nat_tests)

-- the file under a name after the file under some name was changed, or none was; q says that the
-- two names are equal
abbrev pub file_after : Bool → Bool → (Held → Held) → Option Held → Option Held
file_after changed q change u = if changed then (if q then option_map change u else u) else u

pub under_after : (changed : Bool) (name n : List ℕ) (change : Held → Held) (files : List Held) → ((f : Held) → (change f).name ≡ f.name)
    → held_under n (if changed then change_under name change files else files) ≡ file_after changed (bytes_eq n name) change (held_under n files)
under_after changed name n change files keeps =
    under_choice changed n (change_under name change files) files ∙ choice_both changed (under_changed name n change files keeps) refl

-- what the change leaves unchanged of a file is unchanged of the file under any name
pub kept : {A : Type 0} (p : Held → A) (change : Held → Held) (changed q : Bool) (u : Option Held) → ((f : Held) → p (change f) ≡ p f) → option_map p (file_after changed q change u) ≡ option_map p u
kept p change true true None k = refl
kept p change true true (Some f) k = ap (λ x. Some x) (k f)
kept p change true false u k = refl
kept p change false q u k = refl

pub kept_or : {A : Type 0} (p : Held → A) (change : Held → Held) (changed q : Bool) (u : Option Held) (d : A) → ((f : Held) → p (change f) ≡ p f) → option_map_or p (file_after changed q change u) d ≡ option_map_or p u d
kept_or p change true true None d k = refl
kept_or p change true true (Some f) d k = k f
kept_or p change true false u d k = refl
kept_or p change false q u d k = refl

pub still_held : (change : Held → Held) (changed q : Bool) (u : Option Held) → IsSome u → IsSome (file_after changed q change u)
still_held change true true (Some f) h = refl
still_held change true false (Some f) h = refl
still_held change false q (Some f) h = refl
still_held change changed q None h = absurd (false≢true h)

pub count_grows : (p : Held → ℕ) (change : Held → Held) (changed q : Bool) (u : Option Held) (shared shared' : ℕ) → shared ≤ shared' → ((f : Held) → p f ≤ p (change f)) → option_map_or p u shared ≤ option_map_or p (file_after changed q change u) shared'
count_grows p change true true None shared shared' h k = h
count_grows p change true true (Some f) shared shared' h k = k f
count_grows p change true false None shared shared' h k = h
count_grows p change true false (Some f) shared shared' h k = omega arith
count_grows p change false q None shared shared' h k = h
count_grows p change false q (Some f) shared shared' h k = omega arith

-- the count of a held name other than that of the change stays
pub count_others : {A : Type 0} (p : Held → ℕ) (b : Held → A) (change : Held → Held) (changed q : Bool) (u : Option Held) (shared shared' : ℕ) → q ≡ false → IsSome (option_map b u) → option_map_or p (file_after changed q change u) shared' ≡ option_map_or p u shared
count_others p b change changed true u shared shared' e h = absurd (false≢true (sym e))
count_others p b change changed false None shared shared' e h = absurd (false≢true h)
count_others p b change true false (Some f) shared shared' e h = refl
count_others p b change false false (Some f) shared shared' e h = refl

pub grows_or : (fails : Bool) (n : ℕ) → n ≤ (if fails then one_more n else n)
grows_or true n = grows_one n
grows_or false n = omega arith

-- a failed call raises the count of its own name
pub count_rose : (p : Held → ℕ) (change : Held → Held) (changed q : Bool) (u : Option Held) (shared : ℕ) → changed ≡ true → q ≡ true → ((f : Held) → p (change f) ≡ one_more (p f)) → IsRaised (option_map_or p u shared) (option_map_or p (file_after changed q change u) (if is_some u then shared else one_more shared))
count_rose p change false q u shared e g k = absurd (false≢true e)
count_rose p change true false u shared e g k = absurd (false≢true g)
count_rose p change true true None shared e g k = rose_one shared
count_rose p change true true (Some f) shared e g k = let r = rose_one (p f) in rw k r

-- a call counts its failure
pub counted : (fails : Bool) (before now : ℕ) → before ≤ now → (fails ≡ true → IsRaised before now) → (fails ≡ false → now ≡ before) → CountsFailure fails before now
counted true before now l rose same = (l, rose refl)
counted false before now l rose same = same refl

pub counted_as : {T E : Type 0} (result : Result T E) (fails : Bool) (before now : ℕ) → is_err result ≡ fails → CountsFailure fails before now → CountsFailure (is_err result) before now
counted_as result fails before now e h = let P : Bool → Type 0 = λ b. CountsFailure b before now in subst P (sym e) h

pub same_name : (n : List ℕ) → bytes_eq n n ≡ true
same_name n = (bytes_eq-Decides n n).1 refl

pub other_name : (n name : List ℕ) → n ≢ name → bytes_eq n name ≡ false
other_name n name h = not_true (bytes_eq n name) (λ e. h ((bytes_eq-Decides n name).0 e))

-- what holds where a call fails holds after its error
pub after_error : {T E P : Type 0} (result : Result T E) (fails : Bool) → is_err result ≡ fails → (fails ≡ true → P) → OnErr result P
after_error (Ok _) fails e h = tt
after_error (Err _) fails e h = h (sym e)

-- .. and what holds where it does not fail holds after its value
pub after_value : {T E P : Type 0} (result : Result T E) (fails : Bool) → is_err result ≡ fails → (fails ≡ false → P) → OnOk result P
after_value (Ok _) fails e h = h (sym e)
after_value (Err _) fails e h = tt
