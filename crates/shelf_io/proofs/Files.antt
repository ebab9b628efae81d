-- The files of a shelf in memory: which file is at an index, and that a change of one file leaves
-- the others unchanged.
use Rattle.std.proofs.Common.{◌≡◌, ◌+◌, ℕ, Bool, true, false, Option, Some, None, List, [], ◌∷◌, ◌++◌, get_or, option_map, if◌then◌else◌, is_some, refl, sym, ap, ◌∙◌, subst, add-one}
use Rattle.std.proofs.Math.ListN.{set}
use Rattle.std.specs.Str.{bytes_eq}
use Rattle.std.proofs.lemmas.Slice.Eq.{bytes_eq-Decides}
use Rattle.std.proofs.lemmas.Bool.{false≢true}
use Rattle.shelf_io.specs.Held.{Held, held_under, index_of, change_under}

found_step : (b : Bool) (f d : Held) (p : Option ℕ) (u : Option Held) (fs : List Held) (at : ℕ) → ((k : ℕ) → p ≡ Some k → u ≡ Some (get_or fs k d)) → (if b then Some 0 else option_map (λ k. k + 1) p) ≡ Some at → (if b then Some f else u) ≡ Some (get_or (f ∷ fs) at d)
found_step true f d p u fs at rest h =
    let e : 0 ≡ at = cc in
    let P : ℕ → Type 0 = λ k. Some f ≡ Some (get_or (f ∷ fs) k d) in
    subst P e refl
found_step false f d None u fs at rest h = cc
found_step false f d (Some k) u fs at rest h =
    let e : k + 1 ≡ at = cc in
    let P : ℕ → Type 0 = λ j. u ≡ Some (get_or (f ∷ fs) j d) in
    subst P e (rw add-one (rest k refl))

-- the file at the index of a name is the file under the name
pub found_at : (name : List ℕ) (files : List Held) (at : ℕ) (d : Held) → index_of name files ≡ Some at → held_under name files ≡ Some (get_or files at d)
found_at name [] at d h = cc
found_at name (f ∷ fs) at d h =
    found_step (bytes_eq f.name name) f d (index_of name fs) (held_under name fs) fs at (λ k e. found_at name fs k d e) h

lost_step : (b : Bool) (f : Held) (p : Option ℕ) (u : Option Held) → (p ≡ None → u ≡ None) → (if b then Some 0 else option_map (λ k. k + 1) p) ≡ None → (if b then Some f else u) ≡ None
lost_step true f p u rest h = cc
lost_step false f None u rest h = rest refl
lost_step false f (Some k) u rest h = cc

-- a name with no index is not held
pub lost : (name : List ℕ) (files : List Held) → index_of name files ≡ None → held_under name files ≡ None
lost name [] h = refl
lost name (f ∷ fs) h = lost_step (bytes_eq f.name name) f (index_of name fs) (held_under name fs) (λ e. lost name fs e) h

change_step : (b : Bool) (f d : Held) (p : Option ℕ) (change : Held → Held) (fs changed : List Held) (at : ℕ) → ((k : ℕ) → p ≡ Some k → set fs k (change (get_or fs k d)) ≡ changed) → (if b then Some 0 else option_map (λ k. k + 1) p) ≡ Some at → set (f ∷ fs) at (change (get_or (f ∷ fs) at d)) ≡ (if b then change f ∷ fs else f ∷ changed)
change_step true f d p change fs changed at rest h =
    let e : 0 ≡ at = cc in
    let P : ℕ → Type 0 = λ k. set (f ∷ fs) k (change (get_or (f ∷ fs) k d)) ≡ (change f ∷ fs) in
    subst P e refl
change_step false f d None change fs changed at rest h = cc
change_step false f d (Some k) change fs changed at rest h =
    let e : k + 1 ≡ at = cc in
    let P : ℕ → Type 0 = λ j. set (f ∷ fs) j (change (get_or (f ∷ fs) j d)) ≡ (f ∷ changed) in
    subst P e (rw add-one (ap (λ xs. f ∷ xs) (rest k refl)))

-- a change at the index of a name is a change of the file under the name
pub change_at : (name : List ℕ) (change : Held → Held) (files : List Held) (at : ℕ) (d : Held) → index_of name files ≡ Some at → set files at (change (get_or files at d)) ≡ change_under name change files
change_at name change [] at d h = cc
change_at name change (f ∷ fs) at d h =
    change_step (bytes_eq f.name name) f d (index_of name fs) change fs (change_under name change fs) at (λ k e. change_at name change fs k d e) h

missing_step : (b : Bool) (f : Held) (change : Held → Held) (u : Option Held) (fs changed : List Held) → (u ≡ None → changed ≡ fs) → (if b then Some f else u) ≡ None → (if b then change f ∷ fs else f ∷ changed) ≡ (f ∷ fs)
missing_step true f change u fs changed rest h = cc
missing_step false f change u fs changed rest h = ap (λ xs. f ∷ xs) (rest h)

-- a change of a name that is not held changes nothing
pub change_missing : (name : List ℕ) (change : Held → Held) (files : List Held) → held_under name files ≡ None → change_under name change files ≡ files
change_missing name change [] h = refl
change_missing name change (f ∷ fs) h =
    missing_step (bytes_eq f.name name) f change (held_under name fs) fs (change_under name change fs) (λ e. change_missing name change fs e) h

-- two names that each equal, or do not equal, a third
pub record NamesAgree (f name n : List ℕ) : Type 0 where
  pub both : bytes_eq f name ≡ true → bytes_eq f n ≡ true → bytes_eq n name ≡ true
  pub first : bytes_eq f name ≡ true → bytes_eq f n ≡ false → bytes_eq n name ≡ false
  pub second : bytes_eq f name ≡ false → bytes_eq f n ≡ true → bytes_eq n name ≡ false

pub not_true : (b : Bool) → (b ≡ true → ⊥) → b ≡ false
not_true true h = absurd (h refl)
not_true false h = refl

pub names_agree : (f name n : List ℕ) → NamesAgree f name n
names_agree f name n =
    let same : (a b : List ℕ) → bytes_eq a b ≡ true → a ≡ b = λ a b. (bytes_eq-Decides a b).0 in
    let test : (a b : List ℕ) → a ≡ b → bytes_eq a b ≡ true = λ a b. (bytes_eq-Decides a b).1 in
    record {
      both = λ h k. test n name (sym (same f n k) ∙ same f name h);
      first = λ h k. not_true (bytes_eq n name) (λ e. false≢true (sym k ∙ test f n (same f name h ∙ sym (same n name e))));
      second = λ h k. not_true (bytes_eq n name) (λ e. false≢true (sym h ∙ test f name (same f n k ∙ same n name e)));
    }

under_step : (b e q : Bool) (f g : Held) (fs changed : List Held) (u : Option Held) (n : List ℕ) (change : Held → Held) → (b ≡ true → e ≡ true → q ≡ true) → (b ≡ true → e ≡ false → q ≡ false) → (b ≡ false → e ≡ true → q ≡ false)
    → bytes_eq f.name n ≡ e → bytes_eq g.name n ≡ e → held_under n fs ≡ u → g ≡ change f → held_under n changed ≡ (if q then option_map change u else u)
    → held_under n (if b then g ∷ fs else f ∷ changed) ≡ (if q then option_map change (if e then Some f else u) else (if e then Some f else u))
under_step true true q f g fs changed u n change both first second fe ge hu gc ih = rw (ge, both refl refl) (ap (λ x. Some x) gc)
under_step true false q f g fs changed u n change both first second fe ge hu gc ih = rw (ge, first refl refl) hu
under_step false true q f g fs changed u n change both first second fe ge hu gc ih = rw (fe, second refl refl)
under_step false false q f g fs changed u n change both first second fe ge hu gc ih = rw fe ih

none_step : (q : Bool) (change : Held → Held) → None ≡ (if q then option_map change None else None)
none_step true change = refl
none_step false change = refl

pushed_step : (b : Bool) (g f : Held) (fs : List Held) (n : List ℕ) → held_under n (fs ++ f ∷ []) ≡ (if is_some (held_under n fs) then held_under n fs else (if bytes_eq f.name n then Some f else None))
    → (if b then Some g else held_under n (fs ++ f ∷ [])) ≡ (if is_some (if b then Some g else held_under n fs) then (if b then Some g else held_under n fs) else (if bytes_eq f.name n then Some f else None))
pushed_step true g f fs n ih = refl
pushed_step false g f fs n ih = ih

-- after a change of the file under a name, the file under any name
pub under_changed : (name n : List ℕ) (change : Held → Held) (files : List Held) → ((f : Held) → (change f).name ≡ f.name)
    → held_under n (change_under name change files) ≡ (if bytes_eq n name then option_map change (held_under n files) else held_under n files)
under_changed name n change [] keeps = none_step (bytes_eq n name) change
under_changed name n change (f ∷ fs) keeps =
    let a = names_agree f.name name n in
    under_step (bytes_eq f.name name) (bytes_eq f.name n) (bytes_eq n name) f (change f) fs (change_under name change fs) (held_under n fs) n change
    a.both a.first a.second refl (ap (λ x. bytes_eq x n) (keeps f)) refl refl (under_changed name n change fs keeps)

-- a new file after the others is the one under its name, where there was none
pub under_pushed : (n : List ℕ) (files : List Held) (f : Held) → held_under n (files ++ f ∷ []) ≡ (if is_some (held_under n files) then held_under n files else (if bytes_eq f.name n then Some f else None))
under_pushed n [] f = refl
under_pushed n (g ∷ fs) f = pushed_step (bytes_eq g.name n) g f fs n (under_pushed n fs f)

-- what is read at the index of a name is the file under the name
pub read_there : (name : List ℕ) (files seen : List Held) (at : ℕ) (file : Held) → seen ≡ files → Some at ≡ index_of name seen → file ≡ get_or files at file → held_under name files ≡ Some file
read_there name files seen at file s p g =
    found_at name files at file (ap (index_of name) (sym s) ∙ sym p) ∙ ap (λ x. Some x) (sym g)

-- where no index is found, the name is not held
pub read_nowhere : (name : List ℕ) (files seen : List Held) → seen ≡ files → None ≡ index_of name seen → held_under name files ≡ None
read_nowhere name files seen s p = lost name files (ap (index_of name) (sym s) ∙ sym p)
