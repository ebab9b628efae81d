-- The steps of a reading that was accepted.
use Rattle.std.proofs.Common.{◌≡◌, Result, Ok, Err, List, [], ◌∷◌, ◌++◌, All, refl, sym, subst}
use Rattle.std.proofs.lemmas.List.Elements.{All-push}
use Rattle.job_keys.specs.declared.fault.JobFault.{JobFault}
use Rattle.job_keys.specs.Arrays.{each}
use Rattle.job_keys.specs.Faults.{◌>>=◌, ◌>>◌}

pub err_ok : {A : Type 0} (fault : JobFault) (x : A) → Err fault ≡ Ok x → ⊥
err_ok fault x h = cc

pub ok_same : {A : Type 0} (x y : A) → ◌≡◌ {A = Result A JobFault} (Ok x) (Ok y) → x ≡ y
ok_same x y h = cc

-- an accepted reading of two steps: the first read some x, and the second, given x, read y
pub bind_ok : {A B : Type 0} (r : Result A JobFault) (f : A → Result B JobFault) (y : B) → (r >>= f) ≡ Ok y → (x : A) × (r ≡ Ok x) × (f x ≡ Ok y)
bind_ok (Ok x) f y h = (x, refl, h)
bind_ok (Err fault) f y h = absurd (err_ok fault y h)

pub then_ok : {B : Type 0} (r : Result (Unit {0}) JobFault) (next : Result B JobFault) (y : B) → (r >> next) ≡ Ok y → (r ≡ Ok tt) × (next ≡ Ok y)
then_ok (Ok x) next y h = (refl, h)
then_ok (Err fault) next y h = absurd (err_ok fault y h)

-- an accepted reading stays so, with the same value, where its second step is replaced by one that
-- reads this value where the old one did
pub bind_other : {A B : Type 0} (r : Result A JobFault) (f g : A → Result B JobFault) (y : B) → (r >>= f) ≡ Ok y → ((x : A) → f x ≡ Ok y → g x ≡ Ok y) → (r >>= g) ≡ Ok y
bind_other (Ok x) f g y h other = other x h
bind_other (Err fault) f g y h other = absurd (err_ok fault y h)

-- an accepted reading stays so, with the same value, where its first step is replaced by one that
-- reads this value where the old one did
pub bind_first : {A B : Type 0} (r s : Result A JobFault) (f : A → Result B JobFault) (y : B) → (r >>= f) ≡ Ok y → ((x : A) → r ≡ Ok x → s ≡ Ok x) → (s >>= f) ≡ Ok y
bind_first r s f y h first =
    let a = bind_ok r f y h in
    subst (λ z. (z >>= f) ≡ Ok y) (sym (first a.0 a.1)) a.2

-- an accepted reading stays so, with the same value, where its first rule and what follows are
-- replaced by others that are accepted where they are
pub then_other : {B : Type 0} (r s : Result (Unit {0}) JobFault) (next last : Result B JobFault) (y : B) → (r >> next) ≡ Ok y → (r ≡ Ok tt → s ≡ Ok tt) → (next ≡ Ok y → last ≡ Ok y) → (s >> last) ≡ Ok y
then_other r s next last y h first other =
    let a = then_ok r next y h in
    subst (λ z. (z >> last) ≡ Ok y) (sym (first a.0)) (other a.1)

-- what holds of each item that is read, whatever was read before, holds of all
pub each_holds : {A B : Type 0} (P : A → Type 0) (read : List A → B → Result A JobFault)
    → ((before : List A) (x : B) (y : A) → read before x ≡ Ok y → P y)
    → (before : List A) (xs : List B) (ys : List A) → All P before → each read before xs ≡ Ok ys → All P ys
each_holds P read h before [] ys all e = subst (All P) (ok_same before ys e) all
each_holds P read h before (x ∷ xs) ys all e =
    let a = bind_ok (read before x) (λ y. each read (before ++ y ∷ []) xs) ys e in
    each_holds P read h (before ++ a.0 ∷ []) xs ys (All-push P before a.0 all (h before x a.0 a.1)) a.2
