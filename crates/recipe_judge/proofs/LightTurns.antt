-- A loop over the lights: the verdict so far, and that on the lights from an index on.
use Rattle.std.proofs.Common.{◌≡◌, ◌<◌, ◌≤◌, ◌+◌, ◌-◌, ◌∙◌, ℕ, zero, suc, List, ◌∷◌, false, All, length, drop, map, Some, refl, sym, ap, subst, arith}
use Rattle.std.specs.Prelude.{slice_get, option_map}
use Rattle.std.proofs.lemmas.List.{drop_all}
use Rattle.std.proofs.lemmas.Option.{get_or_from_slice_get, slice_get-map}
use Rattle.std.proofs.Math.Seq.{drop-cons}
use Rattle.interval_specs.specs.Ends.{Ends}
use Rattle.metamerism.specs.declared.outcomes.Verdict.{Verdict}
use Rattle.metamerism.specs.declared.outcomes.Verdict.TheVariants.{Fail, Pass, Undecided}
use Rattle.metamerism.specs.Verdicts.{joint, light_verdict, verdict_from}
use Rattle.recipe_judge.specs.Recipes.{is_fail, light_fails}
use Rattle.recipe_judge.proofs.LightVerdicts.{fails_at_is, is_failing}

-- what holds for all items holds for the one that was read
pub holds_at : {A : Type 0} (P : A → Type 0) (xs : List A) (i : ℕ) (x : A) → i < length xs → slice_get xs i ≡ Some x → All P xs → P x
holds_at P xs i x lt here all = subst P (get_or_from_slice_get xs i x x here) (all i x lt)

-- the value of f at the item that was read
pub read_map : {A B : Type 0} (f : A → B) (xs : List A) (i : ℕ) (x : A) → slice_get xs i ≡ Some x → slice_get (map f xs) i ≡ Some (f x)
read_map f xs i x here = slice_get-map f xs i ∙ ap (option_map f) here

drop_read : {A : Type 0} (xs : List A) (i : ℕ) (x : A) → i < length xs → slice_get xs i ≡ Some x → drop i xs ≡ x ∷ drop (suc i) xs
drop_read {A = A} xs i x lt here = drop-cons xs i x lt ∙ ap (λ (y : A). y ∷ drop (suc i) xs) (get_or_from_slice_get xs i x x here)

-- the verdict on the lights from an index on, by the light at the index
pub verdict_turn : (n i : ℕ) (ts : List ℕ) (ds : List Ends) (t : ℕ) (d : Ends) → i < length ts → slice_get ts i ≡ Some t → i < length ds → slice_get ds i ≡ Some d
    → verdict_from n (i + 1) (drop i ts) (drop i ds) ≡ joint (light_verdict n t (i + 1) d) (verdict_from n (i + 1 + 1) (drop (i + 1) ts) (drop (i + 1) ds))
unfolding verdict_from
verdict_turn n i ts ds t d lt here ltd hered =
    let next : i + 1 ≡ suc i = omega arith in
    let later : verdict_from n (i + 1 + 1) (drop (suc i) ts) (drop (suc i) ds) ≡ verdict_from n (i + 1 + 1) (drop (i + 1) ts) (drop (i + 1) ds) = ap (λ k. verdict_from n (i + 1 + 1) (drop k ts) (drop k ds)) (sym next) in
    rw (drop_read ts i t lt here, drop_read ds i d ltd hered) (ap (joint (light_verdict n t (i + 1) d)) later)

-- after the last light, the verdict so far is the verdict on all
pub verdict_over : (n i : ℕ) (so_far : Verdict) (ts : List ℕ) (ds : List Ends) (all : Verdict) → length ts ≤ i → joint so_far (verdict_from n (i + 1) (drop i ts) (drop i ds)) ≡ all → so_far ≡ all
unfolding verdict_from
verdict_over n i so_far ts ds all le is =
    let none : verdict_from n (i + 1) (drop i ts) (drop i ds) ≡ Pass = rw (drop_all i ts le) refl in
    sym (alone so_far) ∙ ap (joint so_far) (sym none) ∙ is
  where
    alone : (v : Verdict) → joint v Pass ≡ v
    alone Pass = refl
    alone (Fail k) = refl
    alone Undecided = refl

-- a light that fails after lights that don't decides
pub fail_decides : (so_far after : Verdict) (k : ℕ) → is_failing so_far ≡ false → joint so_far (joint (Fail k) after) ≡ Fail k
fail_decides Pass after k e = refl
fail_decides (Fail j) after k e = absurd (cc e)
fail_decides Undecided after k e = refl

-- an undecided light after lights that don't fail
pub undecided_stays : (so_far after : Verdict) → is_failing so_far ≡ false → joint so_far (joint Undecided after) ≡ joint Undecided after
undecided_stays Pass after e = refl
undecided_stays (Fail j) after e = absurd (cc e)
undecided_stays Undecided Pass e = refl
undecided_stays Undecided (Fail j) e = refl
undecided_stays Undecided Undecided e = refl

-- the light with this number fails exactly where the lower end of its difference is above its
-- tolerance
pub light_fails_is : (n : ℕ) (ts : List ℕ) (ds : List Ends) (light t : ℕ) (d : Ends) → 0 < light → slice_get ts (light - 1) ≡ Some t → slice_get ds (light - 1) ≡ Some d → light_fails n ts ds light ≡ is_fail n t d
light_fails_is n ts ds zero t d some h k = absurd (omega (arith, some))
light_fails_is n ts ds (suc i) t d some h k =
    let same : suc i - 1 ≡ i = omega arith in
    fails_at_is n ts ds i t d (subst (λ j. slice_get ts j ≡ Some t) same h) (subst (λ j. slice_get ds j ≡ Some d) same k)
