-- Dyes with their doses, by index, and the doses of steps.
use Rattle.std.proofs.Common.{◌≡◌, ◌+◌, ◌*◌, ◌≤◌, ◌<◌, ℕ, zero, suc, List, [], ◌∷◌, length, get_or, take, ◌++◌, refl, ap, sym, subst, ◌∙◌, arith}
use Rattle.std.proofs.lemmas.List.{take_all, take_more}
use Rattle.interval_specs.specs.Ends.{Ends}
use Rattle.ks_curves.specs.Dye.{DyeData}
use Rattle.mix_model.specs.declared.dose.Dose.{Dose}
use Rattle.mix_model.specs.Mixture.{CanAdd, CanDose, CanMix, CanMixDoses, HaveSteps, IsPortion, Portion, dosed, doses_of}

-- the dye with a dose
abbrev pub portion : DyeData → Dose → Portion
portion dye dose = record { dye = dye; bath = dose.bath; from = dose.from; upto = dose.upto }

-- the dose of steps
abbrev pub dose : DyeData → (bath lo hi : ℕ) → Dose
dose dye bath lo hi = record { bath = bath * dye.step; from = lo * dye.step; upto = hi * dye.step }

pub dosed_at : (dyes : List DyeData) (doses : List Dose) (i : ℕ) (p : Portion) (dye : DyeData) (d : Dose) → length doses ≡ length dyes → i < length dyes
    → get_or (dosed dyes doses) i p ≡ portion (get_or dyes i dye) (get_or doses i d)
unfolding dosed
dosed_at [] doses i p dye d e lt = absurd (omega arith)
dosed_at (x ∷ xs) [] i p dye d e lt = absurd (omega arith)
dosed_at (x ∷ xs) (y ∷ ys) zero p dye d e lt = refl
dosed_at (x ∷ xs) (y ∷ ys) (suc i) p dye d e lt = dosed_at xs ys i p dye d (omega arith) (omega arith)

pub length-dosed : (dyes : List DyeData) (doses : List Dose) → length doses ≡ length dyes → length (dosed dyes doses) ≡ length dyes
unfolding dosed
length-dosed [] doses e = refl
length-dosed (x ∷ xs) [] e = absurd (omega arith)
length-dosed (x ∷ xs) (y ∷ ys) e = let k = length-dosed xs ys (omega arith) in omega (arith, k)

at_index : (dyes : List DyeData) (bath lo hi : List ℕ) (i : ℕ) (d : Dose) (dye : DyeData) → length bath ≡ length dyes → length lo ≡ length dyes → length hi ≡ length dyes → i < length dyes
    → get_or (doses_of dyes bath lo hi) i d ≡ dose (get_or dyes i dye) (get_or bath i 0) (get_or lo i 0) (get_or hi i 0)
unfolding doses_of
at_index [] bath lo hi i d dye e f g lt = absurd (omega arith)
at_index (x ∷ xs) [] lo hi i d dye e f g lt = absurd (omega arith)
at_index (x ∷ xs) (b ∷ bs) [] hi i d dye e f g lt = absurd (omega arith)
at_index (x ∷ xs) (b ∷ bs) (l ∷ ls) [] i d dye e f g lt = absurd (omega arith)
at_index (x ∷ xs) (b ∷ bs) (l ∷ ls) (h ∷ hs) zero d dye e f g lt = refl
at_index (x ∷ xs) (b ∷ bs) (l ∷ ls) (h ∷ hs) (suc i) d dye e f g lt = at_index xs bs ls hs i d dye (omega arith) (omega arith) (omega arith) (omega arith)

pub doses_at : (dyes : List DyeData) (bath lo hi : List ℕ) (i : ℕ) (d : Dose) (dye : DyeData) → HaveSteps dyes bath lo hi → i < length dyes
    → get_or (doses_of dyes bath lo hi) i d ≡ dose (get_or dyes i dye) (get_or bath i 0) (get_or lo i 0) (get_or hi i 0)
doses_at dyes bath lo hi i d dye steps lt = at_index dyes bath lo hi i d dye steps.bath_count steps.lo_count steps.hi_count lt

length-doses : (dyes : List DyeData) (bath lo hi : List ℕ) → length bath ≡ length dyes → length lo ≡ length dyes → length hi ≡ length dyes → length (doses_of dyes bath lo hi) ≡ length dyes
unfolding doses_of
length-doses [] bath lo hi e f g = refl
length-doses (x ∷ xs) [] lo hi e f g = absurd (omega arith)
length-doses (x ∷ xs) (b ∷ bs) [] hi e f g = absurd (omega arith)
length-doses (x ∷ xs) (b ∷ bs) (l ∷ ls) [] e f g = absurd (omega arith)
length-doses (x ∷ xs) (b ∷ bs) (l ∷ ls) (h ∷ hs) e f g = let k = length-doses xs bs ls hs (omega arith) (omega arith) (omega arith) in omega (arith, k)

pub length-doses_of : (dyes : List DyeData) (bath lo hi : List ℕ) → HaveSteps dyes bath lo hi → length (doses_of dyes bath lo hi) ≡ length dyes
length-doses_of dyes bath lo hi steps = length-doses dyes bath lo hi steps.bath_count steps.lo_count steps.hi_count

-- the doses so far
pub doses_more : (dyes : List DyeData) (bath lo hi : List ℕ) (i : ℕ) (dye : DyeData) (d : Dose) (items : List Dose) → HaveSteps dyes bath lo hi → i < length dyes → dye ≡ get_or dyes i dye
    → d ≡ dose dye (get_or bath i 0) (get_or lo i 0) (get_or hi i 0) → items ≡ take i (doses_of dyes bath lo hi) → items ++ d ∷ [] ≡ take (i + 1) (doses_of dyes bath lo hi)
doses_more dyes bath lo hi i dye d items steps lt at is so_far =
    let doses = doses_of dyes bath lo hi in
    let here : get_or doses i d ≡ d = doses_at dyes bath lo hi i d dye steps lt ∙ ap (λ (x : DyeData). dose x (get_or bath i 0) (get_or lo i 0) (get_or hi i 0)) (sym at) ∙ sym is in
    let within : i < length doses = omega (arith, lt, length-doses_of dyes bath lo hi steps) in
    (λ j. so_far j ++ sym here j ∷ []) ∙ sym (take_more doses i d within)

-- the doses, once each dye has its own
pub doses_end : (dyes : List DyeData) (bath lo hi : List ℕ) (i : ℕ) (items : List Dose) → HaveSteps dyes bath lo hi → length dyes ≤ i → items ≡ take i (doses_of dyes bath lo hi) → items ≡ doses_of dyes bath lo hi
doses_end dyes bath lo hi i items steps le so_far = so_far ∙ take_all i (doses_of dyes bath lo hi) (omega (arith, le, length-doses_of dyes bath lo hi steps))

-- steps that can be added are doses that can
pub steps_dose : (count : ℕ) (dyes : List DyeData) (bath lo hi : List ℕ) → CanAdd count dyes bath lo hi → CanDose count dyes (doses_of dyes bath lo hi)
steps_dose count dyes bath lo hi adds = record { few = adds.steps.few; doses_count = length-doses_of dyes bath lo hi adds.steps; each = adds.each }

pub steps_mix : (n : ℕ) (base : List Ends) (dyes : List DyeData) (bath lo hi : List ℕ) → CanMix n base dyes bath lo hi → CanMixDoses n base dyes (doses_of dyes bath lo hi)
steps_mix n base dyes bath lo hi mixes = record { adds = steps_dose (length base) dyes bath lo hi mixes.adds; reflects = mixes.reflects }

-- ---- one turn of a loop over the dyes

pub record IsTurn (count : ℕ) (ps : List Portion) (i : ℕ) (p : Portion) : Type 0 where
  pub in_list : i < length ps
  pub is : get_or ps i p ≡ p
  pub can : IsPortion count p

pub turn : (count : ℕ) (dyes : List DyeData) (doses : List Dose) (i : ℕ) (dye : DyeData) (d other : Dose) → CanDose count dyes doses → i < length dyes → dye ≡ get_or dyes i dye → d ≡ get_or doses i other
    → IsTurn count (dosed dyes doses) i (portion dye d)
turn count dyes doses i dye d other adds lt at is =
    let p : Portion = portion dye d in
    let within : i < length (dosed dyes doses) = omega (arith, lt, length-dosed dyes doses adds.doses_count) in
    let found : get_or (dosed dyes doses) i p ≡ p = dosed_at dyes doses i p dye other adds.doses_count lt ∙ (λ j. portion (sym at j) (sym is j)) in
    record { in_list = within; is = found; can = subst (IsPortion count) found (adds.each i p within) }
