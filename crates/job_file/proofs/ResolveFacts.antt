-- What holds of the parts of a resolved job.
use Rattle.std.proofs.Common.{◌^◌, ◌≡◌, ◌≢◌, ◌+◌, ◌*◌, ◌≤◌, ◌++◌, ◌∙◌, ℕ, Bool, true, false, Option, Some, None, Result, Ok, Err, List, [], ◌∷◌, All, IfSome, length, map, refl, ap, sym, subst, append_assoc, append-nil, arith}
use Rattle.std.specs.Prelude.{◌&&◌, ◌||◌, not, nat_le, if◌then◌else◌}
use Rattle.std.specs.List.{AllZip}
use Rattle.std.proofs.lemmas.Bool.{leb-true}
use Rattle.std.proofs.lemmas.List.{length-map}
use Rattle.std.proofs.lemmas.Slice.Eq.{bytes_eq-Decides}
use Rattle.spectral_tables.specs.WeightTable.{WeightTable}
use Rattle.job_file.specs.declared.batch.JobBatch.{JobBatch}
use Rattle.job_keys.specs.declared.fault.JobRule.{JobRule}
use Rattle.job_keys.specs.declared.fault.Position.{Position}
use Rattle.job_file.specs.Job.{Values}
use Rattle.job_file.specs.ResolvedKept.{IsResolved}
use Rattle.std.specs.Str.{bytes_eq}
use Rattle.std.proofs.lemmas.List.Elements.{All-cons, All-tail}
use Rattle.ks_curves.specs.declared.kind.Calibration.TheVariants.{Line}
use Rattle.ks_curves.specs.Dye.{Dyeing as Measured, DyeData}
use Rattle.interval_specs.specs.Ends.{Ends}
use Rattle.mix_model.specs.Base.{base_at}
use Rattle.mix_model.specs.Mixture.{Portion, CanAdd, IsPortion, doses_of, dosed, no_steps, portions}
use Rattle.mix_model.specs.Strength.{is_too_strong}
use Rattle.mix_model.proofs.StrengthLaws.{line_strength}
use Rattle.price_grid.specs.declared.dye_cost.DyeCost.{DyeCost}
use Rattle.price_grid.specs.Grid.{IsRecipe}
use Rattle.price_grid.specs.Limits.{LimitsView, IsPair as IsNumberPair}
use Rattle.spectral_tables.specs.CurveBook.{Book}
use Rattle.job_file.specs.declared.dye.JobDye.{JobDye}
use Rattle.job_keys.specs.declared.fault.JobFault.{JobFault}
use Rattle.job_keys.specs.declared.pair.JobPair.{JobPair}
use Rattle.job_keys.specs.Arrays.{each}
use Rattle.job_file.specs.Batch.{IsBatch, are_within}
use Rattle.job_file.specs.Dye.{IsDye, has_dye}
use Rattle.job_keys.specs.Faults.{◌>>=◌, ensure}
use Rattle.job_keys.specs.Pair.{IsPair}
use Rattle.job_file.specs.Resolve.{base_curve, cost_of_dye, limits_of, most_steps, next_calibrated, next_measured, number_of, numbers_of, up_to_most}

-- a dye of the job, calibrated on a cloth
pub record IsCalibrated (substrate : List ℕ) (dye : DyeData) (of : JobDye) : Type 0 where
  pub kind : dye.kind ≡ Line
  pub step : dye.step ≡ of.step
  pub substrate_is : dye.substrate ≡ substrate

abbrev Behind : List ℕ → List JobDye → List DyeData → List DyeData → Type 0
Behind substrate xs before ys = (zs : List DyeData) × (ys ≡ before ++ zs) × AllZip (IsCalibrated substrate) zs xs

next_behind : (substrate : List ℕ) (x : JobDye) (xs : List JobDye) (before ys : List DyeData) (r : Result (List Measured) JobFault) (rest : DyeData → Result (List DyeData) JobFault)
    → ((y : DyeData) → rest y ≡ Ok ys → Behind substrate xs (before ++ y ∷ []) ys)
    → ((r >>= (λ dyeings. Ok (record { kind = Line; step = x.step; substrate = substrate; dyeings = dyeings }))) >>= rest) ≡ Ok ys → Behind substrate (x ∷ xs) before ys
next_behind substrate x xs before ys (Err f) rest later e = cc
next_behind substrate x xs before ys (Ok dyeings) rest later e =
    let y : DyeData = record { kind = Line; step = x.step; substrate = substrate; dyeings = dyeings } in
    let behind = later y e in
    (y ∷ behind.0, behind.1 ∙ append_assoc before (y ∷ []) behind.0, (record { kind = refl; step = refl; substrate_is = refl }, behind.2))

all_behind : (book : Book) (substrate : List ℕ) (xs : List JobDye) (before ys : List DyeData) → each (next_calibrated book substrate) before xs ≡ Ok ys → Behind substrate xs before ys
all_behind book substrate [] before ys e = let same : before ≡ ys = cc in ([], sym same ∙ sym (append-nil before), tt)
all_behind book substrate (x ∷ xs) before ys e =
    next_behind substrate x xs before ys (each (next_measured book (length before + 1)) [] x.dyeing.items) (λ y. each (next_calibrated book substrate) (before ++ y ∷ []) xs)
    (λ y h. all_behind book substrate xs (before ++ y ∷ []) ys h) e

pub are_calibrated : (book : Book) (substrate : List ℕ) (xs : List JobDye) (ys : List DyeData) → each (next_calibrated book substrate) [] xs ≡ Ok ys → AllZip (IsCalibrated substrate) ys xs
are_calibrated book substrate xs ys e =
    let behind = all_behind book substrate xs [] ys e in
    subst (λ zs. AllZip (IsCalibrated substrate) zs xs) (sym behind.1) behind.2

-- ---- the steps

pub same_steps : (substrate : List ℕ) (ys : List DyeData) (xs : List JobDye) → AllZip (IsCalibrated substrate) ys xs → AllZip (λ dye cost. dye.step ≡ cost.step) ys (map cost_of_dye xs)
same_steps substrate [] [] h = tt
same_steps substrate [] (x ∷ xs) h = absurd h
same_steps substrate (y ∷ ys) [] h = absurd h
same_steps substrate (y ∷ ys) (x ∷ xs) h = (h.0.step, same_steps substrate ys xs h.1)

pub same_substrates : (substrate : List ℕ) (ys : List DyeData) (xs : List JobDye) → AllZip (IsCalibrated substrate) ys xs → All (λ d. length d.substrate ≡ length substrate) ys
same_substrates substrate [] xs h = λ k d lt. absurd (omega arith)
same_substrates substrate (y ∷ ys) [] h = absurd h
same_substrates substrate (y ∷ ys) (x ∷ xs) h = All-cons (λ d. length d.substrate ≡ length substrate) y ys (ap length h.0.substrate_is) (same_substrates substrate ys xs h.1)

length-most_steps : (substrate : List ℕ) (ys : List DyeData) (xs : List JobDye) → AllZip (IsCalibrated substrate) ys xs → length (most_steps xs) ≡ length ys
length-most_steps substrate [] [] h = refl
length-most_steps substrate [] (x ∷ xs) h = absurd h
length-most_steps substrate (y ∷ ys) [] h = absurd h
length-most_steps substrate (y ∷ ys) (x ∷ xs) h = let e = length-most_steps substrate ys xs h.1 in omega (arith, e)

first_dye : (x : JobDye) (xs : List JobDye) → All IsDye (x ∷ xs) → IsDye x
first_dye x xs each = each 0 x (omega arith)

-- the bath of a job, which has no dye
abbrev pub no_bath : List JobDye → List ℕ
no_bath xs = map (λ d. 0) xs

most_portions : (substrate : List ℕ) (ys : List DyeData) (xs : List JobDye) → AllZip (IsCalibrated substrate) ys xs → All IsDye xs → All (IsPortion (length substrate)) (up_to_most ys (no_bath xs) (most_steps xs))
unfolding dosed doses_of
most_portions substrate [] xs h each = λ k d lt. absurd (omega arith)
most_portions substrate (y ∷ ys) [] h each = absurd h
most_portions substrate (y ∷ ys) (x ∷ xs) h each =
    let p : Portion = record { dye = y; bath = 0 * y.step; from = 0 * y.step; upto = x.most * y.step } in
    let narrow = (first_dye x xs each).narrow in
    let units : x.most * y.step ≤ 20000 = rw h.0.step (omega (arith, narrow)) in
    let here : IsPortion (length substrate) p = record { ordered = omega arith; units = omega (arith, units); waves = ap length h.0.substrate_is } in
    All-cons (IsPortion (length substrate)) p (up_to_most ys (no_bath xs) (most_steps xs)) here (most_portions substrate ys xs h.1 (All-tail IsDye x xs each))

length-no_bath : (substrate : List ℕ) (ys : List DyeData) (xs : List JobDye) → AllZip (IsCalibrated substrate) ys xs → length (no_bath xs) ≡ length ys
length-no_bath substrate [] [] h = refl
length-no_bath substrate [] (x ∷ xs) h = absurd h
length-no_bath substrate (y ∷ ys) [] h = absurd h
length-no_bath substrate (y ∷ ys) (x ∷ xs) h = let e = length-no_bath substrate ys xs h.1 in omega (arith, e)

pub most_adds : (count : ℕ) (substrate : List ℕ) (ys : List DyeData) (xs : List JobDye) → AllZip (IsCalibrated substrate) ys xs → All IsDye xs → length ys ≤ 12 → length substrate ≡ count
    → CanAdd count ys (no_bath xs) (no_steps ys) (most_steps xs)
most_adds count substrate ys xs h each few same =
    record {
      steps = record { few = few; bath_count = length-no_bath substrate ys xs h; lo_count = length-map ys (λ d. 0); hi_count = length-most_steps substrate ys xs h };
      each = subst (λ k. All (IsPortion k) (up_to_most ys (no_bath xs) (most_steps xs))) same (most_portions substrate ys xs h each);
    }

lines : (substrate : List ℕ) (ys : List DyeData) (xs : List JobDye) → AllZip (IsCalibrated substrate) ys xs → All (λ dye. dye.kind ≡ Line) ys
lines substrate [] xs h = λ k d lt. absurd (omega arith)
lines substrate (y ∷ ys) [] h = absurd h
lines substrate (y ∷ ys) (x ∷ xs) h = All-cons (λ (dye : DyeData). dye.kind ≡ Line) y ys h.0.kind (lines substrate ys xs h.1)

-- of straight lines, recipes of up to the most steps of each dye are too strong exactly where that
-- of all dyes at their most steps is
pub strong_at_most : (substrate : List ℕ) (base : List Ends) (ys : List DyeData) (xs : List JobDye) (bath : List ℕ) → AllZip (IsCalibrated substrate) ys xs
    → is_too_strong base (up_to_most ys bath (most_steps xs)) ≡ is_too_strong base (portions ys bath (most_steps xs) (most_steps xs))
strong_at_most substrate base ys xs bath h =
    line_strength base ys bath (no_steps ys) (most_steps xs) (most_steps xs) (lines substrate ys xs h) (length-map ys (λ d. 0) ∙ sym (length-most_steps substrate ys xs h))

pub same_most : (xs : List JobDye) → map (λ cost. cost.most) (map cost_of_dye xs) ≡ most_steps xs
same_most [] = refl
same_most (x ∷ xs) = ap (λ steps. x.most ∷ steps) (same_most xs)

pub few_dyes : (substrate : List ℕ) (ys : List DyeData) (xs : List JobDye) → AllZip (IsCalibrated substrate) ys xs → length ys ≡ length xs
few_dyes substrate [] [] h = refl
few_dyes substrate [] (x ∷ xs) h = absurd h
few_dyes substrate (y ∷ ys) [] h = absurd h
few_dyes substrate (y ∷ ys) (x ∷ xs) h = let e = few_dyes substrate ys xs h.1 in omega (arith, e)

-- ---- the limits

both_true : (a b : Bool) → a && b ≡ true → (a ≡ true) × (b ≡ true)
both_true true b h = (refl, h)
both_true false b h = cc

no_steps_fit : (xs : List JobDye) → IsRecipe (map cost_of_dye xs) (map (λ d. 0) xs)
no_steps_fit [] = tt
no_steps_fit (x ∷ xs) = (omega arith, no_steps_fit xs)

pub bath_fits : (xs : List JobDye) (steps : List ℕ) → length steps ≡ length xs → are_within xs steps ≡ true → IsRecipe (map cost_of_dye xs) steps
bath_fits [] [] e h = tt
bath_fits [] (n ∷ ns) e h = absurd (omega arith)
bath_fits (x ∷ xs) [] e h = absurd (omega arith)
bath_fits (x ∷ xs) (n ∷ ns) e h =
    let both = both_true (nat_le n x.most) (are_within xs ns) h in
    (leb-true n x.most both.0, bath_fits xs ns (omega (arith, e)) both.1)

-- 1, or a number plus 1, is at least 1
one_or_more : (b : Bool) (k : ℕ) → 1 ≤ (if b then 1 else (k + 1))
one_or_more true k = omega arith
one_or_more false k = omega arith

-- the number of a dye of the job is at least 1
number_least : (xs : List JobDye) (name : List ℕ) → 1 ≤ number_of xs name
number_least [] name = omega arith
number_least (x ∷ xs) name = one_or_more (bytes_eq x.name name) (number_of xs name)

within_one_more : (b r : Bool) (k count : ℕ) → b || r ≡ true → (r ≡ true → k ≤ count) → (if b then 1 else (k + 1)) ≤ count + 1
within_one_more true r k count h later = omega arith
within_one_more false r k count h later = let le = later h in omega (arith, le)

number_most : (xs : List JobDye) (name : List ℕ) → has_dye xs name ≡ true → number_of xs name ≤ length xs
number_most [] name h = cc
number_most (x ∷ xs) name h = let le = within_one_more (bytes_eq x.name name) (has_dye xs name) (number_of xs name) (length xs) h (number_most xs name) in omega (arith, le)

differ_by : (p q r s : Bool) (k l : ℕ) → (p ≡ true → q ≡ true → ⊥) → 1 ≤ k → 1 ≤ l → p || r ≡ true → q || s ≡ true → (r ≡ true → s ≡ true → k ≡ l → ⊥)
    → (if p then 1 else (k + 1)) ≡ (if q then 1 else (l + 1)) → ⊥
differ_by true true r s k l first a b h g later e = first refl refl
differ_by true false r s k l first a b h g later e = omega (arith, a, b, e)
differ_by false true r s k l first a b h g later e = omega (arith, a, b, e)
differ_by false false r s k l first a b h g later e = later h g (omega (arith, e))

not_both : (x a b : List ℕ) → bytes_eq a b ≡ false → bytes_eq x a ≡ true → bytes_eq x b ≡ true → ⊥
not_both x a b unlike h g =
    let first : x ≡ a = (bytes_eq-Decides x a).0 h in
    let second : x ≡ b = (bytes_eq-Decides x b).0 g in
    let same : bytes_eq a b ≡ true = (bytes_eq-Decides a b).1 (sym first ∙ second) in
    cc

numbers_differ : (xs : List JobDye) (a b : List ℕ) → bytes_eq a b ≡ false → has_dye xs a ≡ true → has_dye xs b ≡ true → number_of xs a ≢ number_of xs b
numbers_differ [] a b unlike h g e = cc
numbers_differ (x ∷ xs) a b unlike h g e =
    differ_by (bytes_eq x.name a) (bytes_eq x.name b) (has_dye xs a) (has_dye xs b) (number_of xs a) (number_of xs b) (not_both x.name a b unlike) (number_least xs a) (number_least xs b) h g (numbers_differ xs a b unlike) e

length-grid : (xs : List JobDye) → length (map cost_of_dye xs) ≡ length xs
length-grid xs = length-map xs cost_of_dye

pairs_fit : (xs : List JobDye) (ps : List JobPair) → All (IsPair (has_dye xs)) ps → All (IsNumberPair (map cost_of_dye xs)) (map (numbers_of xs) ps)
pairs_fit xs [] each = λ k d lt. absurd (omega arith)
pairs_fit xs (p ∷ ps) each =
    let here = each 0 p (omega arith) in
    let dyes = length-grid xs in
    let first = number_most xs p.a here.first in
    let second = number_most xs p.b here.second in
    All-cons (IsNumberPair (map cost_of_dye xs)) (numbers_of xs p) (map (numbers_of xs) ps)
    ((number_least xs p.a, omega (arith, dyes, first)), (number_least xs p.b, omega (arith, dyes, second)), numbers_differ xs p.a p.b here.different here.first here.second)
    (pairs_fit xs ps (All-tail (IsPair (has_dye xs)) p ps each))

batch_fits : (xs : List JobDye) (batch : Option JobBatch) → IfSome batch (IsBatch xs) → IfSome batch (λ b. IsRecipe (map cost_of_dye xs) b.steps.items)
batch_fits xs None h = h
batch_fits xs (Some b) h = bath_fits xs b.steps.items h.count h.steps_in_range

-- ---- the cloth

pub base_waves : (substrate : List ℕ) (batch : Option (List ℕ)) (count : ℕ) → length substrate ≡ count → IfSome batch (λ c. length c ≡ count) → length (base_curve substrate batch) ≡ count
base_waves substrate None count e h = e
base_waves substrate (Some c) count e h = h

batch_waves : (substrate : List ℕ) (batch : Option (List ℕ)) (count : ℕ) → length substrate ≡ count → IfSome batch (λ c. length c ≡ count) → IfSome batch (λ c. length c ≡ length substrate)
batch_waves substrate None count e h = h
batch_waves substrate (Some c) count e h = h ∙ sym e

-- a rule that holds where a test fails
pub held_where_not : (position : Position) (rule : JobRule) (b : Bool) (x : Unit {0}) → ensure position rule (not b) ≡ Ok x → b ≡ false
held_where_not position rule true x e = cc
held_where_not position rule false x e = refl

pub kept_of : (j : Values) (substrate standard : List ℕ) (dyes : List DyeData) (grid : List DyeCost) (limits : LimitsView) (weights : List WeightTable) (batch : Option (List ℕ)) (count : ℕ)
    → AllZip (IsCalibrated substrate) dyes j.dye → grid ≡ map cost_of_dye j.dye → limits ≡ limits_of j → length weights ≡ length j.light → All (IsPair (has_dye j.dye)) j.pair → IfSome j.batch (IsBatch j.dye)
    → is_too_strong (base_at (10 ^ 12) (base_curve substrate batch)) (up_to_most dyes limits.bath (most_steps j.dye)) ≡ false → length substrate ≡ count → length standard ≡ count → IfSome batch (λ c. length c ≡ count) → All (λ w. length w.weights ≡ count) weights
    → IsResolved (record { job = j; substrate = substrate; standard = standard; dyes = dyes; grid = grid; limits = limits; weights = weights; batch = batch })
kept_of j substrate standard dyes grid limits weights batch count calibrated is limits_are lights pairs bath weak waves standard_waves of_batch of_weights =
    record {
      grid = ap length is ∙ length-map j.dye cost_of_dye;
      steps = subst (λ g. AllZip (λ dye cost. dye.step ≡ cost.step) dyes g) (sym is) (same_steps substrate dyes j.dye calibrated);
      lights = lights;
      limits_fit = rw (is, limits_are) (record { bath = no_steps_fit j.dye; pairs = pairs_fit j.dye j.pair pairs });
      bath_fits = subst (λ g. IfSome j.batch (λ b. IsRecipe g b.steps.items)) (sym is) (batch_fits j.dye j.batch bath);
      weak = subst (λ g. is_too_strong (base_at (10 ^ 12) (base_curve substrate batch)) (up_to_most dyes limits.bath (map (λ cost. cost.most) g)) ≡ false) (sym is)
          (ap (λ most. is_too_strong (base_at (10 ^ 12) (base_curve substrate batch)) (up_to_most dyes limits.bath most)) (same_most j.dye) ∙ weak);
      waves = record {
        standard = standard_waves ∙ sym waves;
        batch = batch_waves substrate batch count waves of_batch;
        dyes = same_substrates substrate dyes j.dye calibrated;
        weights = subst (λ k. All (λ w. length w.weights ≡ k) weights) (sym waves) of_weights;
      };
    }
