-- The recipes of a job have the properties of every landscape.
use Rattle.std.proofs.Common.{◌≡◌, ◌⊎◌, ◌+◌, ◌*◌, ◌^◌, ◌<◌, ◌≤◌, ◌∙◌, ◌↔◌, ◌||◌, ◌==◌, if◌then◌else◌, ⊎_elim, inl, inr, mul-le-mul, ℕ, zero, suc, Bool, true, false, Option, Some, None, is_some, is_none, List, [], ◌∷◌, All, length, map, refl, sym, ap, subst, arith}
use Rattle.std.specs.List.{AllZip}
use Rattle.std.proofs.lemmas.Bool.Decides.{nat_tests}
use Rattle.std.proofs.lemmas.List.{length-map}
use Rattle.std.proofs.lemmas.List.Elements.{All-cons, All-tail}
use Rattle.interval_specs.specs.Ends.{Ends}
use Rattle.interval_specs.specs.Encloses.{Encloses}
use Rattle.box_specs.specs.Landscape.{IsLawful, Land, fails, first_from, is_admitted, is_shut, light_of, limit_of}
use Rattle.box_specs.specs.Span.{IsBox, IsInside, IsWithin, Span, single}
use Rattle.job_keys.specs.declared.light.JobLight.{JobLight}
use Rattle.job_file.specs.Resolve.{ResolvedJob}
use Rattle.metamerism.specs.Verdicts.{verdict_at}
use Rattle.price_grid.specs.declared.dye_cost.DyeCost.{DyeCost}
use Rattle.price_grid.specs.declared.limit.Limit.{Limit}
use Rattle.price_grid.specs.Cost.{cost_of, dye_cost}
use Rattle.price_grid.specs.Grid.{IsDyeCost, IsRecipe, IsUpTo}
use Rattle.price_grid.specs.Laws.{ExcludedIsBroken, SingleIsBroken}
use Rattle.price_grid.specs.Limits.{limit_passes, excludes_box}
use Rattle.price_grid.proofs.CostLaws.{cost_grows}
use Rattle.spectral_tables.specs.WeightTable.{WeightTable}
use Rattle.recipe_judge.specs.Evaluation.{differences_at, differences_under, tolerances}
use Rattle.recipe_judge.specs.Land.{IsLand, over_batch}
use Rattle.recipe_judge.specs.Recipes.{all_recipes, failing_light, grade_of, light_fails, recipe_land}
use Rattle.recipe_judge.proofs.Boxes.{fits_units, up_to_itself}
use Rattle.recipe_judge.proofs.LightVerdicts.{enclosed_ordered, first_is, light_fails_within, names_light, no_light_beyond}
use Rattle.recipe_judge.proofs.NarrowLaw.{differences_narrow}
use Rattle.recipe_judge.proofs.GridBoxes.{all_has_dyes, all_is_box, high_recipe, inner_recipe, up_to_most_is_recipe}

-- ---- first numbers

-- where one test holds wherever another does, it has a first number wherever the other has
some_first : (l : Land) (test test' : ℕ → Bool) (number many : ℕ) → ((k : ℕ) → test k ≡ true → test' k ≡ true) → is_some (first_from l test number many) ≡ true → is_some (first_from l test' number many) ≡ true
some_first l test test' number zero h e = e
some_first l test test' number (suc many) h e = by (test number) (test' number) refl refl (some_first l test test' (number + 1) many h) e where
  by : (s t : Bool) → test number ≡ s → test' number ≡ t → (is_some (first_from l test (number + 1) many) ≡ true → is_some (first_from l test' (number + 1) many) ≡ true)
      → is_some (first_from l test number (suc many)) ≡ true → is_some (first_from l test' number (suc many)) ≡ true
  by s true is_s is_t rest f = rw is_t refl
  by true false is_s is_t rest f = absurd (cc (sym is_t, h number is_s))
  by false false is_s is_t rest f = rw is_t (rest (rw is_s at f))

not_none : {A : Type 0} (o : Option A) → is_some o ≡ true → is_none o ≡ true → ⊥
not_none None e f = cc
not_none (Some x) e f = cc

one_of : (a b : Bool) → a || b ≡ true → (a ≡ true) ⊎ (b ≡ true)
one_of true b e = inl refl
one_of false b e = inr e

-- ---- limits

no_more_limits : (test : Limit → Bool) (k : ℕ) → 5 < k → limit_passes test k ≡ false
no_more_limits test k lt = grind (arith, nat_tests)

limit_weaker : (test test' : Limit → Bool) → ((limit : Limit) → test limit ≡ true → test' limit ≡ true) → (k : ℕ) → limit_passes test k ≡ true → limit_passes test' k ≡ true
limit_weaker test test' h zero e = absurd (cc e)
limit_weaker test test' h (suc zero) e = h Limit.Range e
limit_weaker test test' h (suc (suc zero)) e = h Limit.Count e
limit_weaker test test' h (suc (suc (suc zero))) e = h Limit.Total e
limit_weaker test test' h (suc (suc (suc (suc zero)))) e = h Limit.Pair e
limit_weaker test test' h (suc (suc (suc (suc (suc zero))))) e = h Limit.Ceiling e
limit_weaker test test' h (suc (suc (suc (suc (suc (suc k)))))) e = absurd (cc (e, no_more_limits test (suc (suc (suc (suc (suc (suc k)))))) (omega arith)))

no_such_limit : (test : Limit → Bool) (k : ℕ) → (k ≡ 0) ⊎ (5 < k) → limit_passes test k ≡ false
no_such_limit test zero h = refl
no_such_limit test (suc (suc (suc (suc (suc (suc k)))))) h = no_more_limits test (suc (suc (suc (suc (suc (suc k)))))) (omega arith)
no_such_limit test (suc zero) h = absurd (⊎_elim (λ e. omega (arith, e)) (λ lt. omega (arith, lt)) h)
no_such_limit test (suc (suc zero)) h = absurd (⊎_elim (λ e. omega (arith, e)) (λ lt. omega (arith, lt)) h)
no_such_limit test (suc (suc (suc zero))) h = absurd (⊎_elim (λ e. omega (arith, e)) (λ lt. omega (arith, lt)) h)
no_such_limit test (suc (suc (suc (suc zero)))) h = absurd (⊎_elim (λ e. omega (arith, e)) (λ lt. omega (arith, lt)) h)
no_such_limit test (suc (suc (suc (suc (suc zero))))) h = absurd (⊎_elim (λ e. omega (arith, e)) (λ lt. omega (arith, lt)) h)

-- ---- costs

fee_small : (n fee most : ℕ) → fee ≤ most → (if n == 0 then 0 else fee) ≤ most
fee_small zero fee most h = omega arith
fee_small (suc n) fee most h = grind (arith, nat_tests)

dye_cost_small : (dye : DyeCost) (n : ℕ) → IsDyeCost dye → n ≤ dye.most → dye_cost dye n ≤ 2 * 10 ^ 10 + 10 ^ 12
dye_cost_small dye n range le =
    let units = fits_units dye.step dye.most dye.step n refl range.narrow le in
    let price : n * dye.step * dye.price ≤ 20000 * 1000000 = mul-le-mul units range.small_price in
    let fee = fee_small n dye.fee (10 ^ 12) range.small_fee in
    omega (arith, price, fee)

cost_small : (grid : List DyeCost) (steps : List ℕ) → All IsDyeCost grid → IsRecipe grid steps → cost_of grid steps ≤ length grid * (2 * 10 ^ 10 + 10 ^ 12)
cost_small [] steps ranges h = omega arith
cost_small (dye ∷ grid) [] ranges h = absurd h
cost_small (dye ∷ grid) (n ∷ steps) ranges h =
    let here = dye_cost_small dye n (ranges 0 dye (omega arith)) h.0 in
    let rest = cost_small grid steps (All-tail IsDyeCost dye grid ranges) h.1 in
    omega (arith, here, rest)

small_steps : (grid : List DyeCost) → All IsDyeCost grid → All (λ n. n ≤ 4000) (map (λ dye. dye.most) grid)
small_steps [] ranges = λ k d lt. absurd (omega (arith, lt))
small_steps (dye ∷ grid) ranges =
    All-cons (λ n. n ≤ 4000) dye.most (map (λ dye. dye.most) grid) (ranges 0 dye (omega arith)).small_most (small_steps grid (All-tail IsDyeCost dye grid ranges))

-- ---- lights

-- one difference for each light
length-differences : (n : ℕ) (standard sample : List Ends) (lights : List JobLight) (tables : List WeightTable) → length tables ≡ length lights → length (differences_under n standard lights tables sample) ≡ length lights
length-differences n standard sample [] tables h = refl
length-differences n standard sample (l ∷ lights) [] h = absurd (omega (arith, h))
length-differences n standard sample (l ∷ lights) (w ∷ tables) h = ap suc (length-differences n standard sample lights tables (omega (arith, h)))

-- the differences over a box enclose those of a box within it
inner_enclosed : (r : ResolvedJob) (b c : Span) → IsLand r → IsRecipe r.grid b.hi → IsUpTo b.lo c.lo → IsBox c → IsUpTo c.hi b.hi → AllZip (Encloses 1) (differences_at (10 ^ 12) r b.lo b.hi) (differences_at (10 ^ 12) r c.lo c.hi)
inner_enclosed r b c land g h k l = differences_narrow r 1 b.lo b.hi c.lo c.hi (omega arith) land g h k l

one_more_is : (i : ℕ) → 1 + i ≡ suc i
one_more_is i = omega arith

-- the first light that fails on a box is the one that the verdict on its recipes together names
pub light_is : (r : ResolvedJob) (b : Span) → IsLand r → IsBox b → IsRecipe r.grid b.hi
    → light_of (recipe_land r) b ≡ failing_light (verdict_at (10 ^ 12) (tolerances r.job.light) (differences_at (10 ^ 12) r b.lo b.hi))
light_is r b land box g =
    let ds = differences_at (10 ^ 12) r b.lo b.hi in
    let ts = tolerances r.job.light in
    let count : length ts ≡ length r.job.light = length-map r.job.light (λ light. light.tolerance) in
    let same : length ds ≡ length ts = length-differences _ _ _ r.job.light r.weights land.found.lights ∙ sym count in
    let ordered = enclosed_ordered 1 ds ds (inner_enclosed r b b land g (up_to_itself b.lo) box (up_to_itself b.hi)) in
    subst (λ k. first_from (recipe_land r) (λ j. light_fails (10 ^ 12) ts ds j) 1 k ≡ failing_light (verdict_at (10 ^ 12) ts ds)) count
    (first_is (recipe_land r) (10 ^ 12) 1 (λ j. light_fails (10 ^ 12) ts ds j) ts ds same ordered (λ i. ap (λ j. light_fails (10 ^ 12) ts ds j) (one_more_is i)))

-- ---- the laws

-- a limit that excludes a box excludes the box of each recipe in it
limit_within : ExcludedIsBroken → SingleIsBroken → (r : ResolvedJob) (b : Span) (steps : List ℕ) → IsWithin steps b → (k : ℕ)
    → (recipe_land r).excluded k b ≡ true → (recipe_land r).excluded k (single steps) ≡ true
limit_within broken alone r b steps w k e =
    let limits = over_batch r.limits r.job.batch in
    limit_weaker (λ limit. excludes_box r.grid limits limit b.lo b.hi) (λ limit. excludes_box r.grid limits limit steps steps)
    (λ limit f. alone r.grid limits limit steps ∙ broken r.grid limits limit b.lo steps b.hi w.0 w.1 f) k e

-- a light that fails on a box fails on the box of each recipe in it
light_within : (r : ResolvedJob) (b : Span) (steps : List ℕ) → IsLand r → IsRecipe r.grid b.hi → IsWithin steps b → (j : ℕ)
    → (recipe_land r).failing j b ≡ true → (recipe_land r).failing j (single steps) ≡ true
light_within r b steps land g w j e =
    light_fails_within (10 ^ 12) (tolerances r.job.light) (differences_at (10 ^ 12) r b.lo b.hi) (differences_at (10 ^ 12) r steps steps) j
    (inner_enclosed r b (single steps) land g w.0 (up_to_itself steps) w.1) e

own_light : (r : ResolvedJob) (steps : List ℕ) → IsLand r → IsRecipe r.grid steps → (is_some (light_of (recipe_land r) (single steps)) ≡ true) ↔ ((recipe_land r).grade steps ≡ fails)
own_light r steps land g =
    let v = verdict_at (10 ^ 12) (tolerances r.job.light) (differences_at (10 ^ 12) r steps steps) in
    subst (λ o. (is_some o ≡ true) ↔ (grade_of v ≡ fails)) (sym (light_is r (single steps) land (up_to_itself steps) g)) (names_light v)

shut_fails : ExcludedIsBroken → SingleIsBroken → (r : ResolvedJob) (b : Span) (steps : List ℕ) → IsLand r → IsInside b (all_recipes r.grid) → is_shut (recipe_land r) b ≡ true
    → IsWithin steps b → is_admitted (recipe_land r) steps ≡ true → (recipe_land r).grade steps ≡ fails
shut_fails broken alone r b steps land inside shut w admitted =
    let l = recipe_land r in
    ⊎_elim (λ e. absurd (not_none (limit_of l (single steps)) (some_first l (λ k. l.excluded k b) (λ k. l.excluded k (single steps)) 1 5 (limit_within broken alone r b steps w) e) admitted))
    (λ e. (own_light r steps land (inner_recipe r.grid b steps inside w)).0
    (some_first l (λ j. l.failing j b) (λ j. l.failing j (single steps)) 1 l.lights (light_within r b steps land (high_recipe r.grid b inside) w) e))
    (one_of (is_some (limit_of l b)) (is_some (light_of l b)) shut)

pub no_such_light : (r : ResolvedJob) (b : Span) (j : ℕ) → (j ≡ 0) ⊎ (length r.job.light < j) → (recipe_land r).failing j b ≡ false
no_such_light r b zero h = refl
no_such_light r b (suc j) h =
    let count : length (tolerances r.job.light) ≡ length r.job.light = length-map r.job.light (λ light. light.tolerance) in
    let beyond : length (tolerances r.job.light) < suc j = ⊎_elim (λ e. absurd (omega (arith, e))) (λ lt. omega (arith, lt, count)) h in
    no_light_beyond (10 ^ 12) (tolerances r.job.light) (differences_at (10 ^ 12) r b.lo b.hi) (suc j) beyond

pub land_is_lawful : ExcludedIsBroken → SingleIsBroken → (r : ResolvedJob) → IsLand r → 1 ≤ length r.job.light → length r.job.light ≤ 4 → IsLawful (recipe_land r)
land_is_lawful broken alone r land some few =
    let grid = r.grid in
    record {
      top = all_is_box grid;
      dyes = all_has_dyes grid land.grid;
      small = small_steps grid land.grid.ranges;
      some_light = some;
      few_lights = few;
      cheap = λ steps w. let bound = cost_small grid steps land.grid.ranges (up_to_most_is_recipe grid steps w.1) in omega (arith, bound, land.grid.few);
      no_limit = λ k b h. no_such_limit (λ limit. excludes_box r.grid (over_batch r.limits r.job.batch) limit b.lo b.hi) k h;
      no_light = λ j b h. no_such_light r b j h;
      shut = λ b box inside shut steps w admitted. shut_fails broken alone r b steps land inside shut w admitted;
      grows = λ low high l h up. cost_grows grid low high up;
      own = λ steps w admitted. own_light r steps land (up_to_most_is_recipe grid steps w.1);
    }
