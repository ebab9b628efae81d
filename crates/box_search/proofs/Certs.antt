-- The numbers and lengths in the certificate of a search are in the ranges of its type.
use Rattle.std.proofs.Common.{◌≡◌, ◌+◌, ◌^◌, ◌≤◌, min, ℕ, zero, suc, List, [], ◌∷◌, Bool, true, false, length, take, if◌then◌else◌, refl, sym, ap, subst, ◌∙◌, inl, inr, arith}
use Rattle.std.specs.Prelude.{All, Option, Some, None}
use Rattle.std.specs.List.{AllByRecursion, Contains, slice_get}
use Rattle.std.proofs.lemmas.Bool.{cases_lt, false≢true}
use Rattle.std.proofs.lemmas.List.Elements.{All-contains, All-from_recursion, All-get_or, All-weaker, recursion_from_All}
use Rattle.price_grid.specs.Grid.{IsUpTo}
use Rattle.box_specs.specs.declared.certificate.CertLine.{CertLine}
use Rattle.box_specs.specs.declared.certificate.CertLine.TheVariants.{Dear, Fail, Limit, Split}
use Rattle.box_specs.specs.declared.certificate.Claim.{Claim}
use Rattle.box_specs.specs.declared.certificate.Claim.TheVariants.{Floor, Match, NoMatch}
use Rattle.box_specs.specs.Canonical.{IsCanonical, IsClaim, IsFloor, IsPart, canonical_lines, is_judged, line_by, line_of}
use Rattle.box_specs.specs.Landscape.{Grade, IsLawful, Land, fails, judged_by, light_of, limit_of, passes, unsure, IsSound}
use Rattle.box_specs.specs.Span.{IsWithin, Span, is_single}
use Rattle.box_specs.specs.Splits.{cut_of}
use Rattle.box_specs.specs.Tree.{Tree, root, tree_of, need_to}
use Rattle.box_specs.specs.Validity.{IsValid, corners, is_undecided_line}
use Rattle.box_specs.proofs.Cuts.{cut_fits, same_count}
use Rattle.box_core.specs.Ranges.{AreOfLength, ClaimFits, HaveOneLength, LineFits, StepsFit, first_length, recipes_of}
use Rattle.box_search.specs.Found.{IsEnd, IsFound, IsSmall, claim_by}
use Rattle.box_search.specs.declared.found.End.{End}
use Rattle.box_search.specs.declared.found.End.TheVariants.{Enough, Exhausted, Stopped}
use Rattle.box_specs.specs.Answer.{matches}
use Rattle.box_specs.proofs.Answers.{first_is_answer}
use Rattle.box_search.specs.Trees.{IsSoundTree}
use Rattle.box_search.proofs.Ranks.{whole}
use Rattle.box_search.proofs.Trees.{sound_of}
use Rattle.box_search.proofs.Valid.{at_top, canonical_is_valid, corner_in, first_is}
use Rattle.box_search.proofs.Walks.{corners_are, each_line, found_from, own}

small_steps : (r high : List ℕ) → IsUpTo r high → AllByRecursion (λ n. n ≤ 4000) high → AllByRecursion (λ n. n ≤ 4000) r
small_steps [] high h s = tt
small_steps (n ∷ r) [] h s = absurd h
small_steps (n ∷ r) (m ∷ high) h s = (omega (arith, h.0, s.0), small_steps r high h.1 s.1)

one_length : (n : ℕ) (rs : List (List ℕ)) → 1 ≤ n → n ≤ 12 → AllByRecursion (λ r. length r ≡ n) rs → AreOfLength (first_length rs) rs
one_length n [] h k a = record { some = omega arith; few = omega arith; each = All-from_recursion (λ r. length r ≡ 1) [] tt }
one_length n (r ∷ rs) h k a = record {
  some = omega (arith, h, a.0);
  few = omega (arith, k, a.0);
  each = All-weaker (λ s. length s ≡ n) (λ s. length s ≡ length r) (λ s e. e ∙ sym a.0) (r ∷ rs) (All-from_recursion (λ s. length s ≡ n) (r ∷ rs) a);
}

module _ (l : Land) (lawful : IsLawful l) where
  pub steps_fit : (r : List ℕ) → IsWithin r l.top → StepsFit r
  steps_fit r h = All-from_recursion (λ n. n ≤ 4000) r (small_steps r l.top.hi h.1 (recursion_from_All (λ n. n ≤ 4000) l.top.hi lawful.small))

  pub length_is : (r : List ℕ) → IsWithin r l.top → length r ≡ length l.top.lo
  length_is r h = same_count l.top.lo r h.0

  -- the number of a limit that excludes a box is in range
  limit_fits : (k : ℕ) (b : Span) → l.excluded k b ≡ true → LineFits (Limit k)
  limit_fits zero b h = absurd (false≢true (sym (lawful.no_limit 0 b (inl refl)) ∙ h))
  limit_fits (suc k) b h = elim (cases_lt 5 (suc k)) as (λ _. LineFits (Limit (suc k))) [
    | inl more ↦ absurd (false≢true (sym (lawful.no_limit (suc k) b (inr more)) ∙ h))
    | inr less ↦ (omega arith, omega (arith, less))
  ]

  light_fits : (k : ℕ) (b : Span) → l.failing k b ≡ true → LineFits (Fail k)
  light_fits zero b h = absurd (false≢true (sym (lawful.no_light 0 b (inl refl)) ∙ h))
  light_fits (suc k) b h = elim (cases_lt l.lights (suc k)) as (λ _. LineFits (Fail (suc k))) [
    | inl more ↦ absurd (false≢true (sym (lawful.no_light (suc k) b (inr more)) ∙ h))
    | inr less ↦ (omega arith, omega (arith, less, lawful.few_lights))
  ]

  split_fits : (b : Span) → IsSound l b → is_single b ≡ false → LineFits (Split ((cut_of b).dye + 1) (cut_of b).mid)
  split_fits b s h =
      let cuts = cut_fits b s.box h in
      let long = same_count l.top.lo b.lo s.inside.0 in
      let high = same_count b.lo b.hi s.box in
      let small = small_steps b.hi l.top.hi s.inside.1 (recursion_from_All (λ n. n ≤ 4000) l.top.hi lawful.small) in
      let at = All-get_or (λ n. n ≤ 4000) b.hi (cut_of b).dye 0 (omega (arith, cuts.there, high)) (All-from_recursion (λ n. n ≤ 4000) b.hi small) in
      (omega arith, omega (arith, cuts.there, long, lawful.dyes.1), omega (arith, cuts.high, at))

  -- the numbers in the line of a box are in range
  line_fits : (b : Span) → IsSound l b → LineFits (line_of l b)
  line_fits b s = go (limit_of l b) (light_of l b) (is_single b) (l.grade b.lo) refl refl refl where
    go : (x y : Option ℕ) (t : Bool) (g : Grade) → limit_of l b ≡ x → light_of l b ≡ y → is_single b ≡ t → LineFits (line_by (judged_by l x y t g) (cut_of b))
    go (Some k) y t g e f i = limit_fits k b (found_from l (λ n. l.excluded n b) 1 5 k e)
    go None (Some k) t g e f i = light_fits k b (found_from l (λ n. l.failing n b) 1 l.lights k f)
    go None None false g e f i = split_fits b s i
    go None None true passes e f i = tt
    go None None true fails e f i = tt
    go None None true unsure e f i = tt

  pub lines_fit : (n budget : ℕ) (listed : List (List ℕ)) → All LineFits (canonical_lines l n)
  lines_fit n budget listed = All-from_recursion LineFits (canonical_lines l n)
      (at_top l lawful listed budget n (λ bs xs. AllByRecursion LineFits xs)
      (each_line l (is_judged l n) (λ bs xs. AllByRecursion LineFits xs) (tree_of l) 0 step (tree_of l) 0 (whole l lawful) (λ d u p. p) [] [] tt)) where
        step : (d : ℕ) (u : Tree) → IsPart l (tree_of l) 0 d u → IsSoundTree l u → (bs : List Span) (xs : List CertLine) → AllByRecursion LineFits xs → AllByRecursion LineFits (own l (is_judged l n) d (root u) ∷ xs)
        step d u p i bs xs w = (go (is_judged l n d (root u)), w) where
          go : (j : Bool) → LineFits (if j then line_of l (root u) else Dear)
          go true = line_fits (root u) (sound_of l u i)
          go false = tt

  module _ (budget n : ℕ) (listed : List (List ℕ)) where
    pub listed_within : (claim : Claim) → IsCanonical l budget claim listed (canonical_lines l n) n → All (λ r. IsWithin r l.top) listed
    listed_within claim c =
        let cs = corners is_undecided_line (l.top ∷ []) (canonical_lines l n) in
        let inside = All-from_recursion (λ r. IsWithin r l.top) cs (at_top l lawful listed budget n (λ bs xs. AllByRecursion (λ r. IsWithin r l.top) (corners is_undecided_line bs xs))
        (corners_are l (is_judged l n) (λ r. IsWithin r l.top) is_undecided_line refl (tree_of l) 0 (whole l lawful) (λ d u p j h. corner_in l lawful d u p) [] [] tt)) in
        All-weaker (Contains cs) (λ r. IsWithin r l.top) (λ r h. All-contains (λ s. IsWithin s l.top) cs r inside h) listed c.each

    pub claim_fits : (claim : Claim) → IsClaim l budget claim → ClaimFits claim
    claim_fits (Match recipe) c = steps_fit recipe.items (first_is l lawful recipe.items c.1).grid
    claim_fits NoMatch c = tt
    claim_fits (Floor cost) c = subst (λ k. k ≤ 10 ^ 15) (sym c.5) (lawful.cheap (root c.2).lo (corner_in l lawful c.1 c.2 c.3))

    pub numbers_fit : (claim : Claim) → IsCanonical l budget claim listed (canonical_lines l n) n → ClaimFits claim × All StepsFit listed × All LineFits (canonical_lines l n)
    numbers_fit claim c =
        (claim_fits claim c.claimed, All-weaker (λ r. IsWithin r l.top) StepsFit steps_fit listed (listed_within claim c), lines_fit n budget listed)

    pub lengths_fit : (claim : Claim) → IsCanonical l budget claim listed (canonical_lines l n) n → HaveOneLength claim listed
    lengths_fit claim c = one_length (length l.top.lo) (recipes_of claim listed) lawful.dyes.0 lawful.dyes.1 (all claim c.claimed) where
      rest : AllByRecursion (λ r. length r ≡ length l.top.lo) listed
      rest = recursion_from_All (λ r. length r ≡ length l.top.lo) listed (All-weaker (λ r. IsWithin r l.top) (λ r. length r ≡ length l.top.lo) length_is listed (listed_within claim c))

      all : (k : Claim) → IsClaim l budget k → AllByRecursion (λ r. length r ≡ length l.top.lo) (recipes_of k listed)
      all (Match recipe) e = (length_is recipe.items (first_is l lawful recipe.items e.1).grid, rest)
      all NoMatch e = rest
      all (Floor cost) e = rest

-- what holds of a certificate with this claim, the undecided recipes rs and the lines xs
pub record IsMade (l : Land) (budget : ℕ) (claim : Claim) (rs : List (List ℕ)) (xs : List CertLine) (n : ℕ) : Type 0 where
  pub canonical : IsCanonical l budget claim rs xs n
  pub valid : IsValid l claim rs xs
  pub short : length xs ≤ 32000000
  pub few : length rs ≤ 1000000
  pub one_length : HaveOneLength claim rs
  pub numbers : ClaimFits claim × All StepsFit rs × All LineFits xs

-- a search for one recipe ends with the claim of the answer
module _ (l : Land) (budget : ℕ) where
  first_taken : (k : ℕ) (recipes : List (List ℕ)) → slice_get (take (suc k) recipes) 0 ≡ slice_get recipes 0
  first_taken k [] = refl
  first_taken k (r ∷ recipes) = refl

  claimed : (end : End) (matched : List (List ℕ)) → IsEnd l 1 budget end (length matched) → matched ≡ take (length matched) (matches l) → IsClaim l budget (claim_by end matched)
  claimed Enough [] e f = absurd (omega (arith, e.1))
  claimed Enough (r ∷ rest) e f =
      (subst (λ o. need_to l o ≤ budget) (first_is_answer l) e.0, sym (first_is_answer l) ∙ sym (first_taken (length rest) (matches l)) ∙ sym (ap (λ xs. slice_get xs 0) f))
  claimed Exhausted matched e f = (subst (λ o. need_to l o ≤ budget) (first_is_answer l) e.0, sym (first_is_answer l) ∙ e.1)
  claimed (Stopped cost) matched e f = subst (λ o. IsFloor l budget (need_to l o) cost) (first_is_answer l) e

  canonical_of : (end : End) (matched listed : List (List ℕ)) (tree : List CertLine) (n : ℕ) → IsFound l 1 budget end matched listed tree n → IsCanonical l budget (claim_by end matched) listed tree n
  canonical_of end matched listed tree n f = record {
    judged = subst (λ o. n ≡ min (need_to l o) budget) (first_is_answer l) f.judged;
    claimed = claimed end matched f.ended f.first;
    tree_is = f.tree_is;
    rising = f.undecided.rising;
    each = f.undecided.each;
    every = f.undecided.every;
  }

pub made : (l : Land) → IsLawful l → (budget : ℕ) (end : End) (matched listed : List (List ℕ)) (tree : List CertLine) (n : ℕ) → IsFound l 1 budget end matched listed tree n → IsSmall listed tree n
    → budget ≤ 1000000 → (claim : Claim) (rs : List (List ℕ)) (xs : List CertLine) → claim ≡ claim_by end matched → rs ≡ listed → xs ≡ tree → IsMade l budget claim rs xs n
made l lawful budget end matched listed tree n f small few claim rs xs ec er ex =
    let Claimed : Claim = claim_by end matched in
    let c : IsCanonical l budget Claimed listed tree n = canonical_of l budget end matched listed tree n f in
    let plain : IsCanonical l budget Claimed listed (canonical_lines l n) n = subst (λ t. IsCanonical l budget Claimed listed t n) f.tree_is c in
    let numbers = numbers_fit l lawful budget n listed Claimed plain in
    let all : IsMade l budget Claimed listed tree n = record {
      canonical = c;
      valid = canonical_is_valid l lawful budget Claimed listed tree n c;
      short = omega (arith, small.lines, f.judged, few);
      few = omega (arith, small.few, f.judged, few);
      one_length = lengths_fit l lawful budget n listed Claimed plain;
      numbers = (numbers.0, numbers.1, subst (All LineFits) (sym f.tree_is) numbers.2);
    } in
    subst (λ k. IsMade l budget k rs xs n) (sym ec) (subst (λ a. IsMade l budget Claimed a xs n) (sym er) (subst (λ a. IsMade l budget Claimed listed a n) (sym ex) all))
