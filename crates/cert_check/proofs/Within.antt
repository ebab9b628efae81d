-- Recipes within a box, as the test finds them.
use Rattle.std.proofs.Common.{◌≡◌, if◌then◌else◌, subst, ◌+◌, ◌<◌, ◌&&◌, ℕ, zero, suc, List, [], ◌∷◌, Bool, true, false, nat_le, length, get_or, drop, add-one, refl, sym, ap, ◌∙◌, arith}
use Rattle.std.proofs.Math.Seq.{drop-cons}
use Rattle.std.proofs.lemmas.Bool.{and_parts}
use Rattle.price_grid.specs.Grid.{IsUpTo}
use Rattle.std.specs.Prelude.{Option, Some, None}
use Rattle.std.specs.List.{AllByRecursion}
use Rattle.box_specs.specs.declared.certificate.Cutoff.{Cutoff}
use Rattle.box_specs.specs.declared.certificate.Cutoff.TheVariants.{Never}
use Rattle.box_specs.specs.declared.certificate.Claim.{Claim}
use Rattle.box_specs.specs.declared.certificate.Claim.TheVariants.{Floor, Match, NoMatch}
use Rattle.box_specs.specs.declared.certificate.Why.{Why}
use Rattle.box_specs.specs.declared.certificate.Why.TheVariants.{WrongList}
use Rattle.box_specs.specs.Landscape.{IsLawful, Land, is_before}
use Rattle.box_specs.specs.Order.{IsRising}
use Rattle.box_specs.specs.Span.{IsBox, IsWithin, Span}
use Rattle.box_specs.specs.Validity.{cutoff_of, is_early, is_in_grid, is_later, is_within, list_failure, matched_of}
use Rattle.cert_check.specs.Ready.{CutoffIsWithin, IsReady, IsSorted, previous_of}
use Rattle.box_specs.proofs.Answers.{before_trans}
use Rattle.box_specs.proofs.Tests.{at_most, le_test}

pub within_step : (steps low high : List ℕ) (i : ℕ) → i < length steps → i < length low → i < length high
    → is_within (drop i steps) (drop i low) (drop i high)
    ≡ nat_le (get_or low i 0) (get_or steps i 0) && nat_le (get_or steps i 0) (get_or high i 0) && is_within (drop (i + 1) steps) (drop (i + 1) low) (drop (i + 1) high)
within_step steps low high i h k m = rw (add-one i, drop-cons steps i 0 h, drop-cons low i 0 k, drop-cons high i 0 m) refl

pub other_length : (steps low high : List ℕ) → (length steps ≡ length low → ⊥) → is_within steps low high ≡ false
other_length [] [] high h = absurd (h refl)
other_length [] (l ∷ low) high h = refl
other_length (n ∷ steps) [] high h = refl
other_length (n ∷ steps) (l ∷ low) [] h = refl
other_length (n ∷ steps) (l ∷ low) (m ∷ high) h = go (nat_le l n && nat_le n m) (other_length steps low high (λ e. h (ap suc e))) where
  go : (t : Bool) → is_within steps low high ≡ false → t && is_within steps low high ≡ false
  go true e = e
  go false e = refl

-- what the test finds lies in the box
pub within_is : (steps low high : List ℕ) → IsUpTo low high → is_within steps low high ≡ true → IsUpTo low steps × IsUpTo steps high
within_is [] [] [] box h = (tt, tt)
within_is [] [] (m ∷ high) box h = absurd box
within_is [] (l ∷ low) high box h = cc
within_is (n ∷ steps) [] high box h = cc
within_is (n ∷ steps) (l ∷ low) [] box h = cc
within_is (n ∷ steps) (l ∷ low) (m ∷ high) box h =
    let outer = and_parts (nat_le l n && nat_le n m) (is_within steps low high) h in
    let inner = and_parts (nat_le l n) (nat_le n m) outer.0 in
    let rest = within_is steps low high box.1 outer.1 in
    ((at_most l n inner.0, rest.0), (at_most n m inner.1, rest.1))

-- a recipe that lies in a box passes the test
pub within_test : (r low high : List ℕ) → IsUpTo low r → IsUpTo r high → is_within r low high ≡ true
within_test [] [] high h k = refl
within_test [] (x ∷ low) high h k = absurd h
within_test (n ∷ r) [] high h k = absurd h
within_test (n ∷ r) (x ∷ low) [] h k = absurd k
within_test (n ∷ r) (x ∷ low) (y ∷ high) h k =
    let rest = within_test r low high h.1 k.1 in
    let low_ok = le_test x n h.0 in
    let high_ok = le_test n y k.0 in
    λ i. low_ok i && high_ok i && rest i

pub in_grid_is : (l : Land) (steps : List ℕ) → IsBox l.top → is_in_grid l steps ≡ true → IsWithin steps l.top
in_grid_is l steps box h = within_is steps l.top.lo l.top.hi box h

pub in_top_is : (l : Land) (steps : List ℕ) (top : Span) → IsBox l.top → top ≡ l.top → is_within steps top.lo top.hi ≡ true → IsWithin steps l.top
in_top_is l steps top box e h = in_grid_is l steps box (subst (λ (b : Span). is_within steps b.lo b.hi ≡ true) e h)

-- `next` where the test holds, and else the failure at this line that the list is wrong
abbrev pub or_wrong : Bool → Option (ℕ × Why) → ℕ → Option (ℕ × Why)
or_wrong t next n = if t then next else Some (n, WrongList)

-- one more listed recipe
pub list_step : (l : Land) (cutoff : Cutoff) (n : ℕ) (previous : Option (List ℕ)) (listed : List (List ℕ)) (i : ℕ) → i < length listed
    → list_failure l cutoff n previous (drop i listed)
    ≡ or_wrong (is_in_grid l (get_or listed i []) && is_later l previous (get_or listed i []) && is_early l cutoff (get_or listed i []))
    (list_failure l cutoff (n + 1) (Some (get_or listed i [])) (drop (i + 1) listed)) n
list_step l cutoff n previous listed i h = rw (add-one i, drop-cons listed i [] h) refl

pub list_more : (l : Land) (cutoff : Cutoff) (m : ℕ) (listed : List (List ℕ)) (i : ℕ) → i < length listed
    → is_in_grid l (get_or listed i []) && is_later l (previous_of listed i) (get_or listed i []) && is_early l cutoff (get_or listed i []) ≡ true
    → list_failure l cutoff (m + (i + 1)) (previous_of listed (i + 1)) (drop (i + 1) listed) ≡ list_failure l cutoff (m + i) (previous_of listed i) (drop i listed)
list_more l cutoff m listed i h e =
    let number : m + (i + 1) ≡ m + i + 1 = omega arith in
    let previous : previous_of listed (i + 1) ≡ Some (get_or listed i []) = ap (previous_of listed) (add-one i) in
    ap (λ n. list_failure l cutoff n (previous_of listed (i + 1)) (drop (i + 1) listed)) number
    ∙ ap (λ p. list_failure l cutoff (m + i + 1) p (drop (i + 1) listed)) previous
    ∙ sym (list_step l cutoff (m + i) (previous_of listed i) listed i h
    ∙ ap (λ t. or_wrong t (list_failure l cutoff (m + i + 1) (Some (get_or listed i [])) (drop (i + 1) listed)) (m + i)) e)

pub grid_of : (l : Land) (a b c : Bool) → a && b && c ≡ true → a ≡ true
grid_of l true b c h = refl
grid_of l false b c h = h

-- the recipes of the list are of the grid, before the cutoff, after `previous`, and each
-- after all before it
pub record ListIsOrdered (l : Land) (cutoff : Cutoff) (previous : Option (List ℕ)) (listed : List (List ℕ)) : Type 0 where
  pub grid : (k : ℕ) → k < length listed → IsWithin (get_or listed k []) l.top
  pub early : (k : ℕ) → k < length listed → is_early l cutoff (get_or listed k []) ≡ true
  pub later : (k : ℕ) → k < length listed → is_later l previous (get_or listed k []) ≡ true
  pub rising : (i k : ℕ) → i < k → k < length listed → is_before l (get_or listed i []) (get_or listed k []) ≡ true

later_trans : (l : Land) (previous : Option (List ℕ)) (a b : List ℕ) → is_later l previous a ≡ true → is_before l a b ≡ true → is_later l previous b ≡ true
later_trans l None a b h k = refl
later_trans l (Some p) a b h k = before_trans l p a b h k

-- where a list has no failure, its recipes are so
pub list_is_ordered : (l : Land) (cutoff : Cutoff) (n : ℕ) (previous : Option (List ℕ)) (listed : List (List ℕ)) → IsBox l.top
    → list_failure l cutoff n previous listed ≡ None → ListIsOrdered l cutoff previous listed
list_is_ordered l cutoff n previous [] box h = record {
  grid = λ k lt. absurd (omega arith);
  early = λ k lt. absurd (omega arith);
  later = λ k lt. absurd (omega arith);
  rising = λ i k lt le. absurd (omega arith);
}
list_is_ordered l cutoff n previous (s ∷ listed) box h = go (λ k. list_is_ordered l cutoff (n + 1) (Some s) listed box k) (is_in_grid l s && is_later l previous s && is_early l cutoff s) refl h where
  grids : ListIsOrdered l cutoff (Some s) listed → IsWithin s l.top → (k : ℕ) → k < length (s ∷ listed) → IsWithin (get_or (s ∷ listed) k []) l.top
  grids r w zero lt = w
  grids r w (suc k) lt = r.grid k (omega arith)

  earlies : ListIsOrdered l cutoff (Some s) listed → is_early l cutoff s ≡ true → (k : ℕ) → k < length (s ∷ listed) → is_early l cutoff (get_or (s ∷ listed) k []) ≡ true
  earlies r w zero lt = w
  earlies r w (suc k) lt = r.early k (omega arith)

  laters : ListIsOrdered l cutoff (Some s) listed → is_later l previous s ≡ true → (k : ℕ) → k < length (s ∷ listed) → is_later l previous (get_or (s ∷ listed) k []) ≡ true
  laters r w zero lt = w
  laters r w (suc k) lt = later_trans l previous s (get_or listed k []) w (r.later k (omega arith))

  risings : ListIsOrdered l cutoff (Some s) listed → (i k : ℕ) → i < k → k < length (s ∷ listed) → is_before l (get_or (s ∷ listed) i []) (get_or (s ∷ listed) k []) ≡ true
  risings r i zero lt le = absurd (omega arith)
  risings r zero (suc k) lt le = r.later k (omega arith)
  risings r (suc i) (suc k) lt le = r.rising i k (omega arith) (omega arith)

  go : (list_failure l cutoff (n + 1) (Some s) listed ≡ None → ListIsOrdered l cutoff (Some s) listed) → (t : Bool)
      → is_in_grid l s && is_later l previous s && is_early l cutoff s ≡ t
      → or_wrong t (list_failure l cutoff (n + 1) (Some s) listed) n ≡ None → ListIsOrdered l cutoff previous (s ∷ listed)
  go further false e k = cc
  go further true e k =
      let outer = and_parts (is_in_grid l s && is_later l previous s) (is_early l cutoff s) e in
      let inner = and_parts (is_in_grid l s) (is_later l previous s) outer.0 in
      let rest = further k in
      record {
        grid = grids rest (in_grid_is l s box inner.0);
        early = earlies rest outer.1;
        later = laters rest inner.1;
        rising = risings rest;
      }

pub sorted_of : (l : Land) (cutoff : Cutoff) (previous : Option (List ℕ)) (listed : List (List ℕ)) → ListIsOrdered l cutoff previous listed → IsSorted l listed
sorted_of l cutoff previous listed s = record { grid = s.grid; rising = s.rising }

-- the cutoff of a claim is that of a recipe of the grid
claim_is : (l : Land) (claim : Claim) → IsSorted l (matched_of claim) → CutoffIsWithin l (cutoff_of claim)
claim_is l (Match recipe) s = s.grid 0 (omega arith)
claim_is l NoMatch s = tt
claim_is l (Floor cost) s = tt

pub matched_sorted : (l : Land) (claim : Claim) → IsLawful l → list_failure l Never 2 None (matched_of claim) ≡ None → IsSorted l (matched_of claim)
matched_sorted l claim lawful h = sorted_of l Never None (matched_of claim) (list_is_ordered l Never 2 None (matched_of claim) lawful.top h)

pub cut_off_is : (l : Land) (claim : Claim) → IsLawful l → list_failure l Never 2 None (matched_of claim) ≡ None → CutoffIsWithin l (cutoff_of claim)
cut_off_is l claim lawful h = claim_is l claim (matched_sorted l claim lawful h)

pub ready : (l : Land) (claim : Claim) (listed : List (List ℕ)) → IsLawful l → list_failure l Never 2 None (matched_of claim) ≡ None
    → list_failure l (cutoff_of claim) 4 None listed ≡ None → IsReady l (cutoff_of claim) (matched_of claim) listed
ready l claim listed lawful h k = record {
  lawful = lawful;
  cut_off = cut_off_is l claim lawful h;
  passing = matched_sorted l claim lawful h;
  undecided = sorted_of l (cutoff_of claim) None listed (list_is_ordered l (cutoff_of claim) 4 None listed lawful.top k);
}

-- a rising list of recipes of the grid that come before the cutoff has no failure
module _ (l : Land) (cutoff : Cutoff) where
  abbrev pub IsGood : List ℕ → Type 0
  IsGood r = (is_in_grid l r ≡ true) × (is_early l cutoff r ≡ true)

  rest_pairs : (p s : List ℕ) (rest : List (List ℕ)) → IsRising l (p ∷ s ∷ rest) → IsRising l (s ∷ rest)
  rest_pairs p s rest h = λ i j d a b. h (suc i) (suc j) d (omega (arith, a)) (omega (arith, b))

  listed_from : (n : ℕ) (p : List ℕ) (listed : List (List ℕ)) → IsRising l (p ∷ listed) → AllByRecursion IsGood listed → list_failure l cutoff n (Some p) listed ≡ None
  listed_from n p [] h g = refl
  listed_from n p (s ∷ rest) h g =
      let later : is_before l p s ≡ true = h 0 1 p (omega arith) (omega arith) in
      ap (λ c. or_wrong c (list_failure l cutoff (n + 1) (Some s) rest) n) (λ i. g.0.0 i && later i && g.0.1 i) ∙ listed_from (n + 1) s rest (rest_pairs p s rest h) g.1

  pub list_holds : (n : ℕ) (listed : List (List ℕ)) → IsRising l listed → AllByRecursion IsGood listed → list_failure l cutoff n None listed ≡ None
  list_holds n [] h g = refl
  list_holds n (s ∷ rest) h g =
      ap (λ c. or_wrong c (list_failure l cutoff (n + 1) (Some s) rest) n) (λ i. g.0.0 i && true && g.0.1 i) ∙ listed_from (n + 1) s rest h g.1
