-- What holds of every certificate holds of the small ones of the tests.
use Rattle.std.proofs.Common.{◌≡◌, ◌<◌, ◌≤◌, ◌&&◌, ℕ, zero, suc, List, [], ◌∷◌, Bool, true, false, nat_le, length, get_or, refl, sym, subst, arith}
use Rattle.std.specs.List.{All, list_all}
use Rattle.std.proofs.lemmas.Bool.{and_parts, false≢true}
use Rattle.std.proofs.lemmas.List.Sums.{AllPass-from_list_all}
use Rattle.box_specs.specs.declared.certificate.CertLine.{CertLine}
use Rattle.box_specs.specs.declared.certificate.CertLine.TheVariants.{Dear, Fail, Limit, Pass, Split, Undecided}
use Rattle.box_specs.specs.declared.certificate.Claim.{Claim}
use Rattle.box_specs.specs.declared.certificate.Claim.TheVariants.{Floor, Match, NoMatch}
use Rattle.box_specs.specs.Validity.{are_trees}
use Rattle.box_core.specs.Ranges.{AreOfLength, ClaimFits, HaveOneLength, LineFits, StepsFit, first_length}
use Rattle.box_tests.specs.Certs.{are_parts, is_claim, is_line, is_recipe}
use Rattle.box_specs.proofs.Tests.{at_most}

pub record Parts (claim : Claim) (listed : List (List ℕ)) (lines : List CertLine) : Type 0 where
  pub whole : are_trees 1 lines ≡ true
  pub short : length lines ≤ 100
  pub few : length listed ≤ 100
  pub claimed : is_claim claim ≡ true
  pub recipes : list_all is_recipe listed ≡ true
  pub fit : list_all is_line lines ≡ true

pub parts : (claim : Claim) (listed : List (List ℕ)) (lines : List CertLine) → are_parts claim listed lines ≡ true → Parts claim listed lines
parts claim listed lines h =
    let a = and_parts (are_trees 1 lines && nat_le (length lines) 100 && nat_le (length listed) 100 && is_claim claim && list_all is_recipe listed) (list_all is_line lines) h in
    let b = and_parts (are_trees 1 lines && nat_le (length lines) 100 && nat_le (length listed) 100 && is_claim claim) (list_all is_recipe listed) a.0 in
    let c = and_parts (are_trees 1 lines && nat_le (length lines) 100 && nat_le (length listed) 100) (is_claim claim) b.0 in
    let d = and_parts (are_trees 1 lines && nat_le (length lines) 100) (nat_le (length listed) 100) c.0 in
    let e = and_parts (are_trees 1 lines) (nat_le (length lines) 100) d.0 in
    record { whole = e.0; short = at_most _ _ e.1; few = at_most _ _ d.1; claimed = c.1; recipes = b.1; fit = a.1 }

recipe_fits : (steps : List ℕ) → is_recipe steps ≡ true → StepsFit steps
recipe_fits [] h = absurd (false≢true h)
recipe_fits (n ∷ []) h = first_fits where
  first_fits : (k d : ℕ) → k < length (n ∷ []) → get_or (n ∷ []) k d ≤ 4000
  first_fits zero d lt = at_most n 4000 h
  first_fits (suc k) d lt = absurd (omega arith)
recipe_fits (n ∷ (m ∷ steps)) h = absurd (false≢true h)

one_number : (steps : List ℕ) → is_recipe steps ≡ true → length steps ≡ 1
one_number [] h = absurd (false≢true h)
one_number (n ∷ []) h = refl
one_number (n ∷ (m ∷ steps)) h = absurd (false≢true h)

pub claim_fits : (claim : Claim) → is_claim claim ≡ true → ClaimFits claim
claim_fits (Match recipe) h = recipe_fits recipe.items h
claim_fits NoMatch h = tt
claim_fits (Floor cost) h = let few = at_most cost 1000 h in omega arith

line_fits : (line : CertLine) → is_line line ≡ true → LineFits line
line_fits (Split dye mid) h =
    let a = and_parts (nat_le 1 dye && nat_le dye 12) (nat_le mid 4000) h in
    let b = and_parts (nat_le 1 dye) (nat_le dye 12) a.0 in
    (at_most _ _ b.0, at_most _ _ b.1, at_most _ _ a.1)
line_fits (Limit k) h = let a = and_parts (nat_le 1 k) (nat_le k 5) h in (at_most _ _ a.0, at_most _ _ a.1)
line_fits (Fail j) h = let a = and_parts (nat_le 1 j) (nat_le j 4) h in (at_most _ _ a.0, at_most _ _ a.1)
line_fits Dear h = tt
line_fits Undecided h = tt
line_fits Pass h = tt

pub lines_fit : (lines : List CertLine) → list_all is_line lines ≡ true → All LineFits lines
lines_fit lines h = λ k d lt. line_fits (get_or lines k d) (AllPass-from_list_all is_line lines h k d lt)

pub recipes_fit : (listed : List (List ℕ)) → list_all is_recipe listed ≡ true → All StepsFit listed
recipes_fit listed h = λ k d lt. recipe_fits (get_or listed k d) (AllPass-from_list_all is_recipe listed h k d lt)

of_one : (recipes : List (List ℕ)) → list_all is_recipe recipes ≡ true → AreOfLength 1 recipes
of_one recipes h = record {
  some = omega arith;
  few = omega arith;
  each = λ k d lt. one_number (get_or recipes k d) (AllPass-from_list_all is_recipe recipes h k d lt);
}

first_is : (recipes : List (List ℕ)) → list_all is_recipe recipes ≡ true → 1 ≡ first_length recipes
first_is [] h = refl
first_is (steps ∷ rest) h = sym (one_number steps (and_parts (is_recipe steps) (list_all is_recipe rest) h).0)

same_length : (recipes : List (List ℕ)) → list_all is_recipe recipes ≡ true → AreOfLength (first_length recipes) recipes
same_length recipes h = subst (λ n. AreOfLength n recipes) (first_is recipes h) (of_one recipes h)

both : (a b : Bool) → a ≡ true → b ≡ true → a && b ≡ true
both true b h k = k
both false b h k = h

pub one_length : (claim : Claim) (listed : List (List ℕ)) → is_claim claim ≡ true → list_all is_recipe listed ≡ true → HaveOneLength claim listed
one_length (Match recipe) listed h k = same_length (recipe.items ∷ listed) (both (is_recipe recipe.items) (list_all is_recipe listed) h k)
one_length NoMatch listed h k = same_length listed k
one_length (Floor cost) listed h k = same_length listed k
