-- The laws of the certificate that a search ends with.
use Rattle.std.proofs.Common.{◌≡◌, ◌+◌, ◌*◌, ◌≤◌, ◌&&◌, min, ℕ, List, [], ◌∷◌, Bool, true, false, length, refl, sym, ap, subst, ◌∙◌, ◌⊎◌, inl, inr, arith}
use Rattle.std.specs.Prelude.{All}
use Rattle.std.proofs.lemmas.Bool.{cases_lt, false≢true}
use Rattle.std.proofs.lemmas.List.Elements.{All-contains, All-weaker}
use Rattle.std.proofs.lemmas.Map.Views.{Contains-from_any}
use Rattle.std.proofs.lemmas.Slice.Eq.{bytes_eq-Decides}
use Rattle.box_specs.specs.declared.certificate.CertLine.{CertLine}
use Rattle.box_specs.specs.declared.certificate.Claim.{Claim}
use Rattle.box_specs.specs.declared.certificate.Claim.TheVariants.{Floor, Match, NoMatch}
use Rattle.box_specs.specs.Answer.{IsAnswer, is_match, is_pass}
use Rattle.box_specs.specs.Canonical.{IsCanonical, IsClaim, canonical_lines, is_judged}
use Rattle.box_specs.specs.Landscape.{Grade, IsLawful, Land, fails, is_admitted, unsure}
use Rattle.box_specs.specs.Meaning.{IsUnsure, Means}
use Rattle.box_specs.specs.Span.{IsWithin}
use Rattle.box_specs.specs.Tree.{need, tree_of}
use Rattle.box_specs.specs.Validity.{corners, is_listed, is_undecided_line}
use Rattle.box_search.specs.Result.{search_result, undecided_of}
use Rattle.box_search.proofs.Certs.{claim_fits, length_is, lines_fit, listed_within, steps_fit}
use Rattle.box_search.proofs.Ranks.{whole}
use Rattle.box_search.proofs.Results.{few_below, result_is_canonical}
use Rattle.box_search.proofs.Valid.{answer, canonical_is_valid, first_is}
use Rattle.box_core.specs.Ranges.{LineFits, StepsFit}
use Rattle.box_cert.specs.Claims.{HasDims}
use Rattle.box_cert.proofs.CertForm.{cert_again}
use Rattle.cert_check.proofs.Sound.{valid_means}
use Rattle.cert_laws.specs.Laws.{ClaimHolds, ResultFits, ResultIsFirst, ResultIsRead, ResultIsShort, ResultIsValid, ResultMeans, search_cert}
use Rattle.cert_laws.proofs.Sizes.{corners_few, line_size, order_few, total, tree_sizes}
use Rattle.cert_laws.proofs.Spelled.{cert_short}

pub result_is_valid : (l : Land) → ResultIsValid l
result_is_valid l lawful budget =
    let s = search_result l budget in
    canonical_is_valid l lawful budget s.claim s.listed s.lines s.boxes (result_is_canonical l lawful budget)

pub result_means : (l : Land) → ResultMeans l
result_means l lawful budget =
    let s = search_result l budget in
    valid_means l s.claim s.listed s.lines lawful (result_is_valid l lawful budget)

module _ (l : Land) (lawful : IsLawful l) (budget : ℕ) where
  abbrev Boxes : ℕ
  Boxes = min (need l) budget

  -- bounds on the bytes of the listed recipes and the tree's lines together, on the number of these
  -- lines, and on the number of listed recipes
  record IsSmall (listed : List (List ℕ)) (xs : List CertLine) : Type 0 where
    pub bytes : 60 * length listed + total line_size xs ≤ 36 * budget + 26
    pub lines : length xs ≤ 2 * budget + 1
    pub few : length listed ≤ budget

  small : IsSmall (undecided_of l (canonical_lines l Boxes)) (canonical_lines l Boxes)
  small =
      let xs = canonical_lines l Boxes in
      let sizes = tree_sizes l (is_judged l Boxes) (tree_of l) 0 (whole l lawful) in
      let judged = few_below l lawful Boxes in
      let listed = order_few l (corners is_undecided_line (l.top ∷ []) xs) in
      let marked = corners_few (l.top ∷ []) xs in
      record { bytes = omega (arith, sizes.bytes, judged, listed, marked); lines = omega (arith, sizes.lines, judged); few = omega (arith, sizes.undecided, judged, listed, marked) }

  result_small : IsSmall (search_result l budget).listed (search_result l budget).lines
  unfolding search_result
  result_small = small

  has_dims : (claim : Claim) → IsClaim l budget claim → HasDims (length l.top.lo) claim
  has_dims (Match recipe) c = length_is l lawful recipe.items (first_is l lawful recipe.items c.1).grid
  has_dims NoMatch c = tt
  has_dims (Floor cost) c = tt

pub result_fits : (l : Land) → ResultFits l
result_fits l lawful budget few =
    let s = search_result l budget in
    let c = result_is_canonical l lawful budget in
    let size = result_small l lawful budget in
    let at = subst (λ xs. IsCanonical l budget s.claim s.listed xs s.boxes) c.tree_is c in
    let within = listed_within l lawful budget s.boxes s.listed s.claim at in
    record {
      numbers = claim_fits l lawful budget s.boxes s.listed s.claim c.claimed;
      claim = has_dims l lawful budget s.claim c.claimed;
      few = omega (arith, size.few, few);
      listed = record {
        many = refl;
        each = All-weaker (λ r. IsWithin r l.top) (λ r. length r ≡ length l.top.lo) (length_is l lawful) s.listed within;
        fits = All-weaker (λ r. IsWithin r l.top) StepsFit (steps_fit l lawful) s.listed within;
      };
      tree = record {
        whole = (result_is_valid l lawful budget).whole;
        short = omega (arith, size.lines, few);
        fits = subst (λ xs. All LineFits xs) (sym c.tree_is) (lines_fit l lawful s.boxes budget s.listed);
      };
    }

pub result_is_short : (l : Land) → ResultIsShort l
result_is_short l lawful budget few =
    let size = result_small l lawful budget in
    let text = cert_short (length l.top.lo) (search_cert l budget) lawful.dyes.1 (result_fits l lawful budget few) in
    omega (arith, size.bytes, text, few)

pub result_is_read : (l : Land) → ResultIsRead l
result_is_read l lawful budget few = cert_again (length l.top.lo) (search_cert l budget) lawful.dyes.0 (result_fits l lawful budget few)

both_true : (a b : Bool) → a && b ≡ true → (a ≡ true) × (b ≡ true)
both_true true b h = (refl, h)
both_true false b h = absurd (false≢true h)

-- a recipe that passes neither fails nor is undecided
no_other : (g : Grade) → is_pass g ≡ true → (g ≡ fails) ⊎ (g ≡ unsure) → ⊥
no_other g h (inl e) = false≢true (sym (ap is_pass e) ∙ h)
no_other g h (inr e) = false≢true (sym (ap is_pass e) ∙ h)

module _ (l : Land) (lawful : IsLawful l) (budget : ℕ) where
  listed_unsure : (listed : List (List ℕ)) (steps : List ℕ) → All (IsUnsure l listed) listed → is_listed listed steps ≡ true → l.grade steps ≡ unsure
  listed_unsure listed steps h k =
      (All-contains (IsUnsure l listed) listed steps h (Contains-from_any (λ a b. (bytes_eq-Decides a b).0) steps listed k)).verdict

  holds : (claim : Claim) (listed : List (List ℕ)) → IsClaim l budget claim → Means l listed claim → ClaimHolds l budget claim
  holds (Match recipe) listed c m = (c.0, first_is l lawful recipe.items c.1)
  holds NoMatch listed c m = (c.0, subst (IsAnswer l) c.1 (answer l lawful))
  holds (Floor cost) listed c m = (c.0, dear) where
    dear : (steps : List ℕ) → IsWithin steps l.top → is_match l steps ≡ true → cost ≤ l.cost steps
    dear steps w h = elim (cases_lt (l.cost steps) cost) as (λ _. cost ≤ l.cost steps) [
      | inl less ↦
          let two = both_true (is_admitted l steps) (is_pass (l.grade steps)) h in
          absurd (elim (m.claimed steps w two.0 less) as (λ _. ⊥) [
            | inl e ↦ no_other (l.grade steps) two.1 (inl e)
            | inr e ↦ no_other (l.grade steps) two.1 (inr (listed_unsure listed steps m.unsure e))
          ])
      | inr more ↦ more
    ]

pub result_is_first : (l : Land) → ResultIsFirst l
result_is_first l lawful budget =
    let s = search_result l budget in
    holds l lawful budget s.claim s.listed (result_is_canonical l lawful budget).claimed (result_means l lawful budget)
