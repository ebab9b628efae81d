-- The recipes of a certificate as plain lists, and as the code holds them.
use Rattle.std.proofs.Common.{◌≡◌, ◌≤◌, ℕ, zero, suc, List, [], ◌∷◌, ◌++◌, length, map, flat_map, get_or, refl, ap, arith, subst, All}
use Rattle.arrayvec.specs.ArrayVec.{ArrayVec}
use Rattle.box_core.specs.declared.cert.Cert.{Cert}
use Rattle.box_core.specs.Ranges.{AreOfLength, HaveOneLength, recipes_of}
use Rattle.box_specs.specs.declared.certificate.Claim.{Claim}
use Rattle.box_specs.specs.declared.certificate.Claim.TheVariants.{Floor, Match, NoMatch}
use Rattle.box_cert.specs.Claims.{HasDims, HasNumbers}
use Rattle.box_cert.specs.LineTexts.{as_line, numbers_text, recipes_text}
use Rattle.box_cert.specs.Spelling.{content}
use Rattle.box_cert.specs.Text.{HaveDyes, IsCertFor}

-- the spelling of recipes as the code holds them is that of plain lists
pub recipes_same : (rs : List (ArrayVec ℕ)) → flat_map (λ (s : ArrayVec ℕ). as_line (numbers_text s.items)) rs ≡ recipes_text (map (λ s. s.items) rs)
recipes_same [] = refl
recipes_same (r ∷ rs) = ap (λ t. as_line (numbers_text r.items) ++ t) (recipes_same rs)

pub claim_has : (claim : Claim) (listed : List (List ℕ)) → HaveOneLength claim listed → HasNumbers claim
claim_has (Match recipe) listed h = h.some
claim_has NoMatch listed h = tt
claim_has (Floor cost) listed h = tt

pub listed_have : (claim : Claim) (listed : List (List ℕ)) → HaveOneLength claim listed → All (λ s. 1 ≤ length s) listed
listed_have (Match recipe) listed h = λ k d l. let e = h.each (suc k) d (omega arith) in omega (arith, h.some, e)
listed_have NoMatch listed h = λ k d l. let e = h.each k d l in omega (arith, h.some, e)
listed_have (Floor cost) listed h = λ k d l. let e = h.each k d l in omega (arith, h.some, e)

get_map : (rs : List (ArrayVec ℕ)) (k : ℕ) (d : ArrayVec ℕ) → get_or (map (λ s. s.items) rs) k d.items ≡ (get_or rs k d).items
get_map [] k d = refl
get_map (r ∷ rs) zero d = refl
get_map (r ∷ rs) (suc k) d = get_map rs k d

pub length_map : (rs : List (ArrayVec ℕ)) → length (map (λ s. s.items) rs) ≡ length rs
length_map [] = refl
length_map (r ∷ rs) = ap suc (length_map rs)

-- what holds of recipes as plain lists, of recipes as the code holds them
pub all_items : (P : List ℕ → Type 0) (rs : List (ArrayVec ℕ)) → All P (map (λ s. s.items) rs) → All (λ (s : ArrayVec ℕ). P s.items) rs
all_items P rs h = λ k d l. let e = length_map rs in subst P (get_map rs k d) (h k d.items (omega arith))

claim_dims : (dims : ℕ) (claim : Claim) (listed : List (List ℕ)) → AreOfLength dims (recipes_of claim listed) → HasDims dims claim
claim_dims dims (Match recipe) listed h = h.each 0 recipe.items (omega arith)
claim_dims dims NoMatch listed h = tt
claim_dims dims (Floor cost) listed h = tt

listed_dims : (dims : ℕ) (claim : Claim) (listed : List (List ℕ)) → AreOfLength dims (recipes_of claim listed) → All (λ s. length s ≡ dims) listed
listed_dims dims (Match recipe) listed h = λ k d l. h.each (suc k) d (omega arith)
listed_dims dims NoMatch listed h = h.each
listed_dims dims (Floor cost) listed h = h.each

-- the content of a value of type Cert meets the premise of the law that its text is read as itself
pub cert_fits : (cert : Cert) (dims : ℕ) → HaveDyes dims (content cert) → IsCertFor dims (content cert)
cert_fits cert dims h = record {
  numbers = cert.numbers.0;
  claim = claim_dims dims cert.claim cert.undecided h;
  few = cert.few;
  listed = record { many = refl; each = listed_dims dims cert.claim cert.undecided h; fits = cert.numbers.1 };
  tree = record { whole = cert.whole; short = cert.short; fits = cert.numbers.2 };
}
