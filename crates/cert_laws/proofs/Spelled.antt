-- The length of the text of a certificate.
use Rattle.std.proofs.Common.{◌≡◌, ◌+◌, ◌*◌, ◌≤◌, ℕ, List, [], ◌∷◌, ◌++◌, length, decimal, length-append, arith}
use Rattle.std.specs.Prelude.{codes}
use Rattle.std.specs.List.{AllByRecursion}
use Rattle.std.proofs.lemmas.Fmt.{length-decimal-le}
use Rattle.std.proofs.lemmas.List.Elements.{recursion_from_All}
use Rattle.box_specs.specs.declared.certificate.CertLine.{CertLine}
use Rattle.box_specs.specs.declared.certificate.CertLine.TheVariants.{Dear, Fail, Limit, Pass, Split, Undecided}
use Rattle.box_specs.specs.declared.certificate.Claim.{Claim}
use Rattle.box_specs.specs.declared.certificate.Claim.TheVariants.{Floor, Match, NoMatch}
use Rattle.box_core.specs.Ranges.{ClaimFits, LineFits, StepsFit}
use Rattle.box_cert.specs.Claims.{HasDims, claim_text}
use Rattle.box_cert.specs.Form.{count_text}
use Rattle.box_cert.specs.LineTexts.{as_line, line_text, lines_text, numbers_text, recipes_text}
use Rattle.box_cert.specs.Spelling.{Content, cert_text, front_text, undecided}
use Rattle.box_cert.specs.Text.{IsCertFor}
use Rattle.cert_laws.proofs.Sizes.{line_size, total}

small : (n : ℕ) → n ≤ 4000 → length (decimal n) ≤ 4
small n h = length-decimal-le 4 n (omega arith) (omega (arith, h)) (omega (arith, h))

-- numbers of up to 4,000, each with the byte after it, take at most five bytes each
numbers_short : (n : ℕ) (ns : List ℕ) → AllByRecursion (λ m. m ≤ 4000) (n ∷ ns) → length (numbers_text (n ∷ ns)) + 1 ≤ 5 * length (n ∷ ns)
numbers_short n [] h =
    let one = small n h.0 in
    omega (arith, one)
numbers_short n (m ∷ ns) h =
    let one = small n h.0 in
    let rest = numbers_short m ns h.1 in
    let all = length-append (decimal n) (32 ∷ numbers_text (m ∷ ns)) in
    omega (arith, one, rest, all)

ended_long : (line : List ℕ) → length (as_line line) ≡ length line + 1
ended_long line = length-append line (10 ∷ [])

recipe_short : (ns : List ℕ) → AllByRecursion (λ m. m ≤ 4000) ns → length ns ≤ 12 → length (as_line (numbers_text ns)) ≤ 60
recipe_short [] h k = omega arith
recipe_short (n ∷ ns) h k =
    let text = numbers_short n ns h in
    let all = ended_long (numbers_text (n ∷ ns)) in
    omega (arith, text, all, k)

recipes_short : (rs : List (List ℕ)) → AllByRecursion StepsFit rs → AllByRecursion (λ r. length r ≤ 12) rs → length (recipes_text rs) ≤ 60 * length rs
recipes_short [] h k = omega arith
recipes_short (r ∷ rs) h k =
    let one = recipe_short r (recursion_from_All (λ m. m ≤ 4000) r h.0) k.0 in
    let rest = recipes_short rs h.1 k.1 in
    let all = length-append (as_line (numbers_text r)) (recipes_text rs) in
    omega (arith, one, rest, all)

line_short : (x : CertLine) → LineFits x → length (line_text x) + 1 ≤ line_size x
unfolding line_text
line_short (Split dye mid) h =
    let one = length-decimal-le 2 dye (omega arith) (omega (arith, h.1)) (omega (arith, h.1)) in
    let two = small mid h.2 in
    let all = length-append (decimal dye) (32 ∷ decimal mid) in
    omega (arith, one, two, all)
line_short (Limit k) h =
    let one = length-decimal-le 1 k (omega arith) (omega (arith, h.1)) (omega (arith, h.1)) in
    omega (arith, one)
line_short (Fail j) h =
    let one = length-decimal-le 1 j (omega arith) (omega (arith, h.1)) (omega (arith, h.1)) in
    omega (arith, one)
line_short Dear h = omega arith
line_short Undecided h = omega arith
line_short Pass h = omega arith

lines_short : (xs : List CertLine) → AllByRecursion LineFits xs → length (lines_text xs) ≤ total line_size xs
lines_short [] h = omega arith
lines_short (x ∷ xs) h =
    let one = line_short x h.0 in
    let rest = lines_short xs h.1 in
    let line = ended_long (line_text x) in
    let all = length-append (as_line (line_text x)) (lines_text xs) in
    omega (arith, one, rest, line, all)

claim_short : (claim : Claim) (dims : ℕ) → ClaimFits claim → HasDims dims claim → dims ≤ 12 → length (as_line (claim_text claim)) ≤ 66
claim_short (Match recipe) dims h k d =
    let one = recipe_short recipe.items (recursion_from_All (λ m. m ≤ 4000) recipe.items h) (omega (arith, k, d)) in
    let text = ended_long (numbers_text recipe.items) in
    let keyword = length-append (codes "match ") (numbers_text recipe.items) in
    let all = ended_long (claim_text (Match recipe)) in
    omega (arith, one, text, keyword, all)
claim_short NoMatch dims h k d = omega arith
claim_short (Floor cost) dims h k d =
    let one = length-decimal-le 16 cost (omega arith) (omega (arith, h)) (omega (arith, h)) in
    let keyword = length-append (codes "floor ") (decimal cost) in
    let all = ended_long (claim_text (Floor cost)) in
    omega (arith, one, keyword, all)

count_short : (n : ℕ) → n ≤ 1000000 → length (as_line (count_text undecided n)) ≤ 18
count_short n h =
    let one = length-decimal-le 7 n (omega arith) (omega (arith, h)) (omega (arith, h)) in
    let keyword = length-append (codes "undecided") (32 ∷ decimal n) in
    let all = ended_long (count_text undecided n) in
    omega (arith, one, keyword, all)

-- a certificate for up to 12 dyes has at most 100 bytes for its first three lines, 60 for each
-- listed recipe, and the sizes of the lines of its tree
pub cert_short : (dims : ℕ) (c : Content) → dims ≤ 12 → IsCertFor dims c → length (cert_text c) ≤ 100 + 60 * length c.listed + total line_size c.lines
unfolding cert_text front_text
cert_short dims c few h =
    let header = as_line (codes "dye-cert 1") in
    let claim = as_line (claim_text c.claim) in
    let number = as_line (count_text undecided (length c.listed)) in
    let head = (header ++ claim) ++ number in
    let one = claim_short c.claim dims h.numbers h.claim few in
    let two = count_short (length c.listed) h.few in
    let three = recipes_short c.listed (recursion_from_All StepsFit c.listed h.listed.fits) (short_each c.listed (recursion_from_All (λ r. length r ≡ dims) c.listed h.listed.each)) in
    let four = lines_short c.lines (recursion_from_All LineFits c.lines h.tree.fits) in
    let a = length-append header claim in
    let b = length-append (header ++ claim) number in
    let d = length-append head (recipes_text c.listed) in
    let e = length-append (head ++ recipes_text c.listed) (lines_text c.lines) in
    omega (arith, one, two, three, four, a, b, d, e)
  where
    short_each : (rs : List (List ℕ)) → AllByRecursion (λ r. length r ≡ dims) rs → AllByRecursion (λ r. length r ≤ 12) rs
    short_each [] k = tt
    short_each (r ∷ rs) k = (omega (arith, k.0, few), short_each rs k.1)
