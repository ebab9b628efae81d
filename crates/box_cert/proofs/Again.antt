-- The spellings of lines, of listed recipes and of trees are read as these.
use Rattle.std.proofs.Common.{◌≡◌, ℕ, zero, suc, ◌+◌, ◌≤◌, Bool, true, false, not, All, List, [], ◌∷◌, ◌++◌, length, refl, sym, ap, ◌∙◌, arith, append_assoc, decimal, if◌then◌else◌}
use Rattle.std.specs.Prelude.{Option, Some, Ok, option_map, option_and_then}
use Rattle.std.proofs.lemmas.Bool.{false≢true}
use Rattle.std.proofs.lemmas.Bool.Decides.{nat_tests}
use Rattle.std.proofs.lemmas.List.Folds.{list_all-append}
use Rattle.box_core.specs.Ranges.{LineFits, StepsFit}
use Rattle.box_specs.specs.Validity.{are_trees}
use Rattle.box_specs.specs.declared.certificate.CertLine.{CertLine}
use Rattle.box_specs.specs.declared.certificate.CertLine.TheVariants.{Dear, Fail, Limit, Pass, Split, Undecided}
use Rattle.box_specs.specs.declared.certificate.CertRule.{CertRule}
use Rattle.box_specs.specs.declared.certificate.CertRule.TheVariants.{BadLine}
use Rattle.box_cert.specs.Lines.{cut_at, is_mark, line_of, number_before, numbers_at, recipe_of}
use Rattle.box_cert.specs.Numbers.{number_of}
use Rattle.box_cert.specs.LineTexts.{as_line, line_text, lines_text, numbers_text, recipes_text}
use Rattle.box_cert.specs.Reading.{◌>>=◌, lines_of, next_of, parts_of, cursor_of, recipes_at, line_result, trees_at}
use Rattle.box_cert.proofs.Prefixes.{onto, shape_on, trees_next}
use Rattle.box_cert.proofs.Numerals.{both, decimal_free, first_holds, has_no, number_again, rest_holds}
use Rattle.box_cert.proofs.TextLines.{lines_cut, split_at}

not_false : (q : Bool) → not q ≡ true → q ≡ false
not_false true h = absurd (false≢true h)
not_false false h = refl

same_mark : (mark : ℕ) → is_mark mark mark ≡ true
same_mark mark = grind (arith, nat_tests)

-- a text without the mark, then the mark and more, is cut at this mark
pub cut_again : (mark : ℕ) (w r : List ℕ) → has_no mark w ≡ true → cut_at mark (w ++ (mark ∷ r)) ≡ Some (w, r)
cut_again mark [] r h = ap (λ q. if q then Some ([], r) else option_map (λ s. (mark ∷ s.0, s.1)) (cut_at mark r)) (same_mark mark)
cut_again mark (b ∷ bs) r h =
    let n = not_false (is_mark mark b) (first_holds (not (is_mark mark b)) (has_no mark bs) h) in
    let e = cut_again mark bs r (rest_holds (not (is_mark mark b)) (has_no mark bs) h) in
    ap (λ q. if q then Some ([], bs ++ (mark ∷ r)) else option_map (λ s. (b ∷ s.0, s.1)) (cut_at mark (bs ++ (mark ∷ r)))) n ∙ ap (option_map (λ s. (b ∷ s.0, s.1))) e

pub appended : (mark : ℕ) (a b : List ℕ) → has_no mark a ≡ true → has_no mark b ≡ true → has_no mark (a ++ b) ≡ true
appended mark a b p q = list_all-append (λ x. not (is_mark mark x)) a b ∙ both (has_no mark a) (has_no mark b) p q

-- a number of steps is read back from its digits
small : (n : ℕ) → n ≤ 4000 → number_of 0 4000 (decimal n) ≡ Some n
small n h = number_again 0 4000 n (omega arith) h (omega arith)

head_fits : (n : ℕ) (ns : List ℕ) → StepsFit (n ∷ ns) → n ≤ 4000
head_fits n ns h = h 0 0 (omega arith)

tail_fits : (n : ℕ) (ns : List ℕ) → StepsFit (n ∷ ns) → StepsFit ns
tail_fits n ns h = λ k d l. h (suc k) d (omega arith)

-- numbers with one space between are read as those numbers
pub numbers_again : (k : ℕ) (ns : List ℕ) → length ns ≡ suc k → StepsFit ns → numbers_at k (numbers_text ns) ≡ Some ns
numbers_again k [] e h = absurd (omega arith)
numbers_again zero (n ∷ []) e h = ap (option_map (λ x. x ∷ [])) (small n (head_fits n [] h))
numbers_again zero (n ∷ (m ∷ ns)) e h = absurd (omega arith)
numbers_again (suc k) (n ∷ []) e h = absurd (omega arith)
numbers_again (suc k) (n ∷ (m ∷ ns)) e h =
    let f = head_fits n (m ∷ ns) h in
    let rest = numbers_again k (m ∷ ns) (omega arith) (tail_fits n (m ∷ ns) h) in
    ap (option_and_then (λ r. number_before (number_of 0 4000 r.0) (numbers_at k r.1))) (cut_again 32 (decimal n) (numbers_text (m ∷ ns)) (decimal_free 32 n (omega arith) (omega arith)))
    ∙ ap (λ o. number_before o (numbers_at k (numbers_text (m ∷ ns)))) (small n f) ∙ ap (number_before (Some n)) rest

pub recipe_again : (dims : ℕ) (ns : List ℕ) → 1 ≤ dims → length ns ≡ dims → StepsFit ns → recipe_of dims (numbers_text ns) ≡ Some ns
recipe_again zero ns some e h = absurd (omega arith)
recipe_again (suc k) ns some e h = numbers_again k ns e h

pub numbers_free : (ns : List ℕ) → StepsFit ns → has_no 10 (numbers_text ns) ≡ true
numbers_free [] h = refl
numbers_free (n ∷ []) h = let f = head_fits n [] h in decimal_free 10 n (omega arith) (omega arith)
numbers_free (n ∷ (m ∷ ns)) h =
    let f = head_fits n (m ∷ ns) h in
    appended 10 (decimal n) (32 ∷ numbers_text (m ∷ ns)) (decimal_free 10 n (omega arith) (omega arith)) (numbers_free (m ∷ ns) (tail_fits n (m ∷ ns) h))

-- the spelling of a line of a tree is read as that line
pub line_again : (line : CertLine) → LineFits line → line_of (line_text line) ≡ Some line
unfolding line_text
line_again (Split dye mid) h =
    ap (option_and_then (λ r. option_and_then (λ d. option_map (λ m. Split d m) (number_of 0 4000 r.1)) (number_of 1 12 r.0))) (cut_again 32 (decimal dye) (decimal mid) (decimal_free 32 dye (omega arith) (omega (arith, h.1))))
    ∙ ap (option_and_then (λ d. option_map (λ m. Split d m) (number_of 0 4000 (decimal mid)))) (number_again 1 12 dye h.0 h.1 (omega (arith, h.1)))
    ∙ ap (option_map (λ m. Split dye m)) (small mid h.2)
line_again (Limit k) h = ap (option_map (λ n. Limit n)) (number_again 1 5 k h.0 h.1 (omega (arith, h.1)))
line_again (Fail j) h = ap (option_map (λ n. Fail n)) (number_again 1 4 j h.0 h.1 (omega (arith, h.1)))
line_again Dear h = refl
line_again Undecided h = refl
line_again Pass h = refl

pub line_free : (line : CertLine) → LineFits line → has_no 10 (line_text line) ≡ true
unfolding line_text
line_free (Split dye mid) h =
    appended 10 (decimal dye) (32 ∷ decimal mid) (decimal_free 10 dye (omega arith) (omega (arith, h.1))) (decimal_free 10 mid (omega arith) (omega (arith, h.2)))
line_free (Limit k) h = decimal_free 10 k (omega arith) (omega (arith, h.1))
line_free (Fail j) h = decimal_free 10 j (omega arith) (omega (arith, h.1))
line_free Dear h = refl
line_free Undecided h = refl
line_free Pass h = refl

-- a line with its line feed is the first of the lines of a text that begins with it
lines_again : (line text : List ℕ) → has_no 10 line ≡ true → lines_of (as_line line ++ text) ≡ (line ∷ (lines_of text).0, (lines_of text).1)
lines_again line text h =
    ap lines_of (append_assoc line (10 ∷ []) text) ∙ lines_cut (line ++ (10 ∷ text)) ∙ ap (split_at (line ++ (10 ∷ text))) (cut_again 10 line text h)

pub next_again : {A : Type 0} (rule : CertRule) (kind : List ℕ → Option A) (n : ℕ) (line text : List ℕ) (x : A) → has_no 10 line ≡ true → kind line ≡ Some x
    → next_of rule kind (cursor_of n (as_line line ++ text)) ≡ Ok (x, cursor_of (n + 1) text)
next_again rule kind n line text x h e =
    ap (λ r. next_of rule kind (record { number = n; lines = r.0; left = r.1 })) (lines_again line text h)
    ∙ ap (λ o. line_result n rule o (cursor_of (n + 1) text)) e

pub recipes_again : (dims n : ℕ) (xs : List (List ℕ)) (text : List ℕ) → 1 ≤ dims → All (λ s. length s ≡ dims) xs → All StepsFit xs
    → recipes_at dims (length xs) (cursor_of n (recipes_text xs ++ text)) ≡ Ok (xs, cursor_of (n + length xs) text)
recipes_again dims n [] text some len fits = let e : n ≡ n + 0 = omega arith in ap (λ k. Ok ([], cursor_of k text)) e
recipes_again dims n (x ∷ xs) text some len fits =
    let l : length x ≡ dims = len 0 [] (omega arith) in
    let f : StepsFit x = fits 0 [] (omega arith) in
    let e : (n + 1) + length xs ≡ n + suc (length xs) = omega arith in
    ap (λ t. recipes_at dims (suc (length xs)) (cursor_of n t)) (append_assoc (as_line (numbers_text x)) (recipes_text xs) text)
    ∙ ap (λ r. r >>= λ r. recipes_at dims (length xs) r.1 >>= λ rs. Ok (r.0 ∷ rs.0, rs.1))
    (next_again BadLine (recipe_of dims) n (numbers_text x) (recipes_text xs ++ text) x (numbers_free x f) (recipe_again dims x some l f))
    ∙ ap (onto x) (recipes_again dims (n + 1) xs text some (λ k d h. len (suc k) d (omega arith)) (λ k d h. fits (suc k) d (omega arith)))
    ∙ ap (λ k. Ok (x ∷ xs, cursor_of k text)) e

pub trees_again : (k n : ℕ) (ls : List CertLine) (text : List ℕ) → are_trees k ls ≡ true → All LineFits ls
    → trees_at k (cursor_of n (lines_text ls ++ text)) ≡ Ok (ls, cursor_of (n + length ls) text)
trees_again zero n [] text h fits = let e : n ≡ n + 0 = omega arith in ap (λ k. Ok ([], cursor_of k text)) e
trees_again (suc k) n [] text h fits = absurd (false≢true h)
trees_again zero n (l ∷ ls) text h fits = absurd (false≢true h)
trees_again (suc k) n (l ∷ ls) text h fits =
    let f : LineFits l = fits 0 Dear (omega arith) in
    let e : (n + 1) + length ls ≡ n + suc (length ls) = omega arith in
    let p = cursor_of n (as_line (line_text l) ++ (lines_text ls ++ text)) in
    ap (λ t. trees_at (suc k) (cursor_of n t)) (append_assoc (as_line (line_text l)) (lines_text ls) text)
    ∙ trees_next k n p.lines p.left
    ∙ ap (λ r. r >>= λ r. onto r.0 (trees_at (parts_of r.0 + k) r.1)) (next_again BadLine line_of n (line_text l) (lines_text ls ++ text) l (line_free l f) (line_again l f))
    ∙ ap (onto l) (trees_again (parts_of l + k) (n + 1) ls text (sym (shape_on k l ls) ∙ h) (λ i d j. fits (suc i) d (omega arith)))
    ∙ ap (λ k. Ok (l ∷ ls, cursor_of k text)) e
