-- A book that grows by one column at a time.
use Rattle.std.proofs.Common.{◌≡◌, ◌+◌, ◌<◌, ◌≤◌, ◌||◌, ℕ, suc, Bool, true, false, if◌then◌else◌, List, [], ◌∷◌, ◌++◌, length, get_or, take, drop, map, All, slice_index, refl, sym, ap, subst, ◌∙◌, add-one, arith}
use Rattle.std.specs.Global.{Vec}
use Rattle.std.specs.List.{IsDistinct, list_any}
use Rattle.std.specs.Map.{keys_of}
use Rattle.std.specs.Str.{bytes_eq}
use Rattle.std.proofs.lemmas.List.{get_or-map, length-map, length-take-le, take_all, take_more, drop_all}
use Rattle.std.proofs.lemmas.List.Elements.{All-push}
use Rattle.std.proofs.lemmas.Map.Entries.{length-keys_of}
use Rattle.std.proofs.Math.Seq.{drop-cons}
use Rattle.indexmap.specs.IndexMap.{insert_entry}
use Rattle.spectral_tables.specs.Curve.{IsCurve}
use Rattle.spectral_tables.specs.CurveBook.{Book, IsBook, book_of, wave_count}
use Rattle.spectral_tables.specs.CurveFile.{column_of, curves_under}
use Rattle.spectral_tables.specs.Rule.{Rule, IsRow}
use Rattle.spectral_tables.proofs.NameFacts.{differs_from_earlier}

-- each row of the list satisfies its invariant
pub row-at : (rule : Rule) (names : List (List ℕ)) (rows : List (Vec ℕ)) → All (IsRow rule names) (map (λ row. row.items) rows) → (k : ℕ) (d : Vec ℕ) → k < length rows → IsRow rule names (get_or rows k d).items
row-at rule names rows h k d lt = subst (IsRow rule names) (get_or-map (λ (row : Vec ℕ). row.items) rows k d [] lt) (h k [] (rw length-map lt))

pub column_of-rows : (column : ℕ) (rows : List (Vec ℕ)) → column_of column (map (λ row. row.items) rows) ≡ map (λ row. slice_index row.items column) rows
column_of-rows column [] = refl
column_of-rows column (r ∷ rs) = ap (λ (xs : List ℕ). slice_index r.items column ∷ xs) (column_of-rows column rs)

-- the columns that are in the book so far, the first `i` of them
pub record Holds (rows names : List (List ℕ)) (i : ℕ) (book : Book) : Type 0 where
  pub so_far : curves_under book rows (drop i names) ≡ curves_under [] rows names
  pub names_are : keys_of book ≡ take i names
  pub curves : All (λ e. IsCurve e.1) book
  pub equal : All (λ e. length e.1 ≡ length rows) book

pub holds-none : (rows names : List (List ℕ)) → Holds rows names 0 []
holds-none rows names = record { so_far = refl; names_are = refl; curves = λ k d lt. absurd (omega arith); equal = λ k d lt. absurd (omega arith) }

keys_of-push : (book : Book) (e : List ℕ × List ℕ) → keys_of (book ++ e ∷ []) ≡ keys_of book ++ e.0 ∷ []
keys_of-push [] e = refl
keys_of-push (b ∷ bs) e = ap (λ (xs : List (List ℕ)). b.0 ∷ xs) (keys_of-push bs e)

pub holds-more : (rows names : List (List ℕ)) (i : ℕ) (book : Book) (name : List ℕ) → i < length names → get_or names i [] ≡ name → IsCurve (column_of i rows) → Holds rows names i book
    → Holds rows names (i + 1) (book ++ (name, column_of i rows) ∷ [])
holds-more rows names i book name lt here curve h =
    let many : length book ≡ i = sym (length-keys_of book) ∙ ap length h.names_are ∙ length-take-le i names (omega arith) in
    let rest : drop i names ≡ name ∷ drop (suc i) names = drop-cons names i [] lt ∙ ap (λ (n : List ℕ). n ∷ drop (suc i) names) here in
    record {
      so_far = rw add-one (sym (ap (λ (n : ℕ). curves_under (book ++ (name, column_of n rows) ∷ []) rows (drop (suc i) names)) many) ∙ ap (curves_under book rows) (sym rest) ∙ h.so_far);
      names_are = keys_of-push book (name, column_of i rows) ∙ ap (λ (ns : List (List ℕ)). ns ++ name ∷ []) h.names_are ∙ sym (take_more names i [] lt ∙ ap (λ (n : List ℕ). take i names ++ n ∷ []) here);
      curves = All-push (λ (e : List ℕ × List ℕ). IsCurve e.1) book (name, column_of i rows) h.curves curve;
      equal = All-push (λ (e : List ℕ × List ℕ). length e.1 ≡ length rows) book (name, column_of i rows) h.equal (length-map rows (λ values. slice_index values i));
    }

pub holds-all : (rows names : List (List ℕ)) (i : ℕ) (book : Book) → length names ≤ i → Holds rows names i book → book ≡ curves_under [] rows names
holds-all rows names i book le h = ap (curves_under book rows) (sym (drop_all i names le)) ∙ h.so_far

same_count : (n : ℕ) (book : Book) → All (λ e. length e.1 ≡ n) book → All (λ e. length e.1 ≡ wave_count book) book
same_count n [] h = λ k d lt. absurd (omega arith)
same_count n (e ∷ es) h = λ k d lt. h k d lt ∙ sym (h 0 e (omega arith))

first_count : (n : ℕ) (book : Book) → 1 ≤ length book → All (λ e. length e.1 ≡ n) book → wave_count book ≡ n
first_count n [] some h = absurd (omega arith)
first_count n (e ∷ es) some h = h 0 e (omega arith)

pub holds-book : (rows names : List (List ℕ)) (i : ℕ) (book : Book) → 1 ≤ length names → length names ≤ i → IsDistinct bytes_eq names → Holds rows names i book → IsBook book
holds-book rows names i book nonempty le distinct h =
    record {
      some = let all = sym (length-keys_of book) ∙ ap length (h.names_are ∙ take_all i names le) in omega (arith, all, nonempty);
      distinct = subst (IsDistinct bytes_eq) (sym (h.names_are ∙ take_all i names le)) distinct;
      curves = h.curves;
      equal = same_count (length rows) book h.equal;
    }

-- the curves have a place for each row
pub holds-waves : (rows names : List (List ℕ)) (i : ℕ) (book : Book) → 1 ≤ length names → length names ≤ i → Holds rows names i book → wave_count book ≡ length rows
holds-waves rows names i book nonempty le h =
    let all = sym (length-keys_of book) ∙ ap length (h.names_are ∙ take_all i names le) in
    first_count (length rows) book (omega (arith, all, nonempty)) h.equal

-- a name that the book does not have yet is inserted at its end
insert-last : (entries : List (Vec ℕ × List ℕ)) (name : Vec ℕ) (curve : List ℕ) → list_any (bytes_eq name.items) (keys_of (book_of entries)) ≡ false
    → book_of (insert_entry (λ x y. bytes_eq x.items y.items) entries name curve) ≡ book_of entries ++ (name.items, curve) ∷ []
insert-last [] name curve h = refl
insert-last (e ∷ es) name curve h = by (bytes_eq name.items e.0.items) h (insert-last es name curve)
  where
    by : (b : Bool) → (b || list_any (bytes_eq name.items) (keys_of (book_of es))) ≡ false
        → (list_any (bytes_eq name.items) (keys_of (book_of es)) ≡ false → book_of (insert_entry (λ x y. bytes_eq x.items y.items) es name curve) ≡ book_of es ++ (name.items, curve) ∷ [])
        → book_of (if b then (e.0, curve) ∷ es else e ∷ insert_entry (λ x y. bytes_eq x.items y.items) es name curve) ≡ (e.0.items, e.1) ∷ (book_of es ++ (name.items, curve) ∷ [])
    by true h rest = absurd cc
    by false h rest = ap (λ (b : Book). (e.0.items, e.1) ∷ b) (rest h)

-- the next column under the next name
pub holds-inserted : (rows names : List (List ℕ)) (i : ℕ) (entries new : List (Vec ℕ × List ℕ)) (name : Vec ℕ) → i < length names → get_or names i [] ≡ name.items → IsDistinct bytes_eq names
    → IsCurve (column_of i rows) → new ≡ insert_entry (λ x y. bytes_eq x.items y.items) entries name (column_of i rows) → Holds rows names i (book_of entries) → Holds rows names (i + 1) (book_of new)
holds-inserted rows names i entries new name lt here distinct curve is h =
    let differs : list_any (bytes_eq name.items) (keys_of (book_of entries)) ≡ false = rw (h.names_are, ← here) (differs_from_earlier names i [] lt distinct) in
    subst (Holds rows names (i + 1)) (sym (ap book_of is ∙ insert-last entries name (column_of i rows) differs)) (holds-more rows names i (book_of entries) name.items lt here curve h)
