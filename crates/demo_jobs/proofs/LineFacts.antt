-- Lines, field by field, and tables, record by record.
use Rattle.std.proofs.Common.{◌≡◌, ◌+◌, ◌<◌, ◌≤◌, ℕ, List, [], ◌∷◌, ◌++◌, length, drop, get_or, map, sym, ap, ◌∙◌, append_assoc, add-one, arith}
use Rattle.std.specs.List.{flat_map, range_with_len}
use Rattle.std.proofs.Math.Seq.{drop-cons}
use Rattle.std.proofs.lemmas.List.{append-nil, drop_all}
use Rattle.std.proofs.lemmas.List.Concat.{flat_map-append}
use Rattle.std.proofs.lemmas.List.FromFn.{map-range_with_len_more}
use Rattle.demo_jobs.specs.Lines.{after_commas, line, table_text}

-- the items from an index on, where the item at the index is known
from_item : {A : Type 0} (xs : List A) (k : ℕ) (x : A) → k < length xs → x ≡ get_or xs k x → drop k xs ≡ x ∷ drop (k + 1) xs
from_item {A = A} xs k x h is =
    let split : drop k xs ≡ get_or xs k x ∷ drop (k + 1) xs = rw (add-one k) (drop-cons xs k x h) in
    split ∙ ap (λ (y : A). y ∷ drop (k + 1) xs) (sym is)

module _ {A : Type 0} (f : A → List ℕ) (xs : List A) (k : ℕ) (text : List ℕ) {all : List ℕ} where
  -- one more field
  pub fields_more : (x : A) (new : List ℕ) → k < length xs → x ≡ get_or xs k x → text ++ after_commas (map f (drop k xs)) ≡ all → new ≡ text ++ 44 ∷ f x
      → new ++ after_commas (map f (drop (k + 1) xs)) ≡ all
  unfolding after_commas
  fields_more x new h at so_far is =
      let rest = after_commas (map f (drop (k + 1) xs)) in
      let e : after_commas (map f (drop k xs)) ≡ 44 ∷ f x ++ rest = ap (λ (ys : List A). after_commas (map f ys)) (from_item xs k x h at) in
      ap (λ (t : List ℕ). t ++ rest) is ∙ append_assoc text (44 ∷ f x) rest ∙ ap (λ (t : List ℕ). text ++ t) (sym e) ∙ so_far

  -- no field is left
  pub fields_end : length xs ≤ k → text ++ after_commas (map f (drop k xs)) ≡ all → text ≡ all
  unfolding after_commas
  fields_end h so_far =
      let e : after_commas (map f (drop k xs)) ≡ [] = ap (λ (ys : List A). after_commas (map f ys)) (drop_all k xs h) in
      sym (append-nil text) ∙ ap (λ (t : List ℕ). text ++ t) (sym e) ∙ so_far

-- a whole line, whose fields were appended one by one
pub whole_line : (old first text new : List ℕ) (fields : List (List ℕ)) → text ≡ (old ++ first) ++ after_commas fields → new ≡ text ++ 10 ∷ [] → new ≡ old ++ line (first ∷ fields)
unfolding line
whole_line old first text new fields is ends =
    ends ∙ ap (λ (t : List ℕ). t ++ 10 ∷ []) is ∙ append_assoc (old ++ first) (after_commas fields) (10 ∷ []) ∙ append_assoc old first (after_commas fields ++ 10 ∷ [])

-- one more record
pub records_more : (header : List (List ℕ)) (record_of : ℕ → List (List ℕ)) (index : ℕ) (text new : List ℕ) → text ≡ table_text (header ∷ map record_of (range_with_len 0 index))
    → new ≡ text ++ line (record_of index) → new ≡ table_text (header ∷ map record_of (range_with_len 0 (index + 1)))
unfolding table_text
records_more header record_of index text new so_far is =
    let done = map record_of (range_with_len 0 index) in
    let next : map record_of (range_with_len 0 (index + 1)) ≡ done ++ record_of index ∷ [] = map-range_with_len_more record_of 0 index index (omega arith) in
    let apart : flat_map line (done ++ record_of index ∷ []) ≡ flat_map line done ++ line (record_of index) = flat_map-append line done (record_of index ∷ []) ∙ ap (λ (t : List ℕ). flat_map line done ++ t) (append-nil (line (record_of index))) in
    is ∙ ap (λ (t : List ℕ). t ++ line (record_of index)) so_far ∙ append_assoc (line header) (flat_map line done) (line (record_of index))
    ∙ ap (λ (t : List ℕ). line header ++ t) (sym apart) ∙ ap (λ (rs : List (List (List ℕ))). line header ++ flat_map line rs) (sym next)

-- a last record
pub record_last : (records : List (List (List ℕ))) (last : List (List ℕ)) (text new : List ℕ) → text ≡ table_text records → new ≡ text ++ line last → new ≡ table_text (records ++ last ∷ [])
unfolding table_text
record_last records last text new so_far is =
    is ∙ ap (λ (t : List ℕ). t ++ line last) so_far ∙ ap (λ (t : List ℕ). flat_map line records ++ t) (sym (append-nil (line last))) ∙ sym (flat_map-append line records (last ∷ []))

-- a table with only a header
pub header_alone : (header : List (List ℕ)) → line header ≡ table_text (header ∷ [])
unfolding table_text
header_alone header = sym (append-nil (line header))
