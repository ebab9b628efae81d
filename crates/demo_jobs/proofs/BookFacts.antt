-- The curves of a job, one by one.
use Rattle.std.proofs.Common.{◌≡◌, ℕ, List, [], ◌∷◌, String, map, refl, ap, string_bytes}
use Rattle.std.specs.Map.{keys_of}
use Rattle.std.specs.Prelude.{slice_index}
use Rattle.std.specs.declared.alloc.Global.{Global}
use Rattle.demo_jobs.specs.CurveText.{book_of, percentage}
use Rattle.demo_jobs.specs.Lines.{number_field}

-- the names of a book, from the owned names
pub names_are : (entries : List (String Global × List ℕ)) → map (λ e. string_bytes e.0) entries ≡ keys_of (book_of entries)
names_are [] = refl
names_are (e ∷ entries) = ap (λ (ks : List (List ℕ)). string_bytes e.0 ∷ ks) (names_are entries)

-- the percentages of a book, from the owned names
pub percentages_are : (index : ℕ) (entries : List (String Global × List ℕ)) → map (λ e. number_field 4 (slice_index e.1 index)) entries ≡ map (percentage index) (book_of entries)
percentages_are index [] = refl
percentages_are index (e ∷ entries) = ap (λ (fs : List (List ℕ)). number_field 4 (slice_index e.1 index) ∷ fs) (percentages_are index entries)
