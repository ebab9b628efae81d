-- The curves of a job, and the text of their file.
use Rattle.std.specs.Prelude.{ℕ, List, ◌∷◌, ◌++◌, String, codes, decimal, map, slice_index, string_bytes}
use Rattle.std.specs.List.{flat_map}
use Rattle.std.specs.Map.{keys_of}
use Rattle.std.specs.declared.alloc.Global.{Global}
use Rattle.spectral_tables.specs.CurveBook.{Book}
use Rattle.demo_jobs.specs.declared.dyes.DrawnDye.{DrawnDye}
use Rattle.demo_jobs.specs.Cloths.{dyed, indices, substrate}
use Rattle.demo_jobs.specs.Dyes.{drawn_dyes, hidden_recipe}
use Rattle.demo_jobs.specs.Lines.{number_field, table_text, wavelength_field}
use Rattle.demo_jobs.specs.Standard.{dyeing_units, standard}

-- the names of a dye and of a dyeing, by their numbers: d1, d1c1
unfoldable pub dye_name : ℕ → List ℕ
dye_name number = codes "d" ++ decimal number

unfoldable pub dyeing_name : ℕ → ℕ → List ℕ
dyeing_name dye number = dye_name dye ++ (codes "c" ++ decimal number)

-- a list of curves under owned names, as a book of curves
abbrev pub book_of : List (String Global × List ℕ) → Book
book_of entries = map (λ e. (string_bytes e.0, e.1)) entries

-- the curve of a dyeing, given as its number and its units, under its name
abbrev pub named_dyeing : DrawnDye → ℕ × ℕ → List ℕ × List ℕ
named_dyeing dye dyeing = (dyeing_name dye.number dyeing.0, dyed dye dyeing.1)

-- the four dyeings of a dye
unfoldable pub dye_book : DrawnDye → Book
dye_book dye = map (named_dyeing dye) dyeing_units

-- the curves of a job: those of the undyed cloth and of the standard, and then those of each dye
unfoldable pub job_book : List ℕ → Book
job_book draws =
    (codes "sub", substrate) ∷ (codes "std", standard (drawn_dyes draws) (hidden_recipe draws)) ∷ flat_map dye_book (drawn_dyes draws)

-- the reflectance of a curve at a wavelength index, in percent with four decimal places
abbrev pub percentage : ℕ → List ℕ × List ℕ → List ℕ
percentage index entry = number_field 4 (slice_index entry.1 index)

-- the record of a wavelength
unfoldable pub curve_record : Book → ℕ → List (List ℕ)
curve_record book index = wavelength_field index ∷ map (percentage index) book

-- the header with the names, and a record for each wavelength
unfoldable pub curve_records : Book → List (List (List ℕ))
curve_records book = (codes "nm" ∷ keys_of book) ∷ map (curve_record book) indices

-- the curve file
unfoldable pub curve_text : Book → List ℕ
curve_text book = table_text (curve_records book)
