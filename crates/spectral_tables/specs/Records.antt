-- The records of a table file.
use Rattle.std.specs.Prelude.{⊤, ℕ, Bool, false, List, [], ◌∷◌, map}
use Rattle.std.specs.Str.{bytes_eq}
use Rattle.csv.specs.Reading.{records, default_config, strip_bom}
use Rattle.csv.specs.declared.error.ErrorKind.{ErrorKind}
use Rattle.csv.specs.declared.error.ErrorKind.TheVariants.{Deserialize, Io, OutOfMemory, Serialize, UnequalLengths, Utf8}
use Rattle.spectral_tables.specs.Trim.{trimmed}

-- a table: its records in turn, each a list of fields
abbrev pub Table : Type 0
Table = List (List (List ℕ))

-- The records of a file. One byte order mark is removed here, and `csv` removes another one if
-- there is one.
unfoldable pub records_of : List ℕ → Table
records_of bytes = records default_config (strip_bom (strip_bom bytes))

-- the fields of a record without the blanks around each
abbrev pub trimmed_fields : List (List ℕ) → List (List ℕ)
trimmed_fields fields = map trimmed fields

-- Is the first field this text?
abbrev pub begins_with : List ℕ → List (List ℕ) → Bool
begins_with text [] = false
begins_with text (first ∷ _) = bytes_eq text first

-- the first field, or no bytes
abbrev pub first_field : List (List ℕ) → List ℕ
first_field [] = []
first_field (first ∷ _) = first

-- an error that a flexible reader over bytes may return: out of memory, or an error of its source
abbrev pub CanRefuseBytes : ErrorKind → Type 0
CanRefuseBytes OutOfMemory = ⊤
CanRefuseBytes (Io e) = ⊤
CanRefuseBytes (UnequalLengths pos expected len) = ⊥
CanRefuseBytes (Utf8 pos err) = ⊥
CanRefuseBytes (Serialize text) = ⊥
CanRefuseBytes (Deserialize pos err) = ⊥
