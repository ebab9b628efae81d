-- Words of a command line.
use Rattle.std.specs.Prelude.{ℕ, Bool, List, [], ◌∷◌, Option, Some, None, codes, length, nat_le, not, ◌==◌, ◌&&◌, if◌then◌else◌}
use Rattle.std.specs.List.{ends_with}
use Rattle.dec_text.specs.Whole.{whole_number}

-- a word that names a file has 1 to 255 bytes
abbrev pub is_file_word : List ℕ → Bool
is_file_word word = nat_le 1 (length word) && nat_le (length word) 255

-- a word that names a certificate names a file, and ends with `.cert`
abbrev pub is_cert_word : List ℕ → Bool
is_cert_word word = is_file_word word && ends_with ◌==◌ word (codes ".cert")

-- a word that names a job names a file, and does not end with `.cert`
abbrev pub is_job_word : List ℕ → Bool
is_job_word word = is_file_word word && not (ends_with ◌==◌ word (codes ".cert"))

-- a job and a certificate
pub record CertWords : Type 0 where
  pub job : List ℕ
  pub cert : List ℕ

-- JOB CERT
abbrev pub cert_words : List (List ℕ) → Option CertWords
cert_words (job ∷ cert ∷ []) = if is_job_word job && is_cert_word cert then Some (record { job = job; cert = cert }) else None
cert_words words = None

-- a number, if it is in a range
abbrev pub in_number_range : ℕ → ℕ → Option ℕ → Option ℕ
in_number_range low high (Some n) = if nat_le low n && nat_le n high then Some n else None
in_number_range low high None = None

-- the number that a word of one to nine digits spells, if it is in a range
unfoldable pub number_in : ℕ → ℕ → List ℕ → Option ℕ
number_in low high word = in_number_range low high (whole_number 9 word)

-- a column of a curve file, under the light of a weights file
pub record LitColumn : Type 0 where
  pub curves : List ℕ
  pub column : List ℕ
  pub weights : List ℕ

-- CURVES COLUMN WEIGHTS
abbrev pub lit_column_of : List (List ℕ) → Option LitColumn
lit_column_of (curves ∷ column ∷ weights ∷ []) =
    if is_file_word curves && is_file_word weights then Some (record { curves = curves; column = column; weights = weights }) else None
lit_column_of words = None
