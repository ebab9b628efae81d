-- The forms that the words of a command line may have.
use Rattle.std.specs.Prelude.{ℕ, List, [], ◌∷◌, Option, None, option_map, codes, if◌then◌else◌}
use Rattle.std.specs.Str.{bytes_eq}
use Rattle.dye_run.specs.Demo.{demo_words}
use Rattle.dye_run.specs.Diff.{DiffWords, diff_words}
use Rattle.dye_run.specs.Ks.{KsWords, ks_words}
use Rattle.dye_run.specs.Show.{ShowWords, show_words}
use Rattle.dye_run.specs.Words.{CertWords, LitColumn, cert_words, lit_column_of}

-- a command with its words
pub data Form : Type 0 where
  ks : KsWords → Form
  xyz : LitColumn → Form
  lab : LitColumn → Form
  diff : DiffWords → Form
  show : ShowWords → Form
  predict : CertWords → Form
  correct : CertWords → Form
  check : CertWords → Form
  demo : (number : ℕ) → Form

-- the form of the words after the program's name, if they have one
abbrev pub form_of : List (List ℕ) → Option Form
form_of [] = None
form_of (command ∷ words) =
    if bytes_eq command (codes "ks") then option_map ks (ks_words words)
    else (if bytes_eq command (codes "xyz") then option_map xyz (lit_column_of words)
    else (if bytes_eq command (codes "lab") then option_map lab (lit_column_of words)
    else (if bytes_eq command (codes "diff") then option_map diff (diff_words words)
    else (if bytes_eq command (codes "show") then option_map show (show_words words)
    else (if bytes_eq command (codes "predict") then option_map predict (cert_words words)
    else (if bytes_eq command (codes "correct") then option_map correct (cert_words words)
    else (if bytes_eq command (codes "check") then option_map check (cert_words words)
    else (if bytes_eq command (codes "demo") then option_map demo (demo_words words)
    else None))))))))
