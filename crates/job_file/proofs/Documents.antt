-- The table of a TOML document.
use Rattle.std.proofs.Common.{◌≡◌, ℕ, List, Bool, true, false, cond, refl, ap, ◌∙◌}
use Rattle.std.specs.Prelude.{Some, None}
use Rattle.std.specs.Str.{IsUtf8, is_utf8}
use Rattle.std.proofs.lemmas.Str.{IsUtf8-from_is_utf8, is_utf8-from_IsUtf8}
use Rattle.toml.specs.Data.{Members}
use Rattle.toml.specs.Parse.{parse_document}
use Rattle.job_file.specs.Job.{tree_of}

pub tree_found : (text : List ℕ) (tree : Members) → IsUtf8 text → parse_document text ≡ Some tree → tree_of text ≡ Some tree
tree_found text tree u p = ap (λ b. cond b (parse_document text) None) (is_utf8-from_IsUtf8 text u) ∙ p

pub tree_lost : (text : List ℕ) → (IsUtf8 text → parse_document text ≡ None) → tree_of text ≡ None
tree_lost text h = go (is_utf8 text) refl where
  go : (b : Bool) → is_utf8 text ≡ b → cond b (parse_document text) None ≡ None
  go true e = h (IsUtf8-from_is_utf8 text e)
  go false e = refl
