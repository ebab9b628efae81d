-- Parts of a job that have a name.
use Rattle.std.specs.Prelude.{ℕ, Bool, List}
use Rattle.std.specs.List.{list_any}
use Rattle.std.specs.Str.{bytes_eq}

-- some part has the name
abbrev pub has_named : {A : Type 0} → (A → List ℕ) → List A → List ℕ → Bool
has_named name_of parts text = list_any (λ part. bytes_eq (name_of part) text) parts
