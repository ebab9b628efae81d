-- The tables of a job as definitions see them, and as the code holds them.
use Rattle.std.proofs.Common.{◌≡◌, ℕ, List, [], ◌∷◌, map, ◌&&◌, ◌||◌, refl, ap, Bor, String, Global, string_bytes}
use Rattle.std.specs.List.{list_all, list_any}
use Rattle.std.specs.Map.{keys_of}
use Rattle.std.specs.Str.{bytes_eq}
use Rattle.toml.specs.declared.value.Value.{Value}
use Rattle.toml.specs.View.{members_view}
use Rattle.job_keys.specs.Keys.{has_only}

is_listed_view : (keys : List (Bor (List ℕ))) (key : List ℕ) → list_any (λ k. bytes_eq k.now key) keys ≡ list_any (λ k. bytes_eq k key) (map (λ k. k.now) keys)
is_listed_view [] key = refl
is_listed_view (k ∷ keys) key = ap (λ b. bytes_eq k.now key || b) (is_listed_view keys key)

pub has_only_view : (keys : List (Bor (List ℕ))) (entries : List (String Global × Value))
    → list_all (λ k. list_any (λ w. bytes_eq w.now (string_bytes k)) keys) (keys_of entries) ≡ has_only (map (λ k. k.now) keys) (members_view entries)
has_only_view keys [] = refl
has_only_view keys (entry ∷ entries) = λ i. is_listed_view keys (string_bytes entry.0) i && has_only_view keys entries i
