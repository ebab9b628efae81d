-- The recipes of a list.
use Rattle.std.proofs.Common.{◌≡◌, ℕ, List, true}
use Rattle.std.specs.List.{Contains}
use Rattle.std.specs.Cmp.Lexicographic.{nat_list_eq_equiv}
use Rattle.std.proofs.lemmas.Map.Views.{Contains-from_any, list_any-from_Contains}
use Rattle.std.proofs.lemmas.Slice.Eq.{bytes_eq-Decides}
use Rattle.box_specs.specs.Validity.{is_listed}

pub listed_by : (rs : List (List ℕ)) (r : List ℕ) → Contains rs r → is_listed rs r ≡ true
listed_by rs r h = list_any-from_Contains nat_list_eq_equiv r rs h

pub listed_of : (rs : List (List ℕ)) (r : List ℕ) → is_listed rs r ≡ true → Contains rs r
listed_of rs r h = Contains-from_any (λ a b. (bytes_eq-Decides a b).0) r rs h
