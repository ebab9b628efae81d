-- Small certificates, for the tests: recipes of one dye.
use Rattle.std.specs.Prelude.{◌&&◌, ℕ, Bool, true, false, nat_le, List, [], ◌∷◌, length}
use Rattle.std.specs.List.{list_all}
use Rattle.box_specs.specs.declared.certificate.CertLine.{CertLine}
use Rattle.box_specs.specs.declared.certificate.CertLine.TheVariants.{Dear, Fail, Limit, Pass, Split, Undecided}
use Rattle.box_specs.specs.declared.certificate.Claim.{Claim}
use Rattle.box_specs.specs.declared.certificate.Claim.TheVariants.{Floor, Match, NoMatch}
use Rattle.box_specs.specs.Validity.{are_trees}

-- a recipe of one dye
abbrev pub is_recipe : List ℕ → Bool
is_recipe [] = false
is_recipe (n ∷ []) = nat_le n 4000
is_recipe (n ∷ (m ∷ steps)) = false

abbrev pub is_claim : Claim → Bool
is_claim (Match recipe) = is_recipe recipe.items
is_claim NoMatch = true
is_claim (Floor cost) = nat_le cost 1000

abbrev pub is_line : CertLine → Bool
is_line (Split dye mid) = nat_le 1 dye && nat_le dye 12 && nat_le mid 4000
is_line (Limit k) = nat_le 1 k && nat_le k 5
is_line (Fail j) = nat_le 1 j && nat_le j 4
is_line Dear = true
is_line Undecided = true
is_line Pass = true

-- the parts of a certificate: one whole tree of up to 100 lines, and up to 100 recipes
abbrev pub are_parts : Claim → List (List ℕ) → List CertLine → Bool
are_parts claim listed lines =
    are_trees 1 lines && nat_le (length lines) 100 && nat_le (length listed) 100 && is_claim claim && list_all is_recipe listed && list_all is_line lines
