-- The result of a check.
use Rattle.std.specs.Prelude.{◌+◌, ℕ, Option, Some, None, List, [], ◌∷◌, length}
use Rattle.box_specs.specs.declared.certificate.Checked.{Checked}
use Rattle.box_specs.specs.declared.certificate.Checked.TheVariants.{Accepted, Refused}
use Rattle.box_specs.specs.declared.certificate.CertLine.{CertLine}
use Rattle.box_specs.specs.declared.certificate.Cutoff.{Cutoff}
use Rattle.box_specs.specs.declared.certificate.Why.{Why}
use Rattle.box_specs.specs.Landscape.{Land}
use Rattle.box_specs.specs.Validity.{corners, is_pass_line, is_undecided_line, line_failure, or_next, unmarked_failure}

-- accepted where nothing fails, and else refused at the line of the first failure
abbrev pub checked_of : Option (ℕ × Why) → Checked
checked_of None = Accepted
checked_of (Some failure) = Refused failure.0 failure.1

-- the first failure of the lines of the tree, and of both lists against them
abbrev pub tree_failure : Land → Cutoff → (matched listed : List (List ℕ)) → List CertLine → Option (ℕ × Why)
tree_failure l cutoff matched listed lines =
    or_next (line_failure l cutoff matched listed (4 + length listed) (l.top ∷ []) lines)
    (or_next (unmarked_failure l (corners is_undecided_line (l.top ∷ []) lines) 4 listed)
    (unmarked_failure l (corners is_pass_line (l.top ∷ []) lines) 2 matched))
