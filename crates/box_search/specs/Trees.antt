-- The tree of boxes.
use Rattle.std.specs.Prelude.{◌≡◌, Bool, true, false}
use Rattle.box_specs.specs.declared.certificate.CertLine.{CertLine}
use Rattle.box_specs.specs.declared.certificate.CertLine.TheVariants.{Dear, Fail, Limit, Pass, Split, Undecided}
use Rattle.box_specs.specs.Landscape.{IsSound, Land, is_final}
use Rattle.box_specs.specs.Splits.{cut_of, lower_half, upper_half}
use Rattle.box_specs.specs.Tree.{Tree, fork, leaf, root}

module _ (l : Land) where
  -- a tree of sound boxes: the leaves are final, the forks are not, and below a fork stand the
  -- halves of its box
  abbrev pub IsSoundTree : Tree → Type 0
  IsSoundTree (leaf b) = IsSound l b × (is_final l b ≡ true)
  IsSoundTree (fork b lower upper) =
      IsSound l b × (is_final l b ≡ false) × (root lower ≡ lower_half b (cut_of b)) × (root upper ≡ upper_half b (cut_of b)) × IsSoundTree lower × IsSoundTree upper

abbrev pub is_split_line : CertLine → Bool
is_split_line (Split dye mid) = true
is_split_line (Limit k) = false
is_split_line (Fail j) = false
is_split_line Dear = false
is_split_line Undecided = false
is_split_line Pass = false
