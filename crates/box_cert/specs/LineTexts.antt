-- Lines as they are written. Each ends with a line feed.
use Rattle.std.specs.Prelude.{ℕ, List, [], ◌∷◌, ◌++◌, flat_map, decimal}
use Rattle.box_specs.specs.declared.certificate.CertLine.{CertLine}
use Rattle.box_specs.specs.declared.certificate.CertLine.TheVariants.{Dear, Fail, Limit, Pass, Split, Undecided}

-- numbers with one space between
abbrev pub numbers_text : List ℕ → List ℕ
numbers_text [] = []
numbers_text (n ∷ []) = decimal n
numbers_text (n ∷ (m ∷ more)) = decimal n ++ (32 ∷ numbers_text (m ∷ more))

-- a line of the tree: `s DYE MID`, `x K`, `f J`, `d`, `u` or `p`
unfoldable pub line_text : CertLine → List ℕ
line_text (Split dye mid) = 115 ∷ 32 ∷ numbers_text (dye ∷ mid ∷ [])
line_text (Limit k) = 120 ∷ 32 ∷ decimal k
line_text (Fail j) = 102 ∷ 32 ∷ decimal j
line_text Dear = 100 ∷ []
line_text Undecided = 117 ∷ []
line_text Pass = 112 ∷ []

abbrev pub as_line : List ℕ → List ℕ
as_line line = line ++ (10 ∷ [])

abbrev pub recipes_text : List (List ℕ) → List ℕ
recipes_text listed = flat_map (λ steps. as_line (numbers_text steps)) listed

abbrev pub lines_text : List CertLine → List ℕ
lines_text lines = flat_map (λ line. as_line (line_text line)) lines
