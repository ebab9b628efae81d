-- The texts of the result of a search, of an accepted certificate, and of the summary of a search.
use Rattle.std.specs.Prelude.{ℕ, ◌+◌, List, [], ◌∷◌, ◌++◌, codes, decimal, flat_map, length, Option, Some, None, IsNone, IsSome}
use Rattle.box_specs.specs.declared.certificate.Claim.{Claim}
use Rattle.box_specs.specs.declared.certificate.Claim.TheVariants.{Floor, Match, NoMatch}
use Rattle.job_file.specs.Job.{Values}
use Rattle.shade_report.specs.Recipes.{RecipeValues, lights_text, recipe_text}

-- there is a value exactly where the claim is a match
abbrev pub GoesWith : {A : Type 0} → Claim → Option A → Type 0
GoesWith (Match recipe) given = IsSome given
GoesWith NoMatch given = IsNone given
GoesWith (Floor cost) given = IsNone given

abbrev pub claim_name : Claim → List ℕ
claim_name (Match recipe) = codes "match"
claim_name NoMatch = codes "no match"
claim_name (Floor cost) = codes "budget ended"

-- what a check prints of a valid certificate
abbrev pub accepted_text : Claim → List ℕ
accepted_text (Match recipe) = codes "accepted match\n"
accepted_text NoMatch = codes "accepted none\n"
accepted_text (Floor cost) = codes "accepted floor\n"

-- a line of a word and a number
abbrev pub count_line : List ℕ → ℕ → List ℕ
count_line word number = word ++ decimal number ++ 10 ∷ []

-- the claim, and how many boxes were judged for it
abbrev pub head_text : Claim → ℕ → List ℕ
head_text claim boxes = claim_name claim ++ 10 ∷ count_line (codes "boxes ") boxes

-- the recipe of a match, or the floor
abbrev pub found_text : Values → Claim → Option RecipeValues → List ℕ
found_text job (Match recipe) None = []
found_text job (Match recipe) (Some matched) = recipe_text job matched
found_text job NoMatch matched = []
found_text job (Floor cost) matched = count_line (codes "floor ") cost

-- numbers with commas between them
abbrev pub commas_text : List ℕ → List ℕ
commas_text [] = []
commas_text (n ∷ more) = decimal n ++ flat_map (λ m. 44 ∷ decimal m) more

-- a listed recipe: its steps, its cost, and its differences under the lights
unfoldable pub listed_text : RecipeValues → List ℕ
listed_text recipe =
    codes "recipe " ++ commas_text recipe.steps ++ count_line (codes " cost ") recipe.cost ++ lights_text 1 recipe.deltas recipe.each

-- how many recipes are undecided, and each of them
unfoldable pub undecided_text : List RecipeValues → List ℕ
undecided_text listed = count_line (codes "undecided ") (length listed) ++ flat_map listed_text listed

-- the report of a search: the claim, its recipe or floor, and the undecided recipes
unfoldable pub outcome_text : Values → Claim → ℕ → Option RecipeValues → List RecipeValues → List ℕ
outcome_text job claim boxes matched undecided = head_text claim boxes ++ found_text job claim matched ++ undecided_text undecided

-- the cost of a match, or the floor
abbrev pub cost_text : Claim → Option ℕ → List ℕ
cost_text (Match recipe) None = []
cost_text (Match recipe) (Some cost) = count_line (codes "cost ") cost
cost_text NoMatch cost = []
cost_text (Floor floor) cost = count_line (codes "floor ") floor

-- the summary of a search among the recipes of the job with a number, from its claim, the numbers
-- of listed recipes, of lines of the tree and of judged boxes, and the cost of a match. The text of
-- the certificate has three lines more than the list and the tree
unfoldable pub demo_text : ℕ → Claim → (listed lines boxes : ℕ) → Option ℕ → List ℕ
demo_text number claim listed lines boxes cost =
    count_line (codes "demo ") number ++ head_text claim boxes ++ cost_text claim cost ++ count_line (codes "undecided ") listed
    ++ count_line (codes "lines ") (3 + listed + lines) ++ codes "check accepted\n"
