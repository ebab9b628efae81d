-- The values of a broken line over units from x0 to x1, piece by piece, as the code finds them.
use Rattle.std.specs.Prelude.{ℕ, max, nat_le, nat_lt, if◌then◌else◌, List, [], ◌∷◌, Option, Some, None}
use Rattle.interval_specs.specs.Ends.{Ends}
use Rattle.interval_specs.specs.Operations.{hull_of}
use Rattle.ks_curves.specs.BrokenLine.{Node, between_at}
use Rattle.ks_curves.specs.StoredNode.{past_over}

-- the least interval that holds e and what came before it
abbrev pub joined_ends : Option Ends → Ends → Ends
joined_ends None e = e
joined_ends (Some d) e = hull_of d e

-- from l to r between two nodes
abbrev pub piece_over : Node → Node → ℕ → ℕ → Ends
piece_over a b l r = hull_of (between_at a b l) (between_at a b r)

-- from node a on over `nodes`, where `before` holds the values of the pieces before a
unfoldable pub over_from : Option Ends → Node → List Node → ℕ → ℕ → Ends
over_from before a [] x0 x1 = joined_ends before (past_over a (max x0 a.units) x1)
over_from before a (b ∷ nodes) x0 x1 =
    if nat_lt x0 b.units then
    (if nat_le x1 b.units then joined_ends before (piece_over a b (max x0 a.units) x1)
    else over_from (Some (joined_ends before (piece_over a b (max x0 a.units) b.units))) b nodes x0 x1)
    else over_from before b nodes x0 x1
