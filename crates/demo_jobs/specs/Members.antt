-- The members of a table after a value was put under a key.
use Rattle.std.specs.Prelude.{ℕ, List}
use Rattle.std.specs.Cmp.Lexicographic.{slice_cmp}
use Rattle.std.specs.Ordering.{match_ordering, nat_cmp}
use Rattle.toml.specs.Data.{Data, Members, member, no_members}

-- the value replaces the one under that key, or is put before the first greater key, and last where
-- there is none
abbrev pub insert_member : List ℕ → Data → Members → Members
insert_member key value no_members = member key value no_members
insert_member key value (member other old rest) =
    match_ordering (slice_cmp nat_cmp key other)
    (member key value (member other old rest))
    (member other value rest)
    (member other old (insert_member key value rest))
