-- The tables of a document: what an insert makes of one, and how deep a job's nests.
use Rattle.std.proofs.Common.{◌≡◌, ◌≤◌, ℕ, List, [], ◌∷◌, String, Ordering, Less, Equal, Greater, map, refl, ap, string_bytes, arith, Some}
use Rattle.std.specs.Prelude.{IsUtf8}
use Rattle.std.specs.BTreeMap.{insert_entry}
use Rattle.std.specs.Ordering.{match_ordering}
use Rattle.std.specs.String.{string_cmp}
use Rattle.std.specs.declared.alloc.Global.{Global}
use Rattle.std.proofs.lemmas.Str.{is_utf8-from_IsUtf8}
use Rattle.toml.specs.Data.{Members, items_depth, member, members_depth, table}
use Rattle.toml.specs.Parse.{parse_document}
use Rattle.toml.specs.View.{items_of, members_view, view}
use Rattle.toml.specs.declared.value.Value.{Value}
use Rattle.job_file.specs.Job.{tree_of}
use Rattle.demo_jobs.specs.declared.dyes.DrawnDye.{DrawnDye}
use Rattle.demo_jobs.specs.JobTable.{dye_table, dyeing_table, dyeing_tables, job_table, light_table, light_tables}
use Rattle.demo_jobs.specs.Members.{insert_member}

-- the members of the entries, by how the key compares with that of the first
by_order : (o : Ordering) (k : String Global) (v : Value) (e : String Global × Value) (es rest : List (String Global × Value)) (ms : Members) → members_view rest ≡ ms
    → members_view (match_ordering o ((k, v) ∷ e ∷ es) ((e.0, v) ∷ es) (e ∷ rest))
    ≡ match_ordering o (member (string_bytes k) (view v) (member (string_bytes e.0) (view e.1) (members_view es))) (member (string_bytes e.0) (view v) (members_view es)) (member (string_bytes e.0) (view e.1) ms)
by_order Less k v e es rest ms same = refl
by_order Equal k v e es rest ms same = refl
by_order Greater k v e es rest ms same = ap (member (string_bytes e.0) (view e.1)) same

pub inserted : (es : List (String Global × Value)) (k : String Global) (v : Value) → members_view (insert_entry string_cmp es k v) ≡ insert_member (string_bytes k) (view v) (members_view es)
inserted [] k v = refl
inserted (e ∷ es) k v = by_order (string_cmp k e.0) k v e es (insert_entry string_cmp es k v) (insert_member (string_bytes k) (view v) (members_view es)) (inserted es k v)

-- the members of a dye's table nest an array and a table
dye_depth : (dye : DrawnDye) → members_depth (dye_table dye) ≡ 2
unfolding dye_table dyeing_tables dyeing_table
dye_depth dye = refl

dyes_depth : (dyes : List DrawnDye) → items_depth (items_of (map table (map dye_table dyes))) ≤ 3
dyes_depth [] = omega arith
dyes_depth (dye ∷ dyes) = rw (dye_depth dye) (omega (arith, dyes_depth dyes))

pub job_depth : (dyes : List DrawnDye) → members_depth (job_table dyes) ≤ 80
unfolding job_table light_tables light_table
job_depth dyes = omega (arith, dyes_depth dyes)

-- a text in UTF-8 that reads as a table writes that table
pub writes_tree : (text : List ℕ) (tree : Members) → IsUtf8 text → parse_document text ≡ Some tree → tree_of text ≡ Some tree
writes_tree text tree utf8 parsed = rw (is_utf8-from_IsUtf8 text utf8) parsed
