-- The table of a job.
use Rattle.std.specs.Prelude.{ℕ, pos, List, [], ◌∷◌, codes, map}
use Rattle.toml.specs.Data.{Data, Members, array, integer, member, no_members, string, table}
use Rattle.toml.specs.View.{items_of}
use Rattle.demo_jobs.specs.declared.dyes.DrawnDye.{DrawnDye}
use Rattle.demo_jobs.specs.CurveText.{dye_name, dyeing_name}
use Rattle.demo_jobs.specs.Standard.{dyeing_units}

-- a whole number
abbrev pub whole : ℕ → Data
whole number = integer (pos number)

-- an array of tables
abbrev pub tables : List Members → Data
tables list = array (items_of (map table list))

-- a light: its weights file, and its tolerance in thousandths. The keys of a table are in the order
-- of their bytes
unfoldable pub light_table : List ℕ → ℕ → Members
light_table weights tolerance = member (codes "tolerance") (whole tolerance) (member (codes "weights") (string weights) no_members)

-- a dyeing, given as its number and its units, of the dye with a number
unfoldable pub dyeing_table : ℕ → ℕ × ℕ → Members
dyeing_table dye dyeing = member (codes "curve") (string (dyeing_name dye dyeing.0)) (member (codes "units") (whole dyeing.1) no_members)

-- the dyeings of the dye with a number
unfoldable pub dyeing_tables : ℕ → List Members
dyeing_tables dye = map (dyeing_table dye) dyeing_units

-- a dye, of which up to 400 steps of 10 units each may be weighed out
unfoldable pub dye_table : DrawnDye → Members
dye_table dye =
    member (codes "dyeing") (tables (dyeing_tables dye.number))
    (member (codes "fee") (whole dye.fee)
    (member (codes "most") (whole 400)
    (member (codes "name") (string (dye_name dye.number))
    (member (codes "price") (whole dye.price)
    (member (codes "step") (whole 10) no_members)))))

-- the two lights
unfoldable pub light_tables : List Members
light_tables = light_table (codes "demo1.csv") 1000 ∷ light_table (codes "demo2.csv") 1500 ∷ []

-- a job with these dyes
unfoldable pub job_table : List DrawnDye → Members
job_table dyes =
    member (codes "budget") (whole 20000)
    (member (codes "curves") (string (codes "demo.csv"))
    (member (codes "dye") (tables (map dye_table dyes))
    (member (codes "light") (tables light_tables)
    (member (codes "max_dyes") (whole 3)
    (member (codes "max_total") (whole 8000)
    (member (codes "standard") (string (codes "std"))
    (member (codes "substrate") (string (codes "sub"))
    (member (codes "version") (whole 1) no_members))))))))
