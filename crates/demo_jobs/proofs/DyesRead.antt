-- The tables of the dyes are read as the dyes of a job.
use Rattle.std.proofs.Common.{◌≡◌, ◌+◌, ◌*◌, ◌%◌, ◌^◌, ◌≤◌, nat_le, true, false, ℕ, Ok, Some, List, [], ◌∷◌, ◌++◌, map, refl, sym, ap, ◌∙◌, append_assoc, arith, mod-lt, lit<}
use Rattle.std.specs.Fmt.{digits}
use Rattle.std.specs.Prelude.{slice_index}
use Rattle.std.proofs.lemmas.Bool.{le-leb}
use Rattle.std.proofs.lemmas.List.{append-nil}
use Rattle.toml.specs.Data.{Members, as_table, table}
use Rattle.toml.specs.View.{items_of}
use Rattle.spectral_tables.specs.Name.{is_name}
use Rattle.job_keys.specs.Arrays.{all_after, each, tables}
use Rattle.job_file.specs.Dye.{dye, has_dye, next_dye}
use Rattle.job_file.specs.Dyeing.{dyeing}
use Rattle.job_keys.specs.Keys.{name, whole, whole_or}
use Rattle.job_file.specs.declared.dye.JobDye.{JobDye}
use Rattle.demo_jobs.specs.declared.dyes.DrawnDye.{DrawnDye}
use Rattle.demo_jobs.specs.CurveText.{dye_name, dyeing_name}
use Rattle.demo_jobs.specs.Dyes.{drawn_dye, drawn_dyes}
use Rattle.demo_jobs.specs.JobTable.{dye_table, dyeing_table, dyeing_tables}
use Rattle.demo_jobs.specs.Values.{job_dye}

-- a drawn dye is readable: the names made for it are allowed in a job, and its numbers are in range
pub record IsReadable (d : DrawnDye) : Type 0 where
  pub own : is_name (dye_name d.number) ≡ true
  pub first : is_name (dyeing_name d.number 1) ≡ true
  pub second : is_name (dyeing_name d.number 2) ≡ true
  pub third : is_name (dyeing_name d.number 3) ≡ true
  pub fourth : is_name (dyeing_name d.number 4) ≡ true
  pub price : d.price ≤ 1000000
  pub fee : d.fee ≤ 10 ^ 12

-- each dye is readable, and no dye before it has its name
abbrev pub AreReadable : List JobDye → List DrawnDye → Type 0
AreReadable before [] = Unit {0}
AreReadable before (d ∷ dyes) = IsReadable d × (has_dye before (dye_name d.number) ≡ false) × AreReadable (before ++ job_dye d ∷ []) dyes

dye_read : (before : List JobDye) (d : DrawnDye) → IsReadable d → has_dye before (dye_name d.number) ≡ false → next_dye before (dye_table d) ≡ Ok (job_dye d)
unfolding dye name whole whole_or tables dyeing dye_table dyeing_tables dyeing_table
dye_read before d r new =
    let some_price : nat_le 0 d.price ≡ true = le-leb 0 d.price (omega arith) in
    let small_price : nat_le d.price 1000000 ≡ true = le-leb d.price 1000000 r.price in
    let some_fee : nat_le 0 d.fee ≡ true = le-leb 0 d.fee (omega arith) in
    let small_fee : nat_le d.fee 1000000000000 ≡ true = le-leb d.fee 1000000000000 r.fee in
    rw (r.own, some_price, small_price, some_fee, small_fee, r.first, r.second, r.third, r.fourth, new) refl

pub dyes_read : (before : List JobDye) (dyes : List DrawnDye) → AreReadable before dyes → each next_dye before (map dye_table dyes) ≡ Ok (before ++ map job_dye dyes)
dyes_read before [] h = ap Ok (sym (append-nil before))
dyes_read before (d ∷ dyes) h =
    rw (dye_read before d h.0 h.1) (dyes_read (before ++ job_dye d ∷ []) dyes h.2 ∙ ap Ok (append_assoc before (job_dye d ∷ []) (map job_dye dyes)))

pub all_tables : (before ms : List Members) → all_after as_table before (items_of (map table ms)) ≡ Some (before ++ ms)
all_tables before [] = ap Some (sym (append-nil before))
all_tables before (m ∷ ms) = all_tables (before ++ m ∷ []) ms ∙ ap Some (append_assoc before (m ∷ []) ms)

-- ---- the dyes that were drawn

prices : (draws : List ℕ) (k : ℕ) → 20 + slice_index draws k % 80 ≤ 1000000
prices draws k = omega (arith, mod-lt (slice_index draws k) (lit< {m = 0} {n = 80} tt))

fees : (draws : List ℕ) (k : ℕ) → slice_index draws k % 2000 ≤ 10 ^ 12
fees draws k = omega (arith, mod-lt (slice_index draws k) (lit< {m = 0} {n = 2000} tt))

readable : (draws : List ℕ) (index : ℕ) → is_name (dye_name (index + 1)) ≡ true → is_name (dyeing_name (index + 1) 1) ≡ true → is_name (dyeing_name (index + 1) 2) ≡ true
    → is_name (dyeing_name (index + 1) 3) ≡ true → is_name (dyeing_name (index + 1) 4) ≡ true → IsReadable (drawn_dye draws index)
readable draws index a b c d e = record {
  own = a;
  first = b;
  second = c;
  third = d;
  fourth = e;
  price = prices draws (4 * index + 2);
  fee = fees draws (4 * index + 3);
}

pub are_readable : (draws : List ℕ) → AreReadable [] (drawn_dyes draws)
unfolding drawn_dyes dye_name dyeing_name digits
are_readable draws = (
  readable draws 0 refl refl refl refl refl,
  refl,
  (
    readable draws 1 refl refl refl refl refl,
    refl,
    (
      readable draws 2 refl refl refl refl refl,
      refl,
      (readable draws 3 refl refl refl refl refl, refl, (readable draws 4 refl refl refl refl refl, refl, (readable draws 5 refl refl refl refl refl, refl, tt))),
    ),
  ),
)
