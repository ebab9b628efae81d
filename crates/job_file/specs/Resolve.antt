-- A job with the curves of a file: each name of a curve is resolved to that curve, and recipes of up
-- to the most steps of each dye must not be too strong.
use Rattle.std.specs.Prelude.{◌+◌, ◌*◌, ℕ, Bool, not, Option, Some, None, Result, Ok, List, [], ◌∷◌, length, map, if◌then◌else◌}
use Rattle.std.specs.Str.{bytes_eq}
use Rattle.ks_curves.specs.declared.kind.Calibration.TheVariants.{Line}
use Rattle.ks_curves.specs.Dye.{Dyeing as Measured, DyeData}
use Rattle.mix_model.specs.Base.{base_at}
use Rattle.mix_model.specs.Mixture.{Portion, no_steps, portions}
use Rattle.mix_model.specs.Strength.{is_too_strong}
use Rattle.price_grid.specs.declared.dye_cost.DyeCost.{DyeCost}
use Rattle.price_grid.specs.Limits.{LimitsView}
use Rattle.spectral_tables.specs.CurveBook.{Book, curve_named}
use Rattle.spectral_tables.specs.WeightTable.{WeightTable}
use Rattle.job_file.specs.declared.dye.JobDye.{JobDye}
use Rattle.job_file.specs.declared.dyeing.JobDyeing.{JobDyeing}
use Rattle.job_keys.specs.declared.fault.JobFault.{JobFault}
use Rattle.job_keys.specs.declared.fault.JobRule.TheVariants.{TooStrong, UnknownColumn}
use Rattle.job_keys.specs.declared.fault.Part.TheVariants.{Dyeing}
use Rattle.job_keys.specs.declared.fault.Position.{Position}
use Rattle.job_keys.specs.declared.pair.JobPair.{JobPair}
use Rattle.job_keys.specs.Arrays.{each, if_there}
use Rattle.job_file.specs.Batch.{batch_position}
use Rattle.job_keys.specs.Faults.{◌>>=◌, ◌>>◌, ensure, or_fault}
use Rattle.job_file.specs.Job.{Values, job_position}
use Rattle.fix_bounds.specs.Scales.{base_unit}

-- the curve of a name, or a fault where the book has none of this name
abbrev pub curve_of : Book → Position → List ℕ → Result (List ℕ) JobFault
curve_of book position name = or_fault position UnknownColumn (curve_named name book)

-- the next dyeing of the dye with this number, after those in `before`, with its curve
abbrev pub next_measured : Book → ℕ → List Measured → JobDyeing → Result Measured JobFault
next_measured book dye before d = do
  curve ← curve_of book (record { part = Dyeing; item = dye; sub = length before + 1 }) d.curve
  Ok (d.units, curve)

-- the next dye, after those in `before`, calibrated on the substrate by a straight line
abbrev pub next_calibrated : Book → List ℕ → List DyeData → JobDye → Result DyeData JobFault
next_calibrated book substrate before d = do
  dyeings ← each (next_measured book (length before + 1)) [] d.dyeing.items
  Ok (record { kind = Line; step = d.step; substrate = substrate; dyeings = dyeings })

-- what a dye costs, and how much of it may be weighed out
abbrev pub cost_of_dye : JobDye → DyeCost
cost_of_dye d = record { step = d.step; least = d.least; most = d.most; price = d.price; fee = d.fee }

-- the number of the first dye with a name, counted from 1, or one more than the number of dyes
-- where no dye has it
abbrev pub number_of : List JobDye → List ℕ → ℕ
number_of [] name = 1
number_of (d ∷ dyes) name = if bytes_eq d.name name then 1 else (number_of dyes name + 1)

abbrev pub numbers_of : List JobDye → JobPair → ℕ × ℕ
numbers_of dyes p = (number_of dyes p.a, number_of dyes p.b)

-- the limits of a job, for a bath without dye
abbrev pub limits_of : Values → LimitsView
limits_of j = record {
  max_dyes = j.head.max_dyes;
  max_total = j.head.max_total;
  max_cost = j.head.max_cost;
  pairs = map (numbers_of j.dye) j.pair;
  bath = map (λ d. 0) j.dye;
}

-- the most steps of each dye
abbrev pub most_steps : List JobDye → List ℕ
most_steps dyes = map (λ d. d.most) dyes

-- what dyes are added to: the cloth of the batch where there is one, and else the undyed cloth
abbrev pub base_curve : List ℕ → Option (List ℕ) → List ℕ
base_curve substrate None = substrate
base_curve substrate (Some batch) = batch

-- no steps to the most of each dye, where the steps in `bath` are on the cloth
abbrev pub up_to_most : List DyeData → (bath most : List ℕ) → List Portion
up_to_most dyes bath most = portions dyes bath (no_steps dyes) most

-- a resolved job
pub record ResolvedJob : Type 0 where
  pub job : Values
  pub substrate : List ℕ
  pub standard : List ℕ
  pub dyes : List DyeData
  pub grid : List DyeCost
  pub limits : LimitsView
  pub weights : List WeightTable
  pub batch : Option (List ℕ)

-- The resolved job, or its first fault. First the curves are found by their names: those of the
-- substrate, of the standard, of the dyeings in order, and of the batch. A name without a curve is
-- a fault. Last, dyes that are too strong are one
unfoldable pub resolved_job : Book → Values → List WeightTable → Result ResolvedJob JobFault
resolved_job book j weights = do
  substrate ← curve_of book job_position j.head.substrate
  standard ← curve_of book job_position j.head.standard
  dyes ← each (next_calibrated book substrate) [] j.dye
  batch ← if_there (λ b. curve_of book batch_position b.curve) j.batch
  ensure job_position TooStrong (not (is_too_strong (base_at base_unit (base_curve substrate batch)) (up_to_most dyes (limits_of j).bath (most_steps j.dye))))
  Ok (record {
    job = j;
    substrate = substrate;
    standard = standard;
    dyes = dyes;
    grid = map cost_of_dye j.dye;
    limits = limits_of j;
    weights = weights;
    batch = batch;
  })
