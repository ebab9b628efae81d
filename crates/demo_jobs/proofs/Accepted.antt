-- The texts of every generated job are accepted, given that printed numbers are read back.
use Rattle.std.proofs.Common.{◌≡◌, ℕ, List, Some}
use Rattle.dec_text.specs.RoundTrip.{ReadsBack}
use Rattle.job_file.specs.Job.{tree_of}
use Rattle.demo_jobs.specs.declared.weights.Light.TheVariants.{First, Second}
use Rattle.demo_jobs.specs.Accepted.{IsAccepted, JobsAreAccepted}
use Rattle.demo_jobs.specs.CurveText.{curve_text, job_book}
use Rattle.demo_jobs.specs.Draws.{draws}
use Rattle.demo_jobs.specs.Dyes.{drawn_dyes}
use Rattle.demo_jobs.specs.JobTable.{job_table}
use Rattle.demo_jobs.specs.WeightsText.{weights_text}
use Rattle.demo_jobs.proofs.JobBookRead.{curves_read}
use Rattle.demo_jobs.proofs.JobRead.{job_read, job_read_with_batch}
use Rattle.demo_jobs.proofs.JobResolved.{job_resolved}
use Rattle.demo_jobs.proofs.Lengths.{curves_short, weights_short}
use Rattle.demo_jobs.proofs.WeightsRead.{weights_read}

pub accepted : ReadsBack → JobsAreAccepted
accepted read number job written = record {
  curves_short = curves_short (draws number);
  first_short = weights_short First;
  second_short = weights_short Second;
  curves_read = curves_read read (draws number);
  first_read = weights_read First;
  second_read = weights_read Second;
  job_read = job_read (draws number) job written;
  job_read_with_batch = job_read_with_batch (draws number) job written;
  job_resolved = job_resolved (draws number);
}

-- the same of texts that are known to be these
pub texts_accepted : JobsAreAccepted → (number : ℕ) (job curves first second : List ℕ) → tree_of job ≡ Some (job_table (drawn_dyes (draws number))) → curves ≡ curve_text (job_book (draws number))
    → first ≡ weights_text First → second ≡ weights_text Second → IsAccepted (draws number) job curves first second
texts_accepted law number job curves first second written is_curves is_first is_second = rw (is_curves, is_first, is_second) (law number job written)
