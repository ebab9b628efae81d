use Rattle.std.proofs.Common.{◌≡◌, ◌∙◌, ◌^◌, ◌≤◌, [], length, map, ap, sym, subst, Ok, arith}
use Rattle.std.specs.List.{AllZip}
use Rattle.job_keys.specs.Arrays.{each}
use Rattle.job_file.specs.JobView.{job_view}
use Rattle.mix_model.specs.Base.{base_at}
use Rattle.mix_model.specs.Strength.{is_too_strong}
use Rattle.job_file.specs.Resolve.{cost_of_dye, most_steps, next_calibrated, up_to_most}
use Rattle.price_grid.specs.Limits.{LimitsView, limits_view}
use Rattle.job_file.proofs.ResolveFacts.{IsCalibrated, are_calibrated, few_dyes, most_adds, no_bath, base_waves, held_where_not, kept_of}
use Rattle.job_file.proofs.resolution.resolve.Goals as goal
use Rattle.job_file.proofs.resolution.resolve.Goals.{After-as_slice-4}

-- the calibrated dyes are those of the job
calibrated : (c : After-as_slice-4) → AllZip (IsCalibrated c.in_ok-substrate.substrate) c.in_ok-dyes.dyes.items c.args.job.dye.items
calibrated c =
    are_calibrated c.args.book.now c.in_ok-substrate.substrate c.args.job.dye.items c.in_ok-dyes.dyes.items
    (subst (λ dyes. each (next_calibrated c.args.book.now c.in_ok-substrate.substrate) [] dyes ≡ Ok c.in_ok-dyes.dyes.items) c.as_slice.ensures.value c.in_ok-dyes.ensures)

most_is : (c : After-as_slice-4) → c.as_slice-4.result.now ≡ most_steps c.args.job.dye.items
most_is c = c.as_slice-4.ensures.value ∙ c.most_steps-most.ensures ∙ ap most_steps c.as_slice-2.ensures.value

bath_is : (c : After-as_slice-4) → c.as_slice-3.result.now ≡ (limits_view c.limits_of-limits.result).bath
bath_is c = c.as_slice-3.ensures.value

no_bath_is : (c : After-as_slice-4) → c.as_slice-3.result.now ≡ no_bath c.args.job.dye.items
no_bath_is c = bath_is c ∙ ap (λ (l : LimitsView). l.bath) c.limits_of-limits.ensures

pub most_is_too_strong-strong-requires : goal.most_is_too_strong-strong-requires
most_is_too_strong-strong-requires c =
    let few : length c.in_ok-dyes.dyes.items ≤ 12 = omega (arith, few_dyes c.in_ok-substrate.substrate c.in_ok-dyes.dyes.items c.args.job.dye.items (calibrated c), c.args.job.dyes.few) in
    let waves = ap length c.base_curve-base.ensures ∙ base_waves c.in_ok-substrate.substrate c.in_ok-batch.batch _ c.in_ok-substrate.ensures.waves c.in_ok-batch.ensures.waves in
    rw (c.deref.ensures.value, no_bath_is c, most_is c)
    (most_adds (length c.base_curve-base.result.now) c.in_ok-substrate.substrate c.in_ok-dyes.dyes.items c.args.job.dye.items (calibrated c) c.args.job.dyes.range few (c.in_ok-substrate.ensures.waves ∙ sym waves))

pub invariant_of-result : goal.invariant_of-result
invariant_of-result c =
    let d = (goal.at.invariant_of-result c).After-as_slice-4 in
    let fails = held_where_not _ _ c.most_is_too_strong-strong.result c.in_ok-ensure.field-0 c.in_ok-ensure.ensures in
    let weak = (λ i. is_too_strong (base_at (10 ^ 12) (sym c.base_curve-base.ensures i)) (up_to_most (sym c.deref.ensures.value i) (sym (bath_is d) i) (sym (most_is d) i))) ∙ sym c.most_is_too_strong-strong.ensures ∙ fails in
    let grid = c.grid_of-grid.ensures ∙ ap (map cost_of_dye) c.as_slice-5.ensures.value in
    let lights : length c.args.weights.items ≡ length c.args.job.light.items = omega (arith, c.args.weights.ok, c.requires.lights) in
    record {
      kept = rw (c.of.ensures, c.of-2.ensures) (kept_of (job_view c.args.job) c.in_ok-substrate.substrate c.in_ok-standard.standard c.in_ok-dyes.dyes.items c.grid_of-grid.result (limits_view c.limits_of-limits.result) c.args.weights.items c.in_ok-batch.batch _
          (calibrated d) grid c.limits_of-limits.ensures lights c.args.job.pairs c.args.job.bath weak c.in_ok-substrate.ensures.waves c.in_ok-standard.ensures.waves c.in_ok-batch.ensures.waves c.requires.waves);
    }
