-- The job resolves: each name has its curve, and all dyes at their most steps are not too strong.
use Rattle.std.proofs.Common.{◌≡◌, ◌*◌, ◌^◌, ◌≤◌, false, ℕ, pos, Ok, List, [], ◌∷◌, All, int_lt, map, refl, arith}
use Rattle.std.specs.Fmt.{digits}
use Rattle.std.proofs.lemmas.Int.{ints}
use Rattle.std.proofs.lemmas.List.Elements.{All-cons, All-nil, All-weaker}
use Rattle.std.proofs.lemmas.List.Folds.{list_any_none}
use Rattle.interval_specs.specs.Ends.{Ends}
use Rattle.interval_specs.specs.Ranges.{UpTo}
use Rattle.interval_specs.proofs.Laws.{lt_refuses}
use Rattle.mix_model.specs.Base.{base_at}
use Rattle.mix_model.specs.Mixture.{mixture_ks_at, no_steps}
use Rattle.mix_model.specs.Strength.{is_too_strong}
use Rattle.price_grid.specs.Grid.{IsUpTo}
use Rattle.job_keys.specs.Arrays.{each}
use Rattle.job_file.specs.Resolve.{limits_of, most_steps, next_calibrated, resolved_job, up_to_most}
use Rattle.demo_jobs.specs.declared.dyes.DrawnDye.{DrawnDye}
use Rattle.demo_jobs.specs.Cloths.{substrate}
use Rattle.demo_jobs.specs.CurveText.{dye_book, dye_name, dyeing_name, job_book}
use Rattle.demo_jobs.specs.Dyes.{drawn_dyes}
use Rattle.demo_jobs.specs.Standard.{dye_data}
use Rattle.demo_jobs.specs.Values.{both_weights, job_dye, job_values, resolved_of}
use Rattle.demo_jobs.proofs.JobBookRead.{six_dyes}
use Rattle.demo_jobs.proofs.Strength.{recipe_small}

-- the curves of all dyes are found
dyes_found : (draws : List ℕ) → each (next_calibrated (job_book draws) substrate) [] (map job_dye (drawn_dyes draws)) ≡ Ok (map dye_data (drawn_dyes draws))
unfolding job_book dye_book drawn_dyes dye_name dyeing_name digits dye_data
dyes_found draws = refl

not_above : (q : Ends) → UpTo (200000 * 10 ^ 12) q → int_lt (pos (10 ^ 6 * 10 ^ 12)) q.hi ≡ false
not_above q u = lt_refuses (pos (10 ^ 6 * 10 ^ 12)) q.hi (omega (arith, ints, u.below))

all_most : (dyes : List DrawnDye) → All (λ n. n ≤ 400) (most_steps (map job_dye dyes))
all_most [] = All-nil (λ n. n ≤ 400)
all_most (dye ∷ dyes) = All-cons (λ n. n ≤ 400) 400 (most_steps (map job_dye dyes)) (omega arith) (all_most dyes)

none_up_to : (dyes : List DrawnDye) → IsUpTo (no_steps (map dye_data dyes)) (most_steps (map job_dye dyes))
none_up_to [] = tt
none_up_to (dye ∷ dyes) = (omega arith, none_up_to dyes)

weak : (draws bath : List ℕ) → is_too_strong (base_at (10 ^ 12) substrate) (up_to_most (map dye_data (drawn_dyes draws)) bath (most_steps (map job_dye (drawn_dyes draws)))) ≡ false
unfolding is_too_strong
weak draws bath =
    let n = 10 ^ 12 in
    let dyes = drawn_dyes draws in
    let sums = mixture_ks_at n (base_at n substrate) (up_to_most (map dye_data dyes) bath (most_steps (map job_dye dyes))) in
    list_any_none (λ q. int_lt (pos (10 ^ 6 * 10 ^ 12)) q.hi) sums (All-weaker (UpTo (200000 * n)) (λ q. int_lt (pos (10 ^ 6 * 10 ^ 12)) q.hi ≡ false) not_above sums
    (recipe_small n dyes bath (no_steps (map dye_data dyes)) (most_steps (map job_dye dyes)) (six_dyes draws) (none_up_to dyes) (all_most dyes)))

pub job_resolved : (draws : List ℕ) → resolved_job (job_book draws) (job_values (drawn_dyes draws)) both_weights ≡ Ok (resolved_of draws)
unfolding resolved_job job_book
job_resolved draws = rw (dyes_found draws, weak draws (limits_of (job_values (drawn_dyes draws))).bath) refl
