use Rattle.std.proofs.Common.{◌≡◌, ◌∙◌, ◌^◌, ℕ, List, [], ◌∷◌, length, get_or, ap, sym, arith}
use Rattle.job_file.specs.Resolve.{ResolvedJob}
use Rattle.job_file.specs.ResolvedView.{resolved_view}
use Rattle.metamerism.specs.Places.{first_places, light_places}
use Rattle.spectral_tables.specs.WeightTable.{IsWeightTable, WeightTable}
use Rattle.recipe_judge.proofs.Waves.{standard_fits, table_waves}
use Rattle.recipe_judge.proofs.FewItems.{one_item, two_items, all_of_one, all_of_two}
use Rattle.recipe_judge.proofs.lights.lights_of.Goals as goal
use Rattle.recipe_judge.proofs.lights.lights_of.Goals.{After-light_of-second, After-one, After-two}

one_job_light : (c : After-one) → c.args.resolved.now.job.light.items ≡ c.index-lights-0.result ∷ []
one_job_light c =
    rw (← c.as_slice-lights.ensures.value) (one_item c.as_slice-lights.result.now c.index-lights-0.result c.if-lights-eq1.true c.index-lights-0.is)

one_table : (c : After-one) → c.args.resolved.now.weights ≡ c.index-weights-0.result ∷ []
one_table c =
    let count = ap length c.as_slice-weights.ensures in
    let lights = ap length (one_job_light c) in
    rw (← c.as_slice-weights.ensures) (one_item c.as_slice-weights.result.now c.index-weights-0.result (omega (arith, count, lights, c.args.resolved.now.kept.lights)) c.index-weights-0.is)

-- the table that was read at an index is that of the job
at_index : (r : ResolvedJob) (tables : List WeightTable) (i : ℕ) (table : WeightTable) → tables ≡ r.weights → table ≡ get_or tables i table → table ≡ get_or r.weights i table
at_index r tables i table same is = is ∙ ap (λ (ts : List WeightTable). get_or ts i table) same

pub light_of-first-requires-clause-waves : goal.light_of-first-requires-clause-waves
light_of-first-requires-clause-waves c =
    let r = resolved_view c.args.resolved.now in
    let kept = c.args.resolved.now.kept in
    let at = at_index r c.as_slice-weights.result.now 0 c.index-weights-0.result c.as_slice-weights.ensures c.index-weights-0.is in
    standard_fits r (10 ^ 12) 0 c.index-weights-0.result c.spectrum-standard.result kept.waves c.spectrum-standard.ensures.is (omega (arith, kept.lights, c.args.resolved.now.job.lights.some)) at

pub light_of-second-requires-clause-waves : goal.light_of-second-requires-clause-waves
light_of-second-requires-clause-waves c =
    let r = resolved_view c.args.resolved.now in
    let kept = c.args.resolved.now.kept in
    let count = ap length c.as_slice-lights.ensures.value in
    let at = at_index r c.as_slice-weights.result.now 1 c.index-weights-1.result c.as_slice-weights.ensures c.index-weights-1.is in
    standard_fits r (10 ^ 12) 1 c.index-weights-1.result c.spectrum-standard.result kept.waves c.spectrum-standard.ensures.is (omega (arith, kept.lights, count, c.if-lights-eq1.false, c.args.resolved.now.job.lights.some)) at

pub returns-then-lights-eq1-clause-places : goal.returns-then-lights-eq1-clause-places
returns-then-lights-eq1-clause-places c =
    let r = resolved_view c.args.resolved.now in
    let kept = c.args.resolved.now.kept in
    let at = at_index r c.as_slice-weights.result.now 0 c.index-weights-0.result c.as_slice-weights.ensures c.index-weights-0.is in
    ap first_places c.one.ensures ∙ c.light_of-first.ensures.places ∙ table_waves r 0 c.index-weights-0.result kept.waves (omega (arith, kept.lights, c.args.resolved.now.job.lights.some)) at

pub returns-then-lights-eq1-clause-deltas : goal.returns-then-lights-eq1-clause-deltas
returns-then-lights-eq1-clause-deltas c sample =
    let d = (goal.at.returns-then-lights-eq1-clause-deltas c).After-one in
    rw (c.one.ensures, c.light_of-first.ensures.delta sample, c.spectrum-standard.ensures.is, one_job_light d, one_table d)

pub returns-then-lights-eq1-clause-held : goal.returns-then-lights-eq1-clause-held
returns-then-lights-eq1-clause-held c =
    let d = (goal.at.returns-then-lights-eq1-clause-held c).After-one in
    rw (one_table d) (all_of_one IsWeightTable c.index-weights-0.result c.light_of-first.ensures.held)

two_job_lights : (c : After-two) → c.args.resolved.now.job.light.items ≡ c.index-lights-0.result ∷ c.index-lights-1.result ∷ []
two_job_lights c =
    let count = ap length c.as_slice-lights.ensures.value in
    rw (← c.as_slice-lights.ensures.value)
    (two_items c.as_slice-lights.result.now c.index-lights-0.result c.index-lights-1.result (omega (arith, count, c.if-lights-eq1.false, c.args.resolved.now.job.lights.some, c.args.resolved.now.job.lights.few)) c.index-lights-0.is c.index-lights-1.is)

two_tables : (c : After-two) → c.args.resolved.now.weights ≡ c.index-weights-0.result ∷ c.index-weights-1.result ∷ []
two_tables c =
    let count = ap length c.as_slice-weights.ensures in
    let lights = ap length (two_job_lights c) in
    rw (← c.as_slice-weights.ensures)
    (two_items c.as_slice-weights.result.now c.index-weights-0.result c.index-weights-1.result (omega (arith, count, lights, c.args.resolved.now.kept.lights)) c.index-weights-0.is c.index-weights-1.is)

first_waves : (c : After-light_of-second) → light_places c.light_of-first.result ≡ length c.args.resolved.now.substrate
first_waves c =
    let r = resolved_view c.args.resolved.now in
    let kept = c.args.resolved.now.kept in
    let at = at_index r c.as_slice-weights.result.now 0 c.index-weights-0.result c.as_slice-weights.ensures c.index-weights-0.is in
    c.light_of-first.ensures.places ∙ table_waves r 0 c.index-weights-0.result kept.waves (omega (arith, kept.lights, c.args.resolved.now.job.lights.some)) at

second_waves : (c : After-light_of-second) → light_places c.light_of-second.result ≡ length c.args.resolved.now.substrate
second_waves c =
    let r = resolved_view c.args.resolved.now in
    let kept = c.args.resolved.now.kept in
    let count = ap length c.as_slice-lights.ensures.value in
    let at = at_index r c.as_slice-weights.result.now 1 c.index-weights-1.result c.as_slice-weights.ensures c.index-weights-1.is in
    c.light_of-second.ensures.places ∙ table_waves r 1 c.index-weights-1.result kept.waves (omega (arith, kept.lights, count, c.if-lights-eq1.false, c.args.resolved.now.job.lights.some)) at

pub two-requires : goal.two-requires
two-requires c = let d = (goal.at.two-requires c).After-light_of-second in second_waves d ∙ sym (first_waves d)

pub returns-clause-places : goal.returns-clause-places
returns-clause-places c =
    let d = (goal.at.returns-clause-places c).After-light_of-second in
    ap first_places c.two.ensures ∙ first_waves d

pub returns-clause-tolerances : goal.returns-clause-tolerances
returns-clause-tolerances c =
    let d = (goal.at.returns-clause-tolerances c).After-two in
    rw (c.two.ensures, c.light_of-first.ensures.tolerance, c.light_of-second.ensures.tolerance, two_job_lights d)

pub returns-clause-deltas : goal.returns-clause-deltas
returns-clause-deltas c sample =
    let d = (goal.at.returns-clause-deltas c).After-two in
    rw (c.two.ensures, c.light_of-first.ensures.delta sample, c.light_of-second.ensures.delta sample, c.spectrum-standard.ensures.is, two_job_lights d, two_tables d)

pub returns-clause-held : goal.returns-clause-held
returns-clause-held c =
    let d = (goal.at.returns-clause-held c).After-two in
    rw (two_tables d) (all_of_two IsWeightTable c.index-weights-0.result c.index-weights-1.result c.light_of-first.ensures.held c.light_of-second.ensures.held)
