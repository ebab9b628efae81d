use Rattle.std.proofs.Common.{◌≡◌, ◌∙◌, ◌<◌, ◌-◌, Some, length, ap, subst, sym, arith}
use Rattle.std.specs.Prelude.{slice_get, option_map}
use Rattle.std.proofs.lemmas.Bool.Decides.{Decides-eqb}
use Rattle.std.proofs.lemmas.Option.{slice_get-map}
use Rattle.fix_bounds.specs.Ratios.{ratio_ends}
use Rattle.cielab_bounds.specs.Lab.{lab_ends}
use Rattle.tristimulus.specs.Ratios.{ratios_at}
use Rattle.metamerism.specs.Kept.{first_weights_or}
use Rattle.metamerism.specs.Lights.{delta_under, lights_of}
use Rattle.metamerism.specs.Shared.{first_weights}
use Rattle.metamerism.proofs.PlaceFacts.{first_is, fits_at, shares_first}
use Rattle.metamerism.proofs.SampleFacts.{seen_is}
use Rattle.metamerism.proofs.comparing.delta_with.Given as given
use Rattle.metamerism.proofs.comparing.delta_with.Goals as goal
use Rattle.metamerism.proofs.comparing.delta_with.Goals.{After-get-light}

below : (g : given.Over) (c : After-get-light g) → c.args.number - 1 < length (lights_of c.args.lights.now)
below g c = omega (arith, c.requires.some, c.requires.there)

pub own_ratios-own-requires-clause-waves : goal.own_ratios-own-requires-clause-waves
own_ratios-own-requires-clause-waves g c =
    let lights = c.args.lights.now in
    fits_at (lights_of lights) (c.args.number - 1) c.get-light.result.now c.args.sample.now (below g (goal.at.own_ratios-own-requires-clause-waves g c).After-get-light) c.get-light.ensures lights.equal c.requires.fits

pub own_ratios-own-requires-clause-first : goal.own_ratios-own-requires-clause-first
own_ratios-own-requires-clause-first g c = λ e.
    let lights = lights_of c.args.lights.now in
    let light = c.get-light.result.now in
    let one : c.args.number ≡ 1 = (Decides-eqb c.args.number 1).0 e in
    let index : c.args.number - 1 ≡ 0 = omega (arith, one) in
    c.requires.first ∙ ap (ratios_at g.S.Scale.unit c.args.sample.now) (first_is lights light (subst (λ k. slice_get lights k ≡ Some light) index c.get-light.ensures))

pub delta_alone-requires-clause-waves : goal.delta_alone-requires-clause-waves
delta_alone-requires-clause-waves g c =
    let lights = c.args.lights.now in
    fits_at (lights_of lights) (c.args.number - 1) c.get-light.result.now c.args.sample.now (below g (goal.at.delta_alone-requires-clause-waves g c).After-get-light) c.get-light.ensures lights.equal c.requires.fits

pub returns-then-lights-clause-is : goal.returns-then-lights-clause-is
returns-then-lights-clause-is g c =
    let lights = c.args.lights.now in
    let light = c.get-light.result.now in
    let sample = c.args.sample.now in
    let n = g.S.Scale.unit in
    let lt = below g (goal.at.returns-then-lights-clause-is g c).After-get-light in
    let other = first_weights (lights_of lights) in
    let shared = shares_first (lights_of lights) (c.args.number - 1) light lt c.get-light.ensures (lights.corrected c.if-lights.true) in
    let first : ratio_ends c.args.first.now ≡ ratios_at n sample (first_weights_or other light.correction) = c.requires.first ∙ ap (ratios_at n sample) (sym shared) in
    let is : c.delta_by.result ≡ delta_under light sample = c.delta_by.ensures.is ∙ ap (g.D.Formula.value light.rule n (lab_ends light.standard)) (seen_is light.correction light.weights other sample _ _ c.own_ratios-own.ensures first) in
    slice_get-map _ (lights_of lights) (c.args.number - 1) ∙ ap (option_map (λ l. delta_under l sample)) c.get-light.ensures ∙ ap Some (sym is)

pub returns-else-lights-clause-is : goal.returns-else-lights-clause-is
returns-else-lights-clause-is g c =
    let sample = c.args.sample.now in
    slice_get-map _ (lights_of c.args.lights.now) (c.args.number - 1) ∙ ap (option_map (λ l. delta_under l sample)) c.get-light.ensures ∙ ap Some (sym c.delta_alone.ensures.is)
