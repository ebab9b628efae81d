use Rattle.std.proofs.Common.{◌∙◌, ap, sym}
use Rattle.tristimulus.specs.Ratios.{ratios_at}
use Rattle.metamerism.specs.Lights.{lights_of}
use Rattle.metamerism.proofs.LightLists.{some_light}
use Rattle.metamerism.proofs.PlaceFacts.{first_is, fits_at}
use Rattle.metamerism.proofs.comparing.first_ratios.Goals as goal

pub ratios-requires : goal.ratios-requires
ratios-requires g c =
    let lights = c.args.lights.now in
    fits_at (lights_of lights) 0 c.first.result.now c.args.sample.now (some_light (lights_of lights) c.first.result.now c.first.ensures) c.first.ensures lights.equal c.requires

pub returns : goal.returns
returns g c = c.ratios.ensures ∙ ap (ratios_at g.S.Scale.unit c.args.sample.now) (sym (first_is (lights_of c.args.lights.now) c.first.result.now c.first.ensures))
