use Rattle.std.proofs.Common.{◌∙◌, sym, subst}
use Rattle.metamerism.specs.Places.{HaveEqualPlaces}
use Rattle.metamerism.specs.Shared.{AreCorrectedByFirst}
use Rattle.metamerism.specs.Lights.{lights_of}
use Rattle.metamerism.proofs.LightLists.{more_corrected, more_equal}
use Rattle.metamerism.proofs.lights.Lights.and.Goals as goal
use Rattle.metamerism.proofs.lights.Lights.and.Goals.{else-self, then-self}

pub invariant_of-result : goal.invariant_of-result
invariant_of-result g c =
    let lights = lights_of c.args.self in
    record {
      equal = subst HaveEqualPlaces (sym c.and.ensures) (more_equal lights c.args.next c.args.self.equal c.requires.places);
      corrected = λ e. subst AreCorrectedByFirst (sym c.and.ensures)
          (elim c.if-self.branch [
            | then-self w ↦ more_corrected lights c.args.next w.first.result.now w.first.ensures (c.args.self.corrected w.if-self.true) (w.is_corrected_by-by_first.ensures.0 (sym w.by_first-is ∙ e))
            | else-self w ↦ absurd (cc (sym w.by_first-is ∙ e))
          ]);
    }
