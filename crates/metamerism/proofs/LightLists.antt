-- One more light after others.
use Rattle.std.proofs.Common.{◌≡◌, ◌<◌, List, [], ◌∷◌, ◌++◌, Some, length, refl, subst, sym, arith}
use Rattle.std.specs.Prelude.{slice_get}
use Rattle.std.proofs.lemmas.List.Elements.{All-cons, All-nil, All-push}
use Rattle.fix_bounds.specs.declared.scale.Scale.{Ghosts}
use Rattle.cielab_bounds.specs.declared.difference.Difference as difference
use Rattle.cielab_bounds.specs.declared.difference.Formula as formula
use Rattle.metamerism.specs.declared.one_light.Light.{Light}
use Rattle.metamerism.specs.Kept.{first_weights_or}
use Rattle.metamerism.specs.Places.{HaveEqualPlaces, first_places, light_places}
use Rattle.metamerism.specs.Shared.{AreCorrectedByFirst}
use Rattle.metamerism.proofs.PlaceFacts.{first_is}

module _ {S D K : Type 0} {g : Ghosts S} {h : difference.Ghosts D S K} {f : formula.Ghosts D} where
  pub one_equal : (first : Light S D K g h f) → HaveEqualPlaces (first ∷ [])
  one_equal first = All-cons (λ (l : Light S D K g h f). light_places l ≡ light_places first) first [] refl (All-nil (λ (l : Light S D K g h f). light_places l ≡ light_places first))

  pub one_corrected : (first : Light S D K g h f) → first_weights_or first.weights first.correction ≡ first.weights → AreCorrectedByFirst (first ∷ [])
  one_corrected first e =
      All-cons (λ (l : Light S D K g h f). first_weights_or first.weights l.correction ≡ first.weights) first [] e (All-nil (λ (l : Light S D K g h f). first_weights_or first.weights l.correction ≡ first.weights))

  pub more_equal : (lights : List (Light S D K g h f)) (next : Light S D K g h f) → HaveEqualPlaces lights → light_places next ≡ first_places lights → HaveEqualPlaces (lights ++ next ∷ [])
  more_equal [] next equal e = one_equal next
  more_equal (first ∷ rest) next equal e = All-push (λ (l : Light S D K g h f). light_places l ≡ light_places first) (first ∷ rest) next equal e

  pub more_corrected : (lights : List (Light S D K g h f)) (next first : Light S D K g h f) → slice_get lights 0 ≡ Some first → AreCorrectedByFirst lights → first_weights_or first.weights next.correction ≡ first.weights
      → AreCorrectedByFirst (lights ++ next ∷ [])
  more_corrected [] next first at all e = absurd (cc at)
  more_corrected (l ∷ rest) next first at all e =
      All-push (λ (m : Light S D K g h f). first_weights_or l.weights m.correction ≡ l.weights) (l ∷ rest) next all
      (subst (λ w. first_weights_or w next.correction ≡ w) (sym (first_is (l ∷ rest) first at)) e)

  -- a light that was read is there
  pub some_light : (lights : List (Light S D K g h f)) (first : Light S D K g h f) → slice_get lights 0 ≡ Some first → 0 < length lights
  some_light [] first e = absurd (cc e)
  some_light (l ∷ rest) first e = omega arith
