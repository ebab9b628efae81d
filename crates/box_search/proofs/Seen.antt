-- What waits, with what is held for it and without.
use Rattle.std.proofs.Common.{◌≡◌, Bool, true, false, if◌then◌else◌, refl, sym, ap, subst, ◌∙◌}
use Rattle.std.specs.Prelude.{Option, Some, None, IsSome}
use Rattle.std.specs.Ordering.{is_eq}
use Rattle.std.proofs.lemmas.Option.{none-some}
use Rattle.box_specs.specs.Span.{Span}
use Rattle.box_specs.specs.Tree.{Spot, spot_cmp}
use Rattle.box_specs.proofs.Tests.{some_same}
use Rattle.box_search.specs.Frontier.{IsAhead, IsFirst, lower_of, with_hand, with_upper}
use Rattle.box_search.specs.Places.{spot}
use Rattle.box_search.specs.State.{with_entry}
use Rattle.box_search.specs.Waiting.{AllHeld, HalvesAreHeld, IsHeld, box_of, seen, seen_box, seen_cut, seen_hand}
use Rattle.box_search.specs.declared.frontier.Halves.{Halves}
use Rattle.box_search.specs.declared.place.Place.{Place}
use Rattle.box_search.specs.declared.waiting.Waiting.{Waiting}

module _ {H : Type 0} where
  seen_entry : (q : Spot) (w : Waiting H) (f : Spot → Option (Waiting H)) (z : Spot) → seen (with_entry q w f) z ≡ with_entry q (box_of w) (seen f) z
  seen_entry q w f z = go (is_eq (spot_cmp q z)) where
    go : (c : Bool) → seen_box (if c then Some w else f z) ≡ (if c then Some (box_of w) else seen_box (f z))
    go true = refl
    go false = refl

  pub seen_with_hand : (hand : Option (Place × Waiting H)) (f : Spot → Option (Waiting H)) → seen (with_hand hand f) ≡ with_hand (seen_hand hand) (seen f)
  seen_with_hand None f = refl
  seen_with_hand (Some hand) f = λ i z. seen_entry (spot hand.0) hand.1 f z i

  pub seen_lower : (halves : Option (Halves (Waiting H))) → seen_hand (lower_of halves) ≡ lower_of (seen_cut halves)
  seen_lower None = refl
  seen_lower (Some halves) = refl

  pub seen_upper : (halves : Option (Halves (Waiting H))) (f : Spot → Option (Waiting H)) (z : Spot) → seen (with_upper halves f) z ≡ with_upper (seen_cut halves) (seen f) z
  seen_upper None f z = refl
  seen_upper (Some halves) f z = seen_entry (spot halves.upper.0) halves.upper.1 f z

  -- the first of what waits is so without what is held for it
  pub first_seen : (m others : Spot → Option (Waiting H)) (q : Spot) (w : Waiting H) → IsFirst m q w others → IsFirst (seen m) q (box_of w) (seen others)
  first_seen m others q w h = record {
    waits = ap seen_box h.waits;
    least = λ z k. h.least z (there (m z) k);
    taken = λ z. ap seen_box (h.taken z) ∙ go z (is_eq (spot_cmp q z));
  } where
    there : (o : Option (Waiting H)) → IsSome (seen_box o) → IsSome o
    there None k = k
    there (Some v) k = refl

    go : (z : Spot) (t : Bool) → seen_box (if t then None else m z) ≡ (if t then None else seen_box (m z))
    go z true = refl
    go z false = refl

  -- what is in hand stands before what waits in the map
  pub ahead_seen : (hand : Option (Place × Waiting H)) (f : Spot → Option (Waiting H)) → IsAhead (seen_hand hand) (seen f) → IsAhead hand f
  ahead_seen None f h = tt
  ahead_seen (Some hand) f h = λ z w e. h z (box_of w) (ap seen_box e)

  module _ (stands : H → Span → Type 0) where
    pub held_entry : (q : Spot) (w : Waiting H) (f : Spot → Option (Waiting H)) → IsHeld stands w → AllHeld stands f → AllHeld stands (with_entry q w f)
    held_entry q w f here all = λ z v e. go z v (is_eq (spot_cmp q z)) e where
      go : (z : Spot) (v : Waiting H) (t : Bool) → (if t then Some w else f z) ≡ Some v → IsHeld stands v
      go z v true e = subst (IsHeld stands) (some_same w v e) here
      go z v false e = all z v e

    pub held_first : (m others : Spot → Option (Waiting H)) (q : Spot) (w : Waiting H) → AllHeld stands m → IsFirst m q w others → IsHeld stands w × AllHeld stands others
    held_first m others q w all h = (all q w h.waits, λ z v e. go z v (is_eq (spot_cmp q z)) (sym (h.taken z) ∙ e)) where
      go : (z : Spot) (v : Waiting H) (t : Bool) → (if t then None else m z) ≡ Some v → IsHeld stands v
      go z v true e = absurd (none-some v e)
      go z v false e = all z v e

    -- the halves of the box that was taken join the others
    pub held_put : (halves : Option (Halves (Waiting H))) (hand : Option (Place × Waiting H)) (f g : Spot → Option (Waiting H)) → HalvesAreHeld stands halves → AllHeld stands f
        → hand ≡ lower_of halves → ((z : Spot) → g z ≡ with_upper halves f z) → AllHeld stands (with_hand hand g)
    held_put halves hand f g here all e up =
        let G : g ≡ with_upper halves f = λ i z. up z i in
        subst (λ h. AllHeld stands (with_hand h g)) (sym e) (subst (λ k. AllHeld stands (with_hand (lower_of halves) k)) (sym G) (go halves here)) where
          go : (h : Option (Halves (Waiting H))) → HalvesAreHeld stands h → AllHeld stands (with_hand (lower_of h) (with_upper h f))
          go None k = all
          go (Some h) k = held_entry (spot h.lower.0) h.lower.1 (with_upper (Some h) f) k.0 (held_entry (spot h.upper.0) h.upper.1 f k.1 all)
