-- The first of the boxes that wait: the one in hand, or the first of the map.
use Rattle.std.proofs.Common.{◌≡◌, Bool, true, false, if◌then◌else◌, refl, sym, ap, subst, ◌∙◌}
use Rattle.std.specs.Prelude.{Option, Some, None, IfSome, IsSome}
use Rattle.std.specs.BTreeMap.{BTreeMap, IsLowerBound, Updates, get}
use Rattle.std.specs.Ordering.{is_eq, is_gt}
use Rattle.std.proofs.lemmas.Bool.{false≢true}
use Rattle.box_specs.specs.Tree.{Spot, spot_cmp}
use Rattle.box_search.specs.State.{with_entry, without}
use Rattle.box_search.specs.Frontier.{IsAhead, IsFirst, with_hand}
use Rattle.box_search.specs.Places.{at, place, place_cmp, spot}
use Rattle.box_search.specs.declared.place.Place.{Place}
use Rattle.box_search.proofs.Endings.{equal_itself}
use Rattle.box_search.proofs.Judging.{spot_same}
use Rattle.box_search.proofs.Orders.{not_both, not_itself, precedes, precedes_swapped}

module _ {X : Type 0} (q : Spot) (b : X) (f : Spot → Option X) (ahead : (z : Spot) (c : X) → f z ≡ Some c → precedes q z ≡ true) where
  -- the map has no box at the place of the one in hand
  absent : (z : Spot) → is_eq (spot_cmp q z) ≡ true → f z ≡ None
  absent z e = go (f z) refl where
    go : (o : Option X) → f z ≡ o → f z ≡ None
    go None h = h
    go (Some c) h = absurd (false≢true (sym (not_itself q) ∙ subst (λ y. precedes q y ≡ true) (sym (spot_same q z e)) (ahead z c h)))

  behind : (z : Spot) → IsSome (f z) → precedes z q ≡ false
  behind z h = go (f z) refl h where
    go : (o : Option X) → f z ≡ o → IsSome o → precedes z q ≡ false
    go None e k = absurd (false≢true k)
    go (Some c) e k = not_both q z (ahead z c e)

  least : (z : Spot) → IsSome (with_entry q b f z) → is_gt (spot_cmp q z) ≡ false
  least z h = sym (precedes_swapped z q) ∙ go (is_eq (spot_cmp q z)) refl h where
    go : (t : Bool) → is_eq (spot_cmp q z) ≡ t → IsSome (if t then Some b else f z) → precedes z q ≡ false
    go true e k = subst (λ y. precedes y q ≡ false) (spot_same q z e) (not_itself q)
    go false e k = behind z k

  taken : (z : Spot) → f z ≡ without q (with_entry q b f) z
  taken z = go (is_eq (spot_cmp q z)) refl where
    go : (t : Bool) → is_eq (spot_cmp q z) ≡ t → f z ≡ (if t then None else if t then Some b else f z)
    go true e = absent z e
    go false e = refl

  entry_first : IsFirst (with_entry q b f) q b f
  entry_first = record {
    waits = ap (λ t. if t then Some b else f q) (equal_itself q);
    least = least;
    taken = taken;
  }

-- a box in hand is the first of those that wait
pub hand_first : {X : Type 0} (hand : Option (Place × X)) (p : Place × X) (f : Spot → Option X) → hand ≡ Some p → IsAhead hand f → IsFirst (with_hand hand f) (spot p.0) p.1 f
hand_first {X} hand p f e ahead = subst (λ h. IsFirst (with_hand h f) (spot p.0) p.1 f) (sym e) (entry_first (spot p.0) p.1 f (subst (λ h. IsAhead h f) e ahead))

-- with none in hand, the first box of the map is the first of those that wait
pub map_first : {X : Type 0} (hand result : Option (Place × X)) (m new : BTreeMap Place X) → hand ≡ None
    → IfSome result (λ p. get place_cmp m p.0 ≡ Some p.1) → IfSome result (λ p. IsLowerBound place_cmp m p.0) → IfSome result (λ p. Updates place_cmp m new p.0 None)
    → IfSome result (λ p. IsFirst (with_hand hand (at m)) (spot p.0) p.1 (at new))
map_first {X} hand None m new e value low updates = tt
map_first {X} hand (Some p) m new e value low updates =
    subst (λ h. IsFirst (with_hand h (at m)) (spot p.0) p.1 (at new)) (sym e) (record { waits = value; least = λ z. low (place z); taken = λ z. updates.0 (place z) })
