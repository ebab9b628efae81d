-- Dyeings in rising order of their units, whatever units they have.
use Rattle.std.proofs.Common.{◌≡◌, ◌<◌, ℕ, Bool, true, false, nat_eq, nat_lt, List, [], ◌∷◌, All, refl, arith, if◌then◌else◌}
use Rattle.std.specs.Bool.{⊤}
use Rattle.std.proofs.lemmas.Bool.Decides.{nat_tests}
use Rattle.std.proofs.lemmas.List.Elements.{All-cons, All-head, All-tail}
use Rattle.ks_curves.specs.Dye.{Dyeing}
use Rattle.ks_curves.specs.Order.{put_by}
use Rattle.ks_curves.specs.Calibration.{in_order}
use Rattle.ks_curves.proofs.Cases.{by_less}

abbrev pub units_of : Dyeing → ℕ
units_of d = d.0

-- dyeings in strictly rising order, each of more than u units
abbrev pub Rises : ℕ → List Dyeing → Type 0
Rises u [] = ⊤
Rises u (d ∷ ds) = (u < d.0) × Rises d.0 ds

put_rises : (u : ℕ) (d : Dyeing) (ds : List Dyeing) → u < d.0 → Rises u ds → Rises u (put_by units_of d ds)
unfolding put_by
put_rises u d [] more h = (more, tt)
put_rises u d (e ∷ ds) more h =
    by_less (λ t. Rises u (if t then d ∷ e ∷ ds else (if nat_lt e.0 d.0 then e ∷ put_by units_of d ds else e ∷ ds))) d.0 e.0
    (λ before. (more, (before, h.1)))
    (λ not_before. by_less (λ t. Rises u (if t then e ∷ put_by units_of d ds else e ∷ ds)) e.0 d.0
    (λ after. (h.0, put_rises e.0 d ds after h.1))
    (λ same. h))

pub order_rises : (ds : List Dyeing) → Rises 0 (in_order ds)
unfolding in_order
order_rises [] = tt
order_rises (d ∷ ds) = go (nat_eq d.0 0) refl (order_rises ds)
  where
    go : (t : Bool) → nat_eq d.0 0 ≡ t → Rises 0 (in_order ds) → Rises 0 (if t then in_order ds else (put_by (λ d. d.0) d (in_order ds)))
    go true e h = h
    go false e h = put_rises 0 d (in_order ds) (grind (arith, nat_tests, e)) h

-- what holds of all dyeings holds of those in order
put_all : (P : Dyeing → Type 0) (d : Dyeing) (ds : List Dyeing) → P d → All P ds → All P (put_by units_of d ds)
unfolding put_by
put_all P d [] here each = All-cons P d [] here each
put_all P d (e ∷ ds) here each =
    by_less (λ t. All P (if t then d ∷ e ∷ ds else (if nat_lt e.0 d.0 then e ∷ put_by units_of d ds else e ∷ ds))) d.0 e.0
    (λ before. All-cons P d (e ∷ ds) here each)
    (λ not_before. by_less (λ t. All P (if t then e ∷ put_by units_of d ds else e ∷ ds)) e.0 d.0
    (λ after. All-cons P e (put_by units_of d ds) (All-head P e ds each) (put_all P d ds here (All-tail P e ds each)))
    (λ same. each))

pub order_all : (P : Dyeing → Type 0) (ds : List Dyeing) → All P ds → All P (in_order ds)
unfolding in_order
order_all P [] each = each
order_all P (d ∷ ds) each = go (nat_eq d.0 0) (order_all P ds (All-tail P d ds each))
  where
    go : (t : Bool) → All P (in_order ds) → All P (if t then in_order ds else (put_by (λ d. d.0) d (in_order ds)))
    go true h = h
    go false h = put_all P d (in_order ds) (All-head P d ds each) h
