-- Where a box is split.
use Rattle.std.proofs.Common.{◌≡◌, ◌+◌, ◌-◌, ◌<◌, ℕ, List, Bool, true, false, nat_lt, if◌then◌else◌, length, get_or, drop, add-one, refl, sym, ap, subst, ◌∙◌}
use Rattle.std.proofs.Math.Seq.{drop-cons}
use Rattle.box_core.specs.declared.cutting.WideRange.{WideRange}
use Rattle.box_specs.specs.Splits.{widest}

pub widest_step : (best width i j : ℕ) (low high : List ℕ) → j < length low → j < length high
    → widest best width i (drop j low) (drop j high)
    ≡ (if nat_lt width (get_or high j 0 - get_or low j 0) then widest i (get_or high j 0 - get_or low j 0) (i + 1) (drop (j + 1) low) (drop (j + 1) high)
    else widest best width (i + 1) (drop (j + 1) low) (drop (j + 1) high))
widest_step best width i j low high l h = rw (add-one j, drop-cons low j 0 l, drop-cons high j 0 h) refl

-- the search for the widest range goes on from the wider of the best and that of dye i
pub widest_next : (best next : WideRange) (i : ℕ) (low high : List ℕ) → i < length low → i < length high
    → next ≡ (if nat_lt best.width (get_or high i 0 - get_or low i 0) then record { dye = i; width = get_or high i 0 - get_or low i 0 } else best)
    → widest next.dye next.width (i + 1) (drop (i + 1) low) (drop (i + 1) high) ≡ widest best.dye best.width i (drop i low) (drop i high)
widest_next best next i low high l h e = go (nat_lt best.width width) refl e where
  width : ℕ
  width = get_or high i 0 - get_or low i 0

  W : WideRange → ℕ
  W w = widest w.dye w.width (i + 1) (drop (i + 1) low) (drop (i + 1) high)

  step : widest best.dye best.width i (drop i low) (drop i high) ≡ (if nat_lt best.width width then W (record { dye = i; width = width }) else W best)
  step = widest_step best.dye best.width i i low high l h

  go : (t : Bool) → nat_lt best.width width ≡ t → next ≡ (if t then record { dye = i; width = width } else best)
      → W next ≡ widest best.dye best.width i (drop i low) (drop i high)
  go true t n = ap W n ∙ sym (step ∙ ap (λ b. if b then W (record { dye = i; width = width }) else W best) t)
  go false t n = ap W n ∙ sym (step ∙ ap (λ b. if b then W (record { dye = i; width = width }) else W best) t)

pub next_inside : (best next : WideRange) (i width count : ℕ) (t : Bool) → best.dye < count → i < count
    → next ≡ (if t then record { dye = i; width = width } else best) → next.dye < count
next_inside best next i width count true b l e = subst (λ d. d < count) (sym (ap (λ (w : WideRange). w.dye) e)) l
next_inside best next i width count false b l e = subst (λ d. d < count) (sym (ap (λ (w : WideRange). w.dye) e)) b
