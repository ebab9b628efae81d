-- Judging one box, as the code does it.
use Rattle.std.proofs.Common.{◌≡◌, ◌||◌, ℕ, Bool, true, false, cond, if◌then◌else◌, refl, sym, ap, subst, ◌∙◌}
use Rattle.std.specs.Prelude.{Option, Some, None, is_some}
use Rattle.std.specs.BTreeMap.{BTreeMap, get, is_at}
use Rattle.std.specs.Ordering.{is_eq}
use Rattle.std.proofs.lemmas.Bool.{false≢true, true≢false}
use Rattle.box_specs.specs.declared.judged.Judged.{Judged}
use Rattle.box_specs.specs.declared.judged.Judged.TheVariants.{Fail, Limit, Pass, StillOpen, Undecided}
use Rattle.box_specs.specs.Canonical.{line_by}
use Rattle.box_specs.specs.Landscape.{Grade, Land, fails, is_final, judged_by, judgement, light_of, limit_of, passes, unsure}
use Rattle.box_specs.specs.Span.{IsBox, IsInside, Span, is_single}
use Rattle.box_specs.specs.Splits.{CutAt, cut_of, lower_half, upper_half}
use Rattle.box_specs.specs.Tree.{Spot}
use Rattle.box_specs.specs.Validity.{is_pass_line, is_undecided_line}
use Rattle.box_specs.proofs.Cuts.{cut_fits, from_lower, from_upper, lower_is_box, upper_is_box}
use Rattle.box_specs.specs.Judgements.{is_open, is_passing, is_undecided}
use Rattle.box_search.specs.State.{with_entry}
use Rattle.box_search.specs.Places.{at, place, place_cmp}
use Rattle.box_search.specs.declared.place.Place.{Place}
use Rattle.box_specs.proofs.Spans.{up_to_itself, up_to_trans}

pub lower_inside : (b c top : Span) → IsBox b → is_single b ≡ false → IsInside b top → c ≡ lower_half b (cut_of b) → IsInside c top
lower_inside b c top box open_ h e =
    let cuts = cut_fits b box open_ in
    let half = lower_is_box b (cut_of b) box cuts in
    let high = from_lower b (cut_of b) box cuts (lower_half b (cut_of b)).hi (half, up_to_itself _) in
    subst (λ d. IsInside d top) (sym e) (h.0, up_to_trans (lower_half b (cut_of b)).hi b.hi top.hi high.1 h.1)

pub upper_inside : (b c top : Span) → IsBox b → is_single b ≡ false → IsInside b top → c ≡ upper_half b (cut_of b) → IsInside c top
upper_inside b c top box open_ h e =
    let cuts = cut_fits b box open_ in
    let half = upper_is_box b (cut_of b) box cuts in
    let low = from_upper b (cut_of b) box cuts (upper_half b (cut_of b)).lo (up_to_itself _, half) in
    subst (λ d. IsInside d top) (sym e) (up_to_trans top.lo b.lo (upper_half b (cut_of b)).lo h.0 low.0, h.1)

-- what a map has once an entry is inserted
pub entry_at : {X : Type 0} (m new : BTreeMap Place X) (k : Place) (x y : X) (q : Spot)
    → ((p : Place) → get place_cmp new p ≡ cond (is_at (place_cmp k) p) (Some x) (get place_cmp m p)) → k ≡ place q → x ≡ y → (z : Spot) → at new z ≡ with_entry q y (at m) z
entry_at m new k x y q h e f z = h (place z) ∙ (λ i. cond (is_eq (place_cmp (e i) (place z))) (Some (f i)) (at m z))

pub open_single : (l : Land) (b : Span) (j : Judged) → j ≡ judgement l b → is_open j ≡ true → is_single b ≡ false
open_single l b j e h = go (limit_of l b) (light_of l b) (is_single b) (l.grade b.lo) (sym (ap is_open e) ∙ h) where
  go : (x y : Option ℕ) (s : Bool) (g : Grade) → is_open (judged_by l x y s g) ≡ true → s ≡ false
  go (Some k) y s g r = absurd (false≢true r)
  go None (Some i) s g r = absurd (false≢true r)
  go None None false g r = refl
  go None None true passes r = absurd (false≢true r)
  go None None true fails r = absurd (false≢true r)
  go None None true unsure r = absurd (false≢true r)

-- a box is final exactly where it is not judged open
pub open_final : (l : Land) (b : Span) (t : Bool) → is_open (judgement l b) ≡ t → is_final l b ≡ (if t then false else true)
open_final l b t h = go (limit_of l b) (light_of l b) (is_single b) (l.grade b.lo) t h where
  go : (x y : Option ℕ) (s : Bool) (g : Grade) (u : Bool) → is_open (judged_by l x y s g) ≡ u → (is_some x || is_some y) || s ≡ (if u then false else true)
  go (Some k) y s g true r = absurd (false≢true r)
  go (Some k) y s g false r = refl
  go None (Some i) s g true r = absurd (false≢true r)
  go None (Some i) s g false r = refl
  go None None false g true r = refl
  go None None false g false r = absurd (true≢false r)
  go None None true passes true r = absurd (false≢true r)
  go None None true fails true r = absurd (false≢true r)
  go None None true unsure true r = absurd (false≢true r)
  go None None true g false r = refl

pub passing_by : (j : Judged) (cut : CutAt) → is_pass_line (line_by j cut) ≡ is_passing j
passing_by (Limit k) cut = refl
passing_by (Fail i) cut = refl
passing_by StillOpen cut = refl
passing_by Pass cut = refl
passing_by Undecided cut = refl

pub undecided_by : (j : Judged) (cut : CutAt) → is_undecided_line (line_by j cut) ≡ is_undecided j
undecided_by (Limit k) cut = refl
undecided_by (Fail i) cut = refl
undecided_by StillOpen cut = refl
undecided_by Pass cut = refl
undecided_by Undecided cut = refl
