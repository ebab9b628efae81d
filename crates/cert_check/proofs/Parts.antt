-- Boxes of the landscape: their corners, and the halves that a line leaves.
use Rattle.std.proofs.Common.{◌≡◌, ◌+◌, ◌≤◌, ℕ, zero, suc, List, [], ◌∷◌, true, get_or, arith}
use Rattle.std.specs.List.{AllByRecursion, slice_set}
use Rattle.std.proofs.lemmas.Bool.{false≢true}
use Rattle.price_grid.specs.Grid.{IsUpTo}
use Rattle.box_specs.specs.declared.certificate.CertLine.{CertLine}
use Rattle.box_specs.specs.declared.certificate.CertLine.TheVariants.{Dear, Fail, Limit, Pass, Split, Undecided}
use Rattle.box_specs.specs.declared.certificate.Cutoff.{Cutoff}
use Rattle.box_specs.specs.Landscape.{IsLawful, IsSound, Land}
use Rattle.box_specs.specs.Span.{IsWithin, Span}
use Rattle.box_specs.specs.Splits.{CutAt, is_cut, lower_half, upper_half}
use Rattle.box_specs.specs.Validity.{after, holds}
use Rattle.box_specs.proofs.Cuts.{cuts, lower_is_box, upper_is_box}
use Rattle.box_specs.proofs.Spans.{corner_within as corner_inside, inside_itself, up_to_itself, up_to_trans, within_inside}

pub corner_within : (l : Land) (b : Span) → IsSound l b → IsWithin b.lo l.top
corner_within l b p = corner_inside b l.top p.box p.inside

-- a recipe of a box of the landscape is one of the grid
pub within_part : (l : Land) (b : Span) (steps : List ℕ) → IsSound l b → IsWithin steps b → IsWithin steps l.top
within_part l b steps p h = within_inside steps b l.top h p.inside

pub top_part : (l : Land) → IsLawful l → IsSound l l.top
top_part l lawful = record { box = lawful.top; inside = inside_itself l.top }

grown : (lo : List ℕ) (i n : ℕ) → get_or lo i 0 ≤ n → IsUpTo lo (slice_set lo i n)
grown [] i n h = tt
grown (x ∷ lo) zero n h = (h, up_to_itself lo)
grown (x ∷ lo) (suc i) n h = (omega arith, grown lo i n h)

lowered : (hi : List ℕ) (i n : ℕ) → n ≤ get_or hi i 0 → IsUpTo (slice_set hi i n) hi
lowered [] i n h = tt
lowered (x ∷ hi) zero n h = (h, up_to_itself hi)
lowered (x ∷ hi) (suc i) n h = (omega arith, lowered hi i n h)

lower_part : (l : Land) (b : Span) (cut : CutAt) → IsSound l b → is_cut b cut ≡ true → IsSound l (lower_half b cut)
lower_part l b cut p e =
    let c = cuts b cut e in
    record {
      box = lower_is_box b cut p.box c;
      inside = (p.inside.0, up_to_trans (slice_set b.hi cut.dye cut.mid) b.hi l.top.hi (lowered b.hi cut.dye cut.mid (omega (arith, c.high))) p.inside.1);
    }

upper_part : (l : Land) (b : Span) (cut : CutAt) → IsSound l b → is_cut b cut ≡ true → IsSound l (upper_half b cut)
upper_part l b cut p e =
    let c = cuts b cut e in
    record {
      box = upper_is_box b cut p.box c;
      inside = (up_to_trans l.top.lo b.lo (slice_set b.lo cut.dye (cut.mid + 1)) p.inside.0 (grown b.lo cut.dye (cut.mid + 1) (omega (arith, c.low))), p.inside.1);
    }

-- the boxes that wait after a line that holds are boxes of the landscape
pub after_parts : (l : Land) (cutoff : Cutoff) (matched listed : List (List ℕ)) (b : Span) (waiting : List Span) (line : CertLine) → IsSound l b
    → holds l cutoff matched listed b line ≡ true → AllByRecursion (IsSound l) waiting → AllByRecursion (IsSound l) (after b waiting line)
after_parts l cutoff matched listed b waiting (Split zero mid) p e all = absurd (false≢true e)
after_parts l cutoff matched listed b waiting (Split (suc dye) mid) p e all =
    (lower_part l b (record { dye = dye; mid = mid }) p e, (upper_part l b (record { dye = dye; mid = mid }) p e, all))
after_parts l cutoff matched listed b waiting (Limit k) p e all = all
after_parts l cutoff matched listed b waiting (Fail j) p e all = all
after_parts l cutoff matched listed b waiting Dear p e all = all
after_parts l cutoff matched listed b waiting Undecided p e all = all
after_parts l cutoff matched listed b waiting Pass p e all = all
