-- The law of the values of a standard, and their lower bounds.
use Rattle.std.proofs.Common.{ℕ, ◌^◌, ◌≤◌, ◌<◌, arith, lit<}
use Rattle.interval_specs.specs.Ends.{IsOrdered}
use Rattle.interval_specs.proofs.Laws.{encloses_itself, outer_ordered}
use Rattle.cielab_bounds.specs.Cielab.{LabEnds}
use Rattle.interval_specs.specs.Ranges.{AtLeast}
use Rattle.lab_parts.specs.Parts.{chroma_at, chroma_square}
use Rattle.lab_parts.proofs.Law.{chroma_encloses, chroma_not_negative, chroma_square_encloses}
use Rattle.cmc_specs.specs.Cmc.{StandardEnds, standard_at}
use Rattle.cmc_specs.specs.Laws.{StandardEncloses}
use Rattle.cmc_specs.proofs.HueLaws.{hue_factor_encloses, hue_weight_encloses}
use Rattle.cmc_specs.proofs.PartLaws.{chroma_weight_encloses, hue_share_encloses, lightness_weight_encloses}
use Rattle.cmc_specs.proofs.LeastValues.{chroma_weight_at_least, hue_factor_at_least, hue_weight_at_least, lightness_weight_at_least}
use Rattle.cmc_specs.proofs.UnitRanges.{hue_share_up_to}

pub standard_encloses : StandardEncloses
unfolding standard_at
standard_encloses n m p p' few finer h =
    let some : 0 < n = omega arith in
    let z = chroma_not_negative n p.a p.b in
    let c = chroma_encloses n m p.a p.b p'.a p'.b some finer h.a h.b in
    let sc = chroma_weight_encloses n m _ _ some finer z c in
    let f = hue_share_encloses n m _ _ some finer (chroma_square_encloses n m p.a p.b p'.a p'.b some finer h.a h.b) in
    let t = hue_factor_encloses n m _ _ _ _ _ _ some finer z h.a h.b c in
    record {
      l1 = h.l;
      a1 = h.a;
      b1 = h.b;
      c1 = c;
      sl = lightness_weight_encloses n m p.l p'.l some finer h.l;
      sc = sc;
      sh = hue_weight_encloses n m _ _ _ _ _ _ some finer sc f t;
    }

-- lower bounds of S_L, S_C and S_H
pub record Weighted (n : ℕ) (s : StandardEnds) : Type 0 where
  pub sl : AtLeast 51 100 n s.sl
  pub sc : AtLeast 637 1000 n s.sc
  pub sh : AtLeast 22 100 n s.sh

-- they hold where the ends of a and b are in order
pub standard_weighted : (n : ℕ) (p : LabEnds) → 10 ^ 6 ≤ n → IsOrdered p.a → IsOrdered p.b → Weighted n (standard_at n p)
unfolding standard_at
standard_weighted n p few oa ob =
    let some : 0 < n = omega arith in
    let one : 0 < 1 = lit< tt in
    let a = encloses_itself p.a oa in
    let b = encloses_itself p.b ob in
    let z = chroma_not_negative n p.a p.b in
    let c = chroma_encloses n 1 p.a p.b p.a p.b some one a b in
    let w = chroma_weight_encloses n 1 _ _ some one z c in
    let t = hue_factor_encloses n 1 _ _ _ _ _ _ some one z a b c in
    let co = outer_ordered 1 _ _ one c in
    let sc = chroma_weight_at_least n (chroma_at n p.a p.b) few in
    record {
      sl = lightness_weight_at_least n p.l few;
      sc = sc;
      sh = hue_weight_at_least n _ _ _ few (outer_ordered 1 _ _ one w) sc (hue_share_up_to n (chroma_square n p.a p.b) some) (outer_ordered 1 _ _ one t) (hue_factor_at_least n p.a p.b _ few z co);
    }
