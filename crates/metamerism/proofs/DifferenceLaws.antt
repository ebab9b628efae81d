-- The colour of a spectrum under weights, and the law of the difference by any formula.
use Rattle.std.proofs.Common.{◌≡◌, ◌*◌, ◌<◌, ℕ, Option, Some, None, List, [], ◌∷◌, All, arith, subst, sym, mul-le-mul_left}
use Rattle.std.proofs.lemmas.List.Elements.{All-tail}
use Rattle.interval_specs.specs.Ends.{Ends}
use Rattle.interval_specs.specs.Encloses.{Encloses}
use Rattle.interval_specs.specs.Ranges.{UpTo}
use Rattle.interval_specs.proofs.Laws.{encloses_itself, outer_ordered}
use Rattle.fix_bounds.specs.Ratios.{RatioEnds}
use Rattle.cielab_bounds.specs.Cielab.{LabEnds}
use Rattle.cielab_bounds.specs.Formula.{IsColour, KeepsEnclosing}
use Rattle.cielab_bounds.specs.Laws.{EnclosesLab}
use Rattle.cielab_bounds.proofs.LabLaw.{lab_encloses}
use Rattle.cielab_bounds.proofs.LabRanges.{colour_of_ratios}
use Rattle.spectral_tables.specs.Laws.{EnclosesWaves}
use Rattle.spectral_tables.specs.WeightTable.{IsWeightTable, WeightTable}
use Rattle.tristimulus.specs.Ratios.{ratios_at}
use Rattle.tristimulus.proofs.RatioLaws.{ratio_not_negative, ratios_enclose, ratios_in_range}
use Rattle.metamerism.specs.Correction.{corrected_colour, corrected_ratios}
use Rattle.metamerism.specs.Difference.{colour_under, light_difference, sample_colour}
use Rattle.metamerism.specs.Laws.{AreAtLeast0, ColourInRange, EnclosesFiner, EnclosesNarrower}
use Rattle.metamerism.proofs.CorrectionLaws.{corrected_enclose, corrected_in_range}

pub colour_in_range : ColourInRange
unfolding colour_under
colour_in_range n weights spectrum kept h =
    let r = ratios_in_range n spectrum weights kept h in
    colour_of_ratios n (ratios_at n spectrum weights) r.x r.y r.z

pub colour_encloses : (n m : ℕ) (weights : WeightTable) (spectrum finer : List Ends) → 0 < m → EnclosesWaves m spectrum finer → EnclosesLab m (colour_under weights n spectrum) (colour_under weights (m * n) finer)
unfolding colour_under ratios_at
colour_encloses n m weights spectrum finer some h =
    let at = λ (column : ℕ). ratio_not_negative n column spectrum weights in
    lab_encloses n m (ratios_at n spectrum weights) (ratios_at (m * n) finer weights) some (at 0) (at 1) (at 2) (ratios_enclose n m spectrum finer weights h)

-- ---- a corrected sample

-- the ratios of a spectrum that encloses one at a finer scale are not below 0
at_least_0 : (n m : ℕ) (weights : WeightTable) (spectrum finer : List Ends) → 0 < m → EnclosesWaves m spectrum finer → AreAtLeast0 (ratios_at n spectrum weights)
unfolding ratios_at
at_least_0 n m weights spectrum finer some h =
    let low = λ (column : ℕ). ratio_not_negative n column spectrum weights in
    let e = ratios_enclose n m spectrum finer weights h in
    record {
      x = record { low = low 0; ordered = outer_ordered m _ _ some e.x };
      y = record { low = low 1; ordered = outer_ordered m _ _ some e.y };
      z = record { low = low 2; ordered = outer_ordered m _ _ some e.z };
    }

-- nor are those of the finer one
finer_at_least_0 : (n m : ℕ) (weights : WeightTable) (spectrum finer : List Ends) → EnclosesWaves m spectrum finer → AreAtLeast0 (ratios_at (m * n) finer weights)
unfolding ratios_at
finer_at_least_0 n m weights spectrum finer h =
    let low = λ (column : ℕ). ratio_not_negative (m * n) column finer weights in
    let e = ratios_enclose n m spectrum finer weights h in
    record { x = record { low = low 0; ordered = e.x.ordered }; y = record { low = low 1; ordered = e.y.ordered }; z = record { low = low 2; ordered = e.z.ordered } }

corrected_is_colour : (n : ℕ) (weights first : WeightTable) (standard_first : RatioEnds) (sample : List Ends) → 0 < n
    → AreAtLeast0 (ratios_at n sample weights) → AreAtLeast0 standard_first → AreAtLeast0 (ratios_at n sample first) → IsColour n (corrected_colour weights first standard_first n sample)
unfolding corrected_colour
corrected_is_colour n weights first standard_first sample some p q r =
    let c = corrected_in_range n (ratios_at n sample weights) standard_first (ratios_at n sample first) some p q r in
    colour_of_ratios n (corrected_ratios n (ratios_at n sample weights) standard_first (ratios_at n sample first)) c.x c.y c.z

corrected_colour_encloses : (n m : ℕ) (weights first : WeightTable) (a b a' b' : List Ends) → 0 < n → 0 < m → EnclosesWaves m a a' → EnclosesWaves m b b'
    → EnclosesLab m (corrected_colour weights first (ratios_at n a first) n b) (corrected_colour weights first (ratios_at (m * n) a' first) (m * n) b')
unfolding corrected_colour
corrected_colour_encloses n m weights first a b a' b' least some ha hb =
    let p = at_least_0 n m weights b b' some hb in
    let q = at_least_0 n m first a a' some ha in
    let r = at_least_0 n m first b b' some hb in
    let c = corrected_in_range n (ratios_at n b weights) (ratios_at n a first) (ratios_at n b first) least p q r in
    lab_encloses n m (corrected_ratios n (ratios_at n b weights) (ratios_at n a first) (ratios_at n b first)) (corrected_ratios (m * n) (ratios_at (m * n) b' weights) (ratios_at (m * n) a' first) (ratios_at (m * n) b' first)) some
    c.x.not_negative c.y.not_negative c.z.not_negative
    (corrected_enclose n m _ _ _ _ _ _ least some p q r (ratios_enclose n m b b' weights hb) (ratios_enclose n m a a' first ha) (ratios_enclose n m b b' first hb))

-- the colours of a sample at both scales are in range, and the coarse one encloses the other
record SampleColours (first : Option WeightTable) (weights : WeightTable) (n m : ℕ) (standard sample standard' sample' : List Ends) : Type 0 where
  coarse : IsColour n (sample_colour first weights n standard sample)
  fine : IsColour (m * n) (sample_colour first weights (m * n) standard' sample')
  encloses : EnclosesLab m (sample_colour first weights n standard sample) (sample_colour first weights (m * n) standard' sample')

sample_colours : (first : Option WeightTable) (weights : WeightTable) (n m : ℕ) (standard sample standard' sample' : List Ends) → 0 < n → 0 < m → IsWeightTable weights
    → All (UpTo n) sample → All (UpTo (m * n)) sample' → EnclosesWaves m standard standard' → EnclosesWaves m sample sample' → SampleColours first weights n m standard sample standard' sample'
sample_colours None weights n m a b a' b' least some kept rb rb' ha hb =
    record { coarse = colour_in_range n weights b kept rb; fine = colour_in_range (m * n) weights b' kept rb'; encloses = colour_encloses n m weights b b' some hb }
sample_colours (Some first) weights n m a b a' b' least some kept rb rb' ha hb =
    let more = mul-le-mul_left m least in
    record {
      coarse = corrected_is_colour n weights first _ b least (at_least_0 n m weights b b' some hb) (at_least_0 n m first a a' some ha) (at_least_0 n m first b b' some hb);
      fine = corrected_is_colour (m * n) weights first _ b' (omega arith) (finer_at_least_0 n m weights b b' hb) (finer_at_least_0 n m first a a' ha) (finer_at_least_0 n m first b b' hb);
      encloses = corrected_colour_encloses n m weights first a b a' b' least some ha hb;
    }

-- ---- the difference

-- a spectrum encloses itself
pub waves_enclose_themselves : (n : ℕ) (spectrum : List Ends) → All (UpTo n) spectrum → EnclosesWaves 1 spectrum spectrum
waves_enclose_themselves n [] range = tt
waves_enclose_themselves n (a ∷ rest) range = (encloses_itself a (range 0 a (omega arith)).ordered, waves_enclose_themselves n rest (All-tail (UpTo n) a rest range))

pub encloses_finer : (value : ℕ → LabEnds → LabEnds → Ends) → KeepsEnclosing value → EnclosesFiner value
encloses_finer value law first n m weights a b a' b' least some kept ra rb ra' rb' ha hb =
    let s = sample_colours first weights n m a b a' b' (omega arith) some kept rb rb' ha hb in
    law n m (colour_under weights n a) (sample_colour first weights n a b) (colour_under weights (m * n) a') (sample_colour first weights (m * n) a' b') least some
    (colour_in_range n weights a kept ra) s.coarse (colour_in_range (m * n) weights a' kept ra') s.fine (colour_encloses n m weights a a' some ha) s.encloses

pub encloses_narrower : (value : ℕ → LabEnds → LabEnds → Ends) → KeepsEnclosing value → EnclosesNarrower value
encloses_narrower value law first n weights a b a' b' least kept ra rb ra' rb' ha hb =
    let once : 1 * n ≡ n = omega arith in
    let range = λ (spectrum : List Ends) (r : All (UpTo n) spectrum). subst (λ k. All (UpTo k) spectrum) (sym once) r in
    subst (λ k. Encloses 1 (light_difference value first weights n a b) (light_difference value first weights k a' b')) once
    (encloses_finer value law first n 1 weights a b a' b' least (omega arith) kept ra rb (range a' ra') (range b' rb') ha hb)
