-- The curves of a job are curves, their names are names, and their file is read.
use Rattle.std.proofs.Common.{◌≡◌, ◌+◌, ◌*◌, ◌/◌, ◌%◌, ◌^◌, ◌≤◌, ◌==◌, Bool, true, false, ℕ, Ok, List, [], ◌∷◌, ◌++◌, All, codes, length, get_or, inl, map, refl, String, sym, subst, ◌∙◌, arith, if◌then◌else◌, mod-lt, lit<, unsigned_abs}
use Rattle.std.specs.Fmt.{digits}
use Rattle.std.specs.List.{flat_map, range_with_len}
use Rattle.std.specs.Map.{keys_of}
use Rattle.std.specs.declared.alloc.Global.{Global}
use Rattle.std.specs.Prelude.{slice_index}
use Rattle.std.proofs.Math.Nat.{div-le_of_le-mul}
use Rattle.std.proofs.lemmas.Int.{ints}
use Rattle.std.proofs.lemmas.List.{length-map}
use Rattle.std.proofs.lemmas.List.Elements.{All-cons, All-map, All-nil, All-weaker}
use Rattle.interval_specs.specs.Ends.{Ends}
use Rattle.interval_specs.specs.Ranges.{UpTo}
use Rattle.dec_text.specs.RoundTrip.{ReadsBack}
use Rattle.spectral_tables.specs.Curve.{IsReflectance}
use Rattle.spectral_tables.specs.CurveBook.{Book}
use Rattle.spectral_tables.specs.declared.grid.WaveGrid.TheVariants.{Ten}
use Rattle.spectral_tables.specs.Columns.{names_of}
use Rattle.spectral_tables.specs.CurveFile.{curve_rule, curve_table_of}
use Rattle.mix_model.specs.Base.{IsBase, base_at}
use Rattle.mix_model.specs.Mixture.{mixed_at, no_steps, portions}
use Rattle.demo_jobs.specs.declared.dyes.DrawnDye.{DrawnDye}
use Rattle.demo_jobs.specs.Cloths.{substrate}
use Rattle.demo_jobs.specs.CurveText.{book_of, curve_text, dye_book, dye_name, dyeing_name, job_book}
use Rattle.demo_jobs.specs.Draws.{draw}
use Rattle.demo_jobs.specs.Dyes.{drawn_dyes, hidden_recipe, hidden_steps}
use Rattle.demo_jobs.specs.Standard.{dye_data, standard, standard_at}
use Rattle.demo_jobs.proofs.ClothFacts.{IsTenCurve, dyed_is_curve, raised, substrate_is_curve}
use Rattle.demo_jobs.proofs.CurvesRead.{AreCurves, book_read}
use Rattle.demo_jobs.proofs.PlainFields.{ArePlain, all_plain_by}
use Rattle.mix_model.proofs.MixtureLaws.{length-base, length-mixed, mixed_in_range}
use Rattle.demo_jobs.proofs.Strength.{base_small, portions_ordered, recipe_reflects}

-- ---- the standard is a curve

few_steps : (draws : List ℕ) (index : ℕ) → hidden_steps draws index ≤ 400
few_steps draws index = by (draw draws (24 + index / 2 * 2) 2 == index % 2)
  where
    by : (b : Bool) → (if b then 20 + draw draws (24 + index / 2 * 2 + 1) 100 else 0) ≤ 400
    by true = omega (arith, mod-lt (slice_index draws (24 + index / 2 * 2 + 1)) (lit< {m = 0} {n = 100} tt))
    by false = omega arith

pub recipe_few : (draws : List ℕ) → All (λ n. n ≤ 400) (hidden_recipe draws)
unfolding hidden_recipe
recipe_few draws = All-map (λ n. n ≤ 400) (hidden_steps draws) (range_with_len 0 6) (λ k d lt. few_steps draws (get_or (range_with_len 0 6) k d))

pub six_dyes : (draws : List ℕ) → length (drawn_dyes draws) ≤ 6
unfolding drawn_dyes
six_dyes draws = omega arith

below_one : (r : Ends) → UpTo (10 ^ 12) r → IsReflectance (standard_at r)
below_one r u =
    let magnitude : unsigned_abs r.lo ≤ 10 ^ 6 * 10 ^ 6 = omega (arith, ints, u.not_negative, u.ordered, u.below) in
    raised (unsigned_abs r.lo / 10 ^ 6) (div-le_of_le-mul (10 ^ 6) magnitude)

pub standard_is_curve : (draws : List ℕ) → IsTenCurve (standard (drawn_dyes draws) (hidden_recipe draws))
unfolding standard
standard_is_curve draws =
    let n = 10 ^ 12 in
    let dyes = map dye_data (drawn_dyes draws) in
    let steps = hidden_recipe draws in
    let base = base_at n substrate in
    let ps = portions dyes (no_steps dyes) steps steps in
    let is_base : IsBase n base = record { count = inl (length-base n substrate ∙ substrate_is_curve.count); range = base_small n substrate substrate_is_curve.range } in
    let mixed = mixed_in_range n base ps (omega arith) is_base (portions_ordered dyes (no_steps dyes) steps) (recipe_reflects n (drawn_dyes draws) (no_steps dyes) steps (six_dyes draws) (recipe_few draws)) in
    record {
      count = length-map (mixed_at n base ps) standard_at ∙ length-mixed n ps base ∙ length-base n substrate ∙ substrate_is_curve.count;
      range = All-map IsReflectance standard_at (mixed_at n base ps) (All-weaker (UpTo n) (λ r. IsReflectance (standard_at r)) below_one (mixed_at n base ps) mixed);
    }

-- ---- all curves

curves-append : (xs ys : Book) → AreCurves xs → AreCurves ys → AreCurves (xs ++ ys)
curves-append [] ys hx hy = hy
curves-append (x ∷ xs) ys hx hy = (hx.0, curves-append xs ys hx.1 hy)

dye_curves : (dye : DrawnDye) → AreCurves (dye_book dye)
unfolding dye_book
dye_curves dye = (dyed_is_curve dye 200, (dyed_is_curve dye 500, (dyed_is_curve dye 1000, (dyed_is_curve dye 2000, tt))))

dyes_curves : (dyes : List DrawnDye) → AreCurves (flat_map dye_book dyes)
dyes_curves [] = tt
dyes_curves (dye ∷ dyes) = curves-append (dye_book dye) (flat_map dye_book dyes) (dye_curves dye) (dyes_curves dyes)

pub job_curves : (draws : List ℕ) → AreCurves (job_book draws)
unfolding job_book
job_curves draws = (substrate_is_curve, (standard_is_curve draws, dyes_curves (drawn_dyes draws)))

-- named curves that are the book of a job have 31 places each
pub entries_ten : (entries : List (String Global × List ℕ)) (draws : List ℕ) → book_of entries ≡ job_book draws → All (λ e. length e.1 ≡ 31) entries
entries_ten entries draws is = by entries (subst AreCurves (sym is) (job_curves draws))
  where
    by : (es : List (String Global × List ℕ)) → AreCurves (book_of es) → All (λ e. length e.1 ≡ 31) es
    by [] h = All-nil (λ (e : String Global × List ℕ). length e.1 ≡ 31)
    by (e ∷ es) h = All-cons (λ (e : String Global × List ℕ). length e.1 ≡ 31) e es h.0.count (by es h.1)

-- ---- the names

names_plain : (draws : List ℕ) → ArePlain (keys_of (job_book draws))
unfolding job_book dye_book drawn_dyes dye_name dyeing_name digits
names_plain draws = all_plain_by (keys_of (job_book draws)) refl

names_read : (draws : List ℕ) → names_of curve_rule (codes "nm" ∷ keys_of (job_book draws)) ≡ Ok (keys_of (job_book draws))
unfolding job_book dye_book drawn_dyes dye_name dyeing_name digits names_of
names_read draws = refl

pub curves_read : ReadsBack → (draws : List ℕ) → curve_table_of Ten (curve_text (job_book draws)) ≡ Ok (job_book draws)
unfolding job_book
curves_read read draws =
    let rest = (codes "std", standard (drawn_dyes draws) (hidden_recipe draws)) ∷ flat_map dye_book (drawn_dyes draws) in
    book_read read (codes "sub", substrate) rest (job_curves draws) (names_plain draws) (names_read draws)
