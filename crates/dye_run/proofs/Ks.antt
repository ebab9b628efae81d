-- The report of `ks`: its lines, and that its enclosures hold those of every finer scale.
use Rattle.std.proofs.Common.{◌≡◌, ◌+◌, ◌*◌, ◌<◌, ℕ, suc, List, [], ◌∷◌, ◌++◌, None, All, length, get_or, drop, decimal, refl, sym, ap, ◌∙◌, arith, append_assoc, add-one}
use Rattle.std.proofs.Math.Seq.{drop-cons}
use Rattle.std.proofs.lemmas.List.Elements.{All-cons}
use Rattle.interval_specs.specs.Ends.{Ends}
use Rattle.ks_curves.specs.KubelkaMunk.{ks_at}
use Rattle.ks_curves.proofs.ContributionLaws.{ks_encloses}
use Rattle.spectral_tables.specs.CurveBook.{Book}
use Rattle.run_core.specs.Answers.{StandsFiner, evaluation, line, lines_of}
use Rattle.fix_bounds.specs.Scales.{base_unit}
use Rattle.dye_run.specs.Inputs.{curve_from}
use Rattle.dye_run.specs.Ks.{KsWords, ks_evaluations, ks_report}
use Rattle.run_core.specs.Outcome.{outcome_of}
use Rattle.run_core.proofs.Proper.{IsProper, proper_report, proper_then}
use Rattle.dye_run.proofs.Verdicts.{stands}

ks_stands : (wavelength : ℕ) (curve : List ℕ) → All StandsFiner (ks_evaluations wavelength curve)
ks_stands wavelength [] = λ k d h. absurd (omega arith)
ks_stands wavelength (r ∷ curve) = All-cons StandsFiner (evaluation (decimal wavelength) (λ n. ks_at n r)) (ks_evaluations (wavelength + 10) curve) (stands (decimal wavelength) (λ n. ks_at n r) None (λ m some. ks_encloses base_unit m r)) (ks_stands (wavelength + 10) curve)

pub ks_proper : (words : KsWords) (book : Book) → IsProper None (outcome_of (ks_report words book))
unfolding ks_report
ks_proper words book = proper_then (curve_from words.curves words.column book) _ (λ curve. proper_report refl (ks_stands 400 curve))

-- the line of the first wavelength, and those of the rest
ks_lines-cons : (w m : ℕ) (rest : List ℕ) → lines_of (ks_evaluations w (m ∷ rest)) ≡ line (decimal w) (ks_at base_unit m) ++ lines_of (ks_evaluations (w + 10) rest)
ks_lines-cons w m rest = refl

ks_lines-at : (curve : List ℕ) (k : ℕ) → k < length curve → lines_of (ks_evaluations (400 + 10 * k) (drop k curve)) ≡ line (decimal (400 + 10 * k)) (ks_at base_unit (get_or curve k 0)) ++ lines_of (ks_evaluations (400 + 10 * (k + 1)) (drop (k + 1) curve))
ks_lines-at curve k h =
    let next : (400 + 10 * k) + 10 ≡ 400 + 10 * (k + 1) = omega arith in
    ap (λ c. lines_of (ks_evaluations (400 + 10 * k) c)) (drop-cons curve k 0 h) ∙ ks_lines-cons (400 + 10 * k) (get_or curve k 0) (drop (suc k) curve) ∙ (λ i. line (decimal (400 + 10 * k)) (ks_at base_unit (get_or curve k 0)) ++ lines_of (ks_evaluations (next i) (drop (sym (add-one k) i) curve)))

-- one turn of the loop over the wavelengths
pub ks_step : (curve : List ℕ) (k : ℕ) (text new label all : List ℕ) (e : Ends) → k < length curve → text ++ lines_of (ks_evaluations (400 + 10 * k) (drop k curve)) ≡ all → new ≡ text ++ line label e → label ≡ decimal (400 + 10 * k) → e ≡ ks_at base_unit (get_or curve k 0) → new ++ lines_of (ks_evaluations (400 + 10 * (k + 1)) (drop (k + 1) curve)) ≡ all
ks_step curve k text new label all e h so_far is l v =
    let tail = lines_of (ks_evaluations (400 + 10 * (k + 1)) (drop (k + 1) curve)) in
    ap (λ t. t ++ tail) (is ∙ (λ i. text ++ line (l i) (v i))) ∙ append_assoc text (line (decimal (400 + 10 * k)) (ks_at base_unit (get_or curve k 0))) tail ∙ ap (λ t. text ++ t) (sym (ks_lines-at curve k h)) ∙ so_far
