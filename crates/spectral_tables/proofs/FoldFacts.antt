-- Folded weights have one triple for each wavelength, and the magnitudes of no column add up to
-- more than before.
use Rattle.std.proofs.Common.{◌≡◌, ◌+◌, ◌-◌, ◌*◌, ◌≤◌, ◌<◌, ℕ, zero, suc, ℤ, pos, negsuc, ◌+ℤ◌, Bool, true, false, Ok, List, [], ◌∷◌, ◌++◌, length, take, drop, All, refl, sym, ap, ◌∙◌, leb-true, arith}
use Rattle.std.specs.Prelude.{unsigned_abs, sum_by, IsTrue}
use Rattle.std.proofs.lemmas.Int.{ints}
use Rattle.std.proofs.lemmas.List.{length-append, length-take-le, length-drop, take-append-drop, drop-drop}
use Rattle.std.proofs.lemmas.List.Elements.{All-cons, All-push, All-take, All-drop, All-weaker}
use Rattle.std.proofs.lemmas.List.Sums.{sum_by-append, sum_by-cons}
use Rattle.spectral_tables.specs.declared.fault.TableRule.{TableRule}
use Rattle.spectral_tables.specs.declared.fault.TableRule.TheVariants.{Unbalanced}
use Rattle.spectral_tables.specs.declared.grid.WaveGrid.{WaveGrid}
use Rattle.spectral_tables.specs.Grid.{count_of, end_of}
use Rattle.spectral_tables.proofs.GridFacts.{splits, two_waves, is_count_of}
use Rattle.spectral_tables.specs.Faults.{ensure}
use Rattle.spectral_tables.specs.WeightTable.{Triple, WeightTable, IsTriple, IsBalanced, IsWeightTable, at_column, column_sum, magnitude_sum, total_of}
use Rattle.spectral_tables.specs.Fold.{Covers, fold_of, rows_below}
use Rattle.spectral_tables.specs.Run.{Rows, IsRun, following_row, reaches_end, following_wavelength}
use Rattle.spectral_tables.specs.WeightFile.{IsWhite, ensure_balance}

magnitude-add : (a b : ℤ) → unsigned_abs (a +ℤ b) ≤ unsigned_abs a + unsigned_abs b
magnitude-add (pos a) (pos b) = omega (arith, ints)
magnitude-add (pos a) (negsuc b) = omega (arith, ints)
magnitude-add (negsuc a) (pos b) = omega (arith, ints)
magnitude-add (negsuc a) (negsuc b) = omega (arith, ints)

magnitude-column_sum : (column : ℕ) (triples : List Triple) → unsigned_abs (column_sum column triples) ≤ magnitude_sum column triples
unfolding column_sum magnitude_sum
magnitude-column_sum column [] = omega arith
magnitude-column_sum column (t ∷ ts) =
    let magnitudes : magnitude_sum column (t ∷ ts) ≡ unsigned_abs (at_column column t) + magnitude_sum column ts = sum_by-cons (λ (t : Triple). unsigned_abs (at_column column t)) t ts in
    let sums : column_sum column (t ∷ ts) ≡ at_column column t +ℤ column_sum column ts = refl in
    omega (arith, magnitude-add (at_column column t) (column_sum column ts), magnitude-column_sum column ts, magnitudes, ap unsigned_abs sums)

at-total_of : (column : ℕ) (triples : List Triple) → column < 3 → at_column column (total_of triples) ≡ column_sum column triples
at-total_of zero triples lt = refl
at-total_of (suc zero) triples lt = refl
at-total_of (suc (suc zero)) triples lt = refl
at-total_of (suc (suc (suc c))) triples lt = absurd (omega arith)

magnitude_sum-split : (column n : ℕ) (triples : List Triple) → magnitude_sum column (take n triples) + magnitude_sum column (drop n triples) ≡ magnitude_sum column triples
unfolding magnitude_sum
magnitude_sum-split column n triples =
    let magnitude = λ (t : Triple). unsigned_abs (at_column column t) in
    sym (sum_by-append magnitude (take n triples) (drop n triples)) ∙ ap (sum_by magnitude) (take-append-drop n triples)

magnitude_sum-ends : (column : ℕ) (low high : Triple) (middle : List Triple)
    → magnitude_sum column (low ∷ (middle ++ high ∷ [])) ≡ unsigned_abs (at_column column low) + magnitude_sum column middle + unsigned_abs (at_column column high)
unfolding magnitude_sum
magnitude_sum-ends column low high middle =
    let magnitude = λ (t : Triple). unsigned_abs (at_column column t) in
    let front : magnitude_sum column (low ∷ (middle ++ high ∷ [])) ≡ magnitude low + sum_by magnitude (middle ++ high ∷ []) = sum_by-cons magnitude low (middle ++ high ∷ []) in
    let back : sum_by magnitude (high ∷ []) ≡ magnitude high + sum_by magnitude [] = sum_by-cons magnitude high [] in
    let none : sum_by magnitude [] ≡ 0 = refl in
    let inner : magnitude_sum column middle ≡ sum_by magnitude middle = refl in
    omega (arith, front, back, none, inner, sum_by-append magnitude middle (high ∷ []))

-- folding does not increase the sum of the magnitudes of any column
pub magnitude_sum-fold_of : (grid : WaveGrid) (column first : ℕ) (triples : List Triple) → column < 3 → magnitude_sum column (fold_of grid first triples) ≤ magnitude_sum column triples
unfolding fold_of
magnitude_sum-fold_of grid column first triples lt =
    let below = rows_below grid first in
    let inner = count_of grid - 2 in
    let low = take (below + 1) triples in
    let rest = drop (below + 1) triples in
    let middle = take inner rest in
    let high = drop (below + 1 + inner) triples in
    let last : drop inner rest ≡ high = drop-drop inner (below + 1) triples in
    let ends = magnitude_sum-ends column (total_of low) (total_of high) middle in
    let at_low = ap unsigned_abs (at-total_of column low lt) in
    let at_high = ap unsigned_abs (at-total_of column high lt) in
    let cut = magnitude_sum-split column (below + 1) triples in
    let cut_again = magnitude_sum-split column inner rest in
    omega (arith, ends, at_low, at_high, magnitude-column_sum column low, magnitude-column_sum column high, cut, cut_again, ap (magnitude_sum column) last)

pub length-fold_of : (grid : WaveGrid) (first : ℕ) (triples : List Triple) → Covers grid first (length triples) → length (fold_of grid first triples) ≡ count_of grid
unfolding fold_of
length-fold_of grid first triples covers =
    let rest = drop (rows_below grid first + 1) triples in
    let inner = count_of grid - 2 in
    let parts = splits grid first (length triples) covers in
    let long : inner ≤ length rest = omega (arith, length-drop (rows_below grid first + 1) triples, parts.rest) in
    let middle = length-take-le inner rest long in
    omega (arith, length-append (take inner rest) (total_of (drop (rows_below grid first + 1 + inner) triples) ∷ []), middle, two_waves grid)

pub triples-fold_of : (grid : WaveGrid) (first : ℕ) (triples : List Triple) → All IsTriple triples → All (λ t. length t ≡ 3) (fold_of grid first triples)
unfolding fold_of
triples-fold_of grid first triples magnitudes =
    let three = λ (t : Triple). length t ≡ 3 in
    let all = All-weaker IsTriple three (λ t h. h.0) triples magnitudes in
    let below = rows_below grid first in
    let inner = count_of grid - 2 in
    let middle = take inner (drop (below + 1) triples) in
    let high = total_of (drop (below + 1 + inner) triples) in
    All-cons three (total_of (take (below + 1) triples)) (middle ++ high ∷ []) refl
    (All-push three middle high (All-take three inner (drop (below + 1) triples) (All-drop three (below + 1) triples all)) refl)

ensured : (row column : ℕ) (rule : TableRule) (b : Bool) (u : Unit {0}) → ensure row column rule b ≡ Ok u → b ≡ true
ensured row column rule true u e = refl
ensured row column rule false u e = absurd cc

-- a column that is balanced stays so after folding
balanced : (rows : Rows) (white : Triple) (column : ℕ) (u : Unit {0}) → column < 3 → IsWhite white → ensure_balance rows white column ≡ Ok u → IsBalanced (record { weights = fold_of rows.grid rows.first rows.triples; white = white }) column
balanced rows white column u lt is_white e =
    let passed = leb-true (magnitude_sum column rows.triples) (2 * unsigned_abs (at_column column white)) (ensured (following_row rows) (column + 2) Unbalanced _ u e) in
    let within : column < length white = omega (arith, is_white.0.0) in
    record {
      positive = is_white.1 column (pos 0) within;
      small = is_white.0.1 column (pos 0) within;
      balanced = omega (arith, passed, magnitude_sum-fold_of rows.grid column rows.first rows.triples lt);
    }

columns_of : (w : WeightTable) → IsBalanced w 0 → IsBalanced w 1 → IsBalanced w 2 → (column : ℕ) → column < 3 → IsBalanced w column
columns_of w x y z zero lt = x
columns_of w x y z (suc zero) lt = y
columns_of w x y z (suc (suc zero)) lt = z
columns_of w x y z (suc (suc (suc c))) lt = absurd (omega arith)

-- rows that reach the last wavelength cover the grid
pub covers : (rows : Rows) → IsRun rows → IsTrue (reaches_end rows) → Covers rows.grid rows.first (length rows.triples)
covers rows run end = record { whole = run.whole; from = run.from; start = run.start; end = leb-true (end_of rows.grid) (following_wavelength rows) end; last = run.last }

pub length-closed : (rows : Rows) → IsRun rows → IsTrue (reaches_end rows) → length (fold_of rows.grid rows.first rows.triples) ≡ count_of rows.grid
length-closed rows run end = length-fold_of rows.grid rows.first rows.triples (covers rows run end)

pub table-closed : (rows : Rows) (white : Triple) (u v w : Unit {0}) → IsRun rows → IsTrue (reaches_end rows) → IsWhite white
    → ensure_balance rows white 0 ≡ Ok u → ensure_balance rows white 1 ≡ Ok v → ensure_balance rows white 2 ≡ Ok w
    → IsWeightTable (record { weights = fold_of rows.grid rows.first rows.triples; white = white })
table-closed rows white u v w run end is_white x y z =
    record {
      count = is_count_of rows.grid _ (length-closed rows run end);
      triples = triples-fold_of rows.grid rows.first rows.triples run.magnitudes;
      white = is_white.0.0;
      columns = columns_of _ (balanced rows white 0 u (omega arith) is_white x) (balanced rows white 1 v (omega arith) is_white y) (balanced rows white 2 w (omega arith) is_white z);
    }
