use Rattle.std.proofs.Common.{◌≡◌, ◌∙◌, ◌++◌, ℕ, zero, suc, ◌<◌, List, [], ◌∷◌, length, ap, arith, rules, slice_index_or}
use Rattle.spectral_tables.specs.declared.weights.Weights.{Weights}
use Rattle.demo_tests.proofs.generated.prices.Goals as goal

-- two tables with this many wavelengths each
either : (waves : ℕ) (first second : Weights) → length first.weights ≡ waves → length second.weights ≡ waves
    → (items : List Weights) → items ≡ first ∷ second ∷ [] → (k : ℕ) (d : Weights) → k < length items → length (slice_index_or items k d).weights ≡ waves
either waves first second e f items is zero d lt = rw is e
either waves first second e f items is (suc zero) d lt = rw is f
either waves first second e f items is (suc (suc k)) d lt = let l : length items ≡ 2 = ap length is in absurd (omega (arith, l, lt))

pub resolve-requires-clause-waves : goal.resolve-requires-clause-waves
resolve-requires-clause-waves c =
    let one = c.in_ok-push-2.ensures.items ∙ ap (λ (xs : List Weights). xs ++ c.in_ok-first.first ∷ []) c.new-list.ensures.items in
    let two = c.in_ok-push-3.ensures.items ∙ ap (λ (xs : List Weights). xs ++ c.in_ok-second.second ∷ []) one in
    either _ c.in_ok-first.first c.in_ok-second.second (search rules) (search rules) c.push-3.new.self.items two
