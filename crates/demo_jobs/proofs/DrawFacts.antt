-- Draws, one by one.
use Rattle.std.proofs.Common.{◌≡◌, ◌+◌, ◌-◌, ◌<◌, ◌≤◌, ℕ, suc, List, [], ◌∷◌, ◌++◌, refl, sym, ap, ◌∙◌, append_assoc, arith}
use Rattle.std.proofs.lemmas.List.{append-nil}
use Rattle.demo_jobs.specs.Draws.{draws_after, drawn, next_state}

-- one more draw
pub draws_more : (n i x y d : ℕ) (items new all : List ℕ) → i < n → y ≡ next_state x → d ≡ drawn y → items ++ draws_after (n - i) x ≡ all → new ≡ items ++ d ∷ []
    → new ++ draws_after (n - (i + 1)) y ≡ all
unfolding draws_after
draws_more n i x y d items new all lt state is so_far pushed =
    let left : n - i ≡ suc (n - (i + 1)) = omega arith in
    let step : draws_after (n - i) x ≡ d ∷ draws_after (n - (i + 1)) y = rw (left, is, state) refl in
    let split = append_assoc items (d ∷ []) (draws_after (n - (i + 1)) y) in
    ap (λ (t : List ℕ). t ++ draws_after (n - (i + 1)) y) pushed ∙ split ∙ ap (λ (t : List ℕ). items ++ t) (sym step) ∙ so_far

-- no draw is left
pub draws_end : (n i x : ℕ) (items all : List ℕ) → n ≤ i → items ++ draws_after (n - i) x ≡ all → items ≡ all
unfolding draws_after
draws_end n i x items all le so_far =
    let left : n - i ≡ 0 = omega arith in
    let none : draws_after (n - i) x ≡ [] = rw left refl in
    sym (append-nil items) ∙ ap (λ (t : List ℕ). items ++ t) (sym none) ∙ so_far
