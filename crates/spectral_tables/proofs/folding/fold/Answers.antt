use Rattle.std.proofs.Common.{◌≡◌, ◌+◌, ◌-◌, ◌/◌, ℕ, take, drop, ap, refl, ◌∙◌}
use Rattle.std.proofs.lemmas.List.{take_all, drop-drop}
use Rattle.spectral_tables.specs.declared.waves.Waves.{Waves}
use Rattle.spectral_tables.specs.Grid.{count_of}
use Rattle.spectral_tables.specs.Fold.{fold_of, rows_below}
use Rattle.spectral_tables.proofs.folding.fold.Goals as goal

pub returns : goal.returns
unfolding fold_of
returns c =
    let triples = c.args.triples.now in
    let below = rows_below c.args.grid c.args.first in
    let inner = count_of c.args.grid - 2 in
    let cut : c.from-below.result ≡ below = c.from-below.ensures ∙ ap (λ (w : Waves). (w.first - c.args.first) / w.step) c.waves-waves.ensures.is in
    let count : c.waves-waves.result.count - 2 ≡ inner = ap (λ (w : Waves). w.count - 2) c.waves-waves.ensures.is in
    let rest : c.split_at.result.1.now ≡ drop (below + 1) triples = c.split_at.ensures.back ∙ ap (λ (n : ℕ). drop (n + 1) triples) cut in
    let middle : c.split_at-2.result.0.now ≡ take inner (drop (below + 1) triples) = c.split_at-2.ensures.front ∙ ap (λ (n : ℕ). take n c.split_at.result.1.now) count ∙ ap (take inner) rest in
    let high : c.split_at-2.result.1.now ≡ drop (below + 1 + inner) triples = c.split_at-2.ensures.back ∙ ap (λ (n : ℕ). drop n c.split_at.result.1.now) count ∙ ap (drop inner) rest ∙ drop-drop inner (below + 1) triples in
    c.push-2.ensures.items ∙ rw (c.loop-triple.invariant, c.total-2.ensures, take_all c.loop-triple.triple-index c.split_at-2.result.0.now c.loop-triple-test.false, middle, high, cut) refl
