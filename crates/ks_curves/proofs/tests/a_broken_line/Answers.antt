use Rattle.std.proofs.Common.{◌≡◌, ◌++◌, ◌∙◌, ℕ, List, [], ◌∷◌, All, length, refl, ap, sym, subst, arith}
use Rattle.std.specs.List.{IsDistinct}
use Rattle.std.proofs.lemmas.List.Elements.{All-cons, All-nil}
use Rattle.ks_curves.specs.Dye.{Dyeing, IsDyeing, CanJoin}
use Rattle.ks_curves.specs.declared.kind.Calibration.TheVariants.{Broken}
use Rattle.ks_curves.proofs.tests.a_broken_line.Goals as goal

pub of-dye-requires : goal.of-dye-requires
unfolding IsDistinct
of-dye-requires g c =
    let n = length c.even-3.result in
    let d : Dyeing = (1000, c.even.result) in
    let e : Dyeing = (500, c.even-2.result) in
    let P = IsDyeing n in
    let first = c.push.ensures.items ∙ ap (λ (xs : List Dyeing). xs ++ d ∷ []) c.new-dyeings.ensures in
    let items : c.push-2.new.self.items ≡ d ∷ e ∷ [] = c.push-2.ensures.items ∙ ap (λ (xs : List Dyeing). xs ++ e ∷ []) first in
    let one : P d = record { units = (omega arith, omega arith); waves = ap (λ (xs : List ℕ). length xs) c.even.ensures ∙ sym (ap (λ (xs : List ℕ). length xs) c.even-3.ensures) } in
    let two : P e = record { units = (omega arith, omega arith); waves = ap (λ (xs : List ℕ). length xs) c.even-2.ensures ∙ sym (ap (λ (xs : List ℕ). length xs) c.even-3.ensures) } in
    record {
      step = (omega arith, omega arith);
      some = rw items (omega arith);
      dyeings = subst (All P) (sym items) (All-cons P d (e ∷ []) one (All-cons P e [] two (All-nil P)));
      joins = subst (CanJoin Broken) (sym items) ((refl, tt), (tt, tt));
    }
