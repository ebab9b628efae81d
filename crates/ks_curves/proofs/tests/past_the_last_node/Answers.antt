use Rattle.std.proofs.Common.{◌≡◌, ◌++◌, ◌∙◌, ℕ, List, [], ◌∷◌, All, length, ap, sym, subst, arith}
use Rattle.std.specs.List.{IsDistinct}
use Rattle.std.proofs.lemmas.List.Elements.{All-cons, All-nil}
use Rattle.ks_curves.specs.Dye.{Dyeing, IsDyeing, CanJoin}
use Rattle.ks_curves.specs.declared.kind.Calibration.TheVariants.{Broken}
use Rattle.ks_curves.proofs.tests.past_the_last_node.Goals as goal

pub of-dye-requires : goal.of-dye-requires
unfolding IsDistinct
of-dye-requires g c =
    let d : Dyeing = (500, c.even.result) in
    let items : c.push.new.self.items ≡ d ∷ [] = c.push.ensures.items ∙ ap (λ (xs : List Dyeing). xs ++ d ∷ []) c.new-dyeings.ensures in
    let one : IsDyeing (length c.even-2.result) d = record { units = (omega arith, omega arith); waves = ap (λ (xs : List ℕ). length xs) (c.even.ensures) ∙ sym (ap (λ (xs : List ℕ). length xs) c.even-2.ensures) } in
    record {
      step = (omega arith, omega arith);
      some = rw items (omega arith);
      dyeings = subst (All (IsDyeing (length c.even-2.result))) (sym items) (All-cons (IsDyeing (length c.even-2.result)) d [] one (All-nil (IsDyeing (length c.even-2.result))));
      joins = subst (CanJoin Broken) (sym items) (tt, tt);
    }
