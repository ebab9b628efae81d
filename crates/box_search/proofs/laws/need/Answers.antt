use Rattle.std.proofs.Common.{refl, true, arith}
use Rattle.box_specs.specs.Answer.{answer_of}
use Rattle.box_specs.specs.Tree.{is_needed, tree_of}
use Rattle.box_specs.proofs.Bounds.{tree_is_small}
use Rattle.box_search.proofs.Trees.{count_le}
use Rattle.box_search.proofs.laws.need.Goals as goal

pub returns : goal.returns
returns c = λ l box.
    let small = tree_is_small l box in
    let less = count_le l (λ d b. is_needed l (answer_of l) b) (λ d b. true) (tree_of l) 0 (λ d u i x. refl) in
    omega (arith, small, less)
