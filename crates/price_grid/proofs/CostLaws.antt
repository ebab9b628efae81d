-- The laws of costs and keys.
use Rattle.std.proofs.Common.{◌≡◌, ◌*◌, ◌≤◌, ℕ, sym, ap, ◌∙◌, arith}
use Rattle.std.proofs.lemmas.Slice.Eq.{bytes_eq-Decides}
use Rattle.std.specs.Cmp.Lexicographic.{slice_cmp}
use Rattle.std.specs.Ordering.{is_eq, nat_cmp, ordering_then}
use Rattle.std.specs.declared.cmp.Ordering.{Ordering}
use Rattle.std.specs.declared.cmp.Ordering.TheVariants.{Equal, Greater, Less}
use Rattle.std.proofs.lemmas.Cmp.{nat_cmp_total, nat_list_cmp_total, on_total, then_total}
use Rattle.std.proofs.lemmas.Map.Text.{is_eq-slice_cmp}
use Rattle.price_grid.specs.declared.dye_cost.DyeCost.{DyeCost}
use Rattle.price_grid.specs.Cost.{dye_cost}
use Rattle.price_grid.specs.Laws.{CostGrows, KeysAreOrdered, KeysDiffer}
use Rattle.price_grid.specs.Order.{KeyView}
use Rattle.price_grid.proofs.SumFacts.{zip_sum-grows}

dye_cost-grows : (dye : DyeCost) (low high : ℕ) → low ≤ high → dye_cost dye low ≤ dye_cost dye high
dye_cost-grows dye low high h =
    let units : low * dye.step ≤ high * dye.step = grind arith in
    let price : low * dye.step * dye.price ≤ high * dye.step * dye.price = grind arith in
    grind arith

pub cost_grows : CostGrows
cost_grows dyes low high h = zip_sum-grows dye_cost dye_cost-grows dyes low high h

pub keys_are_ordered : KeysAreOrdered
keys_are_ordered = then_total (on_total (λ (k : KeyView). k.cost) nat_cmp_total) (on_total (λ (k : KeyView). k.steps) nat_list_cmp_total)

then_equal : (a b : Ordering) → ordering_then a b ≡ Equal → b ≡ Equal
then_equal Less b h = cc
then_equal Equal b h = h
then_equal Greater b h = cc

pub keys_differ : KeysDiffer
keys_differ dyes a b h =
    let steps = then_equal _ (slice_cmp nat_cmp a b) h in
    (bytes_eq-Decides a b).0 (sym (is_eq-slice_cmp a b) ∙ ap is_eq steps)
