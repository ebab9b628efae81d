use Rattle.std.proofs.Common.{◌≡◌, ◌<◌, ◌++◌, ◌∙◌, ℕ, take, length, get_or, decimal, arith, ap}
use Rattle.std.proofs.Math.ListN.{length-take}
use Rattle.arrayvec.specs.ArrayVec.{array_vec_len, ArrayVec}
use Rattle.box_cert.proofs.Recipes.{put_first, put_next}
use Rattle.box_cert.proofs.line.put_recipe.Goals as goal
use Rattle.box_cert.proofs.line.put_recipe.Goals.{then-i-gt0, else-i-gt0}

pub loop-i-preserved : goal.loop-i-preserved
loop-i-preserved c =
    let steps = c.args.steps.now.items in
    let d = c.deref-n-items.ensures.0 in
    let same : length c.deref-n-items.result.now ≡ length steps = ap length d in
    let at : c.loop-i.i < length steps = omega (arith, c.loop-i-test.true, same) in
    let taken : length (take c.loop-i.i steps) ≡ c.loop-i.i = omega (arith, length-take c.loop-i.i steps, at) in
    let put : c.put_small.new.into.items ≡ c.if-i-gt0.into.items ++ decimal (get_or steps c.loop-i.i 0) =
    c.put_small.ensures.text ∙ ap (λ xs. c.if-i-gt0.into.items ++ decimal (get_or xs c.loop-i.i 0)) d in
    elim c.if-i-gt0.branch [
      | then-i-gt0 w ↦
          let len : array_vec_len c.if-i-gt0.into ≡ array_vec_len w.push.new.self = ap array_vec_len w.into-is in
          record {
            text = put_next c.args.into.now.items c.loop-i.into.items c.if-i-gt0.into.items c.put_small.new.into.items steps c.loop-i.i (omega arith) at taken c.loop-i.invariant.text
                (ap (λ (v : ArrayVec ℕ). v.items) w.into-is ∙ w.push.ensures.items) put;
            short = omega (arith, len, w.push.ensures.len, c.put_small.ensures.short, c.loop-i.invariant.short);
          }
      | else-i-gt0 w ↦
          let len : array_vec_len c.if-i-gt0.into ≡ array_vec_len c.loop-i.into = ap array_vec_len w.into-is in
          record {
            text = put_first c.args.into.now.items c.if-i-gt0.into.items c.put_small.new.into.items steps c.loop-i.i (omega arith) at
                (ap (λ (v : ArrayVec ℕ). v.items) w.into-is ∙ c.loop-i.invariant.text) put;
            short = omega (arith, len, c.put_small.ensures.short, c.loop-i.invariant.short);
          }
    ]
