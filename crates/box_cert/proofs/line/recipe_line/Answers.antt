use Rattle.std.proofs.Common.{[], ◌∷◌, ◌≤◌, sym, ap, ◌∙◌, arith, length-append}
use Rattle.std.specs.Prelude.{option_map}
use Rattle.std.proofs.lemmas.List.Elements.{All-push}
use Rattle.box_cert.proofs.Recipes.{one_number}
use Rattle.box_cert.proofs.line.recipe_line.Goals as goal

pub loop-preserved : goal.loop-preserved
loop-preserved c = rw c.push.ensures.items (record {
  so_far = one_number c.args.dims c.loop.counter c.loop.steps.items c.loop.rest.now _ c.loop.invariant.so_far _ _ _ c.loop-test.true
      (sym c.cut_at.ensures ∙ ap (option_map (λ r. (r.0.now, r.1.now))) c.in-Some.is) (sym c.number.ensures.is ∙ c.in-Some-number.is);
  count = omega (arith, length-append c.loop.steps.items (c.in-Some-number.n ∷ []), c.loop.invariant.count);
  fits = All-push (λ n. n ≤ 4000) c.loop.steps.items c.in-Some-number.n c.loop.invariant.fits c.in-Some-number.ensures.range.1;
})
