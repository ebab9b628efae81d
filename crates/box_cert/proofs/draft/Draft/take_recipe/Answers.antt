use Rattle.std.proofs.Common.{◌≡◌, ◌+◌, ◌∷◌, ◌++◌, ◌∙◌, ℕ, [], length, length-append, map, refl, sym, ap, subst, arith}
use Rattle.std.proofs.lemmas.List.{map-append}
use Rattle.arrayvec.specs.ArrayVec.{ArrayVec}
use Rattle.box_cert.specs.Drafts.{IsBegun, part_before, recipes, still_at, to_come, trees_of}
use Rattle.box_cert.specs.Lines.{recipe_of}
use Rattle.box_cert.specs.Reading.{AreRecipes, Cursor}
use Rattle.box_cert.proofs.Drafting.{before_begun, before_come, before_trees, one_recipe, recipe_needs, recipes_more, some_line}
use Rattle.box_cert.proofs.draft.Draft.take_recipe.Goals as goal

pub returns : goal.returns
returns c =
    let d = c.args.self.now in
    let is = c.requires.draft in
    let others = c.args.others in
    let xs = recipes d in
    let x = c.in-Some.steps.items in
    let listed = map (λ (s : ArrayVec ℕ). s.items) c.push.new.self.items in
    let e : listed ≡ xs ++ x ∷ [] = ap (map (λ (s : ArrayVec ℕ). s.items)) c.in-Ok.ensures.items ∙ map-append (λ (s : ArrayVec ℕ). s.items) d.listed.items (c.in-Some.steps ∷ []) in
    let size : length listed ≡ length xs + 1 = ap length e ∙ length-append xs (x ∷ []) in
    let next = c.part_before-self.ensures in
    let come : to_come c.part_before-self.result ≡ others = ap to_come next ∙ before_come others in
    let trees : trees_of c.part_before-self.result ≡ 1 = ap trees_of next ∙ before_trees others in
    let came = ap to_come c.requires.part in
    let read : recipe_of d.dims c.args.line.now ≡ _ = sym c.in-Some.ensures.is in
    let none : d.lines.items ≡ [] = subst (λ q. IsBegun q xs d.lines.items) c.requires.part is.begun in
    record {
      draft = record {
        some = is.some;
        few = is.few;
        number = omega (arith, c.requires.short);
        lines = omega (arith, is.lines);
        trees = omega (arith, trees);
        claim = is.claim;
        numbers = is.numbers;
        listed = subst (λ ys. AreRecipes d.dims (length ys) ys) (sym e) (recipes_more d.dims xs x c.in-Some.ensures.length c.in-Some.ensures.fits is.listed);
        room = omega (arith, is.room, size, come, came);
        fits = is.fits;
        begun = subst (λ q. IsBegun q listed d.lines.items) (sym next) (subst (λ t. IsBegun (part_before others) listed t) (sym none) (before_begun others listed));
      };
      dims = refl;
      number = refl;
      some = some_line (recipe_of d.dims) c.args.line.now x (recipe_needs d.dims) read;
      same = λ lines left.
          let p : Cursor = record { number = d.number + 1; lines = lines; left = left } in
          ap (λ q. still_at d.dims d.claim listed d.lines.items q p) next
          ∙ ap (λ ys. still_at d.dims d.claim ys d.lines.items (part_before others) p) e
          ∙ one_recipe d.dims d.claim xs d.number c.args.line.now lines left d.lines.items others x read none
          ∙ sym (ap (λ q. still_at d.dims d.claim xs d.lines.items q (record { number = d.number; lines = c.args.line.now ∷ lines; left = left })) c.requires.part);
    }
