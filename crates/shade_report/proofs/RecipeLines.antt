-- The lines of dyes and of lights, one after the other.
use Rattle.std.proofs.Common.{◌≡◌, ◌+◌, ◌<◌, ◌≤◌, ℕ, List, [], ◌∷◌, ◌++◌, length, drop, get_or, sym, ap, ◌∙◌, append_assoc, add-one, arith}
use Rattle.std.proofs.Math.Seq.{drop-cons}
use Rattle.std.proofs.lemmas.List.{append-nil, drop_all}
use Rattle.interval_specs.specs.Ends.{Ends}
use Rattle.job_file.specs.declared.dye.JobDye.{JobDye}
use Rattle.metamerism.specs.declared.outcomes.Verdict.{Verdict}
use Rattle.shade_report.specs.Recipes.{dye_text, dyes_text, light_text, lights_text}

-- the items from an index on are the item at the index and those after it
from : {A : Type 0} (xs : List A) (k : ℕ) (d : A) → k < length xs → drop k xs ≡ get_or xs k d ∷ drop (k + 1) xs
from xs k d h = drop-cons xs k d h ∙ ap (λ j. get_or xs k d ∷ drop j xs) (sym (add-one k))

-- the same where the item at the index is known
from_item : {A : Type 0} (xs : List A) (k : ℕ) (x : A) → k < length xs → x ≡ get_or xs k x → drop k xs ≡ x ∷ drop (k + 1) xs
from_item xs k x h is = from xs k x h ∙ ap (λ y. y ∷ drop (k + 1) xs) (sym is)

-- a line more
more : (text new line rest all : List ℕ) → text ++ (line ++ rest) ≡ all → new ≡ text ++ line → new ++ rest ≡ all
more text new line rest all so_far is = ap (λ t. t ++ rest) is ∙ append_assoc text line rest ∙ so_far

module _ (load : ℕ) (dyes : List JobDye) (steps : List ℕ) (k : ℕ) (text : List ℕ) {all : List ℕ} where
  -- the line of one more dye
  pub dyes_more : (dye : JobDye) (n : ℕ) (new : List ℕ) → k < length dyes → k < length steps → dye ≡ get_or dyes k dye → text ++ dyes_text load (drop k dyes) (drop k steps) ≡ all
      → new ≡ text ++ dye_text load dye (get_or steps k n) → new ++ dyes_text load (drop (k + 1) dyes) (drop (k + 1) steps) ≡ all
  unfolding dyes_text
  dyes_more dye n new hd hs at so_far is =
      let line = dye_text load dye (get_or steps k n) in
      let rest = dyes_text load (drop (k + 1) dyes) (drop (k + 1) steps) in
      let e : dyes_text load (drop k dyes) (drop k steps) ≡ line ++ rest = λ i. dyes_text load (from_item dyes k dye hd at i) (from steps k n hs i) in
      more text new line rest all (ap (λ t. text ++ t) (sym e) ∙ so_far) is

  -- no dye is left
  pub dyes_end : length dyes ≤ k → text ++ dyes_text load (drop k dyes) (drop k steps) ≡ all → text ≡ all
  unfolding dyes_text
  dyes_end h so_far =
      let e : dyes_text load (drop k dyes) (drop k steps) ≡ [] = ap (λ ds. dyes_text load ds (drop k steps)) (drop_all k dyes h) in
      sym (append-nil text) ∙ ap (λ t. text ++ t) (sym e) ∙ so_far

module _ (deltas : List Ends) (verdicts : List Verdict) (k : ℕ) (text : List ℕ) {all : List ℕ} where
  -- the line of one more light
  pub lights_more : (delta : Ends) (verdict : Verdict) (new : List ℕ) → k < length deltas → k < length verdicts → delta ≡ get_or deltas k delta → text ++ lights_text (1 + k) (drop k deltas) (drop k verdicts) ≡ all
      → new ≡ text ++ light_text (k + 1) delta (get_or verdicts k verdict) → new ++ lights_text (1 + (k + 1)) (drop (k + 1) deltas) (drop (k + 1) verdicts) ≡ all
  unfolding lights_text
  lights_more delta verdict new hd hv at so_far is =
      let number : 1 + k ≡ k + 1 = omega arith in
      let next : (k + 1) + 1 ≡ 1 + (k + 1) = omega arith in
      let line = light_text (k + 1) delta (get_or verdicts k verdict) in
      let rest = lights_text (1 + (k + 1)) (drop (k + 1) deltas) (drop (k + 1) verdicts) in
      let e : lights_text (1 + k) (drop k deltas) (drop k verdicts) ≡ line ++ lights_text ((k + 1) + 1) (drop (k + 1) deltas) (drop (k + 1) verdicts) = λ i. lights_text (number i) (from_item deltas k delta hd at i) (from verdicts k verdict hv i) in
      more text new line rest all (ap (λ t. text ++ t) (sym (e ∙ ap (λ m. line ++ lights_text m (drop (k + 1) deltas) (drop (k + 1) verdicts)) next)) ∙ so_far) is

  -- no light is left
  pub lights_end : length deltas ≤ k → text ++ lights_text (1 + k) (drop k deltas) (drop k verdicts) ≡ all → text ≡ all
  unfolding lights_text
  lights_end h so_far =
      let e : lights_text (1 + k) (drop k deltas) (drop k verdicts) ≡ [] = ap (λ ds. lights_text (1 + k) ds (drop k verdicts)) (drop_all k deltas h) in
      sym (append-nil text) ∙ ap (λ t. text ++ t) (sym e) ∙ so_far
