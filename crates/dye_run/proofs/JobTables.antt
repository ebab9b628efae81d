-- The weights of a job's lights, one after the other.
use Rattle.std.proofs.Common.{◌≡◌, ◌+◌, ◌<◌, ◌≤◌, ℕ, List, [], ◌∷◌, ◌++◌, length, drop, take, get_or, map, Option, Some, None, IfSome, Result, Ok, Err, sym, ap, ◌∙◌, add-one}
use Rattle.std.specs.Global.{Vec}
use Rattle.std.proofs.Math.Seq.{drop-cons, take-suc}
use Rattle.std.proofs.lemmas.List.{drop_all, map-append}
use Rattle.job_keys.specs.declared.light.JobLight.{JobLight}
use Rattle.spectral_tables.specs.declared.grid.WaveGrid.TheVariants.{Ten}
use Rattle.spectral_tables.specs.WeightFile.{weight_table_of}
use Rattle.spectral_tables.specs.WeightTable.{WeightTable}
use Rattle.run_core.specs.Asking.{◌>>=◌}
use Rattle.dye_run.specs.Inputs.{due_table, table_from}
use Rattle.dye_run.specs.Jobs.{weights_after}
use Rattle.run_core.specs.Outcome.{Fault, Outcome, refused}
use Rattle.run_core.specs.Reading as reading
use Rattle.run_core.specs.Views.{bytes_view, due_view}
use Rattle.run_core.specs.declared.due_files.DueFile.{DueFile}

-- the items from an index on are the item at the index and those after it
pub items_from : {A : Type 0} (xs : List A) (k : ℕ) (x : A) → k < length xs → x ≡ get_or xs k x → drop k xs ≡ x ∷ drop (k + 1) xs
items_from xs k x h is = drop-cons xs k x h ∙ (λ i. sym is i ∷ drop (sym (add-one k) i) xs)

module _ (lights : List JobLight) (bytes_read : List (Option (Vec ℕ))) (k : ℕ) (before : List WeightTable) (light : JobLight) (first : Option (Vec ℕ)) (hl : k < length lights) (hc : k < length bytes_read) (is_light : light ≡ get_or lights k light) (is_first : first ≡ get_or bytes_read k first) where
  weights_next : weights_after before (map (λ l. l.weights) (drop k lights)) (map bytes_view (drop k bytes_read))
      ≡ (table_from (weight_table_of Ten) light.weights (bytes_view first) >>= (λ t. weights_after (before ++ t ∷ []) (map (λ l. l.weights) (drop (k + 1) lights)) (map bytes_view (drop (k + 1) bytes_read))))
  unfolding weights_after
  weights_next = λ i. weights_after before (map (λ l. l.weights) (items_from lights k light hl is_light i)) (map bytes_view (items_from bytes_read k first hc is_first i))

  -- one more weights file was read: the others are read after its weights too
  pub weights_more : (t : WeightTable) (more : List WeightTable) {whole : Result (List WeightTable) Fault} → table_from (weight_table_of Ten) light.weights (bytes_view first) ≡ Ok t → more ≡ before ++ t ∷ []
      → weights_after before (map (λ l. l.weights) (drop k lights)) (map bytes_view (drop k bytes_read)) ≡ whole
      → weights_after more (map (λ l. l.weights) (drop (k + 1) lights)) (map bytes_view (drop (k + 1) bytes_read)) ≡ whole
  weights_more t more read grown so_far =
      let rest : WeightTable → Result (List WeightTable) Fault = λ t. weights_after (before ++ t ∷ []) (map (λ l. l.weights) (drop (k + 1) lights)) (map bytes_view (drop (k + 1) bytes_read)) in
      ap (λ m. weights_after m (map (λ l. l.weights) (drop (k + 1) lights)) (map bytes_view (drop (k + 1) bytes_read))) grown ∙ sym (ap (λ r. r >>= rest) read) ∙ sym weights_next ∙ so_far

  -- where one weights file is refused, all are, with its fault
  pub weights_fault : (why : Option Outcome) {whole : Result (List WeightTable) Fault} → IfSome why (λ o. (fault : Fault) × (o ≡ refused fault) × (table_from (weight_table_of Ten) light.weights (bytes_view first) ≡ Err fault))
      → weights_after before (map (λ l. l.weights) (drop k lights)) (map bytes_view (drop k bytes_read)) ≡ whole
      → IfSome why (λ o. (fault : Fault) × (o ≡ refused fault) × (whole ≡ Err fault))
  weights_fault (Some o) refuses so_far =
      let rest : WeightTable → Result (List WeightTable) Fault = λ t. weights_after (before ++ t ∷ []) (map (λ l. l.weights) (drop (k + 1) lights)) (map bytes_view (drop (k + 1) bytes_read)) in
      (refuses.0, refuses.1, sym so_far ∙ weights_next ∙ ap (λ r. r >>= rest) refuses.2)
  weights_fault None refuses so_far = tt

-- where no light is left, the weights so far are the result
pub weights_all : (lights : List JobLight) (bytes_read : List (Option (List ℕ))) (k : ℕ) (before : List WeightTable) {whole : Result (List WeightTable) Fault} → length lights ≤ k
    → weights_after before (map (λ l. l.weights) (drop k lights)) bytes_read ≡ whole → whole ≡ Ok before
unfolding weights_after
weights_all lights bytes_read k before h so_far = sym so_far ∙ ap (λ ls. weights_after before (map (λ l. l.weights) ls) bytes_read) (drop_all k lights h)

-- one more light's file is due
pub files_more : (lights : List JobLight) (k : ℕ) (light : JobLight) (first : reading.DueFile) (files more : List DueFile) (file : DueFile) → k < length lights → light ≡ get_or lights k light
    → map due_view files ≡ first ∷ map due_table (map (λ l. l.weights) (take k lights)) → more ≡ files ++ file ∷ [] → due_view file ≡ due_table light.weights
    → map due_view more ≡ first ∷ map due_table (map (λ l. l.weights) (take (k + 1) lights))
files_more lights k light first files more file h is so_far grown new =
    let names : List JobLight → List (List ℕ) = map (λ l. l.weights) in
    let longer : take k lights ++ light ∷ [] ≡ take (k + 1) lights = (λ i. take k lights ++ is i ∷ []) ∙ sym (take-suc lights k light h) ∙ (λ i. take (sym (add-one k) i) lights) in
    let tail : map due_table (names (take k lights)) ++ due_table light.weights ∷ [] ≡ map due_table (names (take (k + 1) lights)) =
    sym (ap (map due_table) (map-append (λ l. l.weights) (take k lights) (light ∷ [])) ∙ map-append due_table (names (take k lights)) (light.weights ∷ [])) ∙ ap (λ ls. map due_table (names ls)) longer in
    ap (map due_view) grown ∙ map-append due_view files (file ∷ []) ∙ (λ i. so_far i ++ new i ∷ []) ∙ ap (λ fs. first ∷ fs) tail
