use Rattle.std.proofs.Common.{◌≡◌, [], ◌++◌, ◌∷◌, ◌∙◌, ap, arith, codes, map}
use Rattle.std.specs.List.{range_with_len}
use Rattle.demo_jobs.specs.Cloths.{indices}
use Rattle.demo_jobs.specs.Lines.{after_commas, line, table_text}
use Rattle.demo_jobs.specs.WeightsText.{wave_record, weights_record, weights_records, weights_text, white_of}
use Rattle.demo_jobs.proofs.LineFacts.{record_last, records_more}
use Rattle.demo_jobs.proofs.weights_file.weights_text.Goals as goal

pub loop-index-init : goal.loop-index-init
unfolding table_text line after_commas
loop-index-init c = c.in_ok-text.ensures.items

pub loop-index-preserved : goal.loop-index-preserved
loop-index-preserved c =
    records_more (codes "nm" ∷ codes "X" ∷ codes "Y" ∷ codes "Z" ∷ []) (wave_record c.args.light) c.loop-index.index c.loop-index.text.items c.push_weights.new.text.items c.loop-index.invariant
    (c.in_ok-push_weights.ensures ∙ (λ i. c.loop-index.text.items ++ line (weights_record c.args.light ((c.deref.ensures.0 ∙ c.wavelength_field.ensures) i) (c.weights-weights.ensures i))))

pub returns : goal.returns
unfolding weights_text weights_records indices
returns c =
    let all : c.loop-index.index ≡ 31 = omega arith in
    let header = codes "nm" ∷ codes "X" ∷ codes "Y" ∷ codes "Z" ∷ [] in
    record_last (header ∷ map (wave_record c.args.light) (range_with_len 0 31)) (weights_record c.args.light (codes "white") (white_of c.args.light)) c.loop-index.text.items c.push_weights-2.new.text.items
    (c.loop-index.invariant ∙ ap (λ k. table_text (header ∷ map (wave_record c.args.light) (range_with_len 0 k))) all)
    (c.in_ok-push_weights-2.ensures ∙ ap (λ ws. c.loop-index.text.items ++ line (weights_record c.args.light (codes "white") ws)) c.white.ensures)
