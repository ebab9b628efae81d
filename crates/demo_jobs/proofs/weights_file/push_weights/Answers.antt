use Rattle.std.proofs.Common.{◌≡◌, ◌++◌, ◌∷◌, ◌∙◌, ap, arith, get_or, map}
use Rattle.demo_jobs.specs.Lines.{after_commas, number_field}
use Rattle.demo_jobs.specs.WeightsText.{decimals_of}
use Rattle.demo_jobs.proofs.LineFacts.{fields_end, fields_more, whole_line}
use Rattle.demo_jobs.proofs.ListFacts.{any_other}
use Rattle.demo_jobs.proofs.weights_file.push_weights.Goals as goal

pub loop-weight-preserved : goal.loop-weight-preserved
loop-weight-preserved c =
    let weight = get_or c.args.weights.now c.loop-weight.weight-index 0 in
    let field : c.push_field.new.text.items ≡ c.loop-weight.text.items ++ 44 ∷ number_field (decimals_of c.args.light) weight =
    c.in_ok-push_field.ensures ∙ ap (λ f. c.loop-weight.text.items ++ 44 ∷ f) (c.deref.ensures.0 ∙ c.number_field.ensures ∙ ap (λ d. number_field d weight) c.decimals.ensures.is) in
    fields_more (number_field (decimals_of c.args.light)) c.args.weights.now c.loop-weight.weight-index c.loop-weight.text.items weight c.push_field.new.text.items (omega arith) (any_other c.args.weights.now c.loop-weight.weight-index 0 weight (omega arith))
    c.loop-weight.invariant field

pub returns : goal.returns
returns c =
    let fields = fields_end (number_field (decimals_of c.args.light)) c.args.weights.now c.loop-weight.weight-index c.loop-weight.text.items (omega arith) c.loop-weight.invariant in
    whole_line c.args.text.now.items c.args.first.now c.loop-weight.text.items c.push.new.self.items (map (number_field (decimals_of c.args.light)) c.args.weights.now)
    (fields ∙ ap (λ t. t ++ after_commas (map (number_field (decimals_of c.args.light)) c.args.weights.now)) c.in_ok-extend_from_slice.ensures.items) c.in_ok-push.ensures.items
