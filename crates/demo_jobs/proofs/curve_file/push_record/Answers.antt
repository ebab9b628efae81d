use Rattle.std.proofs.Common.{◌≡◌, ◌++◌, ◌∷◌, ◌∙◌, ap, arith, map}
use Rattle.std.specs.Prelude.{slice_index}
use Rattle.demo_jobs.specs.CurveText.{book_of, curve_record, percentage}
use Rattle.demo_jobs.specs.Lines.{after_commas, number_field, wavelength_field}
use Rattle.demo_jobs.proofs.BookFacts.{percentages_are}
use Rattle.demo_jobs.proofs.LineFacts.{fields_end, fields_more, whole_line}
use Rattle.demo_jobs.proofs.curve_file.push_record.Goals as goal

pub loop-curve-preserved : goal.loop-curve-preserved
loop-curve-preserved c =
    let field : c.push_field.new.text.items ≡ c.loop-curve.text.items ++ 44 ∷ number_field 4 (slice_index c.loop-curve-item.result.1 c.args.index) =
    c.in_ok-push_field.ensures ∙ ap (λ f. c.loop-curve.text.items ++ 44 ∷ f) (c.deref-in-loop-curve.ensures.0 ∙ c.number_field.ensures ∙ ap (λ xs. number_field 4 (slice_index xs c.args.index)) c.as_slice.ensures.is) in
    fields_more (λ e. number_field 4 (slice_index e.1 c.args.index)) c.args.book.now c.loop-curve.curve-index c.loop-curve.text.items c.loop-curve-item.result c.push_field.new.text.items (omega arith) c.loop-curve-item.is
    c.loop-curve.invariant field

pub returns : goal.returns
unfolding curve_record
returns c =
    let first : c.extend_from_slice.new.self.items ≡ c.args.text.now.items ++ wavelength_field c.args.index =
    c.in_ok-extend_from_slice.ensures.items ∙ ap (λ f. c.args.text.now.items ++ f) (c.deref.ensures.0 ∙ c.wavelength_field.ensures) in
    let fields = fields_end (λ e. number_field 4 (slice_index e.1 c.args.index)) c.args.book.now c.loop-curve.curve-index c.loop-curve.text.items (omega arith) c.loop-curve.invariant in
    whole_line c.args.text.now.items (wavelength_field c.args.index) c.loop-curve.text.items c.push.new.self.items (map (percentage c.args.index) (book_of c.args.book.now))
    (fields ∙ (λ i. first i ++ after_commas (percentages_are c.args.index c.args.book.now i))) c.in_ok-push.ensures.items
