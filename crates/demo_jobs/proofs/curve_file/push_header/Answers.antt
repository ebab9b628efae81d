use Rattle.std.proofs.Common.{◌++◌, ◌∷◌, ◌∙◌, ap, arith, codes, string_bytes}
use Rattle.std.specs.Map.{keys_of}
use Rattle.demo_jobs.specs.CurveText.{book_of}
use Rattle.demo_jobs.specs.Lines.{after_commas}
use Rattle.demo_jobs.proofs.BookFacts.{names_are}
use Rattle.demo_jobs.proofs.LineFacts.{fields_end, fields_more, whole_line}
use Rattle.demo_jobs.proofs.curve_file.push_header.Goals as goal

pub loop-name-preserved : goal.loop-name-preserved
loop-name-preserved c =
    fields_more (λ e. string_bytes e.0) c.args.book.now c.loop-name.name-index c.loop-name.text.items c.loop-name-item.result c.push_field.new.text.items (omega arith) c.loop-name-item.is c.loop-name.invariant
    (c.in_ok-push_field.ensures ∙ ap (λ f. c.loop-name.text.items ++ 44 ∷ f) c.as_bytes.ensures.value)

pub returns : goal.returns
returns c =
    let fields = fields_end (λ e. string_bytes e.0) c.args.book.now c.loop-name.name-index c.loop-name.text.items (omega arith) c.loop-name.invariant in
    whole_line c.args.text.now.items (codes "nm") c.loop-name.text.items c.push.new.self.items (keys_of (book_of c.args.book.now))
    (fields ∙ (λ i. c.in_ok-extend_from_slice.ensures.items i ++ after_commas (names_are c.args.book.now i))) c.in_ok-push.ensures.items
