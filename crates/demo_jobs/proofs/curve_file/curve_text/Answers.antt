use Rattle.std.proofs.Common.{◌≡◌, ◌++◌, ◌∷◌, ◌∙◌, ap, arith, codes, map}
use Rattle.std.specs.List.{range_with_len}
use Rattle.std.specs.Map.{keys_of}
use Rattle.demo_jobs.specs.Cloths.{indices}
use Rattle.demo_jobs.specs.CurveText.{book_of, curve_record, curve_records, curve_text}
use Rattle.demo_jobs.specs.Lines.{line, table_text}
use Rattle.demo_jobs.proofs.LineFacts.{header_alone, records_more}
use Rattle.demo_jobs.proofs.curve_file.curve_text.Goals as goal

pub loop-index-init : goal.loop-index-init
loop-index-init c =
    let header : c.push_header.new.text.items ≡ line (codes "nm" ∷ keys_of (book_of c.args.book.now)) = c.in_ok-push_header.ensures ∙ ap (λ t. t ++ line (codes "nm" ∷ keys_of (book_of c.args.book.now))) c.new-text.ensures.items in
    header ∙ header_alone (codes "nm" ∷ keys_of (book_of c.args.book.now))

pub loop-index-preserved : goal.loop-index-preserved
loop-index-preserved c =
    records_more (codes "nm" ∷ keys_of (book_of c.args.book.now)) (curve_record (book_of c.args.book.now)) c.loop-index.index c.loop-index.text.items c.push_record.new.text.items c.loop-index.invariant c.in_ok-push_record.ensures

pub returns : goal.returns
unfolding curve_text curve_records indices
returns c =
    let all : c.loop-index.index ≡ 31 = omega arith in
    c.loop-index.invariant ∙ ap (λ k. table_text ((codes "nm" ∷ keys_of (book_of c.args.book.now)) ∷ map (curve_record (book_of c.args.book.now)) (range_with_len 0 k))) all
