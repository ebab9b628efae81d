use Rattle.std.proofs.Common.{◌<◌, Bor, List, ℕ, ◌∙◌, sym, refl, inl, inr, map, Some, ◌∷◌, [], length, arith}
use Rattle.std.proofs.lemmas.List.{map-append, get_or-map, length-map}
use Rattle.csv.specs.Reading.{Reached, default_config, error_kind, strip_bom}
use Rattle.csv.specs.Records.{fields_of}
use Rattle.csv.specs.declared.parser.State.TheVariants as st
use Rattle.csv.proofs.ReadFacts.{rows-end, rows-more}
use Rattle.spectral_tables.specs.Records.{records_of}
use Rattle.spectral_tables.proofs.RecordFacts.{can_refuse, records-all, fields_fit, length-strip_bom-le}
use Rattle.spectral_tables.proofs.records.records_of.Goals as goal

pub loop-record-init : goal.loop-record-init
unfolding Reached
loop-record-init c =
    let reader = c.from_reader-reader.ensures in
    let flexible = c.flexible.ensures in
    let headers = c.has_headers.ensures in
    let start = c.into_iter-record-iterator.ensures.into_iter_gives ∙ refl in
    let rdr = c.into_byte_records-record-items.ensures.rdr in
    let left = c.into_byte_records-record-items.ensures.left in
    rw (start, rdr, c.new-records.ensures.items) (record {
      trim = rw (flexible, headers) at reader.trim ∙ c.new.ensures.trim;
      ready = inr (inr (rw (flexible, headers) at reader.has_headers, reader.headers));
      left = left;
      config = rw (flexible, headers) at reader.config ∙ c.new.ensures.config;
      flexible = rw flexible at reader.flexible;
      so_far = (strip_bom (strip_bom c.args.bytes.now), rw c.without_mark.ensures at reader.source, (sym reader.state, refl));
    })

pub loop-record-preserved : goal.loop-record-preserved
loop-record-preserved c =
    let inv = c.loop-record.invariant in
    let so_far = inv.so_far in
    let steps = rw (c.in-Some.is, c.in-Ok.is) at (c.next.ensures.steps inv.left inv.trim) in
    let s = steps.0 inv.ready in
    let items = c.in_ok-push-in-Ok.ensures.items in
    let m = rows-more (λ (s : Bor (List ℕ)). Some s.now) c.loop-record.record-iterator.rdr c.next.new.self.rdr (fields_of c.in-Ok.line) default_config st.StartRecord (strip_bom (strip_bom c.args.bytes.now)) so_far.0 (map fields_of c.loop-record.records.items) inv.config so_far.1 so_far.2 s.0 in
    record {
      trim = s.0.3 ∙ inv.trim;
      ready = inl s.1;
      left = s.2;
      config = s.0.2 ∙ inv.config;
      flexible = steps.3 ∙ inv.flexible;
      so_far = (m.0, m.1, rw (items, map-append fields_of c.loop-record.records.items (c.in-Ok.line ∷ [])) m.2);
    }

pub refusal-requires : goal.refusal-requires
refusal-requires c =
    let inv = c.loop-record.invariant in
    let steps = rw (c.in-Some.is, c.in-Err.is) at (c.next.ensures.steps inv.left inv.trim) in
    rw c.kind.ensures (can_refuse (λ (s : Bor (List ℕ)). Some s.now) c.loop-record.record-iterator.rdr c.next.new.self.rdr (error_kind c.in-Err.error) inv.flexible (steps.0 inv.ready))

pub returns-clause-records : goal.returns-clause-records
unfolding records_of
returns-clause-records c =
    let inv = c.loop-record.invariant in
    let s = rw c.in-None.is at ((c.next.ensures.steps inv.left inv.trim).0 inv.ready) in
    let ended = rows-end (λ (s : Bor (List ℕ)). Some s.now) c.loop-record.record-iterator.rdr c.next.new.self.rdr [] default_config inv.so_far.0 inv.config inv.so_far.1 s in
    sym (records-all (strip_bom (strip_bom c.args.bytes.now)) (map fields_of c.loop-record.records.items) c.loop-record.record-iterator.rdr.state inv.so_far.0 inv.so_far.2 ended)

pub returns-clause-fits : goal.returns-clause-fits
returns-clause-fits c = λ k d lt.
    let inv = c.loop-record.invariant in
    let rows = map fields_of c.loop-record.records.items in
    let within : k < length rows = rw length-map lt in
    let fit = fields_fit rows st.StartRecord (strip_bom (strip_bom c.args.bytes.now)) c.loop-record.record-iterator.rdr.state inv.so_far.0 inv.so_far.2 k within in
    let here = get_or-map fields_of c.loop-record.records.items k d [] lt in
    omega (arith, rw here at fit, length-strip_bom-le (strip_bom c.args.bytes.now), length-strip_bom-le c.args.bytes.now)
