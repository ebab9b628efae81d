use Rattle.std.proofs.Common.{◌≡◌, Some, ap, sym, ◌∙◌, add-one, refl}
use Rattle.std.proofs.lemmas.List.{map_push, length_push}
use Rattle.csv.specs.Records.{fields_of, field_at}
use Rattle.spectral_tables.specs.Trim.{trimmed}
use Rattle.spectral_tables.proofs.RecordFacts.{fields-more, fields-end}
use Rattle.spectral_tables.proofs.records.fields_of.Goals as goal

pub loop-field-preserved : goal.loop-field-preserved
loop-field-preserved c =
    let invariant = c.loop-field.invariant in
    let steps = c.in-Some.ensures.steps in
    let row : c.next.new.self.row.now ≡ c.args.line.now = ap (λ r. r.now) steps.0 ∙ invariant.same in
    let found : Some c.in-Some.field.now ≡ field_at (fields_of c.args.line.now) c.loop-field.field-iterator.at = rw invariant.same at steps.1 in
    let more = fields-more trimmed (fields_of c.args.line.now) c.loop-field.field-iterator.at c.in-Some.field.now found in
    let pushed = c.in_ok-push.ensures.items in
    record {
      same = row;
      at = rw (pushed, steps.2, invariant.at) (sym (length_push c.loop-field.fields.items c.trimmed.result));
      so_far = rw (pushed, steps.2, add-one, map_push, invariant.so_far, c.trimmed.ensures) (sym more);
    }

pub returns : goal.returns
returns c =
    let invariant = c.loop-field.invariant in
    rw (invariant.so_far, fields-end (fields_of c.args.line.now) c.loop-field.field-iterator.at (rw invariant.same at c.in-None.ensures.steps.1)) refl
