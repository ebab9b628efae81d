use Rattle.std.proofs.Common.{◌≡◌, map, take, length}
use Rattle.csv.specs.Records.{fields_of}
use Rattle.spectral_tables.specs.Trim.{trimmed}
use Rattle.spectral_tables.proofs.records.fields_of.Given as goal

abbrev pub invariant-loop-field : goal.invariant-loop-field
invariant-loop-field l = record {
  same : l.field-iterator.row.now ≡ l.line;
  at : l.field-iterator.at ≡ length l.fields.items;
  so_far : map (λ f. f.now) l.fields.items ≡ map trimmed (take l.field-iterator.at (fields_of l.line));
}
