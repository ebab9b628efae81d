use Rattle.std.proofs.Common.{◌≡◌, ◌+◌, ◌≤◌, ◌++◌, ℕ, List, length}
use Rattle.box_cert.specs.Feeding.{IsReader, reader_gives, reader_size}
use Rattle.box_cert.proofs.reader.Reader.take.Given as goal

abbrev pub invariant-loop-line : goal.invariant-loop-line
invariant-loop-line l = record {
  reader : IsReader l.self;
  dims : l.self.draft.dims ≡ l.fn.self.draft.dims;
  size : reader_size l.self + length l.rest ≤ reader_size l.fn.self + length l.piece;
  same : (more : List ℕ) → reader_gives l.self (l.rest ++ more) ≡ reader_gives l.fn.self (l.piece ++ more);
}

abbrev pub decreases-loop-line : goal.decreases-loop-line
decreases-loop-line l = length l.rest
