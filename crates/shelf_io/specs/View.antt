-- What contracts know of a shelf and of a sink at one moment.
use Rattle.std.specs.Prelude.{ℕ, Bool, false, List, Option, None}
use Rattle.shelf_io.specs.Contents.{Contents}

-- the files and the room, where they are known; the counts of failed reads and of failed writes
-- that apply to a name; the count of bytes that reads of a name have handed out, 0 where the shelf
-- does not count them; whether reads of a name are promised to succeed, whatever calls come
-- between; and whether it is promised that a name can be created and this many bytes in all be
-- appended with no failure
pub record ShelfView : Type 0 where
  pub contents : Option Contents
  pub read_faults : List ℕ → ℕ
  pub write_faults : List ℕ → ℕ
  pub handed : List ℕ → ℕ
  pub reads_promised : List ℕ → Bool
  pub writes_promised : List ℕ → ℕ → Bool

-- the bytes taken so far, where they are known; how many puts have failed; and whether it is
-- promised that this many bytes in all can be put with no failure
pub record SinkView : Type 0 where
  pub taken : Option (List ℕ)
  pub faults : ℕ
  pub puts_promised : ℕ → Bool

-- a shelf of which nothing is known but its counts of failures, each the same for every name; it
-- counts no bytes
abbrev pub unknown_shelf : (read_faults write_faults : ℕ) → ShelfView
unknown_shelf read_faults write_faults = record {
  contents = None;
  read_faults = λ _. read_faults;
  write_faults = λ _. write_faults;
  handed = λ _. 0;
  reads_promised = λ _. false;
  writes_promised = λ _ _. false;
}

-- a sink of which nothing is known but its count of failures
abbrev pub unknown_sink : ℕ → SinkView
unknown_sink faults = record { taken = None; faults = faults; puts_promised = λ _. false }
