-- A certificate whose text comes in pieces.
use Rattle.std.specs.Prelude.{◌≡◌, ◌+◌, ◌*◌, ◌≤◌, ◌++◌, ℕ, true, if◌then◌else◌, List, [], ◌∷◌, length, Option, Some, None, Result, Ok, Err}
use Rattle.box_specs.specs.declared.certificate.CertFault.{CertFault}
use Rattle.box_cert.specs.declared.draft.Draft.{Draft}
use Rattle.box_cert.specs.declared.fault.CertError.{CertError}
use Rattle.box_cert.specs.declared.fault.CertError.TheVariants as errors
use Rattle.box_cert.specs.declared.reader.Reader.{Reader}
use Rattle.box_cert.specs.Drafts.{IsDraft, IsLasting, is_missing, is_whole, still}
use Rattle.box_cert.specs.Lines.{cut_at}
use Rattle.box_cert.specs.Reading.{FailsAs, lines_of}
use Rattle.box_cert.specs.Spelling.{Content}
use Rattle.box_cert.specs.Text.{cert_of}

-- what the text gives where the draft has taken the lines before this one, and where `more` comes after
-- these bytes of the line
abbrev pub gives : Draft → List ℕ → List ℕ → Result Content CertFault
gives d line more = still d (lines_of (line ++ more)).0 (lines_of (line ++ more)).1

abbrev pub reader_gives : Reader → List ℕ → Result Content CertFault
reader_gives r more = gives r.draft r.line.items more

-- the line has not ended, and nothing follows a whole tree
pub record IsReader (r : Reader) : Type 0 where
  pub draft : IsDraft r.draft
  pub line : cut_at 10 r.line.items ≡ None
  pub clear : is_whole r.draft.part ≡ true → r.line.items ≡ []

-- each line that was taken counts 2 bytes: it has one at least, and its line feed
abbrev pub reader_size : Reader → ℕ
reader_size r = 2 * r.draft.number + length r.line.items

-- the bytes were read: the text gives the same as with them before the bytes to come
pub record Read (old : Reader) (bytes : List ℕ) (new : Reader) : Type 0 where
  pub reader : IsReader new
  pub dims : new.draft.dims ≡ old.draft.dims
  pub size : reader_size new ≤ reader_size old + length bytes
  pub same : (more : List ℕ) → reader_gives new more ≡ reader_gives old (bytes ++ more)

-- the bytes were read, or they have the first fault of the text, whatever comes after them
abbrev pub Reads : {T : Type 0} → Reader → List ℕ → Result T CertError → Reader → Type 0
Reads old bytes (Ok _) new = Read old bytes new
Reads old bytes (Err e) new = IsLasting e × ((more : List ℕ) → FailsAs e (reader_gives old (bytes ++ more)))

-- the fault that stays, whatever comes after the text: any but that of a missing line
abbrev pub lasting_fault : {A : Type 0} → Result A CertFault → Option CertFault
lasting_fault (Ok c) = None
lasting_fault (Err f) = if is_missing f.rule then None else Some f

-- a feed: the number of dyes, how many bytes were fed, why the text was refused, and what is kept of it
pub record FeedState : Type 0 where
  pub dims : ℕ
  pub taken : ℕ
  pub failed : Option CertError
  pub reader : Reader

-- what the text gives where these bytes are to come; after a fault it gives this fault
abbrev pub gives_after : Option CertError → Reader → List ℕ → Result Content CertFault
gives_after None r more = reader_gives r more
gives_after (Some errors.Memory) r more = reader_gives r more
gives_after (Some (errors.Fault f)) r more = Err f

abbrev pub feed_gives : FeedState → List ℕ → Result Content CertFault
feed_gives feed more = gives_after feed.failed feed.reader more

-- until the text is refused the reader is that of so many bytes; the fault stays
abbrev pub KeepsReader : ℕ → ℕ → Option CertError → Reader → Type 0
KeepsReader dims taken None r = (r.draft.dims ≡ dims) × IsReader r × (reader_size r ≤ taken + 2)
KeepsReader dims taken (Some e) r = IsLasting e

-- nothing was fed
pub record IsFresh (count : ℕ) (feed : FeedState) : Type 0 where
  pub dims : feed.dims ≡ count
  pub taken : feed.taken ≡ 0
  pub failed : feed.failed ≡ None
  pub gives : (text : List ℕ) → feed_gives feed text ≡ cert_of count text

-- the piece was fed: unless memory ran out, the text gives the same as with the piece before the bytes
-- to come; a reason to refuse it stays
pub record Feeds (piece : List ℕ) (old new : FeedState) : Type 0 where
  pub dims : new.dims ≡ old.dims
  pub taken : new.taken ≡ old.taken + length piece
  pub gives : (new.failed ≡ Some errors.Memory → ⊥) → (more : List ℕ) → feed_gives new more ≡ feed_gives old (piece ++ more)
  pub stays : (e : CertError) → old.failed ≡ Some e → new.failed ≡ Some e

-- these bytes were fed, in whatever pieces, unless memory ran out: the text gives what the whole gives
abbrev pub HasRead : ℕ → List ℕ → FeedState → Type 0
HasRead dims bytes feed = (feed.failed ≡ Some errors.Memory → ⊥) → (more : List ℕ) → feed_gives feed more ≡ cert_of dims (bytes ++ more)

-- these pieces were fed in turn
abbrev pub FeedsAll : List (List ℕ) → (old new : FeedState) → Type 0
FeedsAll [] old new = new ≡ old
FeedsAll (piece ∷ pieces) old new = (mid : FeedState) × Feeds piece old mid × FeedsAll pieces mid new

-- the answer is why the text was refused, if it was
abbrev pub Tells : {T : Type 0} → Result T CertError → Option CertError → Type 0
Tells (Ok _) failed = failed ≡ None
Tells (Err e) failed = failed ≡ Some e

-- the answer is the lasting fault of what was fed, unless memory ran out
abbrev pub HasFault : {T A : Type 0} → Result T CertError → Result A CertFault → Type 0
HasFault (Ok _) read = lasting_fault read ≡ None
HasFault (Err errors.Memory) read = Unit {0}
HasFault (Err (errors.Fault f)) read = lasting_fault read ≡ Some f
