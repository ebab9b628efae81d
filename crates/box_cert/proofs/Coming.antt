-- A certificate that is read from a file.
use Rattle.std.proofs.Common.{◌≡◌, ◌<◌, ◌≤◌, ℕ, List, length, refl, sym, ap, ◌∙◌, subst}
use Rattle.std.specs.Prelude.{Option, Some, None, Result, Ok, Err}
use Rattle.std.proofs.lemmas.List.{take_all}
use Rattle.shelf_io.specs.declared.failed.Failed.{Failed}
use Rattle.shelf_io.specs.Changes.{HandsOut, OnlyReads}
use Rattle.shelf_io.specs.Contents.{Contents}
use Rattle.shelf_io.specs.Reading.{IsFilePrefix, IsKnownPrefix, Reads, ReadsFile}
use Rattle.shelf_io.specs.View.{ShelfView}
use Rattle.box_core.specs.declared.cert.Cert.{Cert}
use Rattle.box_cert.specs.declared.fault.CertError.{CertError}
use Rattle.box_cert.specs.declared.fault.CertError.TheVariants as errors
use Rattle.box_cert.specs.Feeding.{FeedState, HasRead}
use Rattle.box_cert.specs.Reading.{Gives}
use Rattle.box_cert.specs.Spelling.{content}
use Rattle.box_cert.specs.Taking.{IsFile, TakesCert, taken}
use Rattle.box_cert.specs.Text.{cert_of}

-- so many bytes came from the shelf and were fed, and only reads of the name were made
pub record Came (dims : ℕ) (name : List ℕ) (start now : ShelfView) (offset : ℕ) (feed : FeedState) : Type 0 where
  pub bytes : List ℕ
  pub prefix : IsKnownPrefix start.contents name bytes
  pub many : length bytes ≡ offset
  pub short : offset ≤ 64000000
  pub read : HasRead dims bytes feed
  pub count : feed.dims ≡ dims
  pub fed : feed.taken ≡ offset
  pub effect : OnlyReads (λ n. n ≡ name) start now
  pub handed : HandsOut name offset start now
  pub stands : now.read_faults name ≡ start.read_faults name

-- where a read gives nothing, all bytes have come
pub at_end : (contents between : Option Contents) (name bytes into : List ℕ) (offset count : ℕ) → between ≡ contents → length bytes ≡ offset → count ≡ 0 → 0 < length into
    → IsKnownPrefix contents name bytes → Reads {E = Failed} between name offset (Ok count) into → IsFile contents name bytes
at_end contents between name bytes into offset count same at none some prefix reads =
    let P : Option Contents → Type 0 = λ c. Reads {E = Failed} c name offset (Ok count) into in
    let Q : ℕ → Type 0 = λ n. Reads {E = Failed} contents name n (Ok count) into in
    let R : ℕ → Type 0 = λ n. Reads {E = Failed} contents name (length bytes) (Ok n) into in
    go contents prefix (subst R none (subst Q (sym at) (subst P same reads)))
  where
    file : (o : Option (List ℕ)) → IsFilePrefix o bytes → ReadsFile {E = Failed} o (length bytes) (Ok 0) into → o ≡ Some bytes
    file None p r = absurd r
    file (Some all) p r = ap Some (sym (p ∙ take_all (length bytes) all (r.2 refl some)))

    go : (c : Option Contents) → IsKnownPrefix c name bytes → Reads {E = Failed} c name (length bytes) (Ok 0) into → IsFile c name bytes
    go None p r = tt
    go (Some c) p r = file (c.file name) p r

-- the whole text was read
pub text_taken : (contents : Option Contents) (name bytes : List ℕ) (dims : ℕ) (r : Result Cert CertError) → IsFile contents name bytes → length bytes ≤ 64000000
    → Gives (λ cert. content cert) r (cert_of dims bytes) → TakesCert contents name dims (taken r)
text_taken contents name bytes dims (Ok cert) file short gives = record { bytes = bytes; file = file; short = short; gives = gives }
text_taken contents name bytes dims (Err (errors.Fault f)) file short gives = record { bytes = bytes; file = file; short = short; gives = gives }
text_taken contents name bytes dims (Err errors.Memory) file short gives = tt
