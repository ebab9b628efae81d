-- A feed of pieces gives what the whole text gives.
use Rattle.std.proofs.Common.{◌≡◌, ℕ, List, [], ◌∷◌, ◌++◌, flat_map, refl, sym, ap, ◌∙◌, subst, append_assoc}
use Rattle.std.specs.Prelude.{Option, Some, None, Result, Err}
use Rattle.std.proofs.lemmas.List.{append-nil}
use Rattle.box_core.specs.declared.cert.Cert.{Cert}
use Rattle.box_specs.specs.declared.certificate.CertFault.{CertFault}
use Rattle.box_cert.specs.declared.fault.CertError.{CertError}
use Rattle.box_cert.specs.declared.fault.CertError.TheVariants as errors
use Rattle.box_cert.specs.Feeding.{FeedState, Feeds, FeedsAll, HasRead, IsFresh, feed_gives}
use Rattle.box_cert.specs.Reading.{Gives}
use Rattle.box_cert.specs.Spelling.{Content, content}
use Rattle.box_cert.specs.Text.{cert_of}

pub fresh_read : (dims : ℕ) (feed : FeedState) → IsFresh dims feed → HasRead dims [] feed
fresh_read dims feed fresh = λ memory more. fresh.gives more

pub piece_read : (dims : ℕ) (bytes piece : List ℕ) (old new : FeedState) → HasRead dims bytes old → Feeds piece old new → HasRead dims (bytes ++ piece) new
piece_read dims bytes piece old new read feeds = λ memory more.
    feeds.gives memory more ∙ read (λ e. memory (feeds.stays errors.Memory e)) (piece ++ more) ∙ ap (cert_of dims) (sym (append_assoc bytes piece more))

pieces_read : (dims : ℕ) (bytes : List ℕ) (pieces : List (List ℕ)) (old new : FeedState) → HasRead dims bytes old → FeedsAll pieces old new → HasRead dims (bytes ++ flat_map (λ piece. piece) pieces) new
pieces_read dims bytes [] old new read same =
    let P : FeedState → Type 0 = HasRead dims (bytes ++ []) in
    let Q : List ℕ → Type 0 = λ b. HasRead dims b old in
    subst P (sym same) (subst Q (sym (append-nil bytes)) read)
pieces_read dims bytes (piece ∷ pieces) old new read feeds =
    let P : List ℕ → Type 0 = λ b. HasRead dims b new in
    subst P (append_assoc bytes piece (flat_map (λ piece. piece) pieces)) (pieces_read dims (bytes ++ piece) pieces feeds.0 new (piece_read dims bytes piece old feeds.0 read feeds.1) feeds.2)

-- however the text was cut
pub all_read : (dims : ℕ) (pieces : List (List ℕ)) (start end : FeedState) → IsFresh dims start → FeedsAll pieces start end → HasRead dims (flat_map (λ piece. piece) pieces) end
all_read dims pieces start end fresh feeds = pieces_read dims [] pieces start end (fresh_read dims start fresh) feeds

-- a feed is finished
pub read_ends : (dims : ℕ) (bytes : List ℕ) (feed : FeedState) (r : Result Cert CertError) → HasRead dims bytes feed → Gives (λ cert. content cert) r (feed_gives feed [])
    → ((e : CertError) → feed.failed ≡ Some e → r ≡ Err e) → Gives (λ cert. content cert) r (cert_of dims bytes)
read_ends dims bytes feed r read gives stays = go feed.failed refl where
  P : Result Content CertFault → Type 0
  P = λ read. Gives (λ cert. content cert) r read

  Q : Result Cert CertError → Type 0
  Q = λ r. Gives (λ cert. content cert) r (cert_of dims bytes)

  remembered : (feed.failed ≡ Some errors.Memory → ⊥) → Gives (λ cert. content cert) r (cert_of dims bytes)
  remembered memory = subst P (read memory [] ∙ ap (cert_of dims) (append-nil bytes)) gives

  go : (o : Option CertError) → feed.failed ≡ o → Gives (λ cert. content cert) r (cert_of dims bytes)
  go None e = remembered (λ m. let h : None ≡ Some errors.Memory = sym e ∙ m in cc)
  go (Some errors.Memory) e = subst Q (sym (stays errors.Memory e)) tt
  go (Some (errors.Fault f)) e = remembered (λ m. let h : Some (errors.Fault f) ≡ Some errors.Memory = sym e ∙ m in cc)
