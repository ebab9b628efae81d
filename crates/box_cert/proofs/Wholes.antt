-- A whole certificate that is written.
use Rattle.std.proofs.Common.{◌≡◌, append_assoc, ℕ, List, [], ◌++◌, length, Result, Ok, Err, refl, sym, ap, ◌∙◌, subst, inr, option_map}
use Rattle.std.proofs.lemmas.List.{append-nil}
use Rattle.shelf_io.specs.Changes.{OnlyWrites}
use Rattle.shelf_io.specs.Contents.{put_bytes, write_bytes}
use Rattle.shelf_io.specs.View.{ShelfView}
use Rattle.shelf_io.proofs.Written.{written_none}
use Rattle.box_cert.specs.Writing.{Goes, Holds, Writes}

module _ (front list lines : List ℕ) where
  -- the front, a list and a tree, with other brackets
  pub brackets : (count : List ℕ) → front ++ ((count ++ list) ++ lines) ≡ ((front ++ count) ++ list) ++ lines
  brackets count = sym (append_assoc front (count ++ list) lines) ∙ ap (λ t. t ++ lines) (sym (append_assoc front count list))

-- the file is created, and then the text is put while no byte waits
pub written : {T E : Type 0} (r : Result T E) (name text : List ℕ) (old mid new : ShelfView) → mid.contents ≡ option_map (put_bytes name []) old.contents
    → OnlyWrites name 0 old mid → mid.write_faults name ≡ old.write_faults name → Goes name text r [] mid [] new → Writes name text r old new
written (Ok x) name text old mid new made effect same goes =
    let begun : Holds name [] [] old mid = record { done = []; is = refl; contents = written_none name old.contents mid.contents made; effect = effect; counted = same } in
    let h = goes old [] begun in
    let is : h.done ≡ text = sym (append-nil h.done) ∙ h.is in
    let P : List ℕ → Type 0 = λ t. OnlyWrites name (length t) old new in
    record {
      contents = h.contents ∙ ap (λ t. option_map (write_bytes name t) old.contents) is;
      effect = subst P is h.effect;
      counted = h.counted;
      promised = λ more p. refl;
    }
written (Err e) name text old mid new made effect same goes =
    let begun : Holds name [] [] old mid = record { done = []; is = refl; contents = written_none name old.contents mid.contents made; effect = effect; counted = same } in
    let f = goes old [] begun in
    record { contents = inr f.prefix; effect = f.effect; counted = f.counted; promised = λ more p. absurd (f.unpromised more p) }
