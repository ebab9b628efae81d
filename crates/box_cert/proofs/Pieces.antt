-- A file that is written in pieces.
use Rattle.std.proofs.Common.{◌≡◌, ◌+◌, ◌≤◌, ◌<◌, ℕ, Bool, true, false, if◌then◌else◌, IfSome, List, [], ◌∷◌, ◌++◌, length, take, drop, option_map, Option, Some, None, Result, Ok, Err, IsTrue, IsSome, refl, sym, ap, ◌∙◌, subst, arith, append_assoc, length-append, get_or, flat_map}
use Rattle.std.specs.Option.{ForSome}
use Rattle.std.specs.Str.{bytes_eq}
use Rattle.std.proofs.lemmas.Bool.{false≢true}
use Rattle.std.proofs.lemmas.Grind.{flat_map-append}
use Rattle.std.proofs.lemmas.List.{append-nil, take_all, take_more, take-append-drop}
use Rattle.shelf_io.specs.Changes.{OnlyWrites}
use Rattle.shelf_io.specs.Contents.{Contents, AddsTo, AddsPrefixTo, add_piece}
use Rattle.shelf_io.specs.Counts.{CountsFailure}
use Rattle.shelf_io.specs.View.{ShelfView}
use Rattle.shelf_io.proofs.Keeping.{writes_then}
use Rattle.shelf_io.proofs.Written.{written_more}
use Rattle.std.proofs.lemmas.Option.{none-some}
use Rattle.box_cert.specs.Writing.{Goes, Fails, GoesOn, GoesWrong, Holds, IsHeld}

-- a failure within a text is one within a longer text that begins with it
pub fails_more : (name text more : List ℕ) (start now : ShelfView) → Fails name text start now → Fails name (text ++ more) start now
fails_more name text more start now f =
    let P : ℕ → Type 0 = λ k. IsTrue (start.writes_promised name k) in
    let never : (k : ℕ) → IsTrue (start.writes_promised name (length (text ++ more) + k)) → ⊥ =
    λ k h. let e : length (text ++ more) + k ≡ length text + (length more + k) = omega (arith, length-append text more) in f.unpromised (length more + k) (subst P e h) in
    record {
      prefix = record { done = f.prefix.done; rest = f.prefix.rest ++ more; is = sym (append_assoc f.prefix.done f.prefix.rest more) ∙ ap (λ t. t ++ more) f.prefix.is; contents = f.prefix.contents };
      effect = record { reads = f.effect.reads; handed = f.effect.handed; files = f.effect.files; grows = f.effect.grows; others = f.effect.others; reads_kept = f.effect.reads_kept; writes_kept = λ k h. absurd (never k h) };
      counted = f.counted;
      unpromised = never;
    }

-- a piece is put after the waiting bytes
pub on_waiting : (name waiting piece : List ℕ) (view : ShelfView) → GoesOn name piece waiting view (waiting ++ piece) view
on_waiting name waiting piece view = λ start text h. record {
  done = h.done;
  is = sym (append_assoc h.done waiting piece) ∙ ap (λ t. t ++ piece) h.is;
  contents = h.contents;
  effect = h.effect;
  counted = h.counted;
}

pub on_nothing : (name waiting : List ℕ) (view : ShelfView) → GoesOn name [] waiting view waiting view
on_nothing name waiting view = λ start text h. record { done = h.done; is = h.is ∙ sym (append-nil text); contents = h.contents; effect = h.effect; counted = h.counted }

-- a piece is put after another one
pub on_on : (name a b w0 w1 w2 : List ℕ) (old mid new : ShelfView) → GoesOn name a w0 old w1 mid → GoesOn name b w1 mid w2 new → GoesOn name (a ++ b) w0 old w2 new
on_on name a b w0 w1 w2 old mid new f g = λ start text h.
    let P : List ℕ → Type 0 = λ t. Holds name w2 t start new in
    subst P (append_assoc text a b) (g start (text ++ a) (f start text h))

-- an append fails after a piece was put
pub on_wrong : (name a b w0 w1 : List ℕ) (old mid new : ShelfView) → GoesOn name a w0 old w1 mid → GoesWrong name b w1 mid new → GoesWrong name (a ++ b) w0 old new
on_wrong name a b w0 w1 old mid new f g = λ start text h.
    let P : List ℕ → Type 0 = λ t. Fails name t start new in
    subst P (append_assoc text a b) (g start (text ++ a) (f start text h))

-- a piece was put, and then another one, or an append failed while it was put
pub on_goes : {T E : Type 0} (name a b w0 w1 w2 : List ℕ) (old mid new : ShelfView) (result : Result T E) → GoesOn name a w0 old w1 mid → Goes name b result w1 mid w2 new → Goes name (a ++ b) result w0 old w2 new
on_goes name a b w0 w1 w2 old mid new (Ok _) f g = on_on name a b w0 w1 w2 old mid new f g
on_goes name a b w0 w1 w2 old mid new (Err _) f g = on_wrong name a b w0 w1 old mid new f g

-- an append fails before the last piece
pub wrong_more : (name a b w0 : List ℕ) (old new : ShelfView) → GoesWrong name a w0 old new → GoesWrong name (a ++ b) w0 old new
wrong_more name a b w0 old new f = λ start text h.
    let P : List ℕ → Type 0 = λ t. Fails name t start new in
    subst P (append_assoc text a b) (fails_more name (text ++ a) b start new (f start text h))

-- the waiting bytes were appended
pub on_flushed : (name waiting : List ℕ) (old new : ShelfView) → AddsTo name waiting old.contents new.contents → OnlyWrites name (length waiting) old new
    → new.write_faults name ≡ old.write_faults name → GoesOn name [] waiting old [] new
on_flushed name waiting old new adds effect same = λ start text h.
    let P : ℕ → Type 0 = λ k. OnlyWrites name k start new in
    record {
      done = h.done ++ waiting;
      is = ap (λ t. t ++ []) h.is;
      contents = written_more name h.done waiting start.contents old.contents new.contents h.contents adds;
      effect = subst P (sym (length-append h.done waiting)) (writes_then name (length h.done) (length waiting) start old new h.effect effect);
      counted = same ∙ h.counted;
    }

-- the append of the waiting bytes failed
pub wrong_flush : (name waiting : List ℕ) (old new : ShelfView) → AddsPrefixTo name waiting old.contents new.contents → OnlyWrites name (length waiting) old new
    → CountsFailure true (old.write_faults name) (new.write_faults name) → ((more : ℕ) → IsTrue (old.writes_promised name (length waiting + more)) → ⊥)
    → GoesWrong name [] waiting old new
wrong_flush name waiting old new adds effect counted unpromised = λ start text h.
    let k = adds.0 in
    let size : length (text ++ []) ≡ length h.done + length waiting = ap length (append-nil text ∙ sym h.is) ∙ length-append h.done waiting in
    let P : ℕ → Type 0 = λ n. OnlyWrites name n start new in
    let Q : ℕ → Type 0 = λ n. CountsFailure true n (new.write_faults name) in
    let R : ℕ → Type 0 = λ n. IsTrue (start.writes_promised name n) in
    record {
      prefix = record {
        done = h.done ++ take k waiting;
        rest = drop k waiting;
        is = append_assoc h.done (take k waiting) (drop k waiting) ∙ ap (λ t. h.done ++ t) (take-append-drop k waiting) ∙ h.is ∙ sym (append-nil text);
        contents = written_more name h.done (take k waiting) start.contents old.contents new.contents h.contents adds.1;
      };
      effect = subst P (sym size) (writes_then name (length h.done) (length waiting) start old new h.effect effect);
      counted = subst Q h.counted counted;
      unpromised = λ more p.
          let e : length (text ++ []) + more ≡ length h.done + (length waiting + more) = omega (arith, size) in
          unpromised more (h.effect.writes_kept (length waiting + more) (subst R e p)).0;
    }

still_some : (q : Bool) (piece : List ℕ) (o : Option (List ℕ)) → IsSome o → IsSome (if q then option_map (λ bytes. bytes ++ piece) o else o)
still_some true piece None h = absurd (false≢true h)
still_some true piece (Some bytes) h = refl
still_some false piece o h = h

-- a file that is there is still there after an append
pub held_more : (name piece : List ℕ) (old new : ShelfView) → IsHeld name old → AddsTo name piece old.contents new.contents → IsHeld name new
held_more name piece old new held adds = go old.contents held adds.0 where
  go : (o : Option Contents) → ForSome o (λ c. IsSome (c.file name)) → new.contents ≡ option_map (add_piece name piece) o → ForSome new.contents (λ c. IsSome (c.file name))
  go None h e = λ c is. absurd (none-some c (sym e ∙ is))
  go (Some d) h e = λ c is.
      let P : Option Contents → Type 0 = λ x. IfSome x (λ k. IsSome (k.file name)) in
      let there : IfSome (Some (add_piece name piece d)) (λ k. IsSome (k.file name)) = still_some (bytes_eq name name) piece (d.file name) (h d refl) in
      subst P (sym e ∙ is) there

-- pieces of items, one after the other
abbrev pub joined : {X : Type 0} → (X → List ℕ) → List X → List ℕ
joined spell xs = flat_map spell xs

joined_more : {X : Type 0} (spell : X → List ℕ) (xs : List X) (i : ℕ) (d : X) → i < length xs → joined spell (take (i + 1) xs) ≡ joined spell (take i xs) ++ spell (get_or xs i d)
joined_more spell xs i d h =
    ap (joined spell) (take_more xs i d h) ∙ flat_map-append spell (take i xs) (get_or xs i d ∷ []) ∙ ap (λ t. joined spell (take i xs) ++ t) (append-nil (spell (get_or xs i d)))

joined_parts : {X : Type 0} (spell : X → List ℕ) (xs : List X) (i : ℕ) → joined spell xs ≡ joined spell (take i xs) ++ joined spell (drop i xs)
joined_parts spell xs i = sym (ap (joined spell) (take-append-drop i xs)) ∙ flat_map-append spell (take i xs) (drop i xs)

module _ {X : Type 0} (spell : X → List ℕ) (xs : List X) (i : ℕ) (d : X) (name w0 w1 : List ℕ) (old mid new : ShelfView) (lt : i < length xs)
    (before : GoesOn name (joined spell (take i xs)) w0 old w1 mid) where
  -- one more item was put
  pub item_next : (w2 : List ℕ) → GoesOn name (spell (get_or xs i d)) w1 mid w2 new → GoesOn name (joined spell (take (i + 1) xs)) w0 old w2 new
  item_next w2 next = rw (joined_more spell xs i d lt) (on_on name (joined spell (take i xs)) (spell (get_or xs i d)) w0 w1 w2 old mid new before next)

  -- an item could not be put
  pub item_failed : GoesWrong name (spell (get_or xs i d)) w1 mid new → GoesWrong name (joined spell xs) w0 old new
  item_failed next =
      rw (joined_parts spell xs (i + 1), joined_more spell xs i d lt)
      (wrong_more name (joined spell (take i xs) ++ spell (get_or xs i d)) (joined spell (drop (i + 1) xs)) w0 old new
      (on_wrong name (joined spell (take i xs)) (spell (get_or xs i d)) w0 w1 old mid new before next))

-- all items were put
pub items_whole : {X : Type 0} (spell : X → List ℕ) (xs : List X) (i : ℕ) (name w0 w1 : List ℕ) (old new : ShelfView) → length xs ≤ i
    → GoesOn name (joined spell (take i xs)) w0 old w1 new → GoesOn name (joined spell xs) w0 old w1 new
items_whole spell xs i name w0 w1 old new le p = rw (← take_all i xs le) p
