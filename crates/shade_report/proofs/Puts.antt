-- Texts that are put in pieces.
use Rattle.std.proofs.Common.{◌≡◌, ◌+◌, ◌<◌, ◌≤◌, ℕ, Option, Some, None, Result, Ok, Err, IsTrue, true, List, [], ◌∷◌, ◌++◌, length, get_or, take, drop, min, flat_map, refl, sym, ap, ◌∙◌, subst, arith, append_assoc, length-append, zero-add, Bor}
use Rattle.std.proofs.Math.Seq.{take-append-add}
use Rattle.std.proofs.lemmas.Bool.{false≢true}
use Rattle.std.proofs.lemmas.Grind.{flat_map-append}
use Rattle.std.proofs.lemmas.List.{append-nil, take_all, take_min, take_more, take-append-drop, take-append-le}
use Rattle.std.specs.Io.KnownBytes.{append_known}
use Rattle.shelf_io.specs.Counts.{CountsFailure}
use Rattle.shelf_io.specs.Taking.{Puts}
use Rattle.shelf_io.specs.View.{SinkView}

known_none : (o : Option (List ℕ)) → o ≡ append_known o []
known_none None = refl
known_none (Some xs) = ap Some (sym (append-nil xs))

known_more : (o : Option (List ℕ)) (a b : List ℕ) → append_known (append_known o a) b ≡ append_known o (a ++ b)
known_more None a b = refl
known_more (Some xs) a b = ap Some (append_assoc xs a b)

-- nothing was put
pub puts_nothing : {T E : Type 0} (x : T) (view : SinkView) → Puts {T = T} {E = E} [] (Ok x) view view
puts_nothing x view =
    let P : ℕ → Type 0 = λ k. IsTrue (view.puts_promised k) in
    record { taken = known_none view.taken; counted = refl; promised = λ more h. (refl, subst P (zero-add more) h) }

split_promise : (view : SinkView) (a b : List ℕ) (more : ℕ) → IsTrue (view.puts_promised (length (a ++ b) + more)) → IsTrue (view.puts_promised (length a + (length b + more)))
split_promise view a b more h =
    let P : ℕ → Type 0 = λ k. IsTrue (view.puts_promised k) in
    let e : length (a ++ b) + more ≡ length a + (length b + more) = omega (arith, length-append a b) in
    subst P e h

-- a text after one that was put whole
pub puts_then : {T U E : Type 0} (a b : List ℕ) (x : U) (r : Result T E) (old mid new : SinkView) → Puts {T = U} {E = E} a (Ok x) old mid → Puts b r mid new → Puts (a ++ b) r old new
puts_then a b x (Ok y) old mid new p q = record {
  taken = q.taken ∙ ap (λ o. append_known o b) p.taken ∙ known_more old.taken a b;
  counted = q.counted ∙ p.counted;
  promised = λ more h. q.promised more (p.promised (length b + more) (split_promise old a b more h)).1;
}
puts_then a b x (Err e) old mid new p q =
    let P : ℕ → Type 0 = λ k. CountsFailure true k new.faults in
    record {
      taken = (length a + q.taken.0, q.taken.1 ∙ ap (λ o. append_known o (take q.taken.0 b)) p.taken ∙ known_more old.taken a (take q.taken.0 b) ∙ ap (append_known old.taken) (sym (take-append-add a b q.taken.0)));
      counted = subst P p.counted q.counted;
      promised = λ more h. q.promised more (p.promised (length b + more) (split_promise old a b more h)).1;
    }

-- a text cut off in its first part is cut off
pub puts_cut : {T E : Type 0} (a b : List ℕ) (e : E) (old new : SinkView) → Puts {T = T} {E = E} a (Err e) old new → Puts {T = T} {E = E} (a ++ b) (Err e) old new
puts_cut a b e old new p = record {
  taken = (min p.taken.0 (length a), p.taken.1 ∙ ap (append_known old.taken) (sym (take-append-le (min p.taken.0 (length a)) a b (omega arith) ∙ take_min p.taken.0 a)));
  counted = p.counted;
  promised = λ more h. absurd (false≢true (p.promised (length b + more) (split_promise old a b more h)).0);
}

abbrev pub joined : List (Bor (List ℕ)) → List ℕ
joined pieces = flat_map (λ p. p.now) pieces

-- the pieces up to the next one
pub joined_more : (ps : List (Bor (List ℕ))) (i : ℕ) (d : Bor (List ℕ)) → i < length ps → joined (take (i + 1) ps) ≡ joined (take i ps) ++ (get_or ps i d).now
joined_more ps i d h =
    ap joined (take_more ps i d h) ∙ flat_map-append (λ p. p.now) (take i ps) (get_or ps i d ∷ []) ∙ ap (λ xs. joined (take i ps) ++ xs) (append-nil (get_or ps i d).now)

-- all pieces
pub joined_parts : (ps : List (Bor (List ℕ))) (i : ℕ) → joined ps ≡ joined (take i ps) ++ joined (drop i ps)
joined_parts ps i = sym (ap joined (take-append-drop i ps)) ∙ flat_map-append (λ p. p.now) (take i ps) (drop i ps)

module _ {T U E : Type 0} (ps : List (Bor (List ℕ))) (i : ℕ) (d : Bor (List ℕ)) (x : U) (old mid new : SinkView) (lt : i < length ps) (before : Puts {T = U} {E = E} (joined (take i ps)) (Ok x) old mid) where
  -- one piece more was put
  pub put_next : (y : T) → Puts {T = T} {E = E} (get_or ps i d).now (Ok y) mid new → Puts {T = T} {E = E} (joined (take (i + 1) ps)) (Ok y) old new
  put_next y next = rw (joined_more ps i d lt) (puts_then (joined (take i ps)) (get_or ps i d).now x (Ok y) old mid new before next)

  -- the next piece failed
  pub put_failed : (e : E) → Puts {T = T} {E = E} (get_or ps i d).now (Err e) mid new → Puts {T = T} {E = E} (joined ps) (Err e) old new
  put_failed e next =
      rw (joined_parts ps (i + 1), joined_more ps i d lt)
      (puts_cut (joined (take i ps) ++ (get_or ps i d).now) (joined (drop (i + 1) ps)) e old new
      (puts_then (joined (take i ps)) (get_or ps i d).now x (Err e) old mid new before next))

-- all pieces were put
pub put_whole : {T E : Type 0} (ps : List (Bor (List ℕ))) (i : ℕ) (x : T) (old new : SinkView) → length ps ≤ i → Puts {T = T} {E = E} (joined (take i ps)) (Ok x) old new → Puts {T = T} {E = E} (joined ps) (Ok x) old new
put_whole ps i x old new le p = rw (← take_all i ps le) p
