-- Two readings, one after the other.
use Rattle.std.proofs.Common.{◌≡◌, ◌⊎◌, ◌+◌, ◌-◌, ◌≤◌, ◌<◌, ℕ, List, [], ◌∷◌, ◌++◌, length, drop, get_or, map, Option, Some, None, IfSome, IfOk, IfErr, Result, Ok, Err, refl, sym, ◌∙◌, inl, inr, subst, arith, append_assoc, add-one}
use Rattle.std.proofs.Math.Seq.{drop-cons}
use Rattle.std.specs.Global.{Vec}
use Rattle.shelf_io.specs.Changes.{HandsOut, OnlyReads}
use Rattle.shelf_io.specs.Contents.{Contents}
use Rattle.shelf_io.specs.View.{ShelfView}
use Rattle.shelf_io.proofs.Keeping.{reads_none, reads_then, reads_wider}
use Rattle.run_core.specs.Answers as spec
use Rattle.run_core.specs.Asking.{reports_on}
use Rattle.run_core.specs.Due.{CanBeRead, FailsToRead}
use Rattle.run_core.specs.Endings.{IsUnreadable, Reaches}
use Rattle.run_core.specs.Asking.{◌>>=◌}
use Rattle.run_core.specs.Judging.{Breaks, Gives, IsInput, IsMade, StopsAs, StopsAt, stop_outcome}
use Rattle.run_core.specs.Outcome.{Fault, Outcome, outcome_of, refused, unreadable}
use Rattle.run_core.specs.Reading.{DueFile, Gets, IsDue, MayTake, Reading, Reads, ReadsDue, Takes, asks, due_bytes, each_file, makes, one_file, then_reads}
use Rattle.run_core.specs.Views.{bytes_view, due_view}
use Rattle.run_core.specs.declared.due_files.DueFile as code
use Rattle.run_core.specs.declared.stop.Stop.{Stop}

-- ---- what is made, what is due, and how many bytes may be taken

-- what is made of the second reading is made of both
pub got_then : {X Y : Type 0} (contents : Option Contents) (reading : Reading X) (next : X → Reading Y) (x : X) (y : Y) → Gets contents reading x → Gets contents (next x) y → Gets contents (then_reads reading next) y
got_then contents (makes given) next x y w v = subst (λ x. Gets contents (next x) y) w v
got_then contents (asks name limit rest) next x y (bytes_read, can, w) v = (bytes_read, can, got_then contents (rest bytes_read) next x y w v)

-- what is made of both is made of the second
pub then_got : {X Y : Type 0} (contents : Option Contents) (reading : Reading X) (next : X → Reading Y) (y : Y) → Gets contents (then_reads reading next) y → (x : X) × Gets contents reading x × Gets contents (next x) y
then_got contents (makes given) next y w = (given, refl, w)
then_got contents (asks name limit rest) next y (bytes_read, can, w) = let r = then_got contents (rest bytes_read) next y w in (r.0, (bytes_read, can, r.1), r.2)

due_first : {X Y : Type 0} (contents : Option Contents) (reading : Reading X) (next : X → Reading Y) (n : List ℕ) → IsDue contents reading n → IsDue contents (then_reads reading next) n
due_first contents (makes x) next n d = absurd d
due_first contents (asks name limit rest) next n (inl e) = inl e
due_first contents (asks name limit rest) next n (inr (bytes_read, can, d)) = inr (bytes_read, can, due_first contents (rest bytes_read) next n d)

due_rest : {X Y : Type 0} (contents : Option Contents) (reading : Reading X) (next : X → Reading Y) (x : X) (n : List ℕ) → Gets contents reading x → IsDue contents (next x) n → IsDue contents (then_reads reading next) n
due_rest contents (makes given) next x n w d = subst (λ x. IsDue contents (next x) n) w d
due_rest contents (asks name limit rest) next x n (bytes_read, can, w) d = inr (bytes_read, can, due_rest contents (rest bytes_read) next x n w d)

none_taken : {X : Type 0} (contents : Option Contents) (reading : Reading X) (n : List ℕ) (count : ℕ) → count ≡ 0 → MayTake contents reading n count
none_taken contents (makes x) n count h = h
none_taken contents (asks name limit rest) n count h = inl (omega (arith, h))

fewer : {X : Type 0} (contents : Option Contents) (reading : Reading X) (n : List ℕ) (few many : ℕ) → few ≤ many → MayTake contents reading n many → MayTake contents reading n few
fewer contents (makes x) n few many h m = omega (arith, h, m)
fewer contents (asks name limit rest) n few many h (inl m) = inl (omega (arith, h, m))
fewer contents (asks name limit rest) n few many h (inr (bytes_read, can, (k, m, most))) = inr (bytes_read, can, (k, m, omega (arith, h, most)))

take_first : {X Y : Type 0} (contents : Option Contents) (reading : Reading X) (next : X → Reading Y) (n : List ℕ) (count : ℕ) → MayTake contents reading n count → MayTake contents (then_reads reading next) n count
take_first contents (makes x) next n count m = none_taken contents (next x) n count m
take_first contents (asks name limit rest) next n count (inl m) = inl m
take_first contents (asks name limit rest) next n count (inr (bytes_read, can, (k, m, most))) = inr (bytes_read, can, (k, take_first contents (rest bytes_read) next n k m, most))

take_rest : {X Y : Type 0} (contents : Option Contents) (reading : Reading X) (next : X → Reading Y) (x : X) (n : List ℕ) (a b count : ℕ) → Takes contents reading x n a → MayTake contents (next x) n b → count ≤ a + b → MayTake contents (then_reads reading next) n count
take_rest contents (makes given) next x n a b count (is, none) m h =
    fewer contents (next given) n count b (omega (arith, none, h)) (subst (λ x. MayTake contents (next x) n b) is m)
take_rest contents (asks name limit rest) next x n a b count (bytes_read, can, (k, t, most)) m h =
    let all : k + b ≤ k + b = omega arith in
    inr (bytes_read, can, (k + b, take_rest contents (rest bytes_read) next x n k b (k + b) t m all, omega (arith, most, h)))

fewer_whole : {X : Type 0} (contents : Option Contents) (reading : Reading X) (x : X) (n : List ℕ) (few many : ℕ) → few ≤ many → Takes contents reading x n many → Takes contents reading x n few
fewer_whole contents (makes given) x n few many h (is, none) = (is, omega (arith, h, none))
fewer_whole contents (asks name limit rest) x n few many h (bytes_read, can, (k, t, most)) = (bytes_read, can, (k, t, omega (arith, h, most)))

take_both : {X Y : Type 0} (contents : Option Contents) (reading : Reading X) (next : X → Reading Y) (x : X) (y : Y) (n : List ℕ) (a b count : ℕ) → Takes contents reading x n a → Takes contents (next x) y n b → count ≤ a + b → Takes contents (then_reads reading next) y n count
take_both contents (makes given) next x y n a b count (is, none) t h =
    fewer_whole contents (next given) y n count b (omega (arith, none, h)) (subst (λ x. Takes contents (next x) y n b) is t)
take_both contents (asks name limit rest) next x y n a b count (bytes_read, can, (k, s, most)) t h =
    let all : k + b ≤ k + b = omega arith in
    (bytes_read, can, (k + b, take_both contents (rest bytes_read) next x y n k b (k + b) s t all, omega (arith, most, h)))

may_take : {X : Type 0} (contents : Option Contents) (reading : Reading X) (x : X) (n : List ℕ) (count : ℕ) → Takes contents reading x n count → MayTake contents reading n count
may_take contents (makes given) x n count (is, none) = none
may_take contents (asks name limit rest) x n count (bytes_read, can, (k, t, most)) = inr (bytes_read, can, (k, may_take contents (rest bytes_read) x n k t, most))

-- ---- what was read

-- nothing was read
pub none_due : {X : Type 0} (reading : Reading X) (view : ShelfView) → ReadsDue reading view view
none_due reading view = record { effect = reads_none (IsDue view.contents reading) view; taken = λ n. none_taken view.contents reading n (view.handed n - view.handed n) (omega arith) }

pub none_read : {X : Type 0} (x : X) (view : ShelfView) → Reads (makes x) x view view
none_read x view = record { made = refl; effect = reads_none (IsDue view.contents (makes x)) view; taken = λ n. (refl, omega arith) }

pub due_reads : {X : Type 0} (reading : Reading X) (x : X) (before after : ShelfView) → Reads reading x before after → ReadsDue reading before after
due_reads reading x before after r = record { effect = r.effect; taken = λ n. may_take before.contents reading x n (after.handed n - before.handed n) (r.taken n) }

-- only files of the first reading were read
pub reads_first : {X Y : Type 0} (reading : Reading X) (next : X → Reading Y) (before after : ShelfView) → ReadsDue reading before after → ReadsDue (then_reads reading next) before after
reads_first reading next before after r = record {
  effect = reads_wider (IsDue before.contents reading) (IsDue before.contents (then_reads reading next)) before after (λ n d. due_first before.contents reading next n d) r.effect;
  taken = λ n. take_first before.contents reading next n (after.handed n - before.handed n) (r.taken n);
}

module _ {X Y : Type 0} (reading : Reading X) (next : X → Reading Y) (x : X) (before mid after : ShelfView) (first : Reads reading x before mid) where
  -- what the second reading makes, is due or takes is the same where it begins and before
  same_files : (P : Option Contents → Type 0) → P mid.contents → P before.contents
  same_files P p = subst P first.effect.contents p

  both_effect : OnlyReads (IsDue mid.contents (next x)) mid after → OnlyReads (IsDue before.contents (then_reads reading next)) before after
  both_effect effect =
      reads_then (IsDue before.contents (then_reads reading next)) before mid after
      (reads_wider (IsDue before.contents reading) (IsDue before.contents (then_reads reading next)) before mid (λ n d. due_first before.contents reading next n d) first.effect)
      (reads_wider (IsDue mid.contents (next x)) (IsDue before.contents (then_reads reading next)) mid after (λ n d. due_rest before.contents reading next x n first.made (same_files (λ c. IsDue c (next x) n) d)) effect)

  handed_both : (n : List ℕ) → after.handed n - before.handed n ≤ (mid.handed n - before.handed n) + (after.handed n - mid.handed n)
  handed_both n = omega arith

  -- the first reading was made, and then only files of the second were read
  pub reads_rest : ReadsDue (next x) mid after → ReadsDue (then_reads reading next) before after
  reads_rest rest = record {
    effect = both_effect rest.effect;
    taken = λ n. take_rest before.contents reading next x n (mid.handed n - before.handed n) (after.handed n - mid.handed n) (after.handed n - before.handed n) (first.taken n)
        (same_files (λ c. MayTake c (next x) n (after.handed n - mid.handed n)) (rest.taken n)) (handed_both n);
  }

  -- both were made
  pub reads_both : (y : Y) → Reads (next x) y mid after → Reads (then_reads reading next) y before after
  reads_both y second = record {
    made = got_then before.contents reading next x y first.made (same_files (λ c. Gets c (next x) y) second.made);
    effect = both_effect second.effect;
    taken = λ n. take_both before.contents reading next x y n (mid.handed n - before.handed n) (after.handed n - mid.handed n) (after.handed n - before.handed n) (first.taken n)
        (same_files (λ c. Takes c (next x) y n (after.handed n - mid.handed n)) (second.taken n)) (handed_both n);
  }

  unreadable_rest : (name : List ℕ) → IsUnreadable (next x) mid after name → IsUnreadable (then_reads reading next) before after name
  unreadable_rest name u = record {
    due = due_rest before.contents reading next x name first.made (same_files (λ c. IsDue c (next x) name) u.due);
    failed = record {
      rose = let a = first.effect.grows name in let f = u.failed.rose in omega (arith, a, f);
      unpromised = λ h. u.failed.unpromised (first.effect.reads_kept name h).0;
    };
  }

  unread_rest : (w : Option Outcome) → IfSome w (λ o. (name : List ℕ) × IsUnreadable (next x) mid after name × (o ≡ unreadable name)) → IfSome w (λ o. (name : List ℕ) × IsUnreadable (then_reads reading next) before after name × (o ≡ unreadable name))
  unread_rest (Some o) (name, u, e) = (name, unreadable_rest name u, e)
  unread_rest None s = tt

  -- the second reading was broken off
  pub breaks_rest : (why : Stop) → Breaks (next x) mid after why → Breaks (then_reads reading next) before after why
  breaks_rest why b = record { unread = unread_rest (stop_outcome why) b.unread; reads = reads_rest b.reads }

module _ {X Y : Type 0} (reading : Reading X) (next : X → Reading Y) (before after : ShelfView) where
  unreadable_first : (name : List ℕ) → IsUnreadable reading before after name → IsUnreadable (then_reads reading next) before after name
  unreadable_first name u = record { due = due_first before.contents reading next name u.due; failed = u.failed }

  unread_first : (w : Option Outcome) → IfSome w (λ o. (name : List ℕ) × IsUnreadable reading before after name × (o ≡ unreadable name)) → IfSome w (λ o. (name : List ℕ) × IsUnreadable (then_reads reading next) before after name × (o ≡ unreadable name))
  unread_first (Some o) (name, u, e) = (name, unreadable_first name u, e)
  unread_first None s = tt

  -- the first reading was broken off
  pub breaks_first : (why : Stop) → Breaks reading before after why → Breaks (then_reads reading next) before after why
  breaks_first why b = record { unread = unread_first (stop_outcome why) b.unread; reads = reads_first reading next before after b.reads }

-- memory ran out before anything was read
pub breaks_now : {X : Type 0} (reading : Reading X) (view : ShelfView) (why : Stop) → stop_outcome why ≡ None → Breaks reading view view why
breaks_now reading view why none = record {
  unread = let P : Option Outcome → Type 0 = λ w. IfSome w (λ o. (name : List ℕ) × IsUnreadable reading view view name × (o ≡ unreadable name)) in subst P (sym none) tt;
  reads = none_due reading view;
}

-- memory ran out when some files had been read
pub breaks_after : {X : Type 0} (reading : Reading X) (before after : ShelfView) (why : Stop) → stop_outcome why ≡ None → ReadsDue reading before after → Breaks reading before after why
breaks_after reading before after why none reads = record {
  unread = let P : Option Outcome → Type 0 = λ w. IfSome w (λ o. (name : List ℕ) × IsUnreadable reading before after name × (o ≡ unreadable name)) in subst P (sym none) tt;
  reads = reads;
}

-- ---- one file

due_taken : (a b : ℕ) (most : ℕ) → b ≤ a + most → b - a ≤ most + 0
due_taken a b most h = omega (arith, h)

due_most : (a b : ℕ) (most : ℕ) → b ≤ a + most → b - a ≤ most
due_most a b most h = omega (arith, h)

module _ (file : DueFile) (before after : ShelfView) (effect : OnlyReads (λ n. n ≡ file.name) before after) (handed : HandsOut file.name (file.limit + 1) before after) where
  one_effect : OnlyReads (IsDue before.contents (one_file file)) before after
  one_effect = reads_wider (λ n. n ≡ file.name) (IsDue before.contents (one_file file)) before after (λ n e. inl e) effect

  -- a due file was read
  pub one_read : (result : Result (Option (Vec ℕ)) Stop) → IfOk result (λ bytes_read. CanBeRead before.contents file.name file.limit (bytes_view bytes_read)) → IfOk result (λ bytes_read. Reads (one_file file) (bytes_view bytes_read) before after)
  one_read (Ok bytes_read) can = record {
    made = (bytes_view bytes_read, can, refl);
    effect = one_effect;
    taken = λ n. (bytes_view bytes_read, can, (0, (refl, refl), due_taken (before.handed n) (after.handed n) (due_bytes file.name file.limit n) (handed n)));
  }
  one_read (Err why) can = tt

  unread_one : (w : Option Outcome) → IfSome w (λ o. (o ≡ unreadable file.name) × FailsToRead before after file.name) → IfSome w (λ o. (name : List ℕ) × IsUnreadable (one_file file) before after name × (o ≡ unreadable name))
  unread_one (Some o) (e, failed) = (file.name, record { due = inl refl; failed = failed }, e)
  unread_one None s = tt

  -- it could not be read, or memory ran out
  pub one_breaks : (result : Result (Option (Vec ℕ)) Stop) → IfErr result (StopsAt file.name before after) → IfErr result (Breaks (one_file file) before after)
  one_breaks (Ok bytes_read) s = tt
  one_breaks (Err why) s = record {
    unread = unread_one (stop_outcome why) s;
    reads = record { effect = one_effect; taken = λ n. inl (due_most (before.handed n) (after.handed n) (due_bytes file.name file.limit n) (handed n)) };
  }

-- ---- files, one after the other

-- what is read of the rest is read of all, after what was read so far
pub record GoesOn (files rest : List DueFile) (so_far : List (Option (List ℕ))) (before now : ShelfView) : Type 0 where
  pub reads : (after : ShelfView) (others : List (Option (List ℕ))) → Reads (each_file rest) others now after → Reads (each_file files) (so_far ++ others) before after
  pub breaks : (after : ShelfView) (why : Stop) → Breaks (each_file rest) now after why → Breaks (each_file files) before after why

pub goes_nowhere : (files : List DueFile) (view : ShelfView) → GoesOn files files [] view view
goes_nowhere files view = record { reads = λ after others r. r; breaks = λ after why b. b }

abbrev rest_of : List DueFile → Option (List ℕ) → Reading (List (Option (List ℕ)))
rest_of files first = then_reads (each_file files) (λ others. makes (first ∷ others))

-- one more file was read
pub goes_on : (files rest : List DueFile) (file : DueFile) (so_far : List (Option (List ℕ))) (first : Option (List ℕ)) (before mid now : ShelfView) → GoesOn files (file ∷ rest) so_far before mid → Reads (one_file file) first mid now → GoesOn files rest (so_far ++ first ∷ []) before now
unfolding each_file
goes_on files rest file so_far first before mid now g one = record {
  reads = λ after others r.
      let second : Reads (rest_of rest first) (first ∷ others) now after = reads_both (each_file rest) (λ others. makes (first ∷ others)) others now after after r (first ∷ others) (none_read (first ∷ others) after) in
      subst (λ bs. Reads (each_file files) bs before after) (sym (append_assoc so_far (first ∷ []) others)) (g.reads after (first ∷ others) (reads_both (one_file file) (rest_of rest) first mid now after one (first ∷ others) second));
  breaks = λ after why b. g.breaks after why (breaks_rest (one_file file) (rest_of rest) first mid now after one why (breaks_first (each_file rest) (λ others. makes (first ∷ others)) now after why b));
}

-- the read of the next file was broken off
pub stops_there : (files rest : List DueFile) (file : DueFile) (so_far : List (Option (List ℕ))) (before mid now : ShelfView) (why : Stop) → GoesOn files (file ∷ rest) so_far before mid → Breaks (one_file file) mid now why → Breaks (each_file files) before now why
unfolding each_file
stops_there files rest file so_far before mid now why g b = g.breaks now why (breaks_first (one_file file) (rest_of rest) mid now why b)

-- memory ran out, and after the files so far none but the next one was read
pub stops_after : (files rest : List DueFile) (file : DueFile) (so_far : List (Option (List ℕ))) (first : Option (List ℕ)) (before mid now : ShelfView) (why : Stop) → stop_outcome why ≡ None → GoesOn files (file ∷ rest) so_far before mid → Reads (one_file file) first mid now → Breaks (each_file files) before now why
unfolding each_file
stops_after files rest file so_far first before mid now why none g one =
    g.breaks now why (breaks_after (then_reads (one_file file) (rest_of rest)) mid now why none (reads_first (one_file file) (rest_of rest) mid now (due_reads (one_file file) first mid now one)))

-- the same for the files of the code, from an index on
module _ (files : List code.DueFile) (k : ℕ) (d : code.DueFile) (so_far : List (Option (List ℕ))) (before mid now : ShelfView) (h : k < length files) (g : GoesOn (map due_view files) (map due_view (drop k files)) so_far before mid) where
  abbrev Here : DueFile
  Here = due_view (get_or files k d)

  onwards : GoesOn (map due_view files) (Here ∷ map due_view (drop (k + 1) files)) so_far before mid
  onwards =
      let here : drop k files ≡ get_or files k d ∷ drop (k + 1) files = drop-cons files k d h ∙ (λ i. get_or files k d ∷ drop (sym (add-one k) i) files) in
      subst (λ fs. GoesOn (map due_view files) (map due_view fs) so_far before mid) here g

  pub file_more : (first : Option (List ℕ)) (more : List (Option (List ℕ))) → more ≡ so_far ++ first ∷ [] → Reads (one_file Here) first mid now → GoesOn (map due_view files) (map due_view (drop (k + 1) files)) more before now
  file_more first more grown one =
      subst (λ bs. GoesOn (map due_view files) (map due_view (drop (k + 1) files)) bs before now) (sym grown) (goes_on (map due_view files) (map due_view (drop (k + 1) files)) Here so_far first before mid now onwards one)

  pub file_stops : (why : Stop) → Breaks (one_file Here) mid now why → Breaks (each_file (map due_view files)) before now why
  file_stops why b = stops_there (map due_view files) (map due_view (drop (k + 1) files)) Here so_far before mid now why onwards b

  pub file_after : (why : Stop) (first : Option (List ℕ)) → stop_outcome why ≡ None → Reads (one_file Here) first mid now → Breaks (each_file (map due_view files)) before now why
  file_after why first none one = stops_after (map due_view files) (map due_view (drop (k + 1) files)) Here so_far first before mid now why none onwards one

-- no file is left
pub all_read : (files : List DueFile) (so_far : List (Option (List ℕ))) (before now : ShelfView) → GoesOn files [] so_far before now → Reads (each_file files) (so_far ++ []) before now
unfolding each_file
all_read files so_far before now g = g.reads now [] (none_read [] now)

-- ---- what was read is judged

module _ {Y : Type 0} (reading : Reading (Result Y Fault)) (before after : ShelfView) where
  stops_unread : (w : Option Outcome) → IfSome w (λ o. (name : List ℕ) × IsUnreadable reading before after name × (o ≡ unreadable name)) → IfSome w (λ o. StopsAs reading before after o)
  stops_unread (Some o) s = inr s
  stops_unread None s = tt

  -- a reading that was broken off makes nothing
  pub unmade : {X : Type 0} (view : X → Y) (why : Stop) → Breaks reading before after why → IsMade view reading before after (Err why)
  unmade view why b = stops_unread (stop_outcome why) b.unread

  stops_owned : (why owned : Option Outcome) → (owned ≡ why) ⊎ (owned ≡ None) → IfSome why (λ o. StopsAs reading before after o) → IfSome owned (λ o. StopsAs reading before after o)
  stops_owned why owned (inl same) s = let P : Option Outcome → Type 0 = λ w. IfSome w (λ o. StopsAs reading before after o) in subst P (sym same) s
  stops_owned why owned (inr none) s = let P : Option Outcome → Type 0 = λ w. IfSome w (λ o. StopsAs reading before after o) in subst P (sym none) tt

  -- a refusal that owns its texts stops the reading as the refusal did
  pub owned_made : {X Z : Type 0} (view : X → Y) (other : Z → Y) (why owned : Stop) → (stop_outcome owned ≡ stop_outcome why) ⊎ (stop_outcome owned ≡ None) → IsMade view reading before after (Err why) → IsMade other reading before after (Err owned)
  owned_made view other why owned h s = stops_owned (stop_outcome why) (stop_outcome owned) h s

refused_by : {Y : Type 0} (reading : Reading (Result Y Fault)) (before after : ShelfView) (step : Result Y Fault) → Gets before.contents reading step → (w : Option Outcome) → IfSome w (λ o. (fault : Fault) × (o ≡ refused fault) × (step ≡ Err fault)) → IfSome w (λ o. StopsAs reading before after o)
refused_by reading before after step made (Some o) (fault, e, is) = inl (fault, subst (λ s. Gets before.contents reading s) is made, e)
refused_by reading before after step made None r = tt

-- a step makes what the reading makes
pub made_by : {X Y : Type 0} (view : X → Y) (reading : Reading (Result Y Fault)) (before after : ShelfView) (result : Result X Stop) (step : Result Y Fault) → Gets before.contents reading step → Gives view result step → IsMade view reading before after result
made_by view reading before after (Ok x) step made gives = subst (λ s. Gets before.contents reading s) gives made
made_by view reading before after (Err why) step made gives = refused_by reading before after step made (stop_outcome why) gives

-- the bytes were read, and then a step made the value of them
pub made_then : {W X Y : Type 0} (view : X → Y) (reading : Reading W) (step : W → Result Y Fault) (w : W) (before after : ShelfView) (result : Result X Stop) → Reads reading w before after → Gives view result (step w) → IsMade view (then_reads reading (λ w. makes (step w))) before after result
made_then view reading step w before after result r gives =
    made_by view (then_reads reading (λ w. makes (step w))) before after result (step w) (got_then before.contents reading (λ w. makes (step w)) w (step w) r.made refl) gives

module _ {W X Y : Type 0} (view : X → Y) (reading : Reading W) (next : W → Reading (Result Y Fault)) (w : W) (before mid after : ShelfView) (first : Reads reading w before mid) where
  made_stops : (o : Option Outcome) → IfSome o (λ o. StopsAs (next w) mid after o) → IfSome o (λ o. StopsAs (then_reads reading next) before after o)
  made_stops (Some o) (inl (fault, made, e)) = inl (fault, got_then before.contents reading next w (Err fault) first.made (subst (λ c. Gets c (next w) (Err fault)) first.effect.contents made), e)
  made_stops (Some o) (inr (name, u, e)) = inr (name, unreadable_rest reading next w before mid after first name u, e)
  made_stops None s = tt

  -- the first reading was made, and then the second made its value
  pub made_rest : (result : Result X Stop) → IsMade view (next w) mid after result → IsMade view (then_reads reading next) before after result
  made_rest (Ok x) made = got_then before.contents reading next w (Ok (view x)) first.made (subst (λ c. Gets c (next w) (Ok (view x))) first.effect.contents made)
  made_rest (Err why) s = made_stops (stop_outcome why) s

module _ {W Y : Type 0} (reading : Reading (Result W Fault)) (step : W → Result Y Fault) (before after : ShelfView) where
  abbrev Stepped : Reading (Result Y Fault)
  Stepped = then_reads reading (λ w. makes (w >>= step))

  step_stops : (o : Option Outcome) → IfSome o (λ o. StopsAs reading before after o) → IfSome o (λ o. StopsAs Stepped before after o)
  step_stops (Some o) (inl (fault, made, e)) = inl (fault, got_then before.contents reading (λ w. makes (w >>= step)) (Err fault) (Err fault) made refl, e)
  step_stops (Some o) (inr (name, u, e)) = inr (name, unreadable_first reading (λ w. makes (w >>= step)) before after name u, e)
  step_stops None s = tt

  -- a step after a reading: where the reading stopped, nothing is made
  pub step_unmade : {V X : Type 0} (view : V → W) (other : X → Y) (why : Stop) → IsMade view reading before after (Err why) → IsMade other Stepped before after (Err why)
  step_unmade view other why s = step_stops (stop_outcome why) s

  -- else the step makes the value
  pub step_made : {X : Type 0} (view : X → Y) (w : W) (result : Result X Stop) → Gets before.contents reading (Ok w) → Gives view result (step w) → IsMade view Stepped before after result
  step_made view w result made gives = made_by view Stepped before after result (step w) (got_then before.contents reading (λ w. makes (w >>= step)) (Ok w) (step w) made refl) gives

-- ---- the input of a command

module _ {Y : Type 0} (reading : Reading (Result Y Fault)) (judged : Y → Result spec.Report Fault) (before after : ShelfView) where
  input_stops : (w : Option Outcome) → IfSome w (λ o. StopsAs reading before after o) → IfSome w (λ o. Reaches (reports_on reading judged) before after o)
  input_stops (Some o) (inl (fault, made, e)) =
      inl (subst (λ o. Gets before.contents (reports_on reading judged) o) (sym e) (got_then before.contents reading (λ r. makes (outcome_of (r >>= judged))) (Err fault) (refused fault) made refl))
  input_stops (Some o) (inr (name, u, e)) = inr (name, unreadable_first reading (λ r. makes (outcome_of (r >>= judged))) before after name u, e)
  input_stops None s = tt

  -- what was made of the files is an input
  pub input_by : {X : Type 0} (view : X → Y) (result : Result X Stop) → IsMade view reading before after result → IsInput (reports_on reading judged) (λ x. judged (view x)) before after result
  input_by view (Ok x) made = got_then before.contents reading (λ r. makes (outcome_of (r >>= judged))) (Ok (view x)) (outcome_of (judged (view x))) made refl
  input_by view (Err why) s = input_stops (stop_outcome why) s

  pub input_reads : ReadsDue reading before after → ReadsDue (reports_on reading judged) before after
  input_reads r = reads_first reading (λ r. makes (outcome_of (r >>= judged))) before after r

pub input_made : {Y : Type 0} (reading : Reading (Result Y Fault)) (judged : Y → Result spec.Report Fault) (contents : Option Contents) (y : Y) → Gets contents reading (Ok y) → Gets contents (reports_on reading judged) (outcome_of (judged y))
input_made reading judged contents y made = got_then contents reading (λ r. makes (outcome_of (r >>= judged))) (Ok y) (outcome_of (judged y)) made refl
