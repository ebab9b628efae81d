-- Calls one after the other: what they change, and what they leave unchanged.
use Rattle.std.proofs.Common.{◌≡◌, ◌+◌, ◌≤◌, ℕ, Bool, true, false, Option, List, IsSome, IsTrue, if◌then◌else◌, refl, sym, ◌∙◌, subst, arith}
use Rattle.std.specs.Str.{bytes_eq}
use Rattle.shelf_io.specs.Changes.{HandsOut, OnlyReads, OnlyWrites}
use Rattle.shelf_io.specs.Contents.{Contents, known_file}
use Rattle.shelf_io.specs.View.{ShelfView}

-- reads after reads
pub reads_then : (names : List ℕ → Type 0) (old mid new : ShelfView) → OnlyReads names old mid → OnlyReads names mid new → OnlyReads names old new
reads_then names old mid new f g = record {
  contents = g.contents ∙ f.contents;
  writes = λ n. g.writes n ∙ f.writes n;
  grows = λ n. let a = f.grows n in let b = g.grows n in omega (arith, a, b);
  others = λ n different held.
      let P : Option Contents → Type 0 = λ c. IsSome (known_file c n) in
      g.others n different (subst P (sym f.contents) held) ∙ f.others n different held;
  reads_kept = λ n h. let a = f.reads_kept n h in let b = g.reads_kept n a.0 in (b.0, b.1 ∙ a.1);
  writes_kept = λ n bytes h. g.writes_kept n bytes (f.writes_kept n bytes h);
}

-- nothing was called
pub reads_none : (names : List ℕ → Type 0) (old : ShelfView) → OnlyReads names old old
reads_none names old = record {
  contents = refl;
  writes = λ n. refl;
  grows = λ n. omega arith;
  others = λ n different held. refl;
  reads_kept = λ n h. (h, refl);
  writes_kept = λ n bytes h. h;
}

-- reads of some of the names are reads of these names
pub reads_wider : (some names : List ℕ → Type 0) (old new : ShelfView) → ((n : List ℕ) → some n → names n) → OnlyReads some old new → OnlyReads names old new
reads_wider some names old new sub f = record {
  contents = f.contents;
  writes = f.writes;
  grows = f.grows;
  others = λ n different held. f.others n (λ h. different (sub n h)) held;
  reads_kept = f.reads_kept;
  writes_kept = f.writes_kept;
}

-- writes after writes of the same name
pub writes_then : (name : List ℕ) (a b : ℕ) (old mid new : ShelfView) → OnlyWrites name a old mid → OnlyWrites name b mid new → OnlyWrites name (a + b) old new
writes_then name a b old mid new f g = record {
  reads = λ n. g.reads n ∙ f.reads n;
  handed = λ n. g.handed n ∙ f.handed n;
  files = λ n different. g.files n different ∙ f.files n different;
  grows = λ n. let k = f.grows n in let l = g.grows n in omega (arith, k, l);
  others = λ n different held.
      let P : Option (List ℕ) → Type 0 = λ file. IsSome file in
      g.others n different (subst P (sym (f.files n different)) held) ∙ f.others n different held;
  reads_kept = λ n h. g.reads_kept n (f.reads_kept n h);
  writes_kept = λ more h.
      let e : (a + b) + more ≡ a + (b + more) = omega arith in
      let P : ℕ → Type 0 = λ k. IsTrue (old.writes_promised name k) in
      let k = f.writes_kept (b + more) (subst P e h) in
      let l = g.writes_kept more k.0 in
      (l.0, l.1 ∙ k.1);
}

hands_step : (q : Bool) (a b x y z : ℕ) → y ≤ x + (if q then a else 0) → z ≤ y + (if q then b else 0) → z ≤ x + (if q then a + b else 0)
hands_step true a b x y z h k = omega (arith, h, k)
hands_step false a b x y z h k = omega (arith, h, k)

-- bytes handed out after others
pub hands_then : (name : List ℕ) (a b : ℕ) (old mid new : ShelfView) → HandsOut name a old mid → HandsOut name b mid new → HandsOut name (a + b) old new
hands_then name a b old mid new f g = λ n. hands_step (bytes_eq n name) a b (old.handed n) (mid.handed n) (new.handed n) (f n) (g n)

most_step : (q : Bool) (a b x y : ℕ) → a ≤ b → y ≤ x + (if q then a else 0) → y ≤ x + (if q then b else 0)
most_step true a b x y l h = omega (arith, l, h)
most_step false a b x y l h = h

pub hands_most : (name : List ℕ) (a b : ℕ) (old new : ShelfView) → a ≤ b → HandsOut name a old new → HandsOut name b old new
hands_most name a b old new l f = λ n. most_step (bytes_eq n name) a b (old.handed n) (new.handed n) l (f n)

none_step : (q : Bool) (x : ℕ) → x ≤ x + (if q then 0 else 0)
none_step true x = omega arith
none_step false x = omega arith

pub hands_none : (name : List ℕ) (old : ShelfView) → HandsOut name 0 old old
hands_none name old = λ n. none_step (bytes_eq n name) (old.handed n)
