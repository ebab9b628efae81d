-- The promises of a shelf in memory, as facts.
use Rattle.std.proofs.Common.{◌≡◌, ◌≤◌, ◌&&◌, ◌||◌, ℕ, Bool, true, false, List, [], ◌∷◌, IsTrue, nat_le, nat_lt, refl, arith}
use Rattle.std.proofs.lemmas.Bool.{false≢true}
use Rattle.std.proofs.lemmas.Bool.Decides.{nat_tests}
use Rattle.shelf_io.specs.Calls.{is_scheduled, none_scheduled}
use Rattle.shelf_io.specs.MemShelf.{ShelfState, is_held, promises_reads, promises_writes}

both : (a b : Bool) → (a && b) ≡ true → (a ≡ true) × (b ≡ true)
both true b h = (refl, h)
both false b h = absurd (false≢true h)

and_true : (a b : Bool) → a ≡ true → b ≡ true → (a && b) ≡ true
and_true true b h k = k
and_true false b h k = absurd (false≢true h)

-- where no call is scheduled to fail, a given one is not
pub none_fails : (failing : List ℕ) (calls : ℕ) → none_scheduled failing ≡ true → is_scheduled failing calls ≡ false
none_fails [] calls h = refl
none_fails (n ∷ ns) calls h = absurd (false≢true h)

-- reads of the name are promised
pub record ReadsPromised (s : ShelfState) (name : List ℕ) : Type 0 where
  pub none : none_scheduled s.failing ≡ true
  pub held : is_held s name ≡ true

pub reads_facts : (s : ShelfState) (name : List ℕ) → IsTrue (promises_reads s name) → ReadsPromised s name
reads_facts s name h = let p = both (none_scheduled s.failing) (is_held s name) h in record { none = p.0; held = p.1 }

pub reads_promise : (s : ShelfState) (name : List ℕ) → ReadsPromised s name → IsTrue (promises_reads s name)
reads_promise s name w = and_true (none_scheduled s.failing) (is_held s name) w.none w.held

-- writes of this many bytes to the name are promised
pub record WritesPromised (s : ShelfState) (name : List ℕ) (bytes : ℕ) : Type 0 where
  pub none : none_scheduled s.failing ≡ true
  pub slot : (is_held s name || nat_lt 0 s.slots) ≡ true
  pub room : bytes ≤ s.room

room_of : (a b : ℕ) → nat_le a b ≡ true → a ≤ b
room_of a b h = grind (arith, nat_tests)

room_for : (a b : ℕ) → a ≤ b → nat_le a b ≡ true
room_for a b h = grind (arith, nat_tests)

pub writes_facts : (s : ShelfState) (name : List ℕ) (bytes : ℕ) → IsTrue (promises_writes s name bytes) → WritesPromised s name bytes
writes_facts s name bytes h =
    let p = both (none_scheduled s.failing && (is_held s name || nat_lt 0 s.slots)) (nat_le bytes s.room) h in
    let q = both (none_scheduled s.failing) (is_held s name || nat_lt 0 s.slots) p.0 in
    record { none = q.0; slot = q.1; room = room_of bytes s.room p.1 }

pub writes_promise : (s : ShelfState) (name : List ℕ) (bytes : ℕ) → WritesPromised s name bytes → IsTrue (promises_writes s name bytes)
writes_promise s name bytes w =
    and_true (none_scheduled s.failing && (is_held s name || nat_lt 0 s.slots)) (nat_le bytes s.room)
    (and_true (none_scheduled s.failing) (is_held s name || nat_lt 0 s.slots) w.none w.slot) (room_for bytes s.room w.room)
