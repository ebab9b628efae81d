-- The prefix of a file that is read so far grows by the bytes that a read returns.
use Rattle.std.proofs.Common.{◌≡◌, ◌-◌, ◌+◌, ◌≤◌, ℕ, Option, Some, None, Ok, List, length, take, drop, ◌++◌, ◌∙◌, sym, ap, subst, arith, length-append, length-take, length-drop}
use Rattle.std.proofs.Math.Seq.{take-add}
use Rattle.std.proofs.lemmas.List.{take-append-le}
use Rattle.shelf_io.specs.declared.failed.Failed.{Failed}
use Rattle.shelf_io.specs.Contents.{Contents}
use Rattle.shelf_io.specs.Reading.{ReadsFile, Reads, IsFilePrefix, IsKnownPrefix}

length-taken : (n count : ℕ) (all : List ℕ) → count ≤ length all - n → length (take count (drop n all)) ≡ count
length-taken n count all h = simp (length-take, length-drop) (omega arith)

seam : (prefix more all : List ℕ) (count : ℕ) → prefix ≡ take (length prefix) all → more ≡ take count (drop (length prefix) all) → count ≤ length all - length prefix → prefix ++ more ≡ take (length (prefix ++ more)) all
seam prefix more all count f e h =
    let l : length more ≡ count = ap length e ∙ length-taken (length prefix) count all h in
    let joined : take (length prefix + count) all ≡ take (length prefix) all ++ take count (drop (length prefix) all) = take-add (length prefix) count all in
    let size : length (prefix ++ more) ≡ length prefix + count = simp length-append (omega arith) in
    let P : ℕ → Type 0 = λ k. prefix ++ more ≡ take k all in
    subst P (sym size) (grind arith)

prefix_of_file : (file : Option (List ℕ)) (prefix into : List ℕ) (count : ℕ) → IsFilePrefix file prefix → ReadsFile {E = Failed} file (length prefix) (Ok count) into → IsFilePrefix file (prefix ++ take count into)
prefix_of_file None prefix into count f r = absurd r
prefix_of_file (Some all) prefix into count f r = seam prefix (take count into) all count f r.0 r.1

-- a prefix followed by the bytes that were read after it is a prefix
prefix_more : (contents : Option Contents) (name prefix into : List ℕ) (count : ℕ) → IsKnownPrefix contents name prefix → Reads {E = Failed} contents name (length prefix) (Ok count) into → IsKnownPrefix contents name (prefix ++ take count into)
prefix_more None name prefix into count f r = tt
prefix_more (Some c) name prefix into count f r = prefix_of_file (c.file name) prefix into count f r

-- one turn of the loop: the bytes that a read put at the beginning of a buffer are appended to
-- those read before
pub step_prefix : (known between : Option Contents) (name prefix into tail after : List ℕ) (offset count : ℕ) → between ≡ known → offset ≡ length prefix → count ≤ length into → after ≡ prefix ++ take count (into ++ tail) → IsKnownPrefix known name prefix → Reads {E = Failed} between name offset (Ok count) into → IsKnownPrefix known name after
step_prefix known between name prefix into tail after offset count same at most e f r =
    let P : Option Contents → Type 0 = λ c. Reads {E = Failed} c name offset (Ok count) into in
    let Q : ℕ → Type 0 = λ k. Reads {E = Failed} known name k (Ok count) into in
    let R : List ℕ → Type 0 = IsKnownPrefix known name in
    let e2 : after ≡ prefix ++ take count into = e ∙ ap (λ xs. prefix ++ xs) (take-append-le count into tail most) in
    subst R (sym e2) (prefix_more known name prefix into count f (subst Q at (subst P same r)))
