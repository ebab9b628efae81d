-- What was read already, before what is read next.
use Rattle.std.proofs.Common.{◌≡◌, ℕ, suc, ◌+◌, List, [], ◌∷◌, ◌++◌, refl, ap, arith, append_assoc, subst}
use Rattle.std.specs.Prelude.{Option, Some, None, Result, Ok, Err}
use Rattle.box_specs.specs.Validity.{are_trees}
use Rattle.box_specs.specs.declared.certificate.CertFault.{CertFault}
use Rattle.box_specs.specs.declared.certificate.CertLine.{CertLine}
use Rattle.box_specs.specs.declared.certificate.CertLine.TheVariants.{Dear, Fail, Limit, Pass, Split, Undecided}
use Rattle.box_specs.specs.declared.certificate.CertRule.TheVariants.{BadLine}
use Rattle.box_cert.specs.declared.fault.CertError.{CertError}
use Rattle.box_cert.specs.declared.fault.CertError.TheVariants as errors
use Rattle.box_cert.specs.Lines.{line_of}
use Rattle.box_cert.specs.Reading.{◌>>=◌, Cursor, FailsAs, line_result, line_then, next_of, parts_of, trees_at, trees_from, with_prefix}

abbrev pub onto : {A : Type 0} → A → Result (List A × Cursor) CertFault → Result (List A × Cursor) CertFault
onto x read = read >>= λ r. Ok (x ∷ r.0, r.1)

pub prefix_more : {A : Type 0} (xs : List A) (x : A) (read : Result (List A × Cursor) CertFault) → with_prefix (xs ++ x ∷ []) read ≡ with_prefix xs (onto x read)
prefix_more xs x (Ok r) = ap (λ ys. Ok (ys, r.1)) (append_assoc xs (x ∷ []) r.0)
prefix_more xs x (Err e) = refl

pub prefix_none : {A : Type 0} (read : Result (List A × Cursor) CertFault) → with_prefix [] read ≡ read
prefix_none (Ok r) = refl
prefix_none (Err e) = refl

-- a fault stays the result, whatever would be read after it
pub fails_then : {A B : Type 0} (e : CertError) (read : Result A CertFault) (f : A → Result B CertFault) → FailsAs e read → FailsAs e (read >>= f)
fails_then errors.Memory read f h = tt
fails_then (errors.Fault x) read f h = ap (λ r. r >>= f) h

pub fails_as : {A : Type 0} (e : CertError) (a b : Result A CertFault) → a ≡ b → FailsAs e a → FailsAs e b
fails_as e a b h f = let P : Result _ CertFault → Type 0 = λ r. FailsAs e r in subst P h f

-- k + 1 trees are read as their first line, and then its subtrees and the other k trees
pub trees_next : (k number : ℕ) (lines : List (List ℕ)) (left : List ℕ) → trees_from (suc k) number lines left
    ≡ (next_of BadLine line_of (record { number = number; lines = lines; left = left }) >>= λ r. onto r.0 (trees_at (parts_of r.0 + k) r.1))
trees_next k number [] left = refl
trees_next k number (text ∷ lines) left = go (line_of text) where
  p : Cursor
  p = record { number = number + 1; lines = lines; left = left }

  go : (o : Option CertLine) → line_then number o (λ line. trees_from (parts_of line + k) (number + 1) lines left)
      ≡ (line_result number BadLine o p >>= λ r. onto r.0 (trees_at (parts_of r.0 + k) r.1))
  go None = refl
  go (Some line) = refl

-- a line and more lines are k + 1 trees exactly where the others are its subtrees and k trees
pub shape_on : (k : ℕ) (line : CertLine) (more : List CertLine) → are_trees (suc k) (line ∷ more) ≡ are_trees (parts_of line + k) more
shape_on k (Split dye mid) more = let e : suc (suc k) ≡ 2 + k = omega arith in ap (λ n. are_trees n more) e
shape_on k (Limit x) more = let e : k ≡ 0 + k = omega arith in ap (λ n. are_trees n more) e
shape_on k (Fail x) more = let e : k ≡ 0 + k = omega arith in ap (λ n. are_trees n more) e
shape_on k Dear more = let e : k ≡ 0 + k = omega arith in ap (λ n. are_trees n more) e
shape_on k Undecided more = let e : k ≡ 0 + k = omega arith in ap (λ n. are_trees n more) e
shape_on k Pass more = let e : k ≡ 0 + k = omega arith in ap (λ n. are_trees n more) e
