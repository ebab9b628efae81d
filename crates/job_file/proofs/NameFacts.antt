-- The names of dyes.
use Rattle.std.proofs.Common.{◌≡◌, ◌<◌, ◌||◌, ℕ, zero, suc, List, [], ◌∷◌, ◌++◌, length, get_or, Bool, true, false, length-append, inl, inr, refl, arith}
use Rattle.std.specs.Str.{bytes_eq}
use Rattle.std.proofs.lemmas.Bool.{cases_lt}
use Rattle.std.proofs.lemmas.List.{get_or_append_left}
use Rattle.std.proofs.Math.Seq.{get_or-append_seam}
use Rattle.job_file.specs.declared.dye.JobDye.{JobDye}
use Rattle.job_file.specs.Dye.{NamesDiffer, has_dye}

neither : (a b : Bool) → a || b ≡ false → (a ≡ false) × (b ≡ false)
neither true b h = cc
neither false b h = (refl, h)

-- where no dye has the name, the dye at an index does not have it
other_name : (dyes : List JobDye) (text : List ℕ) (i : ℕ) (e : JobDye) → has_dye dyes text ≡ false → i < length dyes → bytes_eq (get_or dyes i e).name text ≡ false
other_name [] text i e h l = absurd (omega arith)
other_name (d ∷ dyes) text zero e h l = (neither (bytes_eq d.name text) (has_dye dyes text) h).0
other_name (d ∷ dyes) text (suc i) e h l = other_name dyes text i e (neither (bytes_eq d.name text) (has_dye dyes text) h).1 (omega arith)

-- the names still differ after a dye whose name no dye before it has
pub names_differ_push : (dyes : List JobDye) (d : JobDye) → NamesDiffer dyes → has_dye dyes d.name ≡ false → NamesDiffer (dyes ++ d ∷ [])
names_differ_push dyes d h new i j e below last =
    let count = length-append dyes (d ∷ []) in
    elim (cases_lt j (length dyes)) as (λ _. bytes_eq (get_or (dyes ++ d ∷ []) i e).name (get_or (dyes ++ d ∷ []) j e).name ≡ false) [
      | inl l ↦ rw (get_or_append_left dyes (d ∷ []) e i (omega arith), get_or_append_left dyes (d ∷ []) e j l) (h i j e below l)
      | inr ge ↦
          let same : j ≡ length dyes = omega (arith, count, last, ge) in
          rw (get_or_append_left dyes (d ∷ []) e i (omega arith), same, get_or-append_seam dyes d [] e) (other_name dyes d.name i e new (omega arith))
    ]
