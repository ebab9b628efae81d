-- The meaning of the verdict on all lights holds.
use Rattle.std.proofs.Common.{ℕ, zero, suc, ◌≡◌, ◌+◌, ◌<◌, arith, refl, List, [], ◌∷◌, length, All, subst}
use Rattle.interval_specs.specs.Ends.{Ends, IsOrdered}
use Rattle.metamerism.specs.Laws.{VerdictIsTrue}
use Rattle.metamerism.specs.Verdicts.{IsAt, IsFail, IsPass, VerdictHolds, joint, light_verdict, verdict_at, verdict_from}
use Rattle.metamerism.specs.declared.outcomes.Verdict.{Verdict}
use Rattle.metamerism.specs.declared.outcomes.Verdict.TheVariants.{Fail, Pass, Undecided}
use Rattle.metamerism.proofs.VerdictLaws.{LightSays, light_says}

abbrev NotFail : ℕ → ℕ → Ends → Type 0
NotFail n t d = IsFail n t d → ⊥

-- a fact of each light
abbrev OfEach : (ℕ → Ends → Type 0) → List ℕ → List Ends → Type 0
OfEach P ts ds = (i t : ℕ) (d : Ends) → IsAt ts ds i t d → P t d

-- the first light that fails, where the lights are numbered from `number` on
record FirstFail (n number : ℕ) (ts : List ℕ) (ds : List Ends) (k : ℕ) : Type 0 where
  index : ℕ
  number_is : k ≡ number + index
  t : ℕ
  d : Ends
  at : IsAt ts ds index t d
  fails : IsFail n t d
  first : (i t : ℕ) (d : Ends) → i < index → IsAt ts ds i t d → NotFail n t d

-- a light that does not pass
record NoPass (n : ℕ) (ts : List ℕ) (ds : List Ends) : Type 0 where
  index : ℕ
  t : ℕ
  d : Ends
  at : IsAt ts ds index t d
  not_pass : IsPass n t d → ⊥

abbrev SaysFrom : ℕ → ℕ → List ℕ → List Ends → Verdict → Type 0
SaysFrom n number ts ds Pass = OfEach (λ t d. IsPass n t d × NotFail n t d) ts ds
SaysFrom n number ts ds (Fail k) = FirstFail n number ts ds k
SaysFrom n number ts ds Undecided = OfEach (NotFail n) ts ds × NoPass n ts ds

head : (t : ℕ) (d : Ends) (ts : List ℕ) (ds : List Ends) → IsAt (t ∷ ts) (d ∷ ds) 0 t d
head t d ts ds = record { tolerance_is = refl; delta_is = refl }

tail : (t : ℕ) (d : Ends) (ts : List ℕ) (ds : List Ends) (i t' : ℕ) (d' : Ends) → IsAt ts ds i t' d' → IsAt (t ∷ ts) (d ∷ ds) (suc i) t' d'
tail t d ts ds i t' d' h = record { tolerance_is = h.tolerance_is; delta_is = h.delta_is }

of_first : (P : ℕ → Ends → Type 0) (t : ℕ) (d : Ends) (ts : List ℕ) (ds : List Ends) (t' : ℕ) (d' : Ends) → P t d → IsAt (t ∷ ts) (d ∷ ds) 0 t' d' → P t' d'
of_first P t d ts ds t' d' p h =
    let same_t : t ≡ t' = cc (h.tolerance_is) in
    let same_d : d ≡ d' = cc (h.delta_is) in
    subst (λ (e : Ends). P t' e) same_d (subst (λ k. P k d) same_t p)

-- what holds of the first light and of the others holds of each
of_each : (P : ℕ → Ends → Type 0) (t : ℕ) (d : Ends) (ts : List ℕ) (ds : List Ends) → P t d → OfEach P ts ds → OfEach P (t ∷ ts) (d ∷ ds)
of_each P t d ts ds p rest zero t' d' h = of_first P t d ts ds t' d' p h
of_each P t d ts ds p rest (suc i) t' d' h = rest i t' d' (record { tolerance_is = h.tolerance_is; delta_is = h.delta_is })

below : (n t : ℕ) (d : Ends) (ts : List ℕ) (ds : List Ends) (index : ℕ) → NotFail n t d → ((i t : ℕ) (d : Ends) → i < index → IsAt ts ds i t d → NotFail n t d)
    → (i t' : ℕ) (d' : Ends) → i < suc index → IsAt (t ∷ ts) (d ∷ ds) i t' d' → NotFail n t' d'
below n t d ts ds index p rest zero t' d' lt h = of_first (NotFail n) t d ts ds t' d' p h
below n t d ts ds index p rest (suc i) t' d' lt h = rest i t' d' (omega arith) (record { tolerance_is = h.tolerance_is; delta_is = h.delta_is })

later_fail : (n number t : ℕ) (d : Ends) (ts : List ℕ) (ds : List Ends) (k : ℕ) → NotFail n t d → FirstFail n (number + 1) ts ds k → FirstFail n number (t ∷ ts) (d ∷ ds) k
later_fail n number t d ts ds k p f =
    record {
      index = suc f.index;
      number_is = omega (arith, f.number_is);
      t = f.t;
      d = f.d;
      at = tail t d ts ds f.index f.t f.d f.at;
      fails = f.fails;
      first = below n t d ts ds f.index p f.first;
    }

one_more : (n number t : ℕ) (d : Ends) (ts : List ℕ) (ds : List Ends) (u v : Verdict) → LightSays n t number d u → SaysFrom n (number + 1) ts ds v → SaysFrom n number (t ∷ ts) (d ∷ ds) (joint u v)
one_more n number t d ts ds Pass Pass p q = of_each (λ t d. IsPass n t d × NotFail n t d) t d ts ds p q
one_more n number t d ts ds Pass (Fail k) p q = later_fail n number t d ts ds k p.1 q
one_more n number t d ts ds Pass Undecided p q =
    (of_each (NotFail n) t d ts ds p.1 q.0, record { index = suc q.1.index; t = q.1.t; d = q.1.d; at = tail t d ts ds q.1.index q.1.t q.1.d q.1.at; not_pass = q.1.not_pass })
one_more n number t d ts ds (Fail k) v p q =
    record { index = 0; number_is = omega (arith, p.0); t = t; d = d; at = head t d ts ds; fails = p.1; first = λ i t d lt h. absurd (omega arith) }
one_more n number t d ts ds Undecided Pass p q =
    (of_each (NotFail n) t d ts ds p.1 (λ i t d h. (q i t d h).1), record { index = 0; t = t; d = d; at = head t d ts ds; not_pass = p.0 })
one_more n number t d ts ds Undecided (Fail k) p q = later_fail n number t d ts ds k p.1 q
one_more n number t d ts ds Undecided Undecided p q = (of_each (NotFail n) t d ts ds p.1 q.0, record { index = 0; t = t; d = d; at = head t d ts ds; not_pass = p.0 })

says_from : (n number : ℕ) (ts : List ℕ) (ds : List Ends) → length ts ≡ length ds → All IsOrdered ds → SaysFrom n number ts ds (verdict_from n number ts ds)
unfolding verdict_from
says_from n number [] ds e o = λ i t d h. absurd (cc (h.tolerance_is))
says_from n number (t ∷ ts) [] e o = absurd (omega arith)
says_from n number (t ∷ ts) (d ∷ ds) e o =
    one_more n number t d ts ds (light_verdict n t number d) (verdict_from n (number + 1) ts ds) (light_says n t number d (o 0 d (omega arith))) (says_from n (number + 1) ts ds (omega arith) (λ k x lt. o (suc k) x (omega arith)))

meant : (n : ℕ) (ts : List ℕ) (ds : List Ends) (v : Verdict) → SaysFrom n 1 ts ds v → VerdictHolds n ts ds v
meant n ts ds Pass h = λ i t d at. (h i t d at).0
meant n ts ds (Fail k) h = record { index = h.index; number_is = omega (arith, h.number_is); tolerance = h.t; delta = h.d; at = h.at; fails = h.fails; first = h.first }
meant n ts ds Undecided h = (h.0, (h.1.index, h.1.t, h.1.d, h.1.at, h.1.not_pass))

pub verdict_says : VerdictIsTrue
verdict_says n ts ds e o = meant n ts ds (verdict_at n ts ds) (says_from n 1 ts ds e o)
