-- The outcome of a command over known files.
use Rattle.std.proofs.Common.{◌≡◌, ℕ, List, Option, Some, None, IfSome, IsSomeAnd, Result, Ok, Err, refl, sym, ap, ◌∙◌, subst}
use Rattle.shelf_io.specs.Contents.{Contents}
use Rattle.run_core.specs.Answers.{Report}
use Rattle.run_core.specs.Asking.{reports_on}
use Rattle.run_core.specs.Due.{CanBeRead, up_to_limit}
use Rattle.run_core.specs.Asking.{◌>>=◌}
use Rattle.run_core.specs.Outcome.{Fault, outcome_of, refused, reported}
use Rattle.run_core.specs.Reading.{Gets, Reading, asks, held_or_missing, makes, result_of}
use Rattle.run_core.proofs.Readings.{then_got}

known_bytes_read : {X : Type 0} (file : Option (List ℕ)) (name : List ℕ) (limit : ℕ) (bytes_read : Option (List ℕ)) (go : Option (List ℕ) → Result X (List ℕ)) → IsSomeAnd file (λ bytes. bytes_read ≡ up_to_limit limit bytes)
    → held_or_missing name file (λ bytes. go (up_to_limit limit bytes)) ≡ go bytes_read
known_bytes_read None name limit bytes_read go h = absurd h
known_bytes_read (Some bytes) name limit bytes_read go h = ap go (sym h)

bytes_read_of : (contents : Option Contents) (c : Contents) (name : List ℕ) (limit : ℕ) (bytes_read : Option (List ℕ)) → contents ≡ Some c → CanBeRead contents name limit bytes_read → IsSomeAnd (c.file name) (λ bytes. bytes_read ≡ up_to_limit limit bytes)
bytes_read_of contents c name limit bytes_read e w = let P : Option Contents → Type 0 = λ o. IfSome o (λ c. IsSomeAnd (c.file name) (λ bytes. bytes_read ≡ up_to_limit limit bytes)) in subst P e w.known

-- an outcome that the files allow is the one that they determine
pub result_from : {X : Type 0} (contents : Option Contents) (c : Contents) (reading : Reading X) (x : X) → contents ≡ Some c → Gets contents reading x → result_of c.file reading ≡ Ok x
result_from contents c (makes given) x e w = ap (λ x. Ok x) (sym w)
result_from contents c (asks name limit next) x e w =
    known_bytes_read (c.file name) name limit w.0 (λ bytes_read. result_of c.file (next bytes_read)) (bytes_read_of contents c name limit w.0 e w.1) ∙ result_from contents c (next w.0) x e w.2

-- ---- the input of a report

ok_report : (step : Result Report Fault) (report : Report) → reported report ≡ outcome_of step → step ≡ Ok report
ok_report (Ok r) report e = let same : report ≡ r = cc in ap (λ x. Ok x) (sym same)
ok_report (Err fault) report e = cc

ok_step : {A : Type 0} (step : Result A Fault) (next : A → Result Report Fault) (report : Report) → reported report ≡ outcome_of (step >>= next) → (x : A) × (step ≡ Ok x) × (next x ≡ Ok report)
ok_step (Ok x) next report e = (x, refl, ok_report (next x) report e)
ok_step (Err fault) next report e = absurd (let h : reported report ≡ refused fault = e in cc)

pub ok_next : {A B : Type 0} (step : Result A Fault) (next : A → Result B Fault) (y : B) → (step >>= next) ≡ Ok y → (x : A) × (step ≡ Ok x) × (next x ≡ Ok y)
ok_next (Ok x) next y e = (x, refl, e)
ok_next (Err fault) next y e = absurd (let h : Err fault ≡ Ok y = e in cc)

-- a report on what was read is one on a value that was made of it
pub reported_on : {X : Type 0} (contents : Option Contents) (reading : Reading (Result X Fault)) (judged : X → Result Report Fault) (report : Report) → Gets contents (reports_on reading judged) (reported report)
    → (x : X) × Gets contents reading (Ok x) × (judged x ≡ Ok report)
reported_on contents reading judged report w =
    let r = then_got contents reading (λ made. makes (outcome_of (made >>= judged))) (reported report) w in
    let s = ok_step r.0 judged report r.2 in (s.0, subst (λ made. Gets contents reading made) s.1 r.1, s.2)
