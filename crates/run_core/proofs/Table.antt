-- What each status means, from the outcome of a call.
use Rattle.std.proofs.Common.{◌≡◌, ◌⊎◌, ℕ, List, length, Option, Some, None, Result, Ok, IsTrue, IsSomeAnd, IfSome, refl, sym, ap, ◌∙◌, subst, inl, inr}
use Rattle.shelf_io.specs.Contents.{Contents}
use Rattle.shelf_io.specs.Counts.{IsRaised}
use Rattle.run_core.specs.Answers.{Report}
use Rattle.run_core.specs.Asking.{Asking}
use Rattle.run_core.specs.Plan.{Plan, asking_for}
use Rattle.run_core.specs.Due.{CanBeRead, up_to_limit}
use Rattle.run_core.specs.Endings.{Ended, IsSearched, IsUnreadable, Leaves, Reaches, World}
use Rattle.run_core.specs.Endings as ended
use Rattle.run_core.specs.Outcome as faults
use Rattle.run_core.specs.Outcome.{Fault, Outcome, conclusion_status, fault_status, grammar, invalid, job, no_column, outcome_of, reported, status_of, steps, too_long, text_of, unreadable, usage, written_of}
use Rattle.run_core.specs.Reading.{Gets, asks, held_or_missing, makes, result_of}
use Rattle.run_core.specs.Statuses as table
use Rattle.run_core.specs.Statuses.{Kind, kind_of}
use Rattle.run_core.specs.declared.statuses.Conclusion.{Conclusion}
use Rattle.run_core.specs.declared.statuses.Conclusion.TheVariants.{BudgetEnded, Found, Judged, NoVerdict, NoneFound}
use Rattle.metamerism.specs.declared.outcomes.Verdict.TheVariants.{Fail, Pass, Undecided}
use Rattle.run_core.proofs.Proper.{AreProper, IsProper, refusal, report}

-- where the files are known, a possible result of a read is that of the file
same_bytes_read : (contents : Option Contents) (c : Contents) (name : List ℕ) (limit : ℕ) (bytes_read : Option (List ℕ)) → contents ≡ Some c → CanBeRead contents name limit bytes_read → IsSomeAnd (c.file name) (λ bytes. bytes_read ≡ up_to_limit limit bytes)
same_bytes_read contents c name limit bytes_read e w =
    let P : Option Contents → Type 0 = λ o. IfSome o (λ c. IsSomeAnd (c.file name) (λ bytes. bytes_read ≡ up_to_limit limit bytes)) in subst P e w.known

only_bytes_read : (file : Option (List ℕ)) (name : List ℕ) (limit : ℕ) (bytes_read : Option (List ℕ)) (go : Option (List ℕ) → Result Outcome (List ℕ)) (r : Result Outcome (List ℕ)) → IsSomeAnd file (λ bytes. bytes_read ≡ up_to_limit limit bytes) → held_or_missing name file (λ bytes. go (up_to_limit limit bytes)) ≡ r → go bytes_read ≡ r
only_bytes_read None name limit bytes_read go r h e = absurd h
only_bytes_read (Some bytes) name limit bytes_read go r h e = ap go h ∙ e

-- where the files are known, the outcome is the one that they determine
only_outcome : (contents : Option Contents) (c : Contents) (asking : Asking) (o p : Outcome) → contents ≡ Some c → result_of c.file asking ≡ Ok o → Gets contents asking p → p ≡ o
only_outcome contents c (makes x) o p e r w = w ∙ cc
only_outcome contents c (asks name limit next) o p e r w =
    only_outcome contents c (next w.0) o p e (only_bytes_read (c.file name) name limit w.0 (λ bytes_read. result_of c.file (next bytes_read)) (Ok o) (same_bytes_read contents c name limit w.0 e w.1) r) w.2

-- the status of a report is of its kind
report_kind : (c : Conclusion) → kind_of (conclusion_status c) ≡ table.report
report_kind NoVerdict = refl
report_kind (Judged Pass) = refl
report_kind (Judged (Fail number)) = refl
report_kind (Judged Undecided) = refl
report_kind Found = refl
report_kind NoneFound = refl
report_kind BudgetEnded = refl

-- so is that of a fault
fault_kind : (fault : Fault) → kind_of (fault_status fault) ≡ table.refusal
fault_kind (too_long name) = refl
fault_kind (faults.table name fault) = refl
fault_kind (job name fault) = refl
fault_kind (no_column name column) = refl
fault_kind (steps limit) = refl
fault_kind (grammar fault) = refl
fault_kind (invalid line reason) = refl

module _ (plan : Option Plan) (before after : World) (status : ℕ) where
  -- where this outcome was printed, what the kind of the status means holds
  abbrev IsExplained : Outcome → Type 0
  IsExplained o = status ≡ status_of o → Leaves before after (text_of o) (written_of o) → IsSearched o → table.Tells plan before after (kind_of status) status

  -- the kind of a status that is known
  by_kind : (k : Kind) (s : ℕ) → status ≡ s → kind_of s ≡ k → table.Tells plan before after k status → table.Tells plan before after (kind_of status) status
  by_kind k s e h t = subst (λ k. table.Tells plan before after k status) (sym (ap kind_of e ∙ h)) t

  explained_proper : {by : Option (List ℕ)} (o : Outcome) → IsProper by o → Gets before.shelf.contents (asking_for plan) o → IsExplained o
  explained_proper o (report r e none finer) w =
      subst (λ o. Gets before.shelf.contents (asking_for plan) o → IsExplained o) (sym e) (λ w s l searched.
      by_kind table.report (conclusion_status r.conclusion) s (report_kind r.conclusion)
      (record { report = r; answers = w; status = sym s; leaves = l; finer = finer; searched = searched })) w
  explained_proper o (refusal fault e) w =
      subst (λ o. Gets before.shelf.contents (asking_for plan) o → IsExplained o) (sym e) (λ w s l searched.
      by_kind table.refusal (fault_status fault) s (fault_kind fault) (record { fault = fault; status = sym s; answers = w; leaves = l })) w

  explained_unreadable : (o : Outcome) (name : List ℕ) → IsUnreadable (asking_for plan) before.shelf after.shelf name → o ≡ unreadable name → IsExplained o
  explained_unreadable o name u e =
      subst IsExplained (sym e) (λ s l searched. by_kind table.unreadable 2 s refl (record { name = name; fault = u; leaves = l }))

  explained_usage : (o : Outcome) → plan ≡ None → o ≡ usage → IsExplained o
  explained_usage o n e = subst IsExplained (sym e) (λ s l searched. by_kind table.usage 1 s refl (record { no_plan = n; leaves = l }))

explained : (plan : Option Plan) (before after : World) (status : ℕ) (o : Outcome) → AreProper before.shelf.contents plan → Reaches (asking_for plan) before.shelf after.shelf o → IsExplained plan before after status o
explained None before after status o proper (inl w) = explained_usage None before after status o refl w
explained None before after status o proper (inr u) = absurd u.1.due
explained (Some f) before after status o proper (inl w) = explained_proper (Some f) before after status o (proper o w) w
explained (Some f) before after status o proper (inr u) = explained_unreadable (Some f) before after status o u.0 u.1 u.2

tells_ended : (plan : Option Plan) (before after : World) (status : ℕ) → AreProper before.shelf.contents plan → Ended plan before after status → table.Tells plan before after (kind_of status) status
tells_ended plan before after status proper (ended.spoke o reached s l searched) = explained plan before after status o proper reached s l searched
tells_ended plan before after status proper (ended.cut_off o reached s l unpromised) =
    by_kind plan before after status table.not_written 4 s refl (table.put_failed o reached l)
tells_ended plan before after status proper (ended.spoiled r name bytes w e s fails put) =
    by_kind plan before after status table.not_written 4 s refl (table.file_failed r name bytes w e fails put)
tells_ended plan before after status proper (ended.out_of_memory s f l) =
    by_kind plan before after status table.out_of_memory 10 s refl (record { has_plan = f; leaves = l })

-- a call whose words have no form ends with status 1 or 4
no_form_ended : (plan : Option Plan) (before after : World) (status : ℕ) → Ended plan before after status → plan ≡ None → (status ≡ 1) ⊎ (status ≡ 4)
no_form_ended None before after status (ended.spoke o (inl w) s l searched) n = inl (s ∙ ap status_of w)
no_form_ended None before after status (ended.spoke o (inr u) s l searched) n = absurd u.1.due
no_form_ended None before after status (ended.cut_off o reached s l unpromised) n = inr s
no_form_ended None before after status (ended.spoiled r name bytes w e s fails put) n = cc
no_form_ended None before after status (ended.out_of_memory s f l) n = cc
no_form_ended (Some f) before after status e n = cc

pub status_tells : (plan : Option Plan) (before after : World) (status : ℕ) → AreProper before.shelf.contents plan → Ended plan before after status → table.StatusTells plan before after status
status_tells plan before after status proper e = record { tells = tells_ended plan before after status proper e; no_plan = no_form_ended plan before after status e }

module _ (plan : Option Plan) (before after : World) (status : ℕ) where
  printed : (o p : Outcome) → p ≡ o → status ≡ status_of p → Leaves before after (text_of p) (written_of p) → table.IsPrinted plan before after o status
  printed o p e s l = inr (s ∙ ap status_of e, subst (λ o. Leaves before after (text_of o) (written_of o)) e l)

  -- what holds of the file that an outcome writes, if any, holds of the file of its report
  same_file : (o : Outcome) (r : Report) (file : List ℕ × List ℕ) (P : List ℕ × List ℕ → Type 0) → reported r ≡ o → r.written ≡ Some file → IfSome (written_of o) P → P file
  same_file o r file P e w h =
      let Q : Option (List ℕ × List ℕ) → Type 0 = λ f. IfSome f P in
      subst Q w (subst (λ o. IfSome (written_of o) P) (sym e) h)

  pub complete_ended : Ended plan before after status → table.IsComplete plan before after status
  complete_ended (ended.spoke p (inl w) s l searched) c o e r reads writes puts = printed o p (only_outcome before.shelf.contents c (asking_for plan) o p e r w) s l
  complete_ended (ended.spoke p (inr u) s l searched) c o e r reads writes puts = absurd (reads u.0 u.1.due u.1.failed.rose)
  complete_ended (ended.cut_off p due s l q) c o e r reads writes puts = absurd (puts l.counted.1)
  complete_ended (ended.spoiled mine name bytes w is s fails put) c o e r reads writes puts =
      absurd (same_file o mine (name, bytes) (λ file. IsRaised (before.shelf.write_faults file.0) (after.shelf.write_faults file.0) → ⊥)
      (only_outcome before.shelf.contents c (asking_for plan) o (reported mine) e r w) is writes fails.rose)
  complete_ended (ended.out_of_memory s f l) c o e r reads writes puts = inl s

  pub reliable_ended : Ended plan before after status → table.IsReliable plan before after status
  reliable_ended (ended.spoke p (inl w) s l searched) c o e r reads writes puts =
      (printed o p (only_outcome before.shelf.contents c (asking_for plan) o p e r w) s l, l.counted)
  reliable_ended (ended.spoke p (inr u) s l searched) c o e r reads writes puts = absurd (u.1.failed.unpromised (reads u.0 u.1.due))
  reliable_ended (ended.cut_off p (inl w) s l unpromised) c o e r reads writes puts =
      absurd (unpromised (subst (λ o. IsTrue (before.sink.puts_promised (length (text_of o)))) (sym (only_outcome before.shelf.contents c (asking_for plan) o p e r w)) puts))
  reliable_ended (ended.cut_off p (inr u) s l unpromised) c o e r reads writes puts = absurd (u.1.failed.unpromised (reads u.0 u.1.due))
  reliable_ended (ended.spoiled mine name bytes w is s fails put) c o e r reads writes puts =
      absurd (fails.unpromised (same_file o mine (name, bytes) (λ file. IsTrue (before.shelf.writes_promised file.0 (length file.1)))
      (only_outcome before.shelf.contents c (asking_for plan) o (reported mine) e r w) is writes))
  reliable_ended (ended.out_of_memory s f l) c o e r reads writes puts = (inl s, l.counted)
