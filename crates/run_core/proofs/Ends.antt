-- How a call ends, by what was read, written and printed.
use Rattle.std.proofs.Common.{◌≡◌, ◌≤◌, ◌+◌, ◌-◌, ℕ, List, length, Option, Some, None, IfSome, IsTrue, Result, Ok, Err, is_err, if◌then◌else◌, option_map, refl, sym, ap, ◌∙◌, subst, inl, inr, arith}
use Rattle.std.proofs.lemmas.Bool.{false≢true}
use Rattle.box_cert.specs.Writing.{IsCutOff, Writes}
use Rattle.shelf_io.specs.Changes.{OnlyReads, OnlyWrites}
use Rattle.shelf_io.specs.Contents.{Contents, write_bytes}
use Rattle.shelf_io.specs.Taking.{Puts}
use Rattle.shelf_io.specs.View.{ShelfView, SinkView}
use Rattle.shade_report.specs.Refusals.{refusal_text}
use Rattle.shade_report.specs.declared.refusal.Refusal.{Refusal}
use Rattle.shade_report.specs.declared.refusal.Refusal.TheVariants as why
use Rattle.run_core.specs.Answers.{Report}
use Rattle.run_core.specs.Asking.{Asking}
use Rattle.run_core.specs.Plan.{Plan, asking_for, written_by}
use Rattle.run_core.specs.Delivery.{Delivers, IsWritten, Prints}
use Rattle.run_core.specs.Delivery as delivery
use Rattle.run_core.specs.Endings.{ArePromised, Changes, ChangesFiles, Ended, FailsToWrite, IsPut, IsSearchable, IsSearched, Reaches, World, not_written_status, with_written, world}
use Rattle.run_core.specs.Endings as ended
use Rattle.run_core.specs.Outcome.{Outcome, conclusion_status, not_written, refusal_outcome, reported, status_of, text_of, written_of}
use Rattle.run_core.specs.Reading.{Gets, IsDue, MayTake, ReadsDue}

zero_more : (n : ℕ) → n ≡ n + 0
zero_more n = omega arith

-- ---- printing

-- a put of a text, whole or failed, leaves the sink and the result as `Prints` says
pub prints_by : {T E : Type 0} (text : List ℕ) (status result : ℕ) (put : Result T E) (before after : SinkView) → Puts text put before after → result ≡ (if is_err put then not_written_status else status) → Prints text status before after result
prints_by text status result (Ok x) before after puts r = delivery.whole puts.taken puts.counted r
prints_by text status result (Err e) before after puts r =
    delivery.cut puts.taken puts.counted r
    (λ h. let Q : ℕ → Type 0 = λ k. IsTrue (before.puts_promised k) in false≢true (puts.promised 0 (subst Q (zero_more (length text)) h)).0)

-- the text of a refusal is that of its outcome
pub refusal_says : (r : Refusal) → refusal_text r ≡ text_of (refusal_outcome r)
refusal_says why.Usage = refl
refusal_says (why.Unreadable name) = refl
refusal_says (why.TooLong name) = refl
refusal_says (why.Table name fault) = refl
refusal_says (why.Job name fault) = refl
refusal_says (why.NoColumn name column) = refl
refusal_says (why.Steps limit) = refl
refusal_says (why.CertGrammar fault) = refl
refusal_says (why.CertWrong line reason) = refl
refusal_says (why.NotWritten name) = refl

-- a refusal writes no file
pub refusal_writes : (r : Refusal) → written_of (refusal_outcome r) ≡ None
refusal_writes why.Usage = refl
refusal_writes (why.Unreadable name) = refl
refusal_writes (why.TooLong name) = refl
refusal_writes (why.Table name fault) = refl
refusal_writes (why.Job name fault) = refl
refusal_writes (why.NoColumn name column) = refl
refusal_writes (why.Steps limit) = refl
refusal_writes (why.CertGrammar fault) = refl
refusal_writes (why.CertWrong line reason) = refl
refusal_writes (why.NotWritten name) = refl

-- the condition on searched jobs holds of a refusal, which has none
pub refusal_searched : (r : Refusal) → IsSearched (refusal_outcome r)
refusal_searched why.Usage = tt
refusal_searched (why.Unreadable name) = tt
refusal_searched (why.TooLong name) = tt
refusal_searched (why.Table name fault) = tt
refusal_searched (why.Job name fault) = tt
refusal_searched (why.NoColumn name column) = tt
refusal_searched (why.Steps limit) = tt
refusal_searched (why.CertGrammar fault) = tt
refusal_searched (why.CertWrong line reason) = tt
refusal_searched (why.NotWritten name) = tt

-- a put of a refusal, whole or failed, leaves the sink and the result as `Prints` says
pub refusal_printed : {T E : Type 0} (r : Refusal) (status result : ℕ) (put : Result T E) (before after : SinkView) → Puts (refusal_text r) put before after → status ≡ status_of (refusal_outcome r)
    → result ≡ (if is_err put then not_written_status else status) → Prints (text_of (refusal_outcome r)) (status_of (refusal_outcome r)) before after result
refusal_printed r status result put before after puts s e =
    prints_by (text_of (refusal_outcome r)) (status_of (refusal_outcome r)) result put before after
    (subst (λ text. Puts text put before after) (refusal_says r) puts) (e ∙ ap (λ k. if is_err put then not_written_status else k) s)

-- ---- a refusal

same_files : (written : Option (List ℕ × List ℕ)) (old new : Option Contents) → written ≡ None → new ≡ old → new ≡ with_written written old
same_files written old new w e = subst (λ f. new ≡ with_written f old) (sym w) e

-- an outcome that writes no file, and was printed, ends the call
pub ended_by : (plan : Option Plan) (before after : World) (o : Outcome) (result : ℕ) → Reaches (asking_for plan) before.shelf after.shelf o → written_of o ≡ None → after.shelf.contents ≡ before.shelf.contents
    → Prints (text_of o) (status_of o) before.sink after.sink result → IsSearched o → Ended plan before after result
ended_by plan before after o result reached none same (delivery.whole taken counted r) searched =
    ended.spoke o reached r (record { taken = taken; counted = counted; contents = same_files (written_of o) before.shelf.contents after.shelf.contents none same }) searched
ended_by plan before after o result reached none same (delivery.cut taken counted r unpromised) searched =
    ended.cut_off o reached r (record { taken = taken; counted = counted; contents = same_files (written_of o) before.shelf.contents after.shelf.contents none same }) unpromised

-- ---- a report, with its file

-- a report is over the bytes that were read
reported_answers : (asking : Asking) (before after : ShelfView) (r : Report) → Reaches asking before after (reported r) → Gets before.contents asking (reported r)
reported_answers asking before after r (inl w) = w
reported_answers asking before after r (inr u) = let e = u.2 in cc

written_files : (file : Option (List ℕ × List ℕ)) (before mid after : ShelfView) → mid.contents ≡ before.contents → IsWritten file mid after → after.contents ≡ with_written file before.contents
written_files None before mid after same w = ap (λ v. v.contents) w ∙ same
written_files (Some f) before mid after same w = w.contents ∙ ap (option_map (write_bytes f.0 f.1)) same

-- a write that failed after reads had been made failed since before them
fails_before : (names : List ℕ → Type 0) (before mid after : ShelfView) (name bytes : List ℕ) → OnlyReads names before mid → FailsToWrite mid after name bytes → FailsToWrite before after name bytes
fails_before names before mid after name bytes effect f = record {
  rose = let e = effect.writes name in let h = f.rose in omega (arith, e, h);
  unpromised = λ h. f.unpromised (effect.writes_kept name (length bytes) h);
  contents = subst (λ c. IsCutOff name bytes c after.contents) effect.contents f.contents;
}

put_by : (text : List ℕ) (status result : ℕ) (before after : SinkView) → Prints text status before after result → IsPut text before after
put_by text status result before after (delivery.whole taken counted r) = ended.whole taken counted
put_by text status result before after (delivery.cut taken counted r unpromised) = ended.cut taken counted

status_by : (text : List ℕ) (result : ℕ) (before after : SinkView) → Prints text not_written_status before after result → result ≡ not_written_status
status_by text result before after (delivery.whole taken counted r) = r
status_by text result before after (delivery.cut taken counted r unpromised) = r

module _ (plan : Option Plan) (before after : World) (mid : ShelfView) (r : Report) (names : List ℕ → Type 0) (result : ℕ) (answers : Gets before.shelf.contents (asking_for plan) (reported r)) (effect : OnlyReads names before.shelf mid) (searched : IfSome r.recipes IsSearchable) where
  ended_printed : IsWritten r.written mid after.shelf → Prints r.text (conclusion_status r.conclusion) before.sink after.sink result → Ended plan before after result
  ended_printed w (delivery.whole taken counted e) =
      ended.spoke (reported r) (inl answers) e (record { taken = taken; counted = counted; contents = written_files r.written before.shelf mid after.shelf effect.contents w }) searched
  ended_printed w (delivery.cut taken counted e unpromised) =
      ended.cut_off (reported r) (inl answers) e (record { taken = taken; counted = counted; contents = written_files r.written before.shelf mid after.shelf effect.contents w }) unpromised

  ended_delivered : (file : Option (List ℕ × List ℕ)) (text : List ℕ) (status : ℕ) → file ≡ r.written → text ≡ r.text → status ≡ conclusion_status r.conclusion
      → Delivers file text status (world mid before.sink) after result → Ended plan before after result
  ended_delivered file text status f t s (delivery.printed w p) =
      ended_printed (subst (λ x. IsWritten x mid after.shelf) f w)
      (subst (λ x. Prints x (conclusion_status r.conclusion) before.sink after.sink result) t (subst (λ x. Prints text x before.sink after.sink result) s p))
  ended_delivered file text status f t s (delivery.spoiled name bytes e fails changed p) =
      ended.spoiled r name bytes answers (sym f ∙ e) (status_by _ result before.sink after.sink p) (fails_before names before.shelf mid after.shelf name bytes effect fails) (put_by _ _ result before.sink after.sink p)

-- a report that was delivered after the reads ends the call
pub ended_report : (plan : Option Plan) (before after : World) (mid : ShelfView) (r : Report) (file : Option (List ℕ × List ℕ)) (text : List ℕ) (status result : ℕ)
    → Reaches (asking_for plan) before.shelf mid (reported r) → ReadsDue (asking_for plan) before.shelf mid → file ≡ r.written → text ≡ r.text → status ≡ conclusion_status r.conclusion
    → IfSome r.recipes IsSearchable → Delivers file text status (world mid before.sink) after result → Ended plan before after result
ended_report plan before after mid r file text status result reached reads f t s searched d =
    ended_delivered plan before after mid r (IsDue before.shelf.contents (asking_for plan)) result (reported_answers (asking_for plan) before.shelf mid r reached) reads.effect searched file text status f t s d

-- ---- what a call changes

put_grows : {text : List ℕ} {status result : ℕ} (before after : SinkView) → Prints text status before after result → before.faults ≤ after.faults
put_grows before after (delivery.whole taken counted r) = omega (arith, counted)
put_grows before after (delivery.cut taken counted r unpromised) = counted.0

same_name : (name other : List ℕ) (by : Option (List ℕ)) → by ≡ Some other → by ≡ Some name → other ≡ name
same_name name other by e f = cc

-- no promised write failed
unfailed_by : (plan : Option Plan) (before after : ShelfView) → ChangesFiles plan before after → (name : List ℕ) → written_by plan ≡ Some name → ArePromised plan before name → after.write_faults name ≡ before.write_faults name
unfailed_by plan before after (ended.reads_alone effect) name own promise = effect.writes name
unfailed_by plan before after (ended.writes_too mid r other bytes effect w is by changed) name own promise =
    let same : other ≡ name = same_name name other (written_by plan) by own in
    let promised : IsTrue (before.writes_promised name (length bytes)) = promise r bytes w (is ∙ (λ i. Some (same i, bytes))) in
    let Q : ℕ → Type 0 = λ k. IsTrue (mid.writes_promised name k) in
    let kept : IsTrue (mid.writes_promised name (length bytes + 0)) = subst Q (zero_more (length bytes)) (effect.writes_kept name (length bytes) promised) in
    let own_changed : OnlyWrites name (length bytes) mid after = subst (λ n. OnlyWrites n (length bytes) mid after) same changed in
    (own_changed.writes_kept 0 kept).1 ∙ effect.writes name

changed : (plan : Option Plan) (before after : World) → ChangesFiles plan before.shelf after.shelf → ((n : List ℕ) → MayTake before.shelf.contents (asking_for plan) n (after.shelf.handed n - before.shelf.handed n)) → before.sink.faults ≤ after.sink.faults → Changes plan before after
changed plan before after effect taken puts = record { effect = effect; unfailed = unfailed_by plan before.shelf after.shelf effect; taken = taken; puts = puts }

-- a call that read due files and printed something
pub changes_by : {text : List ℕ} {status result : ℕ} (plan : Option Plan) (before after : World) → ReadsDue (asking_for plan) before.shelf after.shelf → Prints text status before.sink after.sink result → Changes plan before after
changes_by plan before after reads p = changed plan before after (ended.reads_alone reads.effect) reads.taken (put_grows before.sink after.sink p)

-- a call that printed nothing
pub changes_nothing : (plan : Option Plan) (before after : ShelfView) (sink : SinkView) → ReadsDue (asking_for plan) before after → Changes plan (world before sink) (world after sink)
changes_nothing plan before after sink reads = changed plan (world before sink) (world after sink) (ended.reads_alone reads.effect) reads.taken (omega arith)

module _ (plan : Option Plan) (before after : World) (mid : ShelfView) (reads : ReadsDue (asking_for plan) before.shelf mid) (r : Report) (reached : Reaches (asking_for plan) before.shelf mid (reported r)) where
  changes_written : {text : List ℕ} {status result : ℕ} (name bytes : List ℕ) → r.written ≡ Some (name, bytes) → written_by plan ≡ Some name → OnlyWrites name (length bytes) mid after.shelf → Prints text status before.sink after.sink result → Changes plan before after
  changes_written name bytes is own w p =
      changed plan before after (ended.writes_too mid r name bytes reads.effect (reported_answers (asking_for plan) before.shelf mid r reached) is own w)
      (λ n. subst (λ k. MayTake before.shelf.contents (asking_for plan) n (k - before.shelf.handed n)) (sym (w.handed n)) (reads.taken n))
      (put_grows before.sink after.sink p)

  pub changes_report : (file : Option (List ℕ × List ℕ)) (text : List ℕ) (status result : ℕ) → file ≡ r.written → ((name bytes : List ℕ) → file ≡ Some (name, bytes) → Some name ≡ written_by plan)
      → Delivers file text status (world mid before.sink) after result → Changes plan before after
  changes_report None text status result is own (delivery.printed w p) =
      changes_by plan before after (subst (λ v. ReadsDue (asking_for plan) before.shelf v) (sym w) reads) p
  changes_report (Some f) text status result is own (delivery.printed w p) = changes_written f.0 f.1 (sym is) (sym (own f.0 f.1 refl)) w.effect p
  changes_report file text status result is own (delivery.spoiled name bytes e fails changed p) = changes_written name bytes (sym is ∙ e) (sym (own name bytes e)) changed p

-- ---- a file that could not be written

pub spoiled_by : {T E : Type 0} (name bytes text : List ℕ) (status result : ℕ) (before after : World) (r : Result T E) (e : E) → r ≡ Err e → Writes name bytes r before.shelf after.shelf
    → Prints (text_of (not_written name)) not_written_status before.sink after.sink result → Delivers (Some (name, bytes)) text status before after result
spoiled_by name bytes text status result before after r e is w p =
    let failed = subst (λ x. Writes name bytes x before.shelf after.shelf) is w in
    delivery.spoiled name bytes refl
    (record {
      rose = failed.counted.1;
      unpromised = λ h. let Q : ℕ → Type 0 = λ k. IsTrue (before.shelf.writes_promised name k) in false≢true (failed.promised 0 (subst Q (zero_more (length bytes)) h));
      contents = failed.contents;
    }) failed.effect p
