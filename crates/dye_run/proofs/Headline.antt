-- What a search and a check claim about the recipes of a job.
use Rattle.std.proofs.Common.{◌≡◌, ◌≤◌, ℕ, List, [], ◌∷◌, length, map, Option, Some, None, All, IfSome, IsSomeAnd, Bool, true, false, if◌then◌else◌, nat_le, option_map, Result, Ok, Err, refl, sym, ap, ◌∙◌, subst, inl, inr, arith}
use Rattle.std.specs.Io.KnownBytes.{append_known}
use Rattle.std.specs.Str.{bytes_eq}
use Rattle.std.proofs.lemmas.Bool.Decides.{nat_tests}
use Rattle.std.proofs.lemmas.List.Elements.{All-cons, All-head, All-map, All-tail}
use Rattle.std.proofs.lemmas.Slice.Eq.{bytes_eq-Decides}
use Rattle.box_cert.specs.Spelling.{Content, cert_text}
use Rattle.box_cert.specs.Text.{cert_of}
use Rattle.box_search.proofs.Results.{result_is_canonical}
use Rattle.box_specs.specs.Answer.{is_match}
use Rattle.box_specs.specs.Landscape.{Land}
use Rattle.box_specs.specs.Validity.{first_failure}
use Rattle.box_specs.specs.declared.certificate.CertFault.{CertFault}
use Rattle.box_specs.specs.declared.certificate.Claim.{Claim}
use Rattle.box_specs.specs.declared.certificate.Claim.TheVariants.{Floor, Match, NoMatch}
use Rattle.box_specs.specs.declared.certificate.Why.{Why}
use Rattle.cert_check.proofs.Exact.{nothing_fails, valid_if}
use Rattle.cert_check.proofs.Sound.{means}
use Rattle.cert_laws.proofs.Searched.{result_is_first, result_is_read, result_is_short, result_is_valid, result_means}
use Rattle.cert_laws.specs.Laws.{ClaimHolds, content_of}
use Rattle.job_file.specs.Job.{Values, job_of}
use Rattle.job_file.specs.Resolve.{ResolvedJob}
use Rattle.job_keys.specs.declared.fault.JobFault.{JobFault}
use Rattle.job_file.specs.declared.top.BatchRule.{BatchRule}
use Rattle.job_file.specs.declared.top.BatchRule.TheVariants.{Either}
use Rattle.recipe_judge.specs.Recipes.{recipe_land}
use Rattle.shade_report.specs.Outcomes.{accepted_text}
use Rattle.shelf_io.specs.Contents.{Contents, write_bytes}
use Rattle.run_core.specs.Answers.{Report}
use Rattle.run_core.specs.Asking.{reports_on}
use Rattle.dye_run.specs.Check.{accepted_report, cert_from, check_report, check_rule, unless_failing, unless_misspelled, valid_from}
use Rattle.dye_run.specs.Commands.{Task, asking_by, asking_of, confirms, finds, plan_for, plan_of, summarises, task_of}
use Rattle.dye_run.specs.Demo.{demo_job, demo_report, summary_text}
use Rattle.run_core.specs.Due.{CanBeRead, up_to_limit}
use Rattle.run_core.specs.Endings.{IsSearchable, Leaves, World, with_written}
use Rattle.dye_run.specs.Forms.{check, form_of}
use Rattle.dye_run.specs.Headline.{Confirms, Finds, IsJobOfFiles, IsSearchStatus, SaysOfRecipes, Summarises, TellsExactly}
use Rattle.run_core.specs.Asking.{◌>>=◌}
use Rattle.dye_run.specs.Inputs.{due_table}
use Rattle.dye_run.specs.Jobs.{JobRead, due_cert, job_files, job_from, light_files, reads_job, text_from, unless_broken}
use Rattle.run_core.specs.Outcome.{conclusion_status, grammar, invalid, outcome_of, reported, too_long}
use Rattle.run_core.specs.Outcome as outcome
use Rattle.run_core.specs.Reading.{DueFile, Gets, each_file, makes}
use Rattle.dye_run.specs.Search.{conclusion_of, result_for, result_report, search_report}
use Rattle.run_core.specs.Statuses as table
use Rattle.dye_run.specs.Words.{CertWords}
use Rattle.box_cert.proofs.CertForm.{cert_tree}
use Rattle.dye_run.proofs.FilesKnown.{ok_next, reported_on, result_from}
use Rattle.dye_run.proofs.FormWords.{AreCertWords, KeepsWords, ends_as_cert, form_keeps, mapped}
use Rattle.dye_run.proofs.JobsRead.{job_again, job_alone, pieces_of, text_read}
use Rattle.run_core.proofs.Readings.{got_then, then_got}
use Rattle.dye_run.proofs.ShowLaws.{differences_enclose, recipe_evaluated}
use Rattle.job_laws.proofs.Accepted.{files_are_no_certs}
use Rattle.job_laws.proofs.Either.{accepts_either}
use Rattle.job_laws.specs.Laws.{IsNoCert}
use Rattle.spectral_tables.specs.declared.records.TheConstants.{TABLE_LIMIT}
use Rattle.box_cert.specs.declared.read.TheConstants.{CERT_LIMIT}
use Rattle.dye_run.specs.declared.jobs.TheConstants.{JOB_LIMIT}

-- ---- files after a certificate was written

unless_true : (b : Bool) → (b ≡ true → ⊥) → b ≡ false
unless_true true h = absurd (h refl)
unless_true false h = refl

-- a name that does not end with `.cert` differs from one that does
other_name : (a b : List ℕ) → IsNoCert a → ends_as_cert b ≡ true → bytes_eq a b ≡ false
other_name a b none ends = unless_true (bytes_eq a b) (λ h. let same : ends_as_cert a ≡ ends_as_cert b = ap ends_as_cert ((bytes_eq-Decides a b).0 h) in cc)

own_name : (a : List ℕ) → bytes_eq a a ≡ true
own_name a = (bytes_eq-Decides a a).1 refl

short_is_whole : (limit : ℕ) (text : List ℕ) → length text ≤ limit → Some text ≡ up_to_limit limit text
short_is_whole limit text h = let fits : nat_le (length text) limit ≡ true = grind (arith, nat_tests, h) in subst (λ b. Some text ≡ (if b then Some text else None)) (sym fits) refl

unbroken : (name : List ℕ) (job : Result Values JobFault) (j : Values) → unless_broken name job ≡ Ok j → job ≡ Ok j
unbroken name (Ok v) j e = (let h : Ok v ≡ Ok j = e in ap (λ x. Ok x) (let same : v ≡ j = cc in same))
unbroken name (Err fault) j e = absurd (let h : Err (outcome.job name fault) ≡ Ok j = e in cc)

-- the job is also accepted by the rule of a check, and none of its files has the name of a
-- certificate
files_kept : (rule : BatchRule) (name : List ℕ) (bytes_read : Option (List ℕ)) (j : Values) → job_from rule name bytes_read ≡ Ok j → (job_from Either name bytes_read ≡ Ok j) × IsNoCert j.head.curves × All IsNoCert (light_files j)
unfolding job_from
files_kept rule name None j e = absurd (let h : Err (too_long name) ≡ Ok j = e in cc)
files_kept rule name (Some bytes) j e =
    let is = unbroken name (job_of rule bytes) j e in
    let no = files_are_no_certs rule bytes j is in
    (ap (unless_broken name) (accepts_either rule bytes j is), no.0, All-map IsNoCert (λ l. l.weights) j.light no.1)

some_text : (file : DueFile) (text : List ℕ) → text_from (Some file) (Some text) ≡ Ok text
unfolding text_from
some_text file text = refl

module _ (cert text : List ℕ) (before after : Option Contents) (written : after ≡ option_map (write_bytes cert text) before) where
  -- where the files are known, the bytes read are still those of the file with another name
  still_known : (name : List ℕ) (limit : ℕ) (bytes_read : Option (List ℕ)) → bytes_eq name cert ≡ false → (old : Option Contents) → IfSome old (λ c. IsSomeAnd (c.file name) (λ bytes. bytes_read ≡ up_to_limit limit bytes))
      → IfSome (option_map (write_bytes cert text) old) (λ c. IsSomeAnd (c.file name) (λ bytes. bytes_read ≡ up_to_limit limit bytes))
  still_known name limit bytes_read other None h = tt
  still_known name limit bytes_read other (Some c) h =
      subst (λ b. IsSomeAnd (if b then Some text else c.file name) (λ bytes. bytes_read ≡ up_to_limit limit bytes)) (sym other) h

  -- a result of reading a file with another name is still possible
  still_read : (name : List ℕ) (limit : ℕ) (bytes_read : Option (List ℕ)) → bytes_eq name cert ≡ false → CanBeRead before name limit bytes_read → CanBeRead after name limit bytes_read
  still_read name limit bytes_read other w = record {
    short = w.short;
    known = subst (λ c. IfSome c (λ c. IsSomeAnd (c.file name) (λ bytes. bytes_read ≡ up_to_limit limit bytes))) (sym written) (still_known name limit bytes_read other before w.known);
  }

  -- where the files are known, the file of the certificate now has its text
  cert_known : (limit : ℕ) → Some text ≡ up_to_limit limit text → (old : Option Contents) → IfSome (option_map (write_bytes cert text) old) (λ c. IsSomeAnd (c.file cert) (λ bytes. Some text ≡ up_to_limit limit bytes))
  cert_known limit short None = tt
  cert_known limit short (Some c) = subst (λ b. IsSomeAnd (if b then Some text else c.file cert) (λ bytes. Some text ≡ up_to_limit limit bytes)) (sym (own_name cert)) short

  -- the certificate can be read
  cert_can_be_read : length text ≤ CERT_LIMIT → CanBeRead after cert CERT_LIMIT (Some text)
  cert_can_be_read short = record {
    short = short;
    known = subst (λ c. IfSome c (λ c. IsSomeAnd (c.file cert) (λ bytes. Some text ≡ up_to_limit CERT_LIMIT bytes))) (sym written) (cert_known CERT_LIMIT (short_is_whole CERT_LIMIT text short) before);
  }

  all_still_read : (names : List (List ℕ)) (bytes_read : List (Option (List ℕ))) → ends_as_cert cert ≡ true → All IsNoCert names → Gets before (each_file (map due_table names)) bytes_read → Gets after (each_file (map due_table names)) bytes_read
  unfolding each_file
  all_still_read [] bytes_read is none w = w
  all_still_read (name ∷ names) bytes_read is none (first, can, w) =
      let r = then_got before (each_file (map due_table names)) (λ others. makes (first ∷ others)) bytes_read w in (
        first,
        still_read name TABLE_LIMIT first (other_name name cert (All-head IsNoCert name names none) is) can,
        got_then after (each_file (map due_table names)) (λ others. makes (first ∷ others)) r.0 bytes_read (all_still_read names r.0 is (All-tail IsNoCert name names none) r.1) r.2,
      )

  -- a job of the files can still be read, by the rule of a check and with the certificate
  job_still_read : (rule : BatchRule) (name : List ℕ) (r : ResolvedJob) → IsNoCert name → ends_as_cert cert ≡ true → length text ≤ CERT_LIMIT → IsJobOfFiles before rule name r
      → Gets after (reads_job Either name (Some (due_cert cert))) (Ok (record { job = r; text = text }))
  job_still_read rule name r none is short w =
      let p = pieces_of before rule name None (record { job = r; text = [] }) w in
      let files = files_kept rule name p.job_bytes p.values p.accepted in
      job_again after Either name (Some (due_cert cert)) (record { job = r; text = text })
      (record {
        job_bytes = p.job_bytes;
        values = p.values;
        files = p.files;
        other_bytes = Some text;
        tables = p.tables;
        job_got = still_read name JOB_LIMIT p.job_bytes (other_name name cert none is) p.job_got;
        accepted = files.0;
        files_got = all_still_read (job_files p.values) p.files is (All-cons IsNoCert p.values.head.curves (light_files p.values) files.1 files.2) p.files_got;
        other_got = (Some text, cert_can_be_read short, refl);
        tables_made = p.tables_made;
        text_made = some_text (due_cert cert) text;
        resolved = p.resolved;
      })

-- ---- the check of a certificate that a search wrote

pub is_valid : (r : ResolvedJob) → IsSearchable r → valid_from r (content_of (result_for r)) ≡ Ok (content_of (result_for r))
unfolding valid_from
is_valid r h =
    let c = content_of (result_for r) in
    ap (unless_failing c) (nothing_fails (recipe_land r) h.lawful.top c.claim c.listed c.lines (result_is_valid (recipe_land r) h.lawful r.job.head.budget))

is_spelled : (r : ResolvedJob) → IsSearchable r → cert_from (length (recipe_land r).top.lo) (cert_text (content_of (result_for r))) ≡ Ok (content_of (result_for r))
unfolding cert_from
is_spelled r h = ap unless_misspelled (result_is_read (recipe_land r) h.lawful r.job.head.budget h.budget)

check_accepts : (r : ResolvedJob) → IsSearchable r → check_report r (cert_text (content_of (result_for r))) ≡ Ok (accepted_report r (result_for r).claim)
unfolding check_report
check_accepts r h = rw (is_spelled r h, is_valid r h)

-- ---- a search

-- what the claim of a search means determines its status
exact_by : (l : Land) (budget : ℕ) (claim : Claim) (status : ℕ) → ClaimHolds l budget claim → conclusion_status (conclusion_of claim) ≡ status → TellsExactly l budget status
exact_by l budget (Match recipe) status h e = record {
  found = λ r within passes enough. sym e;
  none = λ never enough. let no : is_match l recipe.items ≡ false = never recipe.items h.1.grid in let yes : is_match l recipe.items ≡ true = h.1.matches in cc;
  floor = λ few. let enough = h.0 in absurd (omega (arith, few, enough));
}
exact_by l budget NoMatch status h e = record {
  found = λ r within passes enough. let no : is_match l r ≡ false = h.1 r within in cc;
  none = λ never enough. sym e;
  floor = λ few. let enough = h.0 in absurd (omega (arith, few, enough));
}
exact_by l budget (Floor cost) status h e = record {
  found = λ r within passes enough. let few = h.0 in absurd (omega (arith, few, enough));
  none = λ never enough. let few = h.0 in absurd (omega (arith, few, enough));
  floor = λ few. sym e;
}

-- a check of a job and a text that can be read
report_made : (contents : Option Contents) (words : CertWords) (r : ResolvedJob) (text : List ℕ) (report : Report) → Gets contents (reads_job check_rule words.job (Some (due_cert words.cert))) (Ok (record { job = r; text = text })) → check_report r text ≡ Ok report
    → Gets contents (asking_of (check words)) (reported report)
report_made contents words r text report made is =
    got_then contents (reads_job check_rule words.job (Some (due_cert words.cert))) (λ made. makes (outcome_of (made >>= (λ (read : JobRead). check_report read.job read.text)))) (Ok (record { job = r; text = text })) (reported report) made (sym (ap outcome_of is))

module _ (rule : BatchRule) (words : CertWords) (kept : AreCertWords words) (before after : World) (status : ℕ) (report : Report) where
  pub found : Gets before.shelf.contents (reports_on (reads_job rule words.job None) (λ read. search_report words.cert read.job)) (reported report) → conclusion_status report.conclusion ≡ status → Leaves before after report.text report.written → IfSome report.recipes IsSearchable
      → Finds rule words before after status
  unfolding search_report
  found w ends leaves searched =
      let made = reported_on before.shelf.contents (reads_job rule words.job None) (λ read. search_report words.cert read.job) report w in
      let r = made.0.job in
      let of_files : IsJobOfFiles before.shelf.contents rule words.job r = job_alone before.shelf.contents rule words.job None made.0 made.1 in
      let s = result_for r in
      let is : result_report words.cert r s ≡ report = (let h : Ok (result_report words.cert r s) ≡ Ok report = made.2 in cc) in
      let h : IsSearchable r = subst (λ x. IfSome x.recipes IsSearchable) (sym is) searched in
      let text = cert_text (content_of s) in
      let written : after.shelf.contents ≡ option_map (write_bytes words.cert text) before.shelf.contents = leaves.contents ∙ ap (λ x. with_written x.written before.shelf.contents) (sym is) in
      let short : length text ≤ CERT_LIMIT = (let e = result_is_short (recipe_land r) h.lawful r.job.head.budget h.budget in omega (arith, e)) in
      record {
        job = r;
        claim = s.claim;
        listed = s.listed;
        lines = s.lines;
        boxes = s.boxes;
        from_files = of_files;
        ends = ap (λ x. conclusion_status x.conclusion) is ∙ ends;
        exact = exact_by (recipe_land r) r.job.head.budget s.claim status (result_is_first (recipe_land r) h.lawful r.job.head.budget) (ap (λ x. conclusion_status x.conclusion) is ∙ ends);
        holds = result_is_first (recipe_land r) h.lawful r.job.head.budget;
        judged = (result_is_canonical (recipe_land r) h.lawful r.job.head.budget).judged;
        canonical = result_is_canonical (recipe_land r) h.lawful r.job.head.budget;
        valid = result_is_valid (recipe_land r) h.lawful r.job.head.budget;
        means = result_means (recipe_land r) h.lawful r.job.head.budget;
        printed = leaves.taken ∙ ap (λ x. append_known before.sink.taken x.text) (sym is);
        written = written;
        checked = λ c e. result_from after.shelf.contents c (asking_of (check words)) (reported (accepted_report r s.claim)) e
            (report_made after.shelf.contents words r text (accepted_report r s.claim)
            (job_still_read words.cert text before.shelf.contents after.shelf.contents written rule words.job r kept.job kept.cert short of_files) (check_accepts r h));
      }

-- ---- a check

spelled : (read : Result Content CertFault) (c : Content) → unless_misspelled read ≡ Ok c → read ≡ Ok c
spelled (Ok x) c e = (let h : Ok x ≡ Ok c = e in ap (λ y. Ok y) (let same : x ≡ c = cc in same))
spelled (Err fault) c e = absurd (let h : Err (grammar fault) ≡ Ok c = e in cc)

holding : (content valid : Content) (failure : Option (ℕ × Why)) → unless_failing content failure ≡ Ok valid → (failure ≡ None) × (content ≡ valid)
holding content valid None e = (refl, let h : Ok content ≡ Ok valid = e in cc)
holding content valid (Some f) e = absurd (let h : Err (invalid f.0 f.1) ≡ Ok valid = e in cc)

spells_from : (dims : ℕ) (text : List ℕ) (c : Content) → cert_from dims text ≡ Ok c → cert_of dims text ≡ Ok c
unfolding cert_from
spells_from dims text c e = spelled (cert_of dims text) c e

holds_from : (r : ResolvedJob) (content valid : Content) → valid_from r content ≡ Ok valid → (first_failure (recipe_land r) content.claim content.listed content.lines ≡ None) × (content ≡ valid)
unfolding valid_from
holds_from r content valid e = holding content valid (first_failure (recipe_land r) content.claim content.listed content.lines) e

module _ (words : CertWords) (before after : World) (report : Report) where
  pub confirmed : Gets before.shelf.contents (reports_on (reads_job check_rule words.job (Some (due_cert words.cert))) (λ read. check_report read.job read.text)) (reported report) → Leaves before after report.text report.written → IfSome report.recipes IsSearchable → Confirms words before after
  unfolding check_report
  confirmed w leaves searched =
      let other = due_cert words.cert in
      let made = reported_on before.shelf.contents (reads_job check_rule words.job (Some other)) (λ read. check_report read.job read.text) report w in
      let r = made.0.job in
      let text = made.0.text in
      let read = ok_next (cert_from (length (recipe_land r).top.lo) text) _ report made.2 in
      let content = read.0 in
      let checked = ok_next (valid_from r content) _ report read.2 in
      let spells = spells_from (length (recipe_land r).top.lo) text content read.1 in
      let holds = holds_from r content checked.0 checked.1 in
      let is : accepted_report r checked.0.claim ≡ report = (let h : Ok (accepted_report r checked.0.claim) ≡ Ok report = checked.2 in cc) in
      let h : IsSearchable r = subst (λ x. IfSome x.recipes IsSearchable) (sym is) searched in
      let whole = cert_tree (length (recipe_land r).top.lo) text content spells in
      record {
        job = r;
        cert = content;
        text = text;
        from_files = job_alone before.shelf.contents check_rule words.job (Some other) made.0 made.1;
        text_from_file = text_read before.shelf.contents check_rule words.job other made.0 made.1;
        spells = spells;
        valid = valid_if (recipe_land r) h.lawful.top content.claim content.listed content.lines whole holds.0;
        means = means (recipe_land r) content.claim content.listed content.lines h.lawful whole holds.0;
        printed = leaves.taken ∙ ap (λ x. append_known before.sink.taken x.text) (sym is) ∙ ap (λ c. append_known before.sink.taken (accepted_text c.claim)) (sym holds.1);
      }

-- ---- a summary

module _ (number : ℕ) (before after : World) (status : ℕ) (report : Report) where
  pub summarised : Gets before.shelf.contents (makes (outcome_of (demo_report number (demo_job number)))) (reported report) → conclusion_status report.conclusion ≡ status → Leaves before after report.text report.written → IfSome report.recipes IsSearchable
      → Summarises number before after status
  unfolding demo_report
  summarised w ends leaves searched =
      let r = demo_job number in
      let s = result_for r in
      let own : Report = record { conclusion = conclusion_of s.claim; text = summary_text number r s; evaluations = []; written = None; recipes = Some r } in
      let is : own ≡ report = (let h : reported report ≡ reported own = w in cc) in
      let h : IsSearchable r = subst (λ x. IfSome x.recipes IsSearchable) (sym is) searched in
      record {
        claim = s.claim;
        listed = s.listed;
        lines = s.lines;
        boxes = s.boxes;
        ends = ap (λ x. conclusion_status x.conclusion) is ∙ ends;
        exact = exact_by (recipe_land r) r.job.head.budget s.claim status (result_is_first (recipe_land r) h.lawful r.job.head.budget) (ap (λ x. conclusion_status x.conclusion) is ∙ ends);
        judged = (result_is_canonical (recipe_land r) h.lawful r.job.head.budget).judged;
        canonical = result_is_canonical (recipe_land r) h.lawful r.job.head.budget;
        holds = result_is_first (recipe_land r) h.lawful r.job.head.budget;
        valid = result_is_valid (recipe_land r) h.lawful r.job.head.budget;
        means = result_means (recipe_land r) h.lawful r.job.head.budget;
        printed = leaves.taken ∙ ap (λ x. append_known before.sink.taken x.text) (sym is);
      }

-- ---- by the status

found_kind : (status : ℕ) → IsSearchStatus status → table.kind_of status ≡ table.report
found_kind status (inl e) = ap table.kind_of e
found_kind status (inr (inl e)) = ap table.kind_of e
found_kind status (inr (inr e)) = ap table.kind_of e

module _ (ws : List (List ℕ)) (before after : World) (status : ℕ) (tells : table.StatusTells (plan_for ws) before after status) where
  report_of : table.kind_of status ≡ table.report → table.IsReport (plan_for ws) before after status
  report_of e = subst (λ k. table.Tells (plan_for ws) before after k status) e tells.tells

  -- the words have the form of a task
  of_task : (t : Task) → option_map task_of (form_of ws) ≡ Some t → table.kind_of status ≡ table.report
      → (r : Report) × Gets before.shelf.contents (asking_by t) (reported r) × (conclusion_status r.conclusion ≡ status) × Leaves before after r.text r.written × IfSome r.recipes IsSearchable × KeepsWords t
  of_task t e h =
      let m = mapped task_of (form_of ws) t e in
      let r = subst (λ f. table.IsReport (option_map plan_of f) before after status) m.1 (report_of h) in (
        r.report,
        subst (λ t. Gets before.shelf.contents (asking_by t) (reported r.report)) m.2 r.answers,
        r.status,
        r.leaves,
        r.searched,
        subst KeepsWords m.2 (form_keeps ws m.0 m.1),
      )

  says_finds : (rule : BatchRule) (words : CertWords) → option_map task_of (form_of ws) ≡ Some (finds rule words) → IsSearchStatus status → Finds rule words before after status
  says_finds rule words e h = let r = of_task (finds rule words) e (found_kind status h) in found rule words r.5 before after status r.0 r.1 r.2 r.3 r.4

  says_confirms : (words : CertWords) → option_map task_of (form_of ws) ≡ Some (confirms words) → status ≡ 0 → Confirms words before after
  says_confirms words e h = let r = of_task (confirms words) e (found_kind status (inl h)) in confirmed words before after r.0 r.1 r.3 r.4

  says_summarises : (number : ℕ) → option_map task_of (form_of ws) ≡ Some (summarises number) → IsSearchStatus status → Summarises number before after status
  says_summarises number e h = let r = of_task (summarises number) e (found_kind status h) in summarised number before after status r.0 r.1 r.2 r.3 r.4

  pub says_of_recipes : SaysOfRecipes (form_of ws) before after status
  says_of_recipes = record { finds = says_finds; confirms = says_confirms; summarises = says_summarises; evaluated = recipe_evaluated; finer = differences_enclose }
