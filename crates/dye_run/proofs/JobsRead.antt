-- A job that was read with its files, and the text of another file.
use Rattle.std.proofs.Common.{◌≡◌, ◌≤◌, ℕ, List, [], ◌∷◌, length, map, Option, Some, None, IfSome, All, Result, Ok, Err, refl, sym, ap, ◌∙◌, subst, inl, arith}
use Rattle.std.proofs.lemmas.List.Elements.{All-cons, All-nil}
use Rattle.std.proofs.lemmas.List.{length-map}
use Rattle.std.specs.Global.{Vec}
use Rattle.job_file.specs.Job.{Values}
use Rattle.job_file.specs.declared.top.BatchRule.{BatchRule}
use Rattle.shelf_io.specs.Contents.{Contents}
use Rattle.shelf_io.specs.View.{ShelfView}
use Rattle.run_core.specs.Due.{CanBeRead}
use Rattle.dye_run.specs.Files.{FitsFiles, IsShort}
use Rattle.dye_run.specs.Headline.{IsJobOfFiles}
use Rattle.run_core.specs.Asking.{◌>>=◌}
use Rattle.dye_run.specs.Inputs.{due_table}
use Rattle.dye_run.specs.Jobs.{Gathered, JobRead, JobTables, gathered_from, job_files, job_from, job_tables_from, read_from, reads_accepted, reads_gathered, reads_job, resolved_from, text_from, where_accepted}
use Rattle.run_core.specs.Judging.{IsMade, Refuses, StopsAs, stop_outcome}
use Rattle.run_core.specs.Outcome.{Fault, Outcome, refused, too_long}
use Rattle.run_core.specs.Reading.{DueFile, Gets, Reading, any_file, each_file, makes, then_reads}
use Rattle.run_core.specs.Views.{bytes_view}
use Rattle.run_core.specs.declared.stop.Stop.{Stop}
use Rattle.dye_run.proofs.FilesKnown.{ok_next}
use Rattle.run_core.proofs.Readings.{got_then, then_got}
use Rattle.spectral_tables.specs.declared.records.TheConstants.{TABLE_LIMIT}
use Rattle.dye_run.specs.declared.jobs.TheConstants.{JOB_LIMIT}

-- what was read, and what was made of it
pub record JobPieces (contents : Option Contents) (rule : BatchRule) (name : List ℕ) (other : Option DueFile) (read : JobRead) : Type 0 where
  pub job_bytes : Option (List ℕ)
  pub values : Values
  pub files : List (Option (List ℕ))
  pub other_bytes : Option (List ℕ)
  pub tables : JobTables
  pub job_got : CanBeRead contents name JOB_LIMIT job_bytes
  pub accepted : job_from rule name job_bytes ≡ Ok values
  pub files_got : Gets contents (each_file (map due_table (job_files values))) files
  pub other_got : Gets contents (any_file other) other_bytes
  pub tables_made : job_tables_from values files ≡ Ok tables
  pub text_made : text_from other other_bytes ≡ Ok read.text
  pub resolved : resolved_from name values tables ≡ Ok read.job

accepted_of : {X : Type 0} (contents : Option Contents) (step : Result Values Fault) (next : Values → Reading (Result X Fault)) (x : X) → Gets contents (where_accepted step next) (Ok x) → (j : Values) × (step ≡ Ok j) × Gets contents (next j) (Ok x)
accepted_of contents (Ok j) next x w = (j, refl, w)
accepted_of contents (Err fault) next x w = absurd (let h : Ok x ≡ Err fault = w in cc)

gathered_parts : (j : Values) (other : Option DueFile) (files : List (Option (List ℕ))) (other_bytes : Option (List ℕ)) (g : Gathered) → gathered_from j other files other_bytes ≡ Ok g
    → (job_tables_from j files ≡ Ok g.tables) × (text_from other other_bytes ≡ Ok g.text)
unfolding gathered_from
gathered_parts j other files other_bytes g e =
    let t = ok_next (job_tables_from j files) _ g e in
    let x = ok_next (text_from other other_bytes) _ g t.2 in
    let whole : Gathered = record { tables = t.0; text = x.0 } in
    let same : whole ≡ g = (let h : Ok whole ≡ Ok g = x.2 in cc) in (t.1 ∙ ap (λ g. Ok g.tables) same, x.1 ∙ ap (λ g. Ok g.text) same)

read_parts : (name : List ℕ) (j : Values) (g : Gathered) (read : JobRead) → read_from name j g ≡ Ok read → (resolved_from name j g.tables ≡ Ok read.job) × (g.text ≡ read.text)
read_parts name j g read e =
    let r = ok_next (resolved_from name j g.tables) _ read e in
    let whole : JobRead = record { job = r.0; text = g.text } in
    let same : whole ≡ read = (let h : Ok whole ≡ Ok read = r.2 in cc) in (r.1 ∙ ap (λ x. Ok x.job) same, ap (λ x. x.text) same)

pub pieces_of : (contents : Option Contents) (rule : BatchRule) (name : List ℕ) (other : Option DueFile) (read : JobRead) → Gets contents (reads_job rule name other) (Ok read) → JobPieces contents rule name other read
pieces_of contents rule name other read (bytes_read, can, w) =
    let j = accepted_of contents (job_from rule name bytes_read) (λ j. reads_accepted name j other) read w in
    let a = then_got contents (reads_gathered j.0 other) (λ g. makes (g >>= read_from name j.0)) (Ok read) j.2 in
    let g = ok_next a.0 (read_from name j.0) read (sym a.2) in
    let made : Gets contents (reads_gathered j.0 other) (Ok g.0) = subst (λ s. Gets contents (reads_gathered j.0 other) s) g.1 a.1 in
    let parts = read_parts name j.0 g.0 read g.2 in
    let files = then_got contents (each_file (map due_table (job_files j.0))) (λ bytes. then_reads (any_file other) (λ b. makes (gathered_from j.0 other bytes b))) (Ok g.0) made in
    let last = then_got contents (any_file other) (λ b. makes (gathered_from j.0 other files.0 b)) (Ok g.0) files.2 in
    let both = gathered_parts j.0 other files.0 last.0 g.0 (sym last.2) in
    record {
      job_bytes = bytes_read;
      values = j.0;
      files = files.0;
      other_bytes = last.0;
      tables = g.0.tables;
      job_got = can;
      accepted = j.1;
      files_got = files.1;
      other_got = last.1;
      tables_made = both.0;
      text_made = both.1 ∙ ap (λ t. Ok t) parts.1;
      resolved = parts.0;
    }

gathered_again : (j : Values) (other : Option DueFile) (files : List (Option (List ℕ))) (other_bytes : Option (List ℕ)) (g : Gathered) → job_tables_from j files ≡ Ok g.tables → text_from other other_bytes ≡ Ok g.text → gathered_from j other files other_bytes ≡ Ok g
unfolding gathered_from
gathered_again j other files other_bytes g t x = λ i. t i >>= (λ tables. x i >>= (λ text. Ok (record { tables = tables; text = text })))

pub job_again : (contents : Option Contents) (rule : BatchRule) (name : List ℕ) (other : Option DueFile) (read : JobRead) → JobPieces contents rule name other read → Gets contents (reads_job rule name other) (Ok read)
job_again contents rule name other read p =
    let j = p.values in
    let g : Gathered = record { tables = p.tables; text = read.text } in
    let last : Gets contents (then_reads (any_file other) (λ b. makes (gathered_from j other p.files b))) (Ok g) =
    got_then contents (any_file other) (λ b. makes (gathered_from j other p.files b)) p.other_bytes (Ok g) p.other_got (sym (gathered_again j other p.files p.other_bytes g p.tables_made p.text_made)) in
    let made : Gets contents (reads_gathered j other) (Ok g) =
    got_then contents (each_file (map due_table (job_files j))) (λ bytes. then_reads (any_file other) (λ b. makes (gathered_from j other bytes b))) p.files (Ok g) p.files_got last in
    let resolved : read_from name j g ≡ Ok read = ap (λ s. s >>= (λ r. Ok (record { job = r; text = read.text }))) p.resolved in
    let accepted : Gets contents (reads_accepted name j other) (Ok read) = got_then contents (reads_gathered j other) (λ g. makes (g >>= read_from name j)) (Ok g) (Ok read) made (sym resolved) in (
      p.job_bytes,
      p.job_got,
      subst (λ s. Gets contents (where_accepted s (λ j. reads_accepted name j other)) (Ok read)) (sym p.accepted) accepted,
    )

no_text : text_from None None ≡ Ok []
unfolding text_from
no_text = refl

-- the job alone
pub job_alone : (contents : Option Contents) (rule : BatchRule) (name : List ℕ) (other : Option DueFile) (read : JobRead) → Gets contents (reads_job rule name other) (Ok read) → IsJobOfFiles contents rule name read.job
job_alone contents rule name other read w =
    let p = pieces_of contents rule name other read w in
    job_again contents rule name None (record { job = read.job; text = [] })
    (record {
      job_bytes = p.job_bytes;
      values = p.values;
      files = p.files;
      other_bytes = None;
      tables = p.tables;
      job_got = p.job_got;
      accepted = p.accepted;
      files_got = p.files_got;
      other_got = refl;
      tables_made = p.tables_made;
      text_made = no_text;
      resolved = p.resolved;
    })

text_is : (file : DueFile) (bytes_read : Option (List ℕ)) (text : List ℕ) → text_from (Some file) bytes_read ≡ Ok text → bytes_read ≡ Some text
unfolding text_from
text_is file (Some bytes) text e = (let h : Ok bytes ≡ Ok text = e in ap (λ x. Some x) (let same : bytes ≡ text = cc in same))
text_is file None text e = absurd (let h : Err (too_long file.name) ≡ Ok text = e in cc)

-- the other file
pub text_read : (contents : Option Contents) (rule : BatchRule) (name : List ℕ) (file : DueFile) (read : JobRead) → Gets contents (reads_job rule name (Some file)) (Ok read) → CanBeRead contents file.name file.limit (Some read.text)
text_read contents rule name file read w =
    let p = pieces_of contents rule name (Some file) read w in
    let got = p.other_got in
    subst (λ b. CanBeRead contents file.name file.limit b) (sym got.2 ∙ text_is file p.other_bytes read.text p.text_made) got.1

-- ---- the bytes of the files of a job fit it

short_of : (bytes_read : Option (Vec ℕ)) → IfSome (bytes_view bytes_read) (λ bytes. length bytes ≤ TABLE_LIMIT) → IsShort bytes_read
short_of (Some bytes) h = h
short_of None h = tt

first_of : {A : Type 0} (x y : A) (xs ys : List A) → x ∷ xs ≡ y ∷ ys → (x ≡ y) × (xs ≡ ys)
first_of x y xs ys e = (cc, cc)

each_fits : (contents : Option Contents) (names : List (List ℕ)) (bytes_read : List (Option (Vec ℕ))) → Gets contents (each_file (map due_table names)) (map bytes_view bytes_read) → (length bytes_read ≡ length names) × All IsShort bytes_read
unfolding each_file
each_fits contents [] [] w = (refl, All-nil IsShort)
each_fits contents [] (b ∷ bytes_read) w = absurd (let h : bytes_view b ∷ map bytes_view bytes_read ≡ [] = w in cc)
each_fits contents (name ∷ names) [] (first, can, w) =
    let r = then_got contents (each_file (map due_table names)) (λ others. makes (first ∷ others)) [] w in absurd (let h : [] ≡ first ∷ r.0 = r.2 in cc)
each_fits contents (name ∷ names) (b ∷ bytes_read) (first, can, w) =
    let r = then_got contents (each_file (map due_table names)) (λ others. makes (first ∷ others)) (bytes_view b ∷ map bytes_view bytes_read) w in
    let same = first_of (bytes_view b) first (map bytes_view bytes_read) r.0 r.2 in
    let rest = each_fits contents names bytes_read (subst (λ bs. Gets contents (each_file (map due_table names)) bs) (sym same.1) r.1) in
    let n = rest.0 in (omega (arith, n), All-cons IsShort b bytes_read (short_of b (subst (λ x. IfSome x (λ bytes. length bytes ≤ TABLE_LIMIT)) (sym same.0) can.short)) rest.1)

pub job_fits : (contents : Option Contents) (j : Values) (lights : ℕ) (bytes_read : List (Option (Vec ℕ))) → length j.light ≡ lights → Gets contents (each_file (map due_table (job_files j))) (map bytes_view bytes_read) → FitsFiles lights bytes_read
job_fits contents j lights bytes_read few w =
    let fits = each_fits contents (job_files j) bytes_read w in
    let n = fits.0 in
    let m = length-map j.light (λ light. light.weights) in
    record { count = omega (arith, n, m, few); short = fits.1 }

refused_job : {Y : Type 0} (view : ShelfView) (step : Result Values Fault) (next : Values → Reading (Result Y Fault)) (w : Option Outcome) → IfSome w (λ o. (fault : Fault) × (o ≡ refused fault) × (step ≡ Err fault)) → IfSome w (λ o. StopsAs (where_accepted step next) view view o)
refused_job view step next (Some o) (fault, e, is) = inl (fault, subst (λ s. Gets view.contents (where_accepted s next) (Err fault)) (sym is) refl, e)
refused_job view step next None r = tt

-- a job that is refused by itself
pub unaccepted : {X Y : Type 0} (of : X → Y) (view : ShelfView) (step : Result Values Fault) (next : Values → Reading (Result Y Fault)) (why : Stop) → Refuses why step → IsMade of (where_accepted step next) view view (Err why)
unaccepted of view step next why r = refused_job view step next (stop_outcome why) r
