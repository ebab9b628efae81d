use Rattle.std.proofs.Common.{◌≡◌, ◌==◌, ◌∙◌, ◌∷◌, List, ◌++◌, ℕ, [], true, length, length-append, refl, ap, arith}
use Rattle.std.proofs.Math.ListN.{length-take}
use Rattle.std.proofs.lemmas.Bool.{false≢true}
use Rattle.std.proofs.lemmas.Bool.Decides.{nat_tests}
use Rattle.box_cert.specs.Drafts.{is_whole}
use Rattle.box_cert.specs.Feeding.{gives}
use Rattle.box_cert.specs.Lines.{cut_at}
use Rattle.box_cert.proofs.Cuts.{cut_take}
use Rattle.box_cert.proofs.Ongoing.{line_goes_on, none_both}
use Rattle.box_cert.proofs.reader.Reader.begin_line.Goals as goal
use Rattle.box_cert.proofs.reader.Reader.begin_line.Goals.{else-is_whole-via-then-is_whole+else-not-is_empty, else-is_whole-via-else-is_whole}

none_left : (xs : List ℕ) → true ≡ (length xs == 0) → xs ≡ []
none_left [] h = refl
none_left (x ∷ xs) h = absurd (let none : length (x ∷ xs) ≡ 0 = grind (arith, nat_tests) in omega (arith, none))

pub returns : goal.returns
returns c =
    let old = c.args.self.now in
    let bytes = c.args.bytes.now in
    let is = c.requires.reader in
    let line = c.put_fitting.ensures in
    let clear : is_whole old.draft.part ≡ true → c.put_fitting.new.into.items ≡ [] =
    λ whole. elim c.else-is_whole.branch [
      | else-is_whole-via-then-is_whole+else-not-is_empty w ↦ none_left c.put_fitting.new.into.items w.if-not-is_empty.ensures
      | else-is_whole-via-else-is_whole w ↦ absurd (false≢true (w.if-is_whole.ensures ∙ whole))
    ] in
    record {
      reader = record {
        draft = is.draft;
        line = ap (cut_at 10) line ∙ cut_take 10 80 (old.line.items ++ bytes) (none_both old.line.items bytes is.line c.requires.one);
        clear = clear;
      };
      dims = refl;
      size = omega (arith, ap length line, length-take 80 (old.line.items ++ bytes), length-append old.line.items bytes);
      same = λ more. ap (λ l. gives old.draft l more) line ∙ line_goes_on old.draft old.line.items bytes more is.draft.few is.line c.requires.one;
    }
