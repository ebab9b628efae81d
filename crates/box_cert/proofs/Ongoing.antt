-- A line that comes in parts, of which at most 80 bytes are kept.
use Rattle.std.proofs.Common.{◌≡◌, ◌==◌, ◌+◌, ◌-◌, ◌<◌, ◌≤◌, min, nat_le, if◌then◌else◌, ℕ, zero, suc, Bool, true, false, List, [], ◌∷◌, ◌++◌, length, take, refl, sym, ap, ◌∙◌, arith, append_assoc, length-append, inl, inr, ◌⊎◌}
use Rattle.std.specs.Prelude.{Option, Some, None, option_map}
use Rattle.std.proofs.Math.ListN.{length-take}
use Rattle.std.proofs.Math.Seq.{take-append-add}
use Rattle.std.proofs.lemmas.Bool.Decides.{nat_tests}
use Rattle.std.proofs.lemmas.List.{append-nil, take_all}
use Rattle.box_specs.specs.declared.certificate.CertRule.TheVariants.{Left}
use Rattle.box_cert.specs.declared.draft.Draft.{Draft}
use Rattle.box_cert.specs.declared.draft.Part.{Part}
use Rattle.box_cert.specs.declared.draft.Part.TheVariants as parts
use Rattle.box_cert.specs.Drafts.{is_whole, recipes, still, still_at}
use Rattle.box_cert.specs.Feeding.{gives, lasting_fault}
use Rattle.box_cert.specs.Lines.{cut_at}
use Rattle.box_cert.specs.Reading.{byte_first, fault, lines_of}
use Rattle.box_cert.proofs.Cuts.{after, cut_after, cut_take, cut_takes}
use Rattle.box_cert.proofs.Drafting.{whole_part}
use Rattle.box_cert.proofs.LongLines.{long_same}
use Rattle.box_cert.proofs.TextLines.{line_first, lines_cut, no_line, split_at}

-- the first 80 bytes of a line are the line, or it has at least 80
short_or_long : (a : List ℕ) → (take 80 a ≡ a) ⊎ (80 ≤ length a)
short_or_long a = go (nat_le 80 (length a)) refl where
  go : (q : Bool) → nat_le 80 (length a) ≡ q → (take 80 a ≡ a) ⊎ (80 ≤ length a)
  go true e = inr (grind (arith, nat_tests))
  go false e = let few : length a ≤ 80 = grind (arith, nat_tests) in inl (take_all 80 a few)

-- the bytes after the last line feed matter only by whether there are any
end_same : (d : Draft) (a b : List ℕ) → 1 ≤ length a → 1 ≤ length b → still d [] a ≡ still d [] b
end_same d [] b la lb = absurd (omega arith)
end_same d (x ∷ xs) [] la lb = absurd (omega arith)
end_same d (x ∷ xs) (y ∷ ys) la lb = go d.part where
  go : (q : Part) → still_at d.dims d.claim (recipes d) d.lines.items q (record { number = d.number; lines = []; left = x ∷ xs })
      ≡ still_at d.dims d.claim (recipes d) d.lines.items q (record { number = d.number; lines = []; left = y ∷ ys })
  go parts.Header = refl
  go parts.Claim = refl
  go parts.Count = refl
  go (parts.Recipe more) = refl
  go (parts.Tree zero) = refl
  go (parts.Tree (suc k)) = refl

-- a line of which 80 bytes are kept
kept_line : (d : Draft) (line : List ℕ) (lines : List (List ℕ)) (left : List ℕ) → d.dims ≤ 12 → still d (take 80 line ∷ lines) left ≡ still d (line ∷ lines) left
kept_line d line lines left few = go (short_or_long line) where
  go : (take 80 line ≡ line) ⊎ (80 ≤ length line) → still d (take 80 line ∷ lines) left ≡ still d (line ∷ lines) left
  go (inl same) = ap (λ l. still d (l ∷ lines) left) same
  go (inr long) = long_same d (take 80 line) line lines left few (omega (arith, length-take 80 line, long)) long

-- the lines of a text that begins with an unfinished line
lines_after : (a more : List ℕ) (o : Option (List ℕ × List ℕ)) → cut_at 10 a ≡ None → cut_at 10 more ≡ o → lines_of (a ++ more) ≡ split_at (a ++ more) (option_map (after a) o)
lines_after a more o h e = lines_cut (a ++ more) ∙ ap (split_at (a ++ more)) (cut_after 10 a more h ∙ ap (option_map (after a)) e)

-- an unfinished line of which 80 bytes are kept
kept : (d : Draft) (a more : List ℕ) → d.dims ≤ 12 → cut_at 10 a ≡ None → gives d (take 80 a) more ≡ gives d a more
kept d a more few h = go (short_or_long a) where
  long : 80 ≤ length a → (o : Option (List ℕ × List ℕ)) → cut_at 10 more ≡ o → gives d (take 80 a) more ≡ gives d a more
  long l o e =
      let size : 80 ≤ length (take 80 a) = omega (arith, length-take 80 a, l) in
      ap (λ r. still d r.0 r.1) (lines_after (take 80 a) more o (cut_take 10 80 a h) e)
      ∙ cases o size
      ∙ sym (ap (λ r. still d r.0 r.1) (lines_after a more o h e))
    where
      cases : (o : Option (List ℕ × List ℕ)) → 80 ≤ length (take 80 a)
          → still d (split_at (take 80 a ++ more) (option_map (after (take 80 a)) o)).0 (split_at (take 80 a ++ more) (option_map (after (take 80 a)) o)).1
          ≡ still d (split_at (a ++ more) (option_map (after a) o)).0 (split_at (a ++ more) (option_map (after a) o)).1
      cases None size = end_same d (take 80 a ++ more) (a ++ more) (omega (arith, size, length-append (take 80 a) more)) (omega (arith, l, length-append a more))
      cases (Some r) size =
          long_same d (take 80 a ++ r.0) (a ++ r.0) (lines_of r.1).0 (lines_of r.1).1 few (omega (arith, size, length-append (take 80 a) r.0)) (omega (arith, l, length-append a r.0))

  go : (take 80 a ≡ a) ⊎ (80 ≤ length a) → gives d (take 80 a) more ≡ gives d a more
  go (inl same) = ap (λ l. gives d l more) same
  go (inr l) = long l (cut_at 10 more) refl

-- two texts without a mark
pub none_both : (a b : List ℕ) → cut_at 10 a ≡ None → cut_at 10 b ≡ None → cut_at 10 (a ++ b) ≡ None
none_both a b p q = cut_after 10 a b p ∙ ap (option_map (after a)) q

-- the rest of a line comes, and its line feed
pub line_ended : (d : Draft) (a rest more : List ℕ) → d.dims ≤ 12 → cut_at 10 a ≡ None → cut_at 10 rest ≡ None
    → gives d a ((rest ++ 10 ∷ []) ++ more) ≡ still d (take 80 (a ++ rest) ∷ (lines_of more).0) (lines_of more).1
line_ended d a rest more few p q =
    let cut : cut_at 10 (a ++ ((rest ++ 10 ∷ []) ++ more)) ≡ Some (a ++ rest, more) =
    ap (λ t. cut_at 10 (a ++ t)) (append_assoc rest (10 ∷ []) more) ∙ cut_after 10 a (rest ++ (10 ∷ more)) p ∙ ap (option_map (after a)) (cut_after 10 rest (10 ∷ more) q)
    ∙ ap (λ t. Some (a ++ t, more)) (append-nil rest) in
    ap (λ r. still d r.0 r.1) (line_first (a ++ ((rest ++ 10 ∷ []) ++ more)) (a ++ rest) more cut) ∙ sym (kept_line d (a ++ rest) (lines_of more).0 (lines_of more).1 few)

-- more of a line comes
pub line_goes_on : (d : Draft) (a bytes more : List ℕ) → d.dims ≤ 12 → cut_at 10 a ≡ None → cut_at 10 bytes ≡ None → gives d (take 80 (a ++ bytes)) more ≡ gives d a (bytes ++ more)
line_goes_on d a bytes more few p q =
    kept d (a ++ bytes) more few (none_both a bytes p q) ∙ ap (λ t. still d (lines_of t).0 (lines_of t).1) (append_assoc a bytes more)

-- bytes come after the whole tree
pub bytes_left : (d : Draft) (a bytes more : List ℕ) → is_whole d.part ≡ true → 1 ≤ length (take 80 (a ++ bytes)) → gives d a (bytes ++ more) ≡ fault d.number Left
bytes_left d a bytes more whole some =
    ap (λ q. still_at d.dims d.claim (recipes d) d.lines.items q (record { number = d.number; lines = (lines_of text).0; left = (lines_of text).1 })) (whole_part d.part whole)
    ∙ go text (omega (arith, some, length-take 80 (a ++ bytes), length-append a bytes, length-append bytes more, length-append a (bytes ++ more)))
  where
    text : List ℕ
    text = a ++ (bytes ++ more)

    Fails : List (List ℕ) × List ℕ → Type 0
    Fails r = still_at d.dims d.claim (recipes d) d.lines.items (parts.Tree 0) (record { number = d.number; lines = r.0; left = r.1 }) ≡ fault d.number Left

    byte : (b : ℕ) (r : List (List ℕ) × List ℕ) → Fails (byte_first b r)
    byte b ([], left) = refl
    byte b ((line ∷ lines), left) = refl

    go : (t : List ℕ) → 1 ≤ length t → Fails (lines_of t)
    go [] h = absurd (omega arith)
    go (b ∷ bs) h = cases (b == 10) where
      cases : (q : Bool) → Fails (if q then ([] ∷ (lines_of bs).0, (lines_of bs).1) else byte_first b (lines_of bs))
      cases true = refl
      cases false = byte b (lines_of bs)

-- the text ends
pub text_ends : (d : Draft) (line : List ℕ) → cut_at 10 line ≡ None → (is_whole d.part ≡ true → line ≡ []) → gives d line [] ≡ still d [] []
text_ends d line h clear = ap (λ r. still d r.0 r.1) (ap lines_of (append-nil line) ∙ no_line line h) ∙ go d.part clear where
  go : (q : Part) → (is_whole q ≡ true → line ≡ []) → still_at d.dims d.claim (recipes d) d.lines.items q (record { number = d.number; lines = []; left = line })
      ≡ still_at d.dims d.claim (recipes d) d.lines.items q (record { number = d.number; lines = []; left = [] })
  go parts.Header clear = refl
  go parts.Claim clear = refl
  go parts.Count clear = refl
  go (parts.Recipe more) clear = refl
  go (parts.Tree zero) clear = ap (λ l. still_at d.dims d.claim (recipes d) d.lines.items (parts.Tree zero) (record { number = d.number; lines = []; left = l })) (clear refl)
  go (parts.Tree (suc k)) clear = refl

-- where no fault has come, the text is whole, or a line is missing
pub no_fault : (d : Draft) → lasting_fault (still d [] []) ≡ None
no_fault d = go d.part where
  go : (q : Part) → lasting_fault (still_at d.dims d.claim (recipes d) d.lines.items q (record { number = d.number; lines = []; left = [] })) ≡ None
  go parts.Header = refl
  go parts.Claim = refl
  go parts.Count = refl
  go (parts.Recipe more) = refl
  go (parts.Tree zero) = refl
  go (parts.Tree (suc k)) = refl

-- a line with its line feed, the bytes after it, and more bytes
pub line_and_rest : (rest line tail more : List ℕ) → cut_at 10 rest ≡ Some (line, tail) → (line ++ 10 ∷ []) ++ (tail ++ more) ≡ rest ++ more
line_and_rest rest line tail more e =
    append_assoc line (10 ∷ []) (tail ++ more) ∙ sym (append_assoc line (10 ∷ tail) more) ∙ ap (λ t. t ++ more) (sym (cut_takes 10 rest (line, tail) e))

-- the lesser of two numbers
lesser : (m n : ℕ) → (min m n ≡ m) ⊎ (n ≤ m)
lesser m n = go (nat_le n m) refl where
  go : (q : Bool) → nat_le n m ≡ q → (min m n ≡ m) ⊎ (n ≤ m)
  go true e = inr (grind (arith, nat_tests))
  go false e = let l : m < n = grind (arith, nat_tests) in inl (omega arith)

-- the first bytes that fit
pub fitting : (a bytes : List ℕ) → length a ≤ 80 → a ++ take (min (80 - length a) (length bytes)) bytes ≡ take 80 (a ++ bytes)
fitting a bytes few = go (lesser (80 - length a) (length bytes)) where
  whole : 80 ≡ length a + (80 - length a)
  whole = omega arith

  seam : take 80 (a ++ bytes) ≡ a ++ take (80 - length a) bytes
  seam = ap (λ n. take n (a ++ bytes)) whole ∙ take-append-add a bytes (80 - length a)

  go : (min (80 - length a) (length bytes) ≡ 80 - length a) ⊎ (length bytes ≤ 80 - length a) → a ++ take (min (80 - length a) (length bytes)) bytes ≡ take 80 (a ++ bytes)
  go (inl e) = ap (λ n. a ++ take n bytes) e ∙ sym seam
  go (inr le) =
      let e : min (80 - length a) (length bytes) ≡ length bytes = omega arith in
      ap (λ n. a ++ take n bytes) e ∙ ap (λ t. a ++ t) (take_all (length bytes) bytes (omega arith) ∙ sym (take_all (80 - length a) bytes le)) ∙ sym seam
