-- No line of 80 bytes or more has a spelling.
use Rattle.std.proofs.Common.{◌≡◌, ◌==◌, ◌+◌, ◌*◌, ◌<◌, ◌≤◌, ◌^◌, ℕ, zero, suc, Bool, true, false, List, [], ◌∷◌, length, refl, sym, ap, ◌∙◌, arith, if◌then◌else◌}
use Rattle.std.specs.Prelude.{Option, Some, None, Ok, codes, option_map, option_and_then}
use Rattle.std.specs.Str.{bytes_eq}
use Rattle.std.proofs.lemmas.Fmt.{length-decimal-le}
use Rattle.std.proofs.lemmas.Option.{none-some}
use Rattle.box_specs.specs.declared.certificate.CertLine.{CertLine}
use Rattle.box_specs.specs.declared.certificate.CertLine.TheVariants.{Fail, Limit, Split}
use Rattle.box_specs.specs.declared.certificate.Claim.{Claim}
use Rattle.box_specs.specs.declared.certificate.Claim.TheVariants.{Floor, Match, NoMatch}
use Rattle.box_specs.specs.declared.certificate.CertRule.TheVariants.{BadClaim, BadHeader, BadLine}
use Rattle.box_cert.specs.declared.draft.Draft.{Draft}
use Rattle.box_cert.specs.declared.draft.Part.{Part}
use Rattle.box_cert.specs.declared.draft.Part.TheVariants as parts
use Rattle.box_cert.specs.Claims.{claim_in, claim_of}
use Rattle.box_cert.specs.Drafts.{recipes, still, still_at, then_list}
use Rattle.box_cert.specs.Form.{count_in, count_of, header_of, lists_then, then_claim, then_end, then_lists, then_tree}
use Rattle.box_cert.specs.Lines.{cut_at, lettered_line, line_of, number_before, numbers_at, recipe_of, split_of}
use Rattle.box_cert.specs.Numbers.{number_of}
use Rattle.box_cert.specs.Reading.{◌>>=◌, Cursor, line_result, line_then, parts_of, recipes_at, trees_from, with_prefix}
use Rattle.box_cert.specs.Spelling.{cert_form, made, undecided}
use Rattle.box_cert.proofs.Cuts.{cut_length}
use Rattle.box_cert.proofs.Numerals.{number_takes}
use Rattle.box_cert.proofs.Takes.{map_some, same_bytes}

-- a number of few digits
digits : (k least most : ℕ) (word : List ℕ) (n : ℕ) → 0 < k → most < 10 ^ k → most < 2 ^ 64 → number_of least most word ≡ Some n → length word ≤ k
digits k least most word n some few fits e =
    let t = number_takes least most word n fits e in
    let l = length-decimal-le k n some (omega (arith, t.high, few)) (omega (arith, t.high, fits)) in
    omega (arith, ap length t.is, l)

-- what is read from the two parts of a cut
cut_some : {A : Type 0} (o : Option (List ℕ × List ℕ)) (f : List ℕ × List ℕ → Option A) (x : A) → option_and_then f o ≡ Some x → (r : List ℕ × List ℕ) × (o ≡ Some r) × (f r ≡ Some x)
cut_some None f x e = absurd (none-some x e)
cut_some (Some r) f x e = (r, refl, e)

before_some : (o : Option ℕ) (more : Option (List ℕ)) (ns : List ℕ) → number_before o more ≡ Some ns → (n : ℕ) × (ms : List ℕ) × (o ≡ Some n) × (more ≡ Some ms)
before_some None more ns e = absurd (none-some ns e)
before_some (Some n) None ns e = absurd (none-some ns e)
before_some (Some n) (Some ms) ns e = (n, ms, refl, refl)

numbers_short : (k : ℕ) (text ns : List ℕ) → numbers_at k text ≡ Some ns → length text ≤ 5 * k + 4
numbers_short zero text ns e =
    let m = map_some (λ n. n ∷ []) (number_of 0 4000 text) ns e in
    digits 4 0 4000 text m.0 (omega arith) (omega arith) (omega arith) m.1
numbers_short (suc k) text ns e =
    let c = cut_some (cut_at 32 text) (λ r. number_before (number_of 0 4000 r.0) (numbers_at k r.1)) ns e in
    let b = before_some (number_of 0 4000 c.0.0) (numbers_at k c.0.1) ns c.2 in
    let first = digits 4 0 4000 c.0.0 b.0 (omega arith) (omega arith) (omega arith) b.2 in
    let rest = numbers_short k c.0.1 b.1 b.3 in
    omega (arith, cut_length 32 text c.0 c.1, first, rest)

recipe_short : (dims : ℕ) (line ns : List ℕ) → dims ≤ 12 → recipe_of dims line ≡ Some ns → length line ≤ 59
recipe_short zero line ns few e = absurd (none-some ns e)
recipe_short (suc k) line ns few e = omega (arith, few, numbers_short k line ns e)

header_short : (line : List ℕ) (x : Unit {0}) → header_of cert_form.header line ≡ Some x → length line ≤ 79
header_short line x h = go (bytes_eq line cert_form.header) refl h where
  go : (b : Bool) → bytes_eq line cert_form.header ≡ b → (if b then Some tt else None) ≡ Some x → length line ≤ 79
  go true p e = omega (arith, ap length (same_bytes line cert_form.header p))
  go false p e = absurd (none-some x e)

claim_short : (dims : ℕ) (line : List ℕ) (claim : Claim) → dims ≤ 12 → claim_of dims line ≡ Some claim → length line ≤ 79
claim_short dims line claim few h = go (cut_at 32 line) refl h where
  none : (b : Bool) → bytes_eq line (codes "none") ≡ b → (if b then Some NoMatch else None) ≡ Some claim → length line ≤ 79
  none true p e = omega (arith, ap length (same_bytes line (codes "none") p))
  none false p e = absurd (none-some claim e)

  worded : (r : List ℕ × List ℕ) → length r.0 + 1 + length r.1 ≡ length line → (a b : Bool) → bytes_eq r.0 (codes "match") ≡ a → bytes_eq r.0 (codes "floor") ≡ b
      → (if a then option_map (λ ns. Match (record { items = ns })) (recipe_of dims r.1) else (if b then option_map (λ cost. Floor cost) (number_of 0 (10 ^ 15) r.1) else None)) ≡ Some claim
      → length line ≤ 79
  worded r l true b p q e =
      let m = map_some (λ ns. Match (record { items = ns })) (recipe_of dims r.1) claim e in
      omega (arith, l, ap length (same_bytes r.0 (codes "match") p), recipe_short dims r.1 m.0 few m.1)
  worded r l false true p q e =
      let m = map_some (λ cost. Floor cost) (number_of 0 (10 ^ 15) r.1) claim e in
      omega (arith, l, ap length (same_bytes r.0 (codes "floor") q), digits 16 0 (10 ^ 15) r.1 m.0 (omega arith) (omega arith) (omega arith) m.1)
  worded r l false false p q e = absurd (none-some claim e)

  go : (o : Option (List ℕ × List ℕ)) → cut_at 32 line ≡ o → claim_in dims line o ≡ Some claim → length line ≤ 79
  go None p e = none (bytes_eq line (codes "none")) refl e
  go (Some r) p e = worded r (cut_length 32 line r p) (bytes_eq r.0 (codes "match")) (bytes_eq r.0 (codes "floor")) refl refl e

count_short : (line : List ℕ) (n : ℕ) → count_of undecided line ≡ Some n → length line ≤ 79
count_short line n h = go (cut_at 32 line) refl h where
  worded : (r : List ℕ × List ℕ) → length r.0 + 1 + length r.1 ≡ length line → (b : Bool) → bytes_eq r.0 undecided.word ≡ b → (if b then number_of 0 1000000 r.1 else None) ≡ Some n → length line ≤ 79
  worded r l true p e = omega (arith, l, ap length (same_bytes r.0 undecided.word p), digits 7 0 1000000 r.1 n (omega arith) (omega arith) (omega arith) e)
  worded r l false p e = absurd (none-some n e)

  go : (o : Option (List ℕ × List ℕ)) → cut_at 32 line ≡ o → count_in undecided o ≡ Some n → length line ≤ 79
  go None p e = absurd (none-some n e)
  go (Some r) p e = worded r (cut_length 32 line r p) (bytes_eq r.0 undecided.word) refl e

split_short : (text : List ℕ) (x : CertLine) → split_of text ≡ Some x → length text ≤ 77
split_short text x h =
    let c = cut_some (cut_at 32 text) (λ r. option_and_then (λ dye. option_map (λ mid. Split dye mid) (number_of 0 4000 r.1)) (number_of 1 12 r.0)) x h in
    let d = number_some (number_of 1 12 c.0.0) (λ dye. option_map (λ mid. Split dye mid) (number_of 0 4000 c.0.1)) c.2 in
    let m = map_some (λ mid. Split d.0 mid) (number_of 0 4000 c.0.1) x d.2 in
    let first = digits 2 1 12 c.0.0 d.0 (omega arith) (omega arith) (omega arith) d.1 in
    let last = digits 4 0 4000 c.0.1 m.0 (omega arith) (omega arith) (omega arith) m.1 in
    omega (arith, cut_length 32 text c.0 c.1, first, last)
  where
    number_some : (o : Option ℕ) (f : ℕ → Option CertLine) → option_and_then f o ≡ Some x → (n : ℕ) × (o ≡ Some n) × (f n ≡ Some x)
    number_some None f e = absurd (none-some x e)
    number_some (Some n) f e = (n, refl, e)

lettered_short : (letter : ℕ) (text : List ℕ) (x : CertLine) → lettered_line letter text ≡ Some x → length text ≤ 77
lettered_short letter text x h = go (letter == 115) (letter == 120) (letter == 102) h where
  go : (a b c : Bool) → (if a then split_of text else (if b then option_map (λ k. Limit k) (number_of 1 5 text) else (if c then option_map (λ j. Fail j) (number_of 1 4 text) else None))) ≡ Some x → length text ≤ 77
  go true b c e = split_short text x e
  go false true c e = let m = map_some (λ k. Limit k) (number_of 1 5 text) x e in omega (arith, digits 1 1 5 text m.0 (omega arith) (omega arith) (omega arith) m.1)
  go false false true e = let m = map_some (λ j. Fail j) (number_of 1 4 text) x e in omega (arith, digits 1 1 4 text m.0 (omega arith) (omega arith) (omega arith) m.1)
  go false false false e = absurd (none-some x e)

line_short : (line : List ℕ) (x : CertLine) → line_of line ≡ Some x → length line ≤ 79
line_short [] x e = omega arith
line_short (letter ∷ []) x e = omega arith
line_short (letter ∷ (space ∷ text)) x h = go (space == 32) h where
  go : (q : Bool) → (if q then lettered_line letter text else None) ≡ Some x → length (letter ∷ (space ∷ text)) ≤ 79
  go true e = omega (arith, lettered_short letter text x e)
  go false e = absurd (none-some x e)

-- no value is read from a long line
unread : {A : Type 0} (line : List ℕ) (o : Option A) → 80 ≤ length line → ((x : A) → o ≡ Some x → length line ≤ 79) → o ≡ None
unread line None long short = refl
unread line (Some x) long short = absurd (let s = short x refl in omega (arith, long, s))

-- two lines of which no value is read
same_none : {A : Type 0} (a b : Option A) → a ≡ None → b ≡ None → a ≡ b
same_none a b p q = p ∙ sym q

-- two long lines have the same fault
pub long_same : (d : Draft) (a b : List ℕ) (lines : List (List ℕ)) (left : List ℕ) → d.dims ≤ 12 → 80 ≤ length a → 80 ≤ length b → still d (a ∷ lines) left ≡ still d (b ∷ lines) left
long_same d a b lines left few la lb = go d.part where
  both : {A : Type 0} (kind : List ℕ → Option A) → ((line : List ℕ) (x : A) → kind line ≡ Some x → length line ≤ 79) → kind a ≡ kind b
  both kind short = same_none (kind a) (kind b) (unread a (kind a) la (short a)) (unread b (kind b) lb (short b))

  next : Cursor
  next = record { number = d.number + 1; lines = lines; left = left }

  go : (q : Part) → still_at d.dims d.claim (recipes d) d.lines.items q (record { number = d.number; lines = a ∷ lines; left = left })
      ≡ still_at d.dims d.claim (recipes d) d.lines.items q (record { number = d.number; lines = b ∷ lines; left = left })
  go parts.Header = ap (λ o. line_result d.number BadHeader o next >>= then_claim cert_form made d.dims) (both (header_of cert_form.header) header_short)
  go parts.Claim = ap (λ o. line_result d.number BadClaim o next >>= then_lists cert_form made d.dims) (both (claim_of d.dims) (λ line x. claim_short d.dims line x few))
  go parts.Count =
      ap (λ o. line_result d.number BadClaim o next >>= λ count. recipes_at d.dims count.0 count.1 >>= λ listed. lists_then d.dims [] (λ more. then_tree made d.claim (listed.0 ∷ more)) listed.1)
      (both (count_of undecided) count_short)
  go (parts.Recipe more) =
      ap (λ o. with_prefix (recipes d) (line_result d.number BadLine o next >>= λ r. recipes_at d.dims more r.1 >>= λ rs. Ok (r.0 ∷ rs.0, rs.1)) >>= then_list d.claim)
      (both (recipe_of d.dims) (λ line x e. omega (arith, recipe_short d.dims line x few e)))
  go (parts.Tree zero) = refl
  go (parts.Tree (suc k)) =
      ap (λ o. with_prefix d.lines.items (line_then d.number o (λ line. trees_from (parts_of line + k) (d.number + 1) lines left)) >>= then_end made d.claim (recipes d ∷ []))
      (both line_of line_short)
