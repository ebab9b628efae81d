-- A text that is read is the spelling of what is read.
use Rattle.std.proofs.Common.{◌≡◌, ◌==◌, ℕ, zero, suc, ◌+◌, ◌<◌, Bool, true, false, List, [], ◌∷◌, ◌++◌, length, flat_map, refl, sym, ap, ◌∙◌, subst, arith, append_assoc, decimal, if◌then◌else◌}
use Rattle.std.specs.Prelude.{Option, Some, None, Result, Ok, Err, option_map, option_and_then}
use Rattle.std.specs.Str.{bytes_eq}
use Rattle.std.proofs.lemmas.Slice.Eq.{bytes_eq-Decides}
use Rattle.std.proofs.lemmas.Option.{none-some}
use Rattle.box_specs.specs.declared.certificate.CertFault.{CertFault}
use Rattle.box_specs.specs.declared.certificate.CertLine.{CertLine}
use Rattle.box_specs.specs.declared.certificate.CertLine.TheVariants.{Dear, Fail, Limit, Pass, Split, Undecided}
use Rattle.box_specs.specs.declared.certificate.CertRule.{CertRule}
use Rattle.box_specs.specs.declared.certificate.CertRule.TheVariants.{BadLine}
use Rattle.box_cert.specs.Lines.{cut_at, lettered_line, line_of, number_before, numbers_at, recipe_of, split_of}
use Rattle.box_cert.specs.Numbers.{number_of}
use Rattle.box_cert.specs.LineTexts.{as_line, line_text, lines_text, numbers_text, recipes_text}
use Rattle.box_cert.specs.Reading.{◌>>=◌, Cursor, byte_first, line_result, line_then, lines_of, next_of, nothing_left, parts_of, recipes_at, trees_from}
use Rattle.box_specs.specs.Validity.{are_trees}
use Rattle.box_cert.proofs.Cuts.{cut_takes, is_it, some_same}
use Rattle.box_cert.proofs.Prefixes.{shape_on}
use Rattle.box_cert.proofs.Numerals.{number_takes}

err_ok : {A : Type 0} (e : CertFault) (x : A) → Err e ≡ Ok x → ⊥
err_ok e x h = cc

ok_or : {A : Type 0} → A → Result A CertFault → A
ok_or d (Err e) = d
ok_or d (Ok x) = x

abbrev good : {A : Type 0} → A → Result A CertFault
good x = Ok x

ok_same : {A : Type 0} (x y : A) → good x ≡ good y → x ≡ y
unfolding ok_or
ok_same x y h = ap (ok_or x) h

-- an accepted reading of two steps: the first read some x, and the second, given x, read y
pub bind_ok : {A B : Type 0} (r : Result A CertFault) (f : A → Result B CertFault) (y : B) → (r >>= f) ≡ Ok y → (x : A) × (r ≡ Ok x) × (f x ≡ Ok y)
bind_ok (Ok x) f y h = (x, refl, h)
bind_ok (Err e) f y h = absurd (err_ok e y h)

pub map_some : {A B : Type 0} (f : A → B) (o : Option A) (y : B) → option_map f o ≡ Some y → (x : A) × (o ≡ Some x) × (f x ≡ y)
map_some f None y h = absurd (none-some y h)
map_some f (Some x) y h = (x, refl, some_same (f x) y h)

then_some : {A B : Type 0} (f : A → Option B) (o : Option A) (y : B) → option_and_then f o ≡ Some y → (x : A) × (o ≡ Some x) × (f x ≡ Some y)
then_some f None y h = absurd (none-some y h)
then_some f (Some x) y h = (x, refl, h)

-- where numbers are read, the first was read, and so were the others
first_read : (o : Option ℕ) (more : Option (List ℕ)) (ns : List ℕ) → number_before o more ≡ Some ns → (n : ℕ) × (ms : List ℕ) × (o ≡ Some n) × (more ≡ Some ms) × (ns ≡ n ∷ ms)
first_read None more ns h = absurd (none-some ns h)
first_read (Some n) more ns h = let m = map_some (λ xs. n ∷ xs) more ns h in (n, m.0, refl, m.1, sym m.2)

spaced : (n : ℕ) (ns : List ℕ) → 0 < length ns → numbers_text (n ∷ ns) ≡ decimal n ++ (32 ∷ numbers_text ns)
spaced n [] h = absurd (omega arith)
spaced n (m ∷ ns) h = refl

-- a recipe that is read
pub record AreSpelled (k : ℕ) (text : List ℕ) (ns : List ℕ) : Type 0 where
  pub is : text ≡ numbers_text ns
  pub count : length ns ≡ suc k

-- a text that is read as k + 1 numbers is their spelling
pub numbers_takes : (k : ℕ) (text ns : List ℕ) → numbers_at k text ≡ Some ns → AreSpelled k text ns
numbers_takes zero text ns h =
    let m = map_some (λ n. n ∷ []) (number_of 0 4000 text) ns h in
    let s = number_takes 0 4000 text m.0 (omega arith) m.1 in
    record { is = s.is ∙ ap numbers_text m.2; count = sym (ap length m.2) }
numbers_takes (suc k) text ns h =
    let c = then_some (λ r. number_before (number_of 0 4000 r.0) (numbers_at k r.1)) (cut_at 32 text) ns h in
    let r = c.0 in
    let f = first_read (number_of 0 4000 r.0) (numbers_at k r.1) ns c.2 in
    let s = number_takes 0 4000 r.0 f.0 (omega arith) f.2 in
    let more = numbers_takes k r.1 f.1 f.3 in
    record {
      is = cut_takes 32 text r c.1 ∙ ap (λ w. w ++ (32 ∷ r.1)) s.is ∙ ap (λ t. decimal f.0 ++ (32 ∷ t)) more.is ∙ sym (spaced f.0 f.1 (omega (arith, more.count))) ∙ ap numbers_text (sym f.4);
      count = ap length f.4 ∙ ap suc more.count;
    }

pub recipe_takes : (dims : ℕ) (text ns : List ℕ) → recipe_of dims text ≡ Some ns → text ≡ numbers_text ns
recipe_takes zero text ns h = absurd (none-some ns h)
recipe_takes (suc k) text ns h = (numbers_takes k text ns h).is

-- a text that is read as a line of a tree is its spelling
pub line_takes : (text : List ℕ) (line : CertLine) → line_of text ≡ Some line → text ≡ line_text line
unfolding line_text
line_takes [] line h = absurd (none-some line h)
line_takes (letter ∷ []) line h = first (letter == 100) (letter == 117) (letter == 112) refl refl refl h where
  first : (a b c : Bool) → (letter == 100) ≡ a → (letter == 117) ≡ b → (letter == 112) ≡ c
      → (if a then Some Dear else (if b then Some Undecided else (if c then Some Pass else None))) ≡ Some line → letter ∷ [] ≡ line_text line
  first true b c p q r e = ap (λ x. x ∷ []) (is_it letter 100 p) ∙ ap line_text (some_same Dear line e)
  first false true c p q r e = ap (λ x. x ∷ []) (is_it letter 117 q) ∙ ap line_text (some_same Undecided line e)
  first false false true p q r e = ap (λ x. x ∷ []) (is_it letter 112 r) ∙ ap line_text (some_same Pass line e)
  first false false false p q r e = absurd (none-some line e)
line_takes (letter ∷ (space ∷ text)) line h = second (space == 32) refl h where
  limit : option_map (λ k. Limit k) (number_of 1 5 text) ≡ Some line → 120 ∷ (32 ∷ text) ≡ line_text line
  limit e =
      let m = map_some (λ k. Limit k) (number_of 1 5 text) line e in
      ap (λ t. 120 ∷ (32 ∷ t)) (number_takes 1 5 text m.0 (omega arith) m.1).is ∙ ap line_text m.2

  light : option_map (λ k. Fail k) (number_of 1 4 text) ≡ Some line → 102 ∷ (32 ∷ text) ≡ line_text line
  light e =
      let m = map_some (λ k. Fail k) (number_of 1 4 text) line e in
      ap (λ t. 102 ∷ (32 ∷ t)) (number_takes 1 4 text m.0 (omega arith) m.1).is ∙ ap line_text m.2

  split : split_of text ≡ Some line → 115 ∷ (32 ∷ text) ≡ line_text line
  split e =
      let c = then_some (λ r. option_and_then (λ dye. option_map (λ mid. Split dye mid) (number_of 0 4000 r.1)) (number_of 1 12 r.0)) (cut_at 32 text) line e in
      let r = c.0 in
      let d = then_some (λ dye. option_map (λ mid. Split dye mid) (number_of 0 4000 r.1)) (number_of 1 12 r.0) line c.2 in
      let m = map_some (λ mid. Split d.0 mid) (number_of 0 4000 r.1) line d.2 in
      let dye = number_takes 1 12 r.0 d.0 (omega arith) d.1 in
      let mid = number_takes 0 4000 r.1 m.0 (omega arith) m.1 in
      ap (λ t. 115 ∷ (32 ∷ t)) (cut_takes 32 text r c.1 ∙ ap (λ w. w ++ (32 ∷ r.1)) dye.is ∙ ap (λ w. decimal d.0 ++ (32 ∷ w)) mid.is) ∙ ap line_text m.2

  third : (a b c : Bool) → (letter == 115) ≡ a → (letter == 120) ≡ b → (letter == 102) ≡ c
      → (if a then split_of text else (if b then option_map (λ k. Limit k) (number_of 1 5 text) else (if c then option_map (λ j. Fail j) (number_of 1 4 text) else None))) ≡ Some line
      → letter ∷ (32 ∷ text) ≡ line_text line
  third true b c p q r e = ap (λ x. x ∷ (32 ∷ text)) (is_it letter 115 p) ∙ split e
  third false true c p q r e = ap (λ x. x ∷ (32 ∷ text)) (is_it letter 120 q) ∙ limit e
  third false false true p q r e = ap (λ x. x ∷ (32 ∷ text)) (is_it letter 102 r) ∙ light e
  third false false false p q r e = absurd (none-some line e)

  second : (b : Bool) → (space == 32) ≡ b → (if b then lettered_line letter text else None) ≡ Some line → letter ∷ (space ∷ text) ≡ line_text line
  second true p e = ap (λ x. letter ∷ (x ∷ text)) (is_it space 32 p) ∙ third (letter == 115) (letter == 120) (letter == 102) refl refl refl e
  second false p e = absurd (none-some line e)

pub same_bytes : (a b : List ℕ) → bytes_eq a b ≡ true → a ≡ b
same_bytes a b h = (bytes_eq-Decides a b).0 h

-- the text that is still to be read
abbrev pub text_at : List (List ℕ) → List ℕ → List ℕ
text_at lines left = flat_map (λ line. as_line line) lines ++ left

abbrev pub text_of : Cursor → List ℕ
text_of p = text_at p.lines p.left

joined_first : (b : ℕ) (r : List (List ℕ) × List ℕ) (bs : List ℕ) → text_at r.0 r.1 ≡ bs → text_at (byte_first b r).0 (byte_first b r).1 ≡ b ∷ bs
joined_first b ([], left) bs h = ap (λ t. b ∷ t) h
joined_first b ((line ∷ lines), left) bs h = ap (λ t. b ∷ t) h

-- the lines of a text together are the text
pub lines_joined : (text : List ℕ) → text_at (lines_of text).0 (lines_of text).1 ≡ text
lines_joined [] = refl
lines_joined (b ∷ bs) = go (b == 10) refl (lines_of bs) (lines_joined bs) where
  go : (q : Bool) → (b == 10) ≡ q → (r : List (List ℕ) × List ℕ) → text_at r.0 r.1 ≡ bs
      → text_at (if q then ([] ∷ r.0, r.1) else byte_first b r).0 (if q then ([] ∷ r.0, r.1) else byte_first b r).1 ≡ b ∷ bs
  go true p r h = ap (λ t. 10 ∷ t) h ∙ ap (λ x. x ∷ bs) (sym (is_it b 10 p))
  go false p r h = joined_first b r bs h

-- a line that was read, and the text after it
pub record Taken {A : Type 0} (kind : List ℕ → Option A) (text : List ℕ) (y : A × Cursor) : Type 0 where
  pub line : List ℕ
  pub is : kind line ≡ Some y.0
  pub joined : text ≡ as_line line ++ text_of y.1

next_taken : {A : Type 0} (rule : CertRule) (kind : List ℕ → Option A) (number : ℕ) (lines : List (List ℕ)) (left : List ℕ) (y : A × Cursor)
    → next_of rule kind (record { number = number; lines = lines; left = left }) ≡ Ok y → Taken kind (text_at lines left) y
next_taken rule kind number [] left y h = absurd (err_ok _ y h)
next_taken rule kind number (line ∷ lines) left y h = go (kind line) refl h where
  q : Cursor
  q = record { number = number + 1; lines = lines; left = left }

  go : (o : Option _) → kind line ≡ o → line_result number rule o (record { number = number + 1; lines = lines; left = left }) ≡ Ok y → Taken kind (text_at (line ∷ lines) left) y
  go None p e = absurd (err_ok _ y e)
  go (Some x) p e =
      let P : (_ × Cursor) → Type 0 = λ z. Taken kind (text_at (line ∷ lines) left) z in
      subst P (ok_same _ y e) (record { line = line; is = p; joined = append_assoc (as_line line) (flat_map (λ l. as_line l) lines) left })

pub next_takes : {A : Type 0} (rule : CertRule) (kind : List ℕ → Option A) (p : Cursor) (y : A × Cursor) → next_of rule kind p ≡ Ok y → Taken kind (text_of p) y
next_takes rule kind p y h = next_taken rule kind p.number p.lines p.left y h

-- the listed recipes
pub record ListTaken (count : ℕ) (text : List ℕ) (y : List (List ℕ) × Cursor) : Type 0 where
  pub joined : text ≡ recipes_text y.0 ++ text_of y.1
  pub many : length y.0 ≡ count

pub recipes_takes : (dims k : ℕ) (p : Cursor) (y : List (List ℕ) × Cursor) → recipes_at dims k p ≡ Ok y → ListTaken k (text_of p) y
recipes_takes dims zero p y h =
    let P : (List (List ℕ) × Cursor) → Type 0 = λ z. ListTaken 0 (text_of p) z in
    subst P (ok_same _ y h) (record { joined = refl; many = refl })
recipes_takes dims (suc k) p y h =
    let a = bind_ok (next_of BadLine (recipe_of dims) p) (λ r. recipes_at dims k r.1 >>= λ rs. Ok (r.0 ∷ rs.0, rs.1)) y h in
    let r = a.0 in
    let b = bind_ok (recipes_at dims k r.1) (λ rs. Ok (r.0 ∷ rs.0, rs.1)) y a.2 in
    let t = next_takes BadLine (recipe_of dims) p r a.1 in
    let more = recipes_takes dims k r.1 b.0 b.1 in
    let P : (List (List ℕ) × Cursor) → Type 0 = λ z. ListTaken (suc k) (text_of p) z in
    subst P (ok_same _ y b.2) (record {
      joined = t.joined ∙ ap (λ l. as_line l ++ text_of r.1) (recipe_takes dims t.line r.0 t.is) ∙ ap (λ m. as_line (numbers_text r.0) ++ m) more.joined
          ∙ sym (append_assoc (as_line (numbers_text r.0)) (recipes_text b.0.0) (text_of b.0.1));
      many = ap suc more.many;
    })

-- where trees are read, the text is the spelling of their lines and then what is left
pub trees_take : (k number : ℕ) (lines : List (List ℕ)) (left : List ℕ) (y : List CertLine × Cursor) → trees_from k number lines left ≡ Ok y → text_at lines left ≡ lines_text y.0 ++ text_of y.1
trees_take zero number lines left y h =
    let P : (List CertLine × Cursor) → Type 0 = λ z. text_at lines left ≡ lines_text z.0 ++ text_of z.1 in
    subst P (ok_same _ y h) refl
trees_take (suc k) number [] left y h = absurd (err_ok _ y h)
trees_take (suc k) number (text ∷ lines) left y h = go (line_of text) refl (λ line z. trees_take (parts_of line + k) (number + 1) lines left z) h where
  go : (o : Option CertLine) → line_of text ≡ o
      → ((line : CertLine) (z : List CertLine × Cursor) → trees_from (parts_of line + k) (number + 1) lines left ≡ Ok z → text_at lines left ≡ lines_text z.0 ++ text_of z.1)
      → line_then number o (λ line. trees_from (parts_of line + k) (number + 1) lines left) ≡ Ok y → text_at (text ∷ lines) left ≡ lines_text y.0 ++ text_of y.1
  go None p more e = absurd (err_ok _ y e)
  go (Some line) p more e =
      let b = bind_ok (trees_from (parts_of line + k) (number + 1) lines left) (λ r. Ok (line ∷ r.0, r.1)) y e in
      let z = b.0 in
      let P : (List CertLine × Cursor) → Type 0 = λ z. text_at (text ∷ lines) left ≡ lines_text z.0 ++ text_of z.1 in
      subst P (ok_same _ y b.2)
      (append_assoc (as_line text) (flat_map (λ l. as_line l) lines) left
      ∙ ap (λ l. as_line l ++ text_at lines left) (line_takes text line p) ∙ ap (λ m. as_line (line_text line) ++ m) (more line z b.1)
      ∙ sym (append_assoc (as_line (line_text line)) (lines_text z.0) (text_of z.1)))

-- the lines of trees that are read are so many trees
pub trees_whole : (k number : ℕ) (lines : List (List ℕ)) (left : List ℕ) (y : List CertLine × Cursor) → trees_from k number lines left ≡ Ok y → are_trees k y.0 ≡ true
trees_whole zero number lines left y h =
    let P : (List CertLine × Cursor) → Type 0 = λ z. are_trees 0 z.0 ≡ true in
    subst P (ok_same _ y h) refl
trees_whole (suc k) number [] left y h = absurd (err_ok _ y h)
trees_whole (suc k) number (text ∷ lines) left y h = go (line_of text) (λ line z. trees_whole (parts_of line + k) (number + 1) lines left z) h where
  go : (o : Option CertLine) → ((line : CertLine) (z : List CertLine × Cursor) → trees_from (parts_of line + k) (number + 1) lines left ≡ Ok z → are_trees (parts_of line + k) z.0 ≡ true)
      → line_then number o (λ line. trees_from (parts_of line + k) (number + 1) lines left) ≡ Ok y → are_trees (suc k) y.0 ≡ true
  go None more e = absurd (err_ok _ y e)
  go (Some line) more e =
      let b = bind_ok (trees_from (parts_of line + k) (number + 1) lines left) (λ r. Ok (line ∷ r.0, r.1)) y e in
      let P : (List CertLine × Cursor) → Type 0 = λ z. are_trees (suc k) z.0 ≡ true in
      subst P (ok_same _ y b.2) (shape_on k line b.0.0 ∙ more line b.0 b.1)

-- the end of a text
pub record IsEnd {A : Type 0} (c d : A) (lines : List (List ℕ)) (left : List ℕ) : Type 0 where
  pub same : c ≡ d
  pub none : text_at lines left ≡ []

pub end_takes : {A : Type 0} (c d : A) (number : ℕ) (lines : List (List ℕ)) (left : List ℕ) → nothing_left c number lines left ≡ Ok d → IsEnd c d lines left
end_takes c d number [] [] h = record { same = ok_same c d h; none = refl }
end_takes c d number [] (b ∷ bs) h = absurd (err_ok _ d h)
end_takes c d number (line ∷ lines) left h = absurd (err_ok _ d h)
