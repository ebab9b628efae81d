-- The bytes before the first mark, and those after it.
use Rattle.std.proofs.Common.{◌≡◌, ℕ, zero, suc, ◌+◌, Bool, true, false, not, cond, nat_lt, List, [], ◌∷◌, ◌++◌, length, take, drop, refl, sym, ap, ◌∙◌, arith, subst, length-append, if◌then◌else◌}
use Rattle.std.specs.Prelude.{Option, Some, None, option_map, unwrap_or}
use Rattle.std.specs.List.{position, prefix_len}
use Rattle.std.proofs.lemmas.Bool.Decides.{nat_tests}
use Rattle.std.proofs.lemmas.Option.{none-some}
use Rattle.box_cert.specs.Lines.{cut_at, is_mark}

abbrev pub parts : List ℕ → ℕ → List ℕ × List ℕ
parts text at = (take at text, drop (at + 1) text)

abbrev pub onto : ℕ → List ℕ × List ℕ → List ℕ × List ℕ
onto b r = (b ∷ r.0, r.1)

lt_suc : (n : ℕ) → nat_lt 0 (suc n) ≡ true
lt_suc n = grind (arith, nat_tests)

lt_same : (p n : ℕ) → nat_lt (1 + p) (suc n) ≡ nat_lt p n
lt_same p n = go (nat_lt p n) refl where
  go : (q : Bool) → nat_lt p n ≡ q → nat_lt (1 + p) (suc n) ≡ q
  go true e = grind (arith, nat_tests)
  go false e = grind (arith, nat_tests)

parts_more : (b : ℕ) (bs : List ℕ) (p : ℕ) → onto b (parts bs p) ≡ parts (b ∷ bs) (1 + p)
parts_more b bs p = let e : 1 + p ≡ suc p = omega arith in let f : suc p + 1 ≡ suc (p + 1) = omega arith in rw (e, f) refl

pub cut_is : (mark : ℕ) (text : List ℕ) → cut_at mark text ≡ option_map (parts text) (position (is_mark mark) text)
cut_is mark [] = refl
cut_is mark (b ∷ bs) = go (is_mark mark b) (cut_is mark bs) where
  p : ℕ
  p = prefix_len (λ x. not (is_mark mark x)) bs

  later : (q : Bool) → option_map (onto b) (option_map (parts bs) (cond q (Some p) None)) ≡ option_map (parts (b ∷ bs)) (cond q (Some (1 + p)) None)
  later true = ap Some (parts_more b bs p)
  later false = refl

  go : (q : Bool) → cut_at mark bs ≡ option_map (parts bs) (position (is_mark mark) bs) → (if q then Some ([], bs) else option_map (onto b) (cut_at mark bs))
      ≡ option_map (parts (b ∷ bs)) (cond (nat_lt (cond (not q) (1 + p) 0) (suc (length bs))) (Some (cond (not q) (1 + p) 0)) None)
  go true h = ap (λ q. option_map (parts (b ∷ bs)) (cond q (Some 0) None)) (sym (lt_suc (length bs)))
  go false h = ap (option_map (onto b)) h ∙ later (nat_lt p (length bs)) ∙ ap (λ q. option_map (parts (b ∷ bs)) (cond q (Some (1 + p)) None)) (sym (lt_same p (length bs)))

pub some_same : {A : Type 0} (x y : A) → Some x ≡ Some y → x ≡ y
some_same x y h = ap (λ o. unwrap_or o x) h

pub is_it : (b mark : ℕ) → is_mark mark b ≡ true → b ≡ mark
is_it b mark h = grind (arith, nat_tests)

-- both parts make the text again, with the mark between
pub cut_takes : (mark : ℕ) (text : List ℕ) (r : List ℕ × List ℕ) → cut_at mark text ≡ Some r → text ≡ r.0 ++ (mark ∷ r.1)
cut_takes mark [] r h = absurd (none-some r h)
cut_takes mark (b ∷ bs) r h = go (is_mark mark b) refl (cut_at mark bs) (cut_takes mark bs) h where
  go : (q : Bool) → is_mark mark b ≡ q → (o : Option (List ℕ × List ℕ)) → ((s : List ℕ × List ℕ) → o ≡ Some s → bs ≡ s.0 ++ (mark ∷ s.1))
      → (if q then Some ([], bs) else option_map (onto b) o) ≡ Some r → b ∷ bs ≡ r.0 ++ (mark ∷ r.1)
  go true is o rest e =
      let P : List ℕ × List ℕ → Type 0 = λ p. b ∷ bs ≡ p.0 ++ (mark ∷ p.1) in
      subst P (some_same ([], bs) r e) (ap (λ x. x ∷ bs) (is_it b mark is))
  go false is None rest e = absurd (none-some r e)
  go false is (Some s) rest e =
      let P : List ℕ × List ℕ → Type 0 = λ p. b ∷ bs ≡ p.0 ++ (mark ∷ p.1) in
      subst P (some_same (onto b s) r e) (ap (λ t. b ∷ t) (rest s refl))

pub cut_length : (mark : ℕ) (text : List ℕ) (r : List ℕ × List ℕ) → cut_at mark text ≡ Some r → length r.0 + 1 + length r.1 ≡ length text
cut_length mark text r h = let e : length text ≡ length (r.0 ++ (mark ∷ r.1)) = ap length (cut_takes mark text r h) in omega (arith, e, length-append r.0 (mark ∷ r.1))

-- the text before a mark has no mark
pub cut_free : (mark : ℕ) (text : List ℕ) (r : List ℕ × List ℕ) → cut_at mark text ≡ Some r → cut_at mark r.0 ≡ None
cut_free mark [] r h = absurd (none-some r h)
cut_free mark (b ∷ bs) r h = go (is_mark mark b) refl (cut_at mark bs) (cut_free mark bs) h where
  go : (q : Bool) → is_mark mark b ≡ q → (o : Option (List ℕ × List ℕ)) → ((s : List ℕ × List ℕ) → o ≡ Some s → cut_at mark s.0 ≡ None)
      → (if q then Some ([], bs) else option_map (onto b) o) ≡ Some r → cut_at mark r.0 ≡ None
  go true is o rest e = ap (λ p. cut_at mark p.0) (sym (some_same ([], bs) r e))
  go false is None rest e = absurd (none-some r e)
  go false is (Some s) rest e =
      ap (λ p. cut_at mark p.0) (sym (some_same (onto b s) r e))
      ∙ ap (λ q. if q then Some ([], s.0) else option_map (onto b) (cut_at mark s.0)) is ∙ ap (option_map (onto b)) (rest s refl)

-- what comes before a cut, and before both of its parts
abbrev pub after : List ℕ → List ℕ × List ℕ → List ℕ × List ℕ
after a r = (a ++ r.0, r.1)

-- a text after one without a mark is cut where it is cut alone
pub cut_after : (mark : ℕ) (a text : List ℕ) → cut_at mark a ≡ None → cut_at mark (a ++ text) ≡ option_map (after a) (cut_at mark text)
cut_after mark [] text h = sym (same (cut_at mark text)) where
  same : (o : Option (List ℕ × List ℕ)) → option_map (after []) o ≡ o
  same None = refl
  same (Some r) = refl
cut_after mark (b ∷ bs) text h = go (is_mark mark b) (cut_at mark bs) (cut_after mark bs text) h where
  later : (o : Option (List ℕ × List ℕ)) → option_map (onto b) (option_map (after bs) o) ≡ option_map (after (b ∷ bs)) o
  later None = refl
  later (Some r) = refl

  go : (q : Bool) (o : Option (List ℕ × List ℕ)) → (o ≡ None → cut_at mark (bs ++ text) ≡ option_map (after bs) (cut_at mark text)) → (if q then Some ([], bs) else option_map (onto b) o) ≡ None
      → (if q then Some ([], bs ++ text) else option_map (onto b) (cut_at mark (bs ++ text))) ≡ option_map (after (b ∷ bs)) (cut_at mark text)
  go true o rest e = absurd (none-some ([], bs) (sym e))
  go false None rest e = ap (option_map (onto b)) (rest refl) ∙ later (cut_at mark text)
  go false (Some r) rest e = absurd (none-some (onto b r) (sym e))

-- the beginning of a text without a mark has none
pub cut_take : (mark n : ℕ) (text : List ℕ) → cut_at mark text ≡ None → cut_at mark (take n text) ≡ None
cut_take mark zero text h = refl
cut_take mark (suc n) [] h = refl
cut_take mark (suc n) (b ∷ bs) h = go (is_mark mark b) (cut_at mark bs) (cut_take mark n bs) h where
  go : (q : Bool) (o : Option (List ℕ × List ℕ)) → (o ≡ None → cut_at mark (take n bs) ≡ None) → (if q then Some ([], bs) else option_map (onto b) o) ≡ None
      → (if q then Some ([], take n bs) else option_map (onto b) (cut_at mark (take n bs))) ≡ None
  go true o rest e = absurd (none-some ([], bs) (sym e))
  go false None rest e = ap (option_map (onto b)) (rest refl)
  go false (Some r) rest e = absurd (none-some (onto b r) (sym e))
