-- A certificate of one whole tree is valid exactly where nothing fails.
use Rattle.std.proofs.Common.{◌≡◌, ◌+◌, ◌<◌, ℕ, zero, suc, List, [], ◌∷◌, Bool, true, false, length, get_or, refl, ap, subst, ◌∙◌, arith}
use Rattle.std.specs.Prelude.{All, None}
use Rattle.std.specs.List.{AllByRecursion, Contains}
use Rattle.std.proofs.lemmas.List.{get_or_default}
use Rattle.std.proofs.lemmas.List.Elements.{All-weaker, recursion_from_All}
use Rattle.box_specs.specs.declared.certificate.CertLine.{CertLine}
use Rattle.box_specs.specs.declared.certificate.Claim.{Claim}
use Rattle.box_specs.specs.declared.certificate.Cutoff.{Cutoff}
use Rattle.box_specs.specs.declared.certificate.Cutoff.TheVariants.{Never}
use Rattle.box_specs.specs.Landscape.{Land, is_before}
use Rattle.box_specs.specs.Order.{IsRising}
use Rattle.box_specs.specs.Span.{IsBox, IsWithin}
use Rattle.box_specs.specs.Validity.{FailsUnlessValid, HaveLines, IsValid, are_trees, corners, cutoff_of, first_failure, is_early, is_listed, is_pass_line, is_undecided_line, list_failure, matched_of, or_next, unmarked_failure}
use Rattle.cert_check.proofs.Faults.{hold_if, no_failure, or_none}
use Rattle.cert_check.proofs.Within.{IsGood, ListIsOrdered, list_holds, list_is_ordered, or_wrong, within_test}
use Rattle.box_specs.proofs.Lists.{listed_by, listed_of}

unmarked_none : (l : Land) (us : List (List ℕ)) (n : ℕ) (rs : List (List ℕ)) → unmarked_failure l us n rs ≡ None
    → (k : ℕ) → k < length rs → is_listed us (get_or rs k []) ≡ true
unmarked_none l us n [] h = λ k lt. absurd (omega arith)
unmarked_none l us n (r ∷ rs) h = go (is_listed us r) refl h (λ m. unmarked_none l us (n + 1) rs m) where
  go : (t : Bool) → is_listed us r ≡ t → or_wrong t (unmarked_failure l us (n + 1) rs) n ≡ None
      → (unmarked_failure l us (n + 1) rs ≡ None → (k : ℕ) → k < length rs → is_listed us (get_or rs k []) ≡ true)
      → (k : ℕ) → k < length (r ∷ rs) → is_listed us (get_or (r ∷ rs) k []) ≡ true
  go false e m rest k lt = cc
  go true e m rest zero lt = e
  go true e m rest (suc k) lt = rest m k (omega arith)

marks_hold : (l : Land) (marked : List (List ℕ)) (n : ℕ) (listed : List (List ℕ)) → AllByRecursion (λ r. is_listed marked r ≡ true) listed
    → unmarked_failure l marked n listed ≡ None
marks_hold l marked n [] h = refl
marks_hold l marked n (s ∷ rest) h =
    ap (λ c. or_wrong c (unmarked_failure l marked (n + 1) rest) n) h.0 ∙ marks_hold l marked (n + 1) rest h.1

to_all : (P : List ℕ → Type 0) (xs : List (List ℕ)) → ((k : ℕ) → k < length xs → P (get_or xs k [])) → All P xs
to_all P xs h = λ k d lt. subst P (get_or_default xs k [] d lt) (h k lt)

module _ (l : Land) (box : IsBox l.top) where
  rises : (cutoff : Cutoff) (listed : List (List ℕ)) → ListIsOrdered l cutoff None listed → IsRising l listed
  rises cutoff listed o = λ i j d less lt.
      let before : i < length listed = omega (arith, less, lt) in
      subst (λ r. is_before l r (get_or listed j d) ≡ true) (get_or_default listed i [] d before)
      (subst (λ r. is_before l (get_or listed i []) r ≡ true) (get_or_default listed j [] d lt) (o.rising i j less lt))

  -- a list without a failure, each of whose recipes has a mark
  have_lines : (cutoff : Cutoff) (n m : ℕ) (test : CertLine → Bool) (lines : List CertLine) (listed : List (List ℕ))
      → list_failure l cutoff n None listed ≡ None → unmarked_failure l (corners test (l.top ∷ []) lines) m listed ≡ None → HaveLines l test lines listed
  have_lines cutoff n m test lines listed h k =
      let o = list_is_ordered l cutoff n None listed box h in
      let cs = corners test (l.top ∷ []) lines in
      record {
        grid = to_all (λ r. IsWithin r l.top) listed o.grid;
        rising = rises cutoff listed o;
        each = to_all (Contains cs) listed (λ i lt. listed_of cs (get_or listed i []) (unmarked_none l cs m listed k i lt));
      }

  early_is : (cutoff : Cutoff) (n : ℕ) (listed : List (List ℕ)) → list_failure l cutoff n None listed ≡ None → All (λ r. is_early l cutoff r ≡ true) listed
  early_is cutoff n listed h = to_all (λ r. is_early l cutoff r ≡ true) listed (list_is_ordered l cutoff n None listed box h).early

  pub valid_if : (claim : Claim) (listed : List (List ℕ)) (lines : List CertLine) → are_trees 1 lines ≡ true → first_failure l claim listed lines ≡ None
      → IsValid l claim listed lines
  valid_if claim listed lines trees h =
      let one = or_none _ _ h in
      let two = or_none _ _ one.1 in
      let three = or_none _ _ two.1 in
      let four = or_none _ _ three.1 in
      record {
        whole = trees;
        hold = hold_if l (cutoff_of claim) (matched_of claim) listed (4 + length listed) (l.top ∷ []) lines three.0;
        passing = have_lines Never 2 2 is_pass_line lines (matched_of claim) one.0 four.1;
        undecided = have_lines (cutoff_of claim) 4 4 is_undecided_line lines listed two.0 four.0;
        early = early_is (cutoff_of claim) 4 listed two.0;
      }

  -- a list whose recipes are of the grid, rise, and come before the cutoff has no failure
  none_fails : (cutoff : Cutoff) (n : ℕ) (test : CertLine → Bool) (lines : List CertLine) (listed : List (List ℕ)) → HaveLines l test lines listed
      → All (λ r. is_early l cutoff r ≡ true) listed → list_failure l cutoff n None listed ≡ None
  none_fails cutoff n test lines listed h early =
      list_holds l cutoff n listed h.rising (recursion_from_All (IsGood l cutoff) listed
      (λ k d lt. (within_test (get_or listed k d) l.top.lo l.top.hi (h.grid k d lt).0 (h.grid k d lt).1, early k d lt)))

  all_marked : (n : ℕ) (test : CertLine → Bool) (lines : List CertLine) (listed : List (List ℕ)) → HaveLines l test lines listed
      → unmarked_failure l (corners test (l.top ∷ []) lines) n listed ≡ None
  all_marked n test lines listed h =
      let cs = corners test (l.top ∷ []) lines in
      marks_hold l cs n listed (recursion_from_All (λ r. is_listed cs r ≡ true) listed
      (All-weaker (Contains cs) (λ r. is_listed cs r ≡ true) (λ r c. listed_by cs r c) listed h.each))

  pub nothing_fails : (claim : Claim) (listed : List (List ℕ)) (lines : List CertLine) → IsValid l claim listed lines → first_failure l claim listed lines ≡ None
  nothing_fails claim listed lines v =
      let one = none_fails Never 2 is_pass_line lines (matched_of claim) v.passing (λ k d lt. refl) in
      let two = none_fails (cutoff_of claim) 4 is_undecided_line lines listed v.undecided v.early in
      let three = no_failure l (cutoff_of claim) (matched_of claim) listed (4 + length listed) (l.top ∷ []) lines v.hold in
      let four = all_marked 4 is_undecided_line lines listed v.undecided in
      let five = all_marked 2 is_pass_line lines (matched_of claim) v.passing in
      λ i. or_next (one i) (or_next (two i) (or_next (three i) (or_next (four i) (five i))))

pub fails_unless_valid : (l : Land) → FailsUnlessValid l
fails_unless_valid l box claim listed lines = (
  λ v. (v.whole, nothing_fails l box claim listed lines v),
  λ h. valid_if l box claim listed lines h.0 h.1,
)
