-- One more line of a tree.
use Rattle.std.proofs.Common.{◌≡◌, ℕ, suc, ◌+◌, ◌-◌, ◌<◌, List, [], ◌∷◌, ◌++◌, sym, ap, ◌∙◌, arith, append_assoc}
use Rattle.std.specs.Prelude.{Result, Ok}
use Rattle.box_specs.specs.Validity.{are_trees}
use Rattle.box_specs.specs.declared.certificate.CertFault.{CertFault}
use Rattle.box_specs.specs.declared.certificate.CertLine.{CertLine}
use Rattle.box_specs.specs.declared.certificate.CertRule.TheVariants.{BadLine}
use Rattle.box_cert.specs.declared.fault.CertError.{CertError}
use Rattle.box_cert.specs.Lines.{line_of}
use Rattle.box_cert.specs.Reading.{◌>>=◌, Cursor, FailsAs, next_of, parts_of, trees_at, with_prefix}
use Rattle.box_cert.proofs.Prefixes.{fails_as, fails_then, onto, prefix_more, shape_on, trees_next}

module _ (w : ℕ) (xs : List CertLine) (p : Cursor) (all : Result (List CertLine × Cursor) CertFault) (some : 0 < w) (h : with_prefix xs (trees_at w p) ≡ all) where
  abbrev then_tree : CertLine × Cursor → Result (List CertLine × Cursor) CertFault
  then_tree r = onto r.0 (trees_at (parts_of r.0 + (w - 1)) r.1)

  opened : trees_at w p ≡ (next_of BadLine line_of p >>= then_tree)
  opened = let e : w ≡ suc (w - 1) = omega (arith, some) in ap (λ v. trees_at v p) e ∙ trees_next (w - 1) p.number p.lines p.left

  -- one more line was read
  pub tree_step : (x : CertLine) (parts : ℕ) (q : Cursor) → next_of BadLine line_of p ≡ Ok (x, q) → parts ≡ parts_of x
      → with_prefix (xs ++ x ∷ []) (trees_at (parts + (w - 1)) q) ≡ all
  tree_step x parts q read same =
      prefix_more xs x (trees_at (parts + (w - 1)) q)
      ∙ ap (with_prefix xs) (ap (λ k. onto x (trees_at (k + (w - 1)) q)) same ∙ sym (opened ∙ ap (λ r. r >>= then_tree) read))
      ∙ h

  -- the line is missing or has a fault
  pub tree_fails : (e : CertError) → FailsAs e (next_of BadLine line_of p) → FailsAs e all
  tree_fails e f =
      fails_as e _ all (sym (ap (with_prefix xs) opened) ∙ h)
      (fails_then e (next_of BadLine line_of p >>= then_tree) (λ r. Ok (xs ++ r.0, r.1)) (fails_then e (next_of BadLine line_of p) then_tree f))

-- where w trees must follow the lines so far, after one more line its parts and w - 1 trees must
pub shape_step : (w : ℕ) (xs : List CertLine) (x : CertLine) (parts : ℕ) → 0 < w → parts ≡ parts_of x
    → ((more : List CertLine) → are_trees 1 (xs ++ more) ≡ are_trees w more) → (more : List CertLine) → are_trees 1 ((xs ++ x ∷ []) ++ more) ≡ are_trees (parts + (w - 1)) more
shape_step w xs x parts some same shape more =
    let e : w ≡ suc (w - 1) = omega (arith, some) in
    ap (are_trees 1) (append_assoc xs (x ∷ []) more) ∙ shape (x ∷ more) ∙ ap (λ v. are_trees v (x ∷ more)) e ∙ shape_on (w - 1) x more
    ∙ ap (λ k. are_trees (k + (w - 1)) more) (sym same)
