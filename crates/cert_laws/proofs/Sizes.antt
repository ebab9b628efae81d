-- How many lines the certificate of a search has, and of which kinds.
use Rattle.std.proofs.Common.{◌≡◌, ◌+◌, ◌*◌, ◌≤◌, ℕ, List, [], ◌∷◌, ◌++◌, Bool, true, false, length, if◌then◌else◌, sym, subst, length-append, arith}
use Rattle.std.proofs.lemmas.Bool.{false≢true}
use Rattle.box_specs.specs.declared.certificate.CertLine.{CertLine}
use Rattle.box_specs.specs.declared.certificate.CertLine.TheVariants.{Dear, Fail, Limit, Pass, Split, Undecided}
use Rattle.box_specs.specs.Canonical.{line_of, lines}
use Rattle.box_specs.specs.Landscape.{Land, is_before}
use Rattle.box_specs.specs.Span.{Span}
use Rattle.box_specs.specs.Splits.{cut_of}
use Rattle.box_specs.specs.Tree.{Tree, count, fork, leaf}
use Rattle.box_specs.specs.Validity.{after, corners, is_undecided_line}
use Rattle.box_specs.specs.Order.{in_order, put_in}
use Rattle.box_search.specs.Trees.{IsSoundTree}
use Rattle.box_search.proofs.Walks.{is_end, leaf_line, open_line}

-- the most bytes that a line takes with its line feed
abbrev pub line_size : CertLine → ℕ
line_size (Split dye mid) = 10
line_size (Limit k) = 4
line_size (Fail j) = 4
line_size Dear = 2
line_size Undecided = 2
line_size Pass = 2

abbrev pub undecided_size : CertLine → ℕ
undecided_size x = if is_undecided_line x then 1 else 0

abbrev pub total : (CertLine → ℕ) → List CertLine → ℕ
total size [] = 0
total size (x ∷ xs) = size x + total size xs

total_append : (size : CertLine → ℕ) (xs ys : List CertLine) → total size (xs ++ ys) ≡ total size xs + total size ys
total_append size [] ys = omega arith
total_append size (x ∷ xs) ys =
    let rest = total_append size xs ys in
    omega (arith, rest)

-- bounds by a number n of judged boxes: on the bytes of the lines, with 60 more for each undecided
-- line, on the number of lines, and on the number of undecided lines
pub record Sizes (xs : List CertLine) (n : ℕ) : Type 0 where
  pub bytes : total line_size xs + 60 * total undecided_size xs ≤ 36 * n + 26
  pub lines : length xs ≤ 2 * n + 1
  pub undecided : total undecided_size xs ≤ n

end_sizes : (x : CertLine) → is_end x ≡ true → Sizes (x ∷ []) 1
end_sizes (Split dye mid) h = absurd (false≢true h)
end_sizes (Limit k) h = record { bytes = omega arith; lines = omega arith; undecided = omega arith }
end_sizes (Fail j) h = record { bytes = omega arith; lines = omega arith; undecided = omega arith }
end_sizes Dear h = record { bytes = omega arith; lines = omega arith; undecided = omega arith }
end_sizes Undecided h = record { bytes = omega arith; lines = omega arith; undecided = omega arith }
end_sizes Pass h = record { bytes = omega arith; lines = omega arith; undecided = omega arith }

dear_sizes : (n : ℕ) → Sizes (Dear ∷ []) n
dear_sizes n = record { bytes = omega arith; lines = omega arith; undecided = omega arith }

split_sizes : (dye mid m n : ℕ) (xs ys : List CertLine) → Sizes xs m → Sizes ys n → Sizes (Split dye mid ∷ (xs ++ ys)) (1 + (m + n))
split_sizes dye mid m n xs ys h k =
    let b = total_append line_size xs ys in
    let u = total_append undecided_size xs ys in
    let c = length-append xs ys in
    record { bytes = omega (arith, h.bytes, k.bytes, b, u); lines = omega (arith, h.lines, k.lines, c); undecided = omega (arith, h.undecided, k.undecided, u) }

module _ (l : Land) where
  pub tree_sizes : (judged : ℕ → Span → Bool) (t : Tree) (k : ℕ) → IsSoundTree l t → Sizes (lines l judged k t) (count judged k t)
  tree_sizes judged (leaf b) k i = go (judged k b) where
    go : (c : Bool) → Sizes ((if c then line_of l b else Dear) ∷ []) (if c then 1 else 0)
    go true = end_sizes (line_of l b) (leaf_line l b i.1)
    go false = dear_sizes 0
  tree_sizes judged (fork b s t) k i = go (judged k b) (tree_sizes judged s (k + 1) i.4) (tree_sizes judged t (k + 1) i.5) where
    xs : List CertLine
    xs = lines l judged (k + 1) s

    ys : List CertLine
    ys = lines l judged (k + 1) t

    m : ℕ
    m = count judged (k + 1) s

    n : ℕ
    n = count judged (k + 1) t

    go : (c : Bool) → Sizes xs m → Sizes ys n → Sizes (if c then line_of l b ∷ (xs ++ ys) else Dear ∷ []) ((if c then 1 else 0) + (m + n))
    go true h g = subst (λ x. Sizes (x ∷ (xs ++ ys)) (1 + (m + n))) (sym (open_line l b i.1)) (split_sizes ((cut_of b).dye + 1) (cut_of b).mid m n xs ys h g)
    go false h g = dear_sizes (0 + (m + n))

  -- a list grows by at most one recipe where one is put in
  put_few : (r : List ℕ) (xs : List (List ℕ)) → length (put_in l r xs) ≤ 1 + length xs
  put_few r [] = omega arith
  put_few r (x ∷ xs) = go (put_few r xs) (is_before l r x) (is_before l x r) where
    go : length (put_in l r xs) ≤ 1 + length xs → (s t : Bool) → length (if s then r ∷ x ∷ xs else if t then x ∷ put_in l r xs else x ∷ xs) ≤ 1 + length (x ∷ xs)
    go h true t = omega arith
    go h false true = omega (arith, h)
    go h false false = omega arith

  -- a list that is put in order has no more recipes than before
  pub order_few : (xs : List (List ℕ)) → length (in_order l xs) ≤ length xs
  order_few [] = omega arith
  order_few (x ∷ xs) =
      let put = put_few x (in_order l xs) in
      let rest = order_few xs in
      omega (arith, put, rest)

-- at most as many recipes are listed as there are undecided lines
pub corners_few : (bs : List Span) (xs : List CertLine) → length (corners is_undecided_line bs xs) ≤ total undecided_size xs
corners_few bs [] = omega arith
corners_few [] (x ∷ xs) = omega arith
corners_few (b ∷ bs) (x ∷ xs) = go (corners_few (after b bs x) xs) (is_undecided_line x) where
  cs : List (List ℕ)
  cs = corners is_undecided_line (after b bs x) xs

  go : length cs ≤ total undecided_size xs → (t : Bool) → length (if t then b.lo ∷ cs else cs) ≤ (if t then 1 else 0) + total undecided_size xs
  go h true = omega (arith, h)
  go h false = omega (arith, h)
