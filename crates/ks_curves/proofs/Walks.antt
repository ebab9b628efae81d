-- The values piece by piece are the least interval that holds the values at both ends and at the
-- nodes strictly between.
use Rattle.std.proofs.Common.{◌≡◌, ◌<◌, ◌≤◌, ◌≤ℤ◌, ◌*ℤ◌, ℕ, ℤ, pos, max, List, [], ◌∷◌, All, ⊎_elim, Option, Some, None, refl, sym, ap, subst, ◌∙◌, arith}
use Rattle.std.specs.Bool.{⊤}
use Rattle.std.proofs.lemmas.Int.{ints}
use Rattle.std.proofs.lemmas.Bool.{cases_lt}
use Rattle.std.proofs.lemmas.List.Elements.{All-cons, All-nil}
use Rattle.interval_specs.specs.Ends.{Ends}
use Rattle.interval_specs.specs.Operations.{fraction_of, hull_of}
use Rattle.interval_specs.proofs.Order.{antisym_ℤ, refl_ℤ, trans_ℤ}
use Rattle.interval_specs.proofs.Rounds.{floor_finer, ceil_finer}
use Rattle.ks_curves.specs.BrokenLine.{Node, origin, between_at, value_from, widened, broken_over}
use Rattle.ks_curves.specs.StoredNode.{past_over, IsAdded}
use Rattle.ks_curves.specs.Walk.{joined_ends, piece_over, over_from}
use Rattle.ks_curves.proofs.BrokenLaws.{Within, NodesWithin, within, hull_within, hull_left, hull_right, widened_first, widened_nodes, widened_within}
use Rattle.ks_curves.proofs.Cases.{most_test, not_most_test, less_test, not_less_test}
use Rattle.ks_curves.proofs.Chains.{Chain, from_next, before_next, at_last, piece_is}
use Rattle.ks_curves.proofs.Units.{more_units, once, at_once}

-- ---- the three cases of a step

pub beyond : (before : Option Ends) (a b : Node) (nodes : List Node) (x0 x1 : ℕ) → b.units ≤ x0 → over_from before a (b ∷ nodes) x0 x1 ≡ over_from before b nodes x0 x1
unfolding over_from
beyond before a b nodes x0 x1 h = rw (not_less_test x0 b.units h) refl

pub last_piece : (before : Option Ends) (a b : Node) (nodes : List Node) (x0 x1 : ℕ) → x0 < b.units → x1 ≤ b.units → over_from before a (b ∷ nodes) x0 x1 ≡ joined_ends before (piece_over a b (max x0 a.units) x1)
unfolding over_from
last_piece before a b nodes x0 x1 h k = rw (less_test x0 b.units h, most_test x1 b.units k) refl

pub whole_piece : (before : Option Ends) (a b : Node) (nodes : List Node) (x0 x1 : ℕ) → x0 < b.units → b.units < x1
    → over_from before a (b ∷ nodes) x0 x1 ≡ over_from (Some (joined_ends before (piece_over a b (max x0 a.units) b.units))) b nodes x0 x1
unfolding over_from
whole_piece before a b nodes x0 x1 h k = rw (less_test x0 b.units h, not_most_test x1 b.units k) refl

-- ---- bounds

-- the values before, if any, lie between k and l
abbrev pub OptionWithin : ℤ → ℤ → Option Ends → Type 0
OptionWithin k l None = ⊤
OptionWithin k l (Some e) = Within k l e

joined_within : (k l : ℤ) (before : Option Ends) (e : Ends) → OptionWithin k l before → Within k l e → Within k l (joined_ends before e)
joined_within k l None e h p = p
joined_within k l (Some d) e h p = hull_within k l d e h p

joined_before : (k l : ℤ) (before : Option Ends) (e : Ends) → Within k l (joined_ends before e) → OptionWithin k l before
joined_before k l None e h = tt
joined_before k l (Some d) e h = hull_left k l d e h

joined_last : (k l : ℤ) (before : Option Ends) (e : Ends) → Within k l (joined_ends before e) → Within k l e
joined_last k l None e h = h
joined_last k l (Some d) e h = hull_right k l d e h

-- past the last node neither end falls
pub past_rises : (e : Ends) (u x y : ℕ) → IsAdded e → x ≤ y → ((fraction_of x u e).lo ≤ℤ (fraction_of y u e).lo) × ((fraction_of x u e).hi ≤ℤ (fraction_of y u e).hi)
unfolding fraction_of
past_rises e u x y some le = (
  low (floor_finer 1 u (e.lo *ℤ pos x) (e.lo *ℤ pos y) (once _ _ (more_units e.lo e.lo x y some.not_negative (refl_ℤ e.lo) le))),
  high (ceil_finer 1 u (e.hi *ℤ pos y) (e.hi *ℤ pos x) (at_once _ _ (more_units e.hi e.hi x y (trans_ℤ _ _ _ some.not_negative some.ordered) (refl_ℤ e.hi) le))),
)
  where
    low : {x y : ℤ} → (pos 1 *ℤ x) ≤ℤ y → x ≤ℤ y
    low h = omega (arith, ints)

    high : {x y : ℤ} → x ≤ℤ (pos 1 *ℤ y) → x ≤ℤ y
    high h = omega (arith, ints)

-- what bounds each value bounds the pieces
walk_within : (k l : ℤ) (before : Option Ends) (a : Node) (nodes : List Node) (x0 x1 : ℕ) → Chain IsAdded a nodes → x0 ≤ x1 → a.units ≤ x1 → OptionWithin k l before
    → ((y : ℕ) → a.units ≤ y → x0 ≤ y → y ≤ x1 → Within k l (value_from a nodes y)) → Within k l (over_from before a nodes x0 x1)
unfolding over_from value_from
walk_within k l before a [] x0 x1 chain le reach h each =
    joined_within k l before (past_over a (max x0 a.units) x1) h
    (record { low = (each (max x0 a.units) (omega arith) (omega arith) (omega (arith, le, reach))).low; high = (each x1 reach le (omega arith)).high })
walk_within k l before a (b ∷ nodes) x0 x1 chain le reach h each =
    let W : Ends → Type 0 = Within k l in
    let lt : a.units < b.units = chain.1.0 in
    let later : b.units ≤ x1 → (y : ℕ) → b.units ≤ y → x0 ≤ y → y ≤ x1 → Within k l (value_from b nodes y) =
    λ (r : b.units ≤ x1) (y : ℕ) (p : b.units ≤ y) (q : x0 ≤ y) (s : y ≤ x1). subst W (from_next a b nodes y p) (each y (omega (arith, lt, p)) q s) in
    ⊎_elim
    (λ (inside : x0 < b.units).
    let start : ℕ = max x0 a.units in
    let left : start ≤ x1 → W (between_at a b start) =
    λ (r : start ≤ x1). subst W (piece_is IsAdded a b nodes start chain (omega (arith, inside, lt))) (each start (omega arith) (omega arith) r) in
    ⊎_elim
    (λ (more : b.units < x1).
    let right : W (between_at a b b.units) = subst W (piece_is IsAdded a b nodes b.units chain (omega arith)) (each b.units (omega (arith, lt)) (omega (arith, inside)) (omega (arith, more))) in
    let piece : W (piece_over a b start b.units) = hull_within k l _ _ (left (omega (arith, le, reach))) right in
    subst W (sym (whole_piece before a b nodes x0 x1 inside more))
    (walk_within k l (Some (joined_ends before (piece_over a b start b.units))) b nodes x0 x1 chain.1.1 le (omega (arith, more)) (joined_within k l before _ h piece) (later (omega (arith, more)))))
    (λ (end : x1 ≤ b.units).
    let right : W (between_at a b x1) = subst W (piece_is IsAdded a b nodes x1 chain end) (each x1 reach le (omega arith)) in
    subst W (sym (last_piece before a b nodes x0 x1 inside end)) (joined_within k l before _ h (hull_within k l _ _ (left (omega (arith, le, reach))) right)))
    (cases_lt b.units x1))
    (λ (past : b.units ≤ x0).
    subst W (sym (beyond before a b nodes x0 x1 past)) (walk_within k l before b nodes x0 x1 chain.1.1 le (omega (arith, past, le)) h (later (omega (arith, past, le)))))
    (cases_lt x0 b.units)

-- all later nodes are beyond a
later_nodes : (a : Node) (nodes : List Node) → Chain IsAdded a nodes → All (λ b. a.units < b.units) nodes
later_nodes a [] h = All-nil (λ b. a.units < b.units)
later_nodes a (b ∷ nodes) h =
    All-cons (λ c. a.units < c.units) b nodes h.1.0 (λ i d lt. let far = later_nodes b nodes h.1.1 i d lt in omega (arith, far, h.1.0))

-- what bounds the pieces bounds the values at both ends and at each node strictly between
record Covers (k l : ℤ) (before : Option Ends) (a : Node) (nodes : List Node) (x0 x1 : ℕ) : Type 0 where
  earlier : OptionWithin k l before
  first : a.units ≤ x0 → Within k l (value_from a nodes x0)
  last : Within k l (value_from a nodes x1)
  inner : NodesWithin k l x0 x1 nodes

covers : (k l : ℤ) (before : Option Ends) (a : Node) (nodes : List Node) (x0 x1 : ℕ) → Chain IsAdded a nodes → x0 ≤ x1 → a.units ≤ x1
    → Within k l (over_from before a nodes x0 x1) → Covers k l before a nodes x0 x1
unfolding over_from value_from
covers k l before a [] x0 x1 chain le reach h =
    let start : ℕ = max x0 a.units in
    let past : Within k l (past_over a start x1) = joined_last k l before (past_over a start x1) h in
    let grow = past_rises a.value a.units start x1 chain (omega (arith, le, reach)) in
    record {
      earlier = joined_before k l before (past_over a start x1) h;
      first = λ (from : a.units ≤ x0).
          let same : start ≡ x0 = omega (arith, from) in
          record { low = subst (λ x. k ≤ℤ (fraction_of x a.units a.value).lo) same past.low; high = trans_ℤ _ _ l (past_rises a.value a.units x0 x1 chain le).1 past.high };
      last = record { low = trans_ℤ k _ _ past.low grow.0; high = past.high };
      inner = All-nil (λ b. x0 < b.units → b.units < x1 → Within k l b.value);
    }
covers k l before a (b ∷ nodes) x0 x1 chain le reach h =
    let W : Ends → Type 0 = Within k l in
    let Q : Node → Type 0 = λ b. x0 < b.units → b.units < x1 → Within k l b.value in
    let lt : a.units < b.units = chain.1.0 in
    let start : ℕ = max x0 a.units in
    let at_start : W (between_at a b start) → x0 < b.units → a.units ≤ x0 → W (value_from a (b ∷ nodes) x0) =
    λ (w : W (between_at a b start)) (inside : x0 < b.units) (from : a.units ≤ x0).
    let same : start ≡ x0 = omega (arith, from) in
    subst W (ap (between_at a b) same ∙ sym (before_next a b nodes x0 inside)) w in
    ⊎_elim
    (λ (inside : x0 < b.units).
    ⊎_elim
    (λ (more : b.units < x1).
    let rest = covers k l (Some (joined_ends before (piece_over a b start b.units))) b nodes x0 x1 chain.1.1 le (omega (arith, more)) (subst W (whole_piece before a b nodes x0 x1 inside more) h) in
    let piece : W (piece_over a b start b.units) = joined_last k l before _ rest.earlier in
    record {
      earlier = joined_before k l before _ rest.earlier;
      first = at_start (hull_left k l _ _ piece) inside;
      last = subst W (sym (from_next a b nodes x1 (omega (arith, more)))) rest.last;
      inner = All-cons Q b nodes (λ p q. subst W (at_last a b lt) (hull_right k l _ _ piece)) rest.inner;
    })
    (λ (end : x1 ≤ b.units).
    let all : W (joined_ends before (piece_over a b start x1)) = subst W (last_piece before a b nodes x0 x1 inside end) h in
    let piece : W (piece_over a b start x1) = joined_last k l before _ all in
    record {
      earlier = joined_before k l before _ all;
      first = at_start (hull_left k l _ _ piece) inside;
      last = subst W (sym (piece_is IsAdded a b nodes x1 chain end)) (hull_right k l _ _ piece);
      inner = All-cons Q b nodes (λ p q. absurd (omega (arith, q, end))) (λ i d lt p q. let far = later_nodes b nodes chain.1.1 i d lt in absurd (omega (arith, far, q, end)));
    })
    (cases_lt b.units x1))
    (λ (past : b.units ≤ x0).
    let rest = covers k l before b nodes x0 x1 chain.1.1 le (omega (arith, past, le)) (subst W (beyond before a b nodes x0 x1 past) h) in
    record {
      earlier = rest.earlier;
      first = λ from. subst W (sym (from_next a b nodes x0 past)) (rest.first past);
      last = subst W (sym (from_next a b nodes x1 (omega (arith, past, le)))) rest.last;
      inner = All-cons Q b nodes (λ p q. absurd (omega (arith, p, past))) rest.inner;
    })
    (cases_lt x0 b.units)

-- the pieces are the whole
pub walk_is : (nodes : List Node) (x0 x1 : ℕ) → Chain IsAdded origin nodes → x0 ≤ x1 → over_from None origin nodes x0 x1 ≡ broken_over nodes x0 x1
unfolding broken_over
walk_is nodes x0 x1 chain le =
    let walk : Ends = over_from None origin nodes x0 x1 in
    let whole : Ends = widened x0 x1 (hull_of (value_from origin nodes x0) (value_from origin nodes x1)) nodes in
    let c = covers walk.lo walk.hi None origin nodes x0 x1 chain le (omega arith) (itself walk) in
    let inside : Within walk.lo walk.hi whole = widened_within walk.lo walk.hi x0 x1 _ nodes (hull_within walk.lo walk.hi _ _ (c.first (omega arith)) c.last) c.inner in
    let both : Within whole.lo whole.hi (hull_of (value_from origin nodes x0) (value_from origin nodes x1)) = widened_first whole.lo whole.hi x0 x1 _ nodes (itself whole) in
    let each : (y : ℕ) → 0 ≤ y → x0 ≤ y → y ≤ x1 → Within whole.lo whole.hi (value_from origin nodes y) =
    λ (y : ℕ) (p : 0 ≤ y) (q : x0 ≤ y) (r : y ≤ x1). within whole.lo whole.hi x0 x1 y x0 origin nodes chain (omega arith) (omega arith) q r (hull_left _ _ _ _ both) (hull_right _ _ _ _ both) (widened_nodes whole.lo whole.hi x0 x1 _ nodes (itself whole)) in
    let outside : Within whole.lo whole.hi walk = walk_within whole.lo whole.hi None origin nodes x0 x1 chain le (omega arith) tt each in
    let low : walk.lo ≡ whole.lo = antisym_ℤ _ _ inside.low outside.low in
    let high : walk.hi ≡ whole.hi = antisym_ℤ _ _ outside.high inside.high in
    λ i. record { lo = low i; hi = high i }
  where
    itself : (e : Ends) → Within e.lo e.hi e
    itself e = record { low = refl_ℤ e.lo; high = refl_ℤ e.hi }
