-- The least interval that holds the values at both ends and at the nodes strictly between.
use Rattle.std.proofs.Common.{◌≡◌, ◌<◌, ◌≤ℤ◌, ◌&&◌, ℕ, ℤ, Bool, true, false, nat_lt, List, [], ◌∷◌, All, refl, subst, ap, ◌∙◌, arith, if◌then◌else◌}
use Rattle.std.proofs.lemmas.List.Elements.{All-cons, All-nil, All-head, All-tail}
use Rattle.interval_specs.specs.Ends.{Ends}
use Rattle.interval_specs.specs.Operations.{hull_of}
use Rattle.interval_specs.proofs.Order.{trans_ℤ, min_left, min_right, max_left, max_right, either_min, either_max}
use Rattle.ks_curves.specs.BrokenLine.{Node, widened}
use Rattle.ks_curves.proofs.Cases.{by_less, less_test, not_less_test}
use Rattle.ks_curves.proofs.BrokenLaws.Narrowing.{Within, NodesWithin}

-- ---- what holds of the values holds of the hull

pub choose : (P : Ends → Type 0) (t : Bool) (a b : Ends) → P a → P b → P (if t then a else b)
choose P true a b p q = p
choose P false a b p q = q

pub widened_all : (P : Ends → Type 0) → ((a b : Ends) → P a → P b → P (hull_of a b)) → (x0 x1 : ℕ) (e : Ends) (nodes : List Node) → P e → All (λ a. P a.value) nodes → P (widened x0 x1 e nodes)
unfolding widened
widened_all P hull x0 x1 e [] here each = here
widened_all P hull x0 x1 e (a ∷ nodes) here each =
    let Q : Node → Type 0 = λ a. P a.value in
    let value = All-head Q a nodes each in
    let t = nat_lt x0 a.units && nat_lt a.units x1 in
    widened_all P hull x0 x1 (if t then hull_of e a.value else e) nodes (choose P t (hull_of e a.value) e (hull e a.value here value) here) (All-tail Q a nodes each)

-- ---- bounds of the hull

pub hull_within : (k l : ℤ) (a b : Ends) → Within k l a → Within k l b → Within k l (hull_of a b)
unfolding hull_of
hull_within k l a b p q = record { low = either_min (λ z. k ≤ℤ z) a.lo b.lo p.low q.low; high = either_max (λ z. z ≤ℤ l) a.hi b.hi p.high q.high }

pub hull_left : (k l : ℤ) (a b : Ends) → Within k l (hull_of a b) → Within k l a
unfolding hull_of
hull_left k l a b h = record { low = trans_ℤ k _ a.lo h.low (min_left a.lo b.lo); high = trans_ℤ a.hi _ l (max_left a.hi b.hi) h.high }

pub hull_right : (k l : ℤ) (a b : Ends) → Within k l (hull_of a b) → Within k l b
unfolding hull_of
hull_right k l a b h = record { low = trans_ℤ k _ b.lo h.low (min_right a.lo b.lo); high = trans_ℤ b.hi _ l (max_right a.hi b.hi) h.high }

-- a bound of the hull bounds what it began with, and each node strictly between
first_within : (k l : ℤ) (t : Bool) (e v : Ends) → Within k l (if t then hull_of e v else e) → Within k l e
first_within k l true e v h = hull_left k l e v h
first_within k l false e v h = h

pub widened_first : (k l : ℤ) (x0 x1 : ℕ) (e : Ends) (nodes : List Node) → Within k l (widened x0 x1 e nodes) → Within k l e
unfolding widened
widened_first k l x0 x1 e [] h = h
widened_first k l x0 x1 e (a ∷ nodes) h =
    let t = nat_lt x0 a.units && nat_lt a.units x1 in
    first_within k l t e a.value (widened_first k l x0 x1 (if t then hull_of e a.value else e) nodes h)

pub widened_nodes : (k l : ℤ) (x0 x1 : ℕ) (e : Ends) (nodes : List Node) → Within k l (widened x0 x1 e nodes) → NodesWithin k l x0 x1 nodes
unfolding widened
widened_nodes k l x0 x1 e [] h = All-nil (λ b. x0 < b.units → b.units < x1 → Within k l b.value)
widened_nodes k l x0 x1 e (a ∷ nodes) h =
    let Q : Node → Type 0 = λ b. x0 < b.units → b.units < x1 → Within k l b.value in
    let s = nat_lt x0 a.units in
    let t = nat_lt a.units x1 in
    let here : Within k l (if s && t then hull_of e a.value else e) = widened_first k l x0 x1 (if s && t then hull_of e a.value else e) nodes h in
    let head : Q a = λ (more : x0 < a.units) (less : a.units < x1). hull_right k l e a.value
    (subst (λ t. Within k l (if true && t then hull_of e a.value else e)) (less_test a.units x1 less)
    (subst (λ s. Within k l (if s && t then hull_of e a.value else e)) (less_test x0 a.units more) here)) in
    All-cons Q a nodes head (widened_nodes k l x0 x1 (if s && t then hull_of e a.value else e) nodes h)

-- bounds of what it begins with and of each node strictly between bound the hull
pub widened_within : (k l : ℤ) (x0 x1 : ℕ) (e : Ends) (nodes : List Node) → Within k l e → NodesWithin k l x0 x1 nodes → Within k l (widened x0 x1 e nodes)
unfolding widened
widened_within k l x0 x1 e [] h inner = h
widened_within k l x0 x1 e (a ∷ nodes) h inner =
    let Q : Node → Type 0 = λ b. x0 < b.units → b.units < x1 → Within k l b.value in
    let here : Within k l (if nat_lt x0 a.units && nat_lt a.units x1 then hull_of e a.value else e) =
    by_less (λ s. Within k l (if s && nat_lt a.units x1 then hull_of e a.value else e)) x0 a.units
    (λ more. by_less (λ t. Within k l (if t then hull_of e a.value else e)) a.units x1
    (λ less. hull_within k l e a.value h (All-head Q a nodes inner more less))
    (λ beyond. h))
    (λ beyond. h) in
    widened_within k l x0 x1 (if nat_lt x0 a.units && nat_lt a.units x1 then hull_of e a.value else e) nodes here (All-tail Q a nodes inner)

-- no node lies strictly between equal ends
pub widened_single : (x : ℕ) (e : Ends) (nodes : List Node) → widened x x e nodes ≡ e
unfolding widened
widened_single x e [] = refl
widened_single x e (a ∷ nodes) =
    let none : (if nat_lt x a.units && nat_lt a.units x then hull_of e a.value else e) ≡ e =
    by_less (λ s. (if s && nat_lt a.units x then hull_of e a.value else e) ≡ e) x a.units
    (λ more. ap (λ t. if t then hull_of e a.value else e) (not_less_test a.units x (omega (arith, more))))
    (λ beyond. refl) in
    ap (λ d. widened x x d nodes) none ∙ widened_single x e nodes
