-- Stored nodes, one after the other.
use Rattle.std.proofs.Common.{◌≡◌, ◌+◌, ◌<◌, ◌≤◌, ℕ, suc, List, [], ◌∷◌, length, drop, get_or, map, refl, sym, ap, subst, ◌∙◌, add-one, add-zero, arith}
use Rattle.std.proofs.lemmas.List.{drop_all, get_or-map, length-map}
use Rattle.std.proofs.Math.Seq.{drop-cons}
use Rattle.ks_curves.specs.declared.node.StoredNode.{StoredNode}
use Rattle.ks_curves.specs.BrokenLine.{Node}
use Rattle.ks_curves.specs.Order.{place_by}
use Rattle.ks_curves.specs.StoredNode.{node_of, RiseFrom}
use Rattle.ks_curves.proofs.Cases.{most_test, not_most_test}

pub next_node : (nodes : List StoredNode) (i : ℕ) (d : StoredNode) → i < length nodes → drop i (map node_of nodes) ≡ node_of (get_or nodes i d) ∷ drop (i + 1) (map node_of nodes)
next_node nodes i d lt =
    let there : i < length (map node_of nodes) = rw length-map lt in
    rw add-one (drop-cons (map node_of nodes) i (node_of d) there ∙ ap (λ (a : Node). a ∷ drop (suc i) (map node_of nodes)) (get_or-map node_of nodes i d (node_of d) lt))

pub no_node : (nodes : List StoredNode) (i : ℕ) → length nodes ≤ i → drop i (map node_of nodes) ≡ []
no_node nodes i le = drop_all i (map node_of nodes) (rw length-map le)

pub rise_next : (u : ℕ) (b : Node) (xs rest : List Node) → xs ≡ b ∷ rest → RiseFrom u xs → (u < b.units) × RiseFrom b.units rest
rise_next u b xs rest is h = subst (RiseFrom u) is h

abbrev pub units_of : Node → ℕ
units_of a = a.units

pub place_here : (least place total : ℕ) (a : Node) (xs rest : List Node) → xs ≡ a ∷ rest → least ≤ a.units → place + place_by units_of least xs ≡ total → place ≡ total
unfolding place_by
place_here least place total a xs rest is h so_far =
    let here : place_by units_of least (a ∷ rest) ≡ 0 = rw (most_test least a.units h) refl in
    sym (add-zero place) ∙ ap (λ k. place + k) (sym here) ∙ ap (λ ys. place + place_by units_of least ys) (sym is) ∙ so_far

pub place_next : (least place total : ℕ) (a : Node) (xs rest : List Node) → xs ≡ a ∷ rest → a.units < least → place + place_by units_of least xs ≡ total → place + 1 + place_by units_of least rest ≡ total
unfolding place_by
place_next least place total a xs rest is h so_far =
    let here : place_by units_of least (a ∷ rest) ≡ 1 + place_by units_of least rest = rw (not_most_test least a.units h) refl in
    let moved : place + place_by units_of least (a ∷ rest) ≡ total = ap (λ ys. place + place_by units_of least ys) (sym is) ∙ so_far in
    omega (arith, here, moved)

pub place_end : (least place total : ℕ) (xs : List Node) → xs ≡ [] → place + place_by units_of least xs ≡ total → place ≡ total
unfolding place_by
place_end least place total xs is so_far = sym (add-zero place) ∙ ap (λ ys. place + place_by units_of least ys) (sym is) ∙ so_far
