-- A light keeps a value that stands for its standard.
use Rattle.std.proofs.Common.{◌≡◌}
use Rattle.std.proofs.Math.Logic.{∥∥₁_elim, ∥∥₁_prop}
use Rattle.std.proofs.Props.{props}
use Rattle.interval_specs.specs.Ends.{Ends}
use Rattle.cielab_bounds.specs.Cielab.{LabEnds}

-- the kept value stands for some standard
pub some_standard : (Stands : LabEnds → Type 0) (p : LabEnds) → ∥ Stands p ∥₁ → ∥ ((q : LabEnds) × Stands q) ∥₁
some_standard Stands p h = ∥∥₁_elim h ∥∥₁_prop (λ s. ∣ (p, s) ∣₁)

-- two intervals are the same, if that follows from a fact of which some proof exists
pub same_ends : (A : Type 0) (a b : Ends) → ∥ A ∥₁ → (A → a ≡ b) → a ≡ b
same_ends A a b h same = ∥∥₁_elim h (hlevel props) same
