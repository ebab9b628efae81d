-- The CIE94 colour difference (CIE 116), at every scale n. The standard and the sample are each
-- given by L, a and b as intervals. Index 1 is the standard, whose chroma is the one that S_C and
-- S_H are made of. The definitions fix the order in which each formula is evaluated.
use Rattle.std.specs.Prelude.{ℕ, Bool, true, false, if◌then◌else◌}
use Rattle.interval_specs.specs.Ends.{Ends, one_at}
use Rattle.interval_specs.specs.Operations.{fraction_of, quotient_at, square_at, sum_of}
use Rattle.cielab_bounds.specs.Cielab.{LabEnds}
use Rattle.lab_parts.specs.Parts.{chroma_at, chroma_difference, hue_difference_square, length_at, lightness_difference}

-- ---- constants

-- what the formula has for an application: whether dL is halved (k_L = 2), and K1 and K2 in
-- thousandths
pub record Application : Type 0 where
  pub halved : Bool
  pub k1 : ℕ
  pub k2 : ℕ

-- textiles
abbrev pub textile : Application
textile = record { halved = true; k1 = 48; k2 = 14 }

-- graphic arts
abbrev pub graphic : Application
graphic = record { halved = false; k1 = 45; k2 = 15 }

-- ---- the standard

-- S_C = 1 + K1 C1, and S_H = 1 + K2 C1, by the constant k in thousandths
unfoldable pub weight_at : ℕ → (k : ℕ) → (c1 : Ends) → Ends
weight_at n k c1 = sum_of (one_at n) (fraction_of k 1000 c1)

-- the values of a standard that the difference needs
pub record Standard94Ends : Type 0 where
  pub l1 : Ends
  pub a1 : Ends
  pub b1 : Ends
  pub c1 : Ends
  pub sc : Ends
  pub sh : Ends
  pub sh_square : Ends

unfoldable pub standard_at : Application → ℕ → LabEnds → Standard94Ends
standard_at x n p =
    record {
      l1 = p.l;
      a1 = p.a;
      b1 = p.b;
      c1 = chroma_at n p.a p.b;
      sc = weight_at n x.k1 (chroma_at n p.a p.b);
      sh = weight_at n x.k2 (chroma_at n p.a p.b);
      sh_square = square_at n (weight_at n x.k2 (chroma_at n p.a p.b));
    }

-- ---- the difference

-- dL / k_L
unfoldable pub lightness_term : Bool → (dl : Ends) → Ends
lightness_term halved dl = if halved then fraction_of 1 2 dl else dl

-- dC / S_C
unfoldable pub chroma_term : ℕ → Standard94Ends → LabEnds → Ends
chroma_term n s q = quotient_at n (chroma_difference n s.c1 q) s.sc

-- dH^2 / S_H^2
unfoldable pub hue_term : ℕ → Standard94Ends → LabEnds → Ends
hue_term n s q = quotient_at n (hue_difference_square n s.a1 s.b1 (chroma_difference n s.c1 q) q) s.sh_square

-- dE of a sample q, from the values of the standard
unfoldable pub kept_difference : Application → ℕ → Standard94Ends → LabEnds → Ends
kept_difference x n s q = length_at n (lightness_term x.halved (lightness_difference s.l1 q)) (chroma_term n s q) (hue_term n s q)

-- dE of a standard p and a sample q
abbrev pub cie94_at : Application → ℕ → LabEnds → LabEnds → Ends
cie94_at x n p q = kept_difference x n (standard_at x n p) q
