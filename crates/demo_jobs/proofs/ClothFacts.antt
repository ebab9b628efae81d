-- The curves of cloths, wavelength by wavelength.
use Rattle.std.proofs.Common.{◌≡◌, ◌+◌, ◌*◌, ◌/◌, ◌<◌, ◌≤◌, ℕ, List, All, length, map, max, sym, subst, arith, mul-le-mul_left}
use Rattle.std.specs.List.{range_with_len}
use Rattle.std.proofs.Math.Nat.{div-le_of_le-mul}
use Rattle.std.proofs.lemmas.List.FromFn.{get_or-map-range_with_len, length-map-range_with_len}
use Rattle.spectral_tables.specs.Curve.{IsReflectance}
use Rattle.demo_jobs.specs.declared.dyes.DrawnDye.{DrawnDye}
use Rattle.demo_jobs.specs.Cloths.{dyed, dyed_at, indices, strength, substrate, substrate_at}

-- a curve from 400 to 700 nm in steps of 10 nm
pub record IsTenCurve (curve : List ℕ) : Type 0 where
  pub count : length curve ≡ 31
  pub range : All IsReflectance curve

pub substrate_reflects : (index : ℕ) → index < 31 → IsReflectance (substrate_at index)
substrate_reflects index lt = (omega arith, omega arith)

-- a number times 1000, over 1000 or more, is at most the number
darker : (x y : ℕ) → x * 1000 / (1000 + y) ≤ x
darker x y = let m : x * 1000 ≤ x * (1000 + y) = mul-le-mul_left x (omega arith) in div-le_of_le-mul (1000 + y) (omega (arith, m))

pub raised : (x : ℕ) → x ≤ 1000000 → IsReflectance (max 100 x)
raised x le = (omega arith, omega arith)

pub dyed_reflects : (dye : DrawnDye) (units index : ℕ) → index < 31 → IsReflectance (dyed_at dye units index)
dyed_reflects dye units index lt =
    let y = strength dye index * units / 100 in
    raised (substrate_at index * 1000 / (1000 + y)) (omega (arith, darker (substrate_at index) y))

pub is_curve : (f : ℕ → ℕ) → ((index : ℕ) → index < 31 → IsReflectance (f index)) → IsTenCurve (map f (range_with_len 0 31))
is_curve f each = record {
  count = length-map-range_with_len f 0 31;
  range = λ k d lt.
      let short : k < 31 = omega (arith, lt, length-map-range_with_len f 0 31) in
      subst IsReflectance (sym (get_or-map-range_with_len f 0 31 k k d short (omega arith))) (each k short);
}

pub substrate_is_curve : IsTenCurve substrate
unfolding substrate indices
substrate_is_curve = is_curve substrate_at substrate_reflects

pub dyed_is_curve : (dye : DrawnDye) (units : ℕ) → IsTenCurve (dyed dye units)
unfolding dyed indices
dyed_is_curve dye units = is_curve (dyed_at dye units) (dyed_reflects dye units)
