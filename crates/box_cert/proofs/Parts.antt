-- How a certificate is put together from what was read.
use Rattle.std.proofs.Common.{◌≡◌, ◌≤◌, ℕ, zero, suc, List, [], ◌∷◌, length, All, refl, sym, ◌∙◌, arith}
use Rattle.box_core.specs.Ranges.{HaveOneLength}
use Rattle.box_specs.specs.declared.certificate.CertLine.{CertLine}
use Rattle.box_specs.specs.declared.certificate.CertLine.TheVariants.{Dear, Fail, Limit, Pass, Split, Undecided}
use Rattle.box_specs.specs.declared.certificate.Claim.{Claim}
use Rattle.box_specs.specs.declared.certificate.Claim.TheVariants.{Floor, Match, NoMatch}
use Rattle.box_cert.specs.Claims.{HasDims}
use Rattle.box_cert.specs.Reading.{AreRecipes, parts_of}

pub parts_few : (line : CertLine) → parts_of line ≤ 2
parts_few (Split dye mid) = omega arith
parts_few (Limit k) = omega arith
parts_few (Fail j) = omega arith
parts_few Dear = omega arith
parts_few Undecided = omega arith
parts_few Pass = omega arith

-- recipes that have equally many dyes
pub one_length : (dims count : ℕ) (claim : Claim) (listed : List (List ℕ)) → 1 ≤ dims → dims ≤ 12 → HasDims dims claim → AreRecipes dims count listed → HaveOneLength claim listed
one_length dims count (Match recipe) listed some few h r = record { some = omega (arith, h); few = omega (arith, h); each = each } where
  each : All (λ steps. length steps ≡ length recipe.items) (recipe.items ∷ listed)
  each zero d l = refl
  each (suc k) d l = r.each k d (omega arith) ∙ sym h
one_length dims count NoMatch [] some few h r = record { some = omega arith; few = omega arith; each = λ k d l. absurd (omega arith) }
one_length dims count NoMatch (s ∷ rest) some few h r =
    let first : length s ≡ dims = r.each 0 s (omega arith) in
    record { some = omega (arith, first); few = omega (arith, first); each = λ k d l. r.each k d l ∙ sym first }
one_length dims count (Floor cost) [] some few h r = record { some = omega arith; few = omega arith; each = λ k d l. absurd (omega arith) }
one_length dims count (Floor cost) (s ∷ rest) some few h r =
    let first : length s ≡ dims = r.each 0 s (omega arith) in
    record { some = omega (arith, first); few = omega (arith, first); each = λ k d l. r.each k d l ∙ sym first }
