-- The result of a check, by the first failure of a certificate.
use Rattle.std.proofs.Common.{◌≡◌, ℕ, Option, Some, None}
use Rattle.box_specs.specs.declared.certificate.Checked.TheVariants.{Refused}
use Rattle.box_specs.specs.declared.certificate.Why.{Why}
use Rattle.cert_check.specs.Result.{checked_of}

pub refused_failure : (failure : Option (ℕ × Why)) (line : ℕ) (why : Why) → checked_of failure ≡ Refused line why → failure ≡ Some (line, why)
refused_failure None line why e = cc
refused_failure (Some f) line why e = let first : f.0 ≡ line = cc in let second : f.1 ≡ why = cc in λ i. Some (first i, second i)
