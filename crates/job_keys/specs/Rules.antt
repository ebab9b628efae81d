-- Rules, and which of a list of rules is the first that is broken.
use Rattle.std.specs.Prelude.{◌≡◌, ◌++◌, Bool, true, false, List, ◌∷◌, All}
use Rattle.job_keys.specs.declared.fault.JobFault.{JobFault}
use Rattle.job_keys.specs.declared.fault.JobRule.{JobRule}
use Rattle.job_keys.specs.declared.fault.Position.{Position}
use Rattle.job_keys.specs.Faults.{fault_at}

-- a rule: whether it holds, and the fault that is reported where it is broken
pub record Rule : Type 0 where
  pub fault : JobFault
  pub holds : Bool

-- a rule at a position
abbrev pub rule_at : Position → JobRule → Bool → Rule
rule_at position rule holds = record { fault = fault_at position rule; holds = holds }

abbrev pub AllHold : List Rule → Type 0
AllHold rules = All (λ rule. rule.holds ≡ true) rules

-- the fault is that of a broken rule, and each rule before that one holds
pub record IsFirstBroken (rules : List Rule) (fault : JobFault) : Type 0 where
  pub earlier : List Rule
  pub broken : Rule
  pub later : List Rule
  pub split : rules ≡ earlier ++ broken ∷ later
  pub earlier_hold : AllHold earlier
  pub is_broken : broken.holds ≡ false
  pub fault_is : broken.fault ≡ fault
