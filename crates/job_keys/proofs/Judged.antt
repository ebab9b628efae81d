-- Reading judges by rules: the result is the value where all of them hold, and else the fault of
-- the first that is broken.
use Rattle.std.proofs.Common.{◌≡◌, ◌∙◌, ◌++◌, Bool, true, false, Option, Some, None, Result, Ok, Err, List, [], ◌∷◌, map, refl, ap, sym, append_assoc, append-nil, arith}
use Rattle.std.specs.Prelude.{if◌then◌else◌}
use Rattle.std.proofs.lemmas.List.{map-append}
use Rattle.std.proofs.lemmas.List.Elements.{All-cons, All-tail}
use Rattle.toml.specs.Data.{Data, Members}
use Rattle.job_keys.specs.declared.fault.JobFault.{JobFault}
use Rattle.job_keys.specs.declared.fault.JobRule.{JobRule}
use Rattle.job_keys.specs.declared.fault.JobRule.TheVariants.{BadCount, MissingKey, OutOfRange, WrongKind}
use Rattle.job_keys.specs.declared.fault.Position.{Position}
use Rattle.job_keys.specs.Arrays.{each}
use Rattle.job_keys.specs.Faults.{◌>>=◌, ◌>>◌, ensure, or_fault}
use Rattle.job_keys.specs.KeyRules.{Kind, in_turn, value_rules}
use Rattle.job_keys.specs.Keys.{or_else}
use Rattle.job_keys.specs.Rules.{AllHold, IsFirstBroken, Rule, rule_at}

-- the value where all rules hold, and else the fault of the first that is broken
unfoldable pub judge : {A : Type 0} → List Rule → A → Result A JobFault
judge [] x = Ok x
judge (r ∷ rs) x = if r.holds then judge rs x else Err r.fault

-- ---- one rule after another

pub done : {A : Type 0} (x : A) → Ok x ≡ judge [] x
unfolding judge
done x = refl

if_then : {A B : Type 0} (b : Bool) (fault : JobFault) (a : Result A JobFault) (f : A → Result B JobFault) (c : Result B JobFault) → (a >>= f) ≡ c → ((if b then a else Err fault) >>= f) ≡ (if b then c else Err fault)
if_then true fault a f c h = h
if_then false fault a f c h = refl

judge_then : {A B : Type 0} (rs ss : List Rule) (f : A → Result B JobFault) (x : A) (y : B) → f x ≡ judge ss y → (judge rs x >>= f) ≡ judge (rs ++ ss) y
unfolding judge
judge_then [] ss f x y h = h
judge_then (r ∷ rs) ss f x y h = if_then r.holds r.fault (judge rs x) f (judge (rs ++ ss) y) (judge_then rs ss f x y h)

pub then_read : {A B : Type 0} (rs ss : List Rule) (a : Result A JobFault) (f : A → Result B JobFault) (x : A) (y : B) → a ≡ judge rs x → f x ≡ judge ss y → (a >>= f) ≡ judge (rs ++ ss) y
then_read rs ss a f x y read next = ap (λ r. r >>= f) read ∙ judge_then rs ss f x y next

-- the same where no rule follows
pub then_done : {A B : Type 0} (rs : List Rule) (a : Result A JobFault) (f : A → Result B JobFault) (x : A) (y : B) → a ≡ judge rs x → f x ≡ Ok y → (a >>= f) ≡ judge rs y
then_done rs a f x y read last = then_read rs [] a f x y read (last ∙ done y) ∙ ap (λ ss. judge ss y) (append-nil rs)

as_bind : {B : Type 0} (a : Result (Unit {0}) JobFault) (next : Result B JobFault) → (a >> next) ≡ (a >>= (λ _. next))
as_bind (Ok x) next = refl
as_bind (Err fault) next = refl

pub then_next : {B : Type 0} (rs ss : List Rule) (a : Result (Unit {0}) JobFault) (next : Result B JobFault) (y : B) → a ≡ judge rs tt → next ≡ judge ss y → (a >> next) ≡ judge (rs ++ ss) y
then_next rs ss a next y read rest = as_bind a next ∙ then_read rs ss a (λ _. next) tt y read rest

pub ensure_is : (position : Position) (rule : JobRule) (b : Bool) → ensure position rule b ≡ judge (rule_at position rule b ∷ []) tt
unfolding judge
ensure_is position rule b = refl

-- ---- the value of a key

-- the rules of a value: it is of its type, has an allowed number of items, and is in its range
abbrev pub kind_rules : Position → Bool → Bool → Bool → List Rule
kind_rules position typed counted ranged = rule_at position WrongKind typed ∷ rule_at position BadCount counted ∷ rule_at position OutOfRange ranged ∷ []

-- reading a value that must be there judges by the rules of its kind
pub must_read : {A : Type 0} (position : Position) (kind : Kind) (read : Data → Result A JobFault) (value : Option Data → A)
    → ((v : Data) → read v ≡ judge (kind_rules position (kind.has_type v) (kind.has_count v) (kind.is_in_range v)) (value (Some v)))
    → (o : Option Data) → (or_fault position MissingKey o >>= read) ≡ judge (value_rules position true kind o) (value o)
unfolding judge value_rules
must_read position kind read value h None = refl
must_read position kind read value h (Some v) = h v

-- reading a value that may be there judges by the rules of its kind where it is there
pub may_read : {A : Type 0} (position : Position) (kind : Kind) (read : Data → Result A JobFault) (value : Option Data → A)
    → ((v : Data) → read v ≡ judge (kind_rules position (kind.has_type v) (kind.has_count v) (kind.is_in_range v)) (value (Some v)))
    → (o : Option Data) → or_else (value None) read o ≡ judge (value_rules position false kind o) (value o)
unfolding judge value_rules
may_read position kind read value h None = refl
may_read position kind read value h (Some v) = h v

-- ---- the items of a list

pub each_read : {A : Type 0} (read : List A → Members → Result A JobFault) (rules : List Members → Members → List Rule) (value : Members → A)
    → ((before : List Members) (m : Members) → read (map value before) m ≡ judge (rules before m) (value m))
    → (before rest : List Members) → each read (map value before) rest ≡ judge (in_turn rules before rest) (map value (before ++ rest))
unfolding judge
each_read read rules value h before [] = ap (λ ms. Ok (map value ms)) (sym (append-nil before))
each_read read rules value h before (m ∷ rest) =
    let shifted : each read (map value before ++ value m ∷ []) rest ≡ judge (in_turn rules (before ++ m ∷ []) rest) (map value (before ++ m ∷ rest)) =
    ap (λ xs. each read xs rest) (sym (map-append value before (m ∷ []))) ∙ each_read read rules value h (before ++ m ∷ []) rest
    ∙ ap (λ ms. judge (in_turn rules (before ++ m ∷ []) rest) (map value ms)) (append_assoc before (m ∷ []) rest) in
    then_read (rules before m) (in_turn rules (before ++ m ∷ []) rest) (read (map value before) m) (λ y. each read (map value before ++ y ∷ []) rest) (value m) (map value (before ++ m ∷ rest)) (h before m) shifted

-- ---- where all rules hold

holds_or : {A : Type 0} (b : Bool) (fault : JobFault) (c : Result A JobFault) (y : A) → (if b then c else Err fault) ≡ Ok y → (b ≡ true) × (c ≡ Ok y)
holds_or true fault c y h = (refl, h)
holds_or false fault c y h = cc

pub all_hold : {A : Type 0} (rs : List Rule) (x y : A) → judge rs x ≡ Ok y → AllHold rs × (y ≡ x)
unfolding judge
all_hold [] x y h = let e : x ≡ y = cc in ((λ k r lt. absurd (omega arith)), sym e)
all_hold (r ∷ rs) x y h =
    let here = holds_or r.holds r.fault (judge rs x) y h in
    let later = all_hold rs x y here.1 in
    (All-cons (λ rule. rule.holds ≡ true) r rs here.0 later.0, later.1)

pub accepts : {A : Type 0} (rs : List Rule) (x : A) → AllHold rs → judge rs x ≡ Ok x
unfolding judge
accepts [] x h = refl
accepts (r ∷ rs) x h =
    let here : r.holds ≡ true = h 0 r (omega arith) in
    ap (λ b. if b then judge rs x else Err r.fault) here ∙ accepts rs x (All-tail (λ rule. rule.holds ≡ true) r rs h)

-- ---- the first broken rule

-- the first broken rule of a list after one that holds
first_later : (r : Rule) (rs : List Rule) (fault : JobFault) → r.holds ≡ true → IsFirstBroken rs fault → IsFirstBroken (r ∷ rs) fault
first_later r rs fault here f = record {
  earlier = r ∷ f.earlier;
  broken = f.broken;
  later = f.later;
  split = ap (λ xs. r ∷ xs) f.split;
  earlier_hold = All-cons (λ rule. rule.holds ≡ true) r f.earlier here f.earlier_hold;
  is_broken = f.is_broken;
  fault_is = f.fault_is;
}

first_here : (r : Rule) (rs : List Rule) (fault : JobFault) → r.holds ≡ false → r.fault ≡ fault → IsFirstBroken (r ∷ rs) fault
first_here r rs fault breaks reported = record { earlier = []; broken = r; later = rs; split = refl; earlier_hold = λ k d lt. absurd (omega arith); is_broken = breaks; fault_is = reported }

pub first_broken : {A : Type 0} (rs : List Rule) (x : A) (fault : JobFault) → judge rs x ≡ Err fault → IsFirstBroken rs fault
unfolding judge
first_broken [] x fault h = cc
first_broken (r ∷ rs) x fault h = go r.holds refl (λ later. first_broken rs x fault later) h where
  go : (b : Bool) → r.holds ≡ b → (judge rs x ≡ Err fault → IsFirstBroken rs fault) → (if b then judge rs x else Err r.fault) ≡ Err fault → IsFirstBroken (r ∷ rs) fault
  go true e later h = first_later r rs fault e (later h)
  go false e later h = first_here r rs fault e cc

refuses_after : {A : Type 0} (earlier : List Rule) (broken : Rule) (later : List Rule) (x : A) → AllHold earlier → broken.holds ≡ false → judge (earlier ++ broken ∷ later) x ≡ Err broken.fault
unfolding judge
refuses_after [] broken later x hold breaks = ap (λ b. if b then judge later x else Err broken.fault) breaks
refuses_after (r ∷ rs) broken later x hold breaks =
    let here : r.holds ≡ true = hold 0 r (omega arith) in
    ap (λ b. if b then judge (rs ++ broken ∷ later) x else Err r.fault) here ∙ refuses_after rs broken later x (All-tail (λ rule. rule.holds ≡ true) r rs hold) breaks

pub refuses : {A : Type 0} (rs : List Rule) (x : A) (fault : JobFault) → IsFirstBroken rs fault → judge rs x ≡ Err fault
refuses rs x fault f = ap (λ rules. judge rules x) f.split ∙ refuses_after f.earlier f.broken f.later x f.earlier_hold f.is_broken ∙ ap Err f.fault_is
