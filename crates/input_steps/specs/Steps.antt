-- Steps, one after another: each gives something, or refuses the input.
use Rattle.std.specs.Prelude.{◌≡◌, ◌⊎◌, Result, Ok, Err}
use Rattle.input_text.specs.declared.fault.DescFault.{DescFault}
use Rattle.input_text.specs.declared.fault.DescFault.TheVariants as descs
use Rattle.input_steps.specs.declared.refused.Refused.{Refused}
use Rattle.input_steps.specs.declared.refused.Refused.TheVariants.{At, Memory}
use Rattle.input_steps.specs.declared.refused.Place.{Place}
use Rattle.input_steps.specs.declared.refused.Fault.{Fault}
use Rattle.input_steps.specs.declared.refused.Fault.TheVariants as faults

-- A place and a fault are those that a cause gives, and the cause is there.
pub record IsAt {C : Type 0} (place_of : C → Place) (fault_of : C → Fault) (IsCause : C → Type 0) (place : Place) (fault : Fault) :
    Type 0 where
  pub cause : C
  pub place_is : place ≡ place_of cause
  pub fault_is : fault ≡ fault_of cause
  pub holds : IsCause cause

-- a refusal has its cause; want of memory needs none
abbrev pub IsCaused : (Place → Fault → Type 0) → Refused → Type 0
IsCaused Refuses (At place fault) = Refuses place fault
IsCaused Refuses Memory = Unit {0}

-- A step, and then others. An answer, and a refusal by one of the others, come only where the step gives something, and are those
-- for what it gives; else the step refuses.
abbrev pub Then : {A X : Type 0} → (A → Type 0) → (Place → Fault → Type 0) → (A → Result X Refused → Type 0) → Result X Refused → Type 0
Then {A} Gives Refuses Next (Ok x) = (a : A) × (Gives a × Next a (Ok x))
Then {A} Gives Refuses Next (Err (At place fault)) = Refuses place fault ⊎ ((a : A) × (Gives a × Next a (Err (At place fault))))
Then Gives Refuses Next (Err Memory) = Unit {0}

-- A step: when it gives something, and with which place and fault it refuses.
pub record Step (A : Type 0) : Type 1 where
  pub gives : A → Type 0
  pub refuses : Place → Fault → Type 0

-- a step, and then others, which speak of what it gives
infixl 10 ◌>>=◌
abbrev pub ◌>>=◌ : {A X : Type 0} → Step A → (A → Result X Refused → Type 0) → Result X Refused → Type 0
step >>= next = Then step.gives step.refuses next

-- what is said of a description or a state that has this fault
abbrev pub desc_refusal : Place → DescFault → Refused
desc_refusal place descs.Memory = Memory
desc_refusal place fault = At place (faults.Desc fault)
