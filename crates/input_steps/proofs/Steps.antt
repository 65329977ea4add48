-- Steps, one after another.
use Rattle.std.proofs.Common.{◌≡◌, Result, Ok, Err, inl, inr, sym, subst}
use Rattle.std.specs.Result.{IsErrAnd}
use Rattle.input_steps.specs.declared.refused.Refused.{Refused}
use Rattle.input_steps.specs.declared.refused.Refused.TheVariants.{At, Memory}
use Rattle.input_steps.specs.declared.refused.Place.{Place}
use Rattle.input_steps.specs.declared.refused.Fault.{Fault}
use Rattle.input_steps.specs.Steps.{IsCaused, Then, Step, ◌>>=◌}

-- the first step refuses
pub then_refused : {A X : Type 0} (Gives : A → Type 0) (Refuses : Place → Fault → Type 0) (Next : A → Result X Refused → Type 0)
    (refused : Refused) → IsCaused Refuses refused → Then Gives Refuses Next (Err refused)
then_refused Gives Refuses Next (At place fault) h = inl h
then_refused Gives Refuses Next Memory h = tt

-- it gives something, and the answer is that of the others
pub then_goes : {A X : Type 0} (Gives : A → Type 0) (Refuses : Place → Fault → Type 0) (Next : A → Result X Refused → Type 0)
    (a : A) (result : Result X Refused) → Gives a → Next a result → Then Gives Refuses Next result
then_goes Gives Refuses Next a (Ok x) g n = (a, (g, n))
then_goes Gives Refuses Next a (Err (At place fault)) g n = inr (a, (g, n))
then_goes Gives Refuses Next a (Err Memory) g n = tt

-- ---- the same of named steps

pub step_refused : {A X : Type 0} (step : Step A) (next : A → Result X Refused → Type 0) (refused : Refused)
    → IsCaused step.refuses refused
    → (step >>= next) (Err refused)
step_refused step next refused h = then_refused step.gives step.refuses next refused h

pub step_goes : {A X : Type 0} (step : Step A) (next : A → Result X Refused → Type 0) (a : A) (result : Result X Refused) → step.gives a
    → next a result → (step >>= next) result
step_goes step next a result g n = then_goes step.gives step.refuses next a result g n

-- ---- in code

-- what `?` hands on is what the step says
pub handed_on : {X : Type 0} (Says : Result X Refused → Type 0) (result : Result X Refused) (refused : Refused)
    → IsErrAnd result (λ fault. fault ≡ refused) → Says (Err refused) → Says result
handed_on Says (Ok x) refused is says = absurd is
handed_on Says (Err fault) refused is says = subst (λ (r : Refused). Says (Err r)) (sym is) says
