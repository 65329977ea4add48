-- One step more of a run that never gets stuck.
use Rattle.std.proofs.Common.{◌≡◌, ℕ, suc, ◌+◌, ◌<◌, Option, Ok, Err, refl, sym, ap, ◌∙◌, arith}
use Rattle.jvm_values.specs.States.{MachineState}
use Rattle.jvm_values.specs.declared.heap.Value.{Value}
use Rattle.class_program.specs.Programs.{Program}
use Rattle.jvm_step.specs.declared.outcome.Outcome.TheVariants as outcomes
use Rattle.jvm_step.specs.Running.{Step, step, step_on, run, IsNeverStuck}
use Rattle.jvm_step.specs.Steps.{Steps}
use Rattle.jvm_run.specs.declared.ended.Ended.TheVariants as ends
use Rattle.jvm_run.specs.Runs.{LeadsTo, EndsAs}

step_of : (p : Program) (old s : MachineState) (count : ℕ) → run p count old ≡ Step.Going s → run p (suc count) old ≡ step p s
unfolding step_on
step_of p old s count e = ap (step_on p) e

-- the step has gone on
going_by : (E : Type 0) (x : Step) (mid new : MachineState) → (x ≡ Step.Stuck → ⊥) → Steps {E = E} x (Ok outcomes.Going) mid new
    → x ≡ Step.Going new
going_by E (Step.Going s) mid new n h = ap Step.Going (sym h)
going_by E (Step.Returned value) mid new n h = absurd h
going_by E (Step.Threw r) mid new n h = absurd h
going_by E Step.Stuck mid new n h = absurd (n refl)

pub going : (E : Type 0) (p : Program) (old mid new : MachineState) (count : ℕ)
    → (IsNeverStuck p old → run p count old ≡ Step.Going mid) → Steps {E = E} (step p mid) (Ok outcomes.Going) mid new
    → IsNeverStuck p old → run p (count + 1) old ≡ Step.Going new
going E p old mid new count so h never =
    let e = step_of p old mid count (so never) in
    let more : count + 1 ≡ suc count = omega arith in
    ap (λ (n : ℕ). run p n old) more ∙ (e ∙ going_by E (step p mid) mid new (λ f. never (suc count) (e ∙ f)) h)

returned_by : (E : Type 0) (x : Step) (value : Option Value) (mid new : MachineState) → (x ≡ Step.Stuck → ⊥)
    → Steps {E = E} x (Ok (outcomes.Returned value)) mid new → (x ≡ Step.Returned value) × (new ≡ mid)
returned_by E (Step.Going s) value mid new n h = absurd h
returned_by E (Step.Returned v) value mid new n h = (ap Step.Returned (sym h.0), h.1)
returned_by E (Step.Threw r) value mid new n h = absurd h
returned_by E Step.Stuck value mid new n h = absurd (n refl)

threw_by : (E : Type 0) (x : Step) (r : ℕ) (mid new : MachineState) → (x ≡ Step.Stuck → ⊥)
    → Steps {E = E} x (Ok (outcomes.Threw r)) mid new → (x ≡ Step.Threw r) × (new ≡ mid)
threw_by E (Step.Going s) r mid new n h = absurd h
threw_by E (Step.Returned v) r mid new n h = absurd h
threw_by E (Step.Threw a) r mid new n h = (ap Step.Threw (sym h.0), h.1)
threw_by E Step.Stuck r mid new n h = absurd (n refl)

failed_by : (E : Type 0) (x : Step) (fault : E) (mid new : MachineState) → (x ≡ Step.Stuck → ⊥)
    → Steps {E = E} x (Err fault) mid new → new ≡ mid
failed_by E (Step.Going s) fault mid new n h = h
failed_by E (Step.Returned v) fault mid new n h = h
failed_by E (Step.Threw a) fault mid new n h = h
failed_by E Step.Stuck fault mid new n h = absurd (n refl)

module _ (p : Program) (old mid new : MachineState) (count fuel : ℕ) (so : IsNeverStuck p old → run p count old ≡ Step.Going mid)
    (l : count < fuel) where
  leads : IsNeverStuck p old → new ≡ mid → LeadsTo p old fuel new
  leads never same = (count, l, so never ∙ ap Step.Going (sym same))

  apart : IsNeverStuck p old → step p mid ≡ Step.Stuck → ⊥
  apart never f = never (suc count) (step_of p old mid count (so never) ∙ f)

  pub returned : (E : Type 0) (value : Option Value) → Steps {E = E} (step p mid) (Ok (outcomes.Returned value)) mid new
      → IsNeverStuck p old → EndsAs p old fuel (ends.Returned value) new
  returned E value h never =
      let k = returned_by E (step p mid) value mid new (apart never) h in
      (leads never k.1, ap (step p) k.1 ∙ k.0)

  pub threw : (E : Type 0) (r : ℕ) → Steps {E = E} (step p mid) (Ok (outcomes.Threw r)) mid new → IsNeverStuck p old
      → EndsAs p old fuel (ends.Threw r) new
  threw E r h never =
      let k = threw_by E (step p mid) r mid new (apart never) h in
      (leads never k.1, ap (step p) k.1 ∙ k.0)

  pub failed : (E : Type 0) (fault : E) → Steps {E = E} (step p mid) (Err fault) mid new → IsNeverStuck p old → LeadsTo p old fuel new
  failed E fault h never = leads never (failed_by E (step p mid) fault mid new (apart never) h)
