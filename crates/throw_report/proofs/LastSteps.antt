-- The step that ends a run: a return in normal mode, and in throwing mode the throw of what is thrown.
use Rattle.std.proofs.Common.{◌≡◌, ℕ, List, [], ◌∷◌, Option, Some, None, slice_get, refl, sym, subst}
use Rattle.std.specs.Prelude.{unwrap_or, reverse, take}
use Rattle.std.specs.List.{find}
use Rattle.std.specs.Option.{option_map}
use Rattle.jvm_values.specs.declared.heap.Value.{Value}
use Rattle.jvm_values.specs.declared.heap.Object.{Object}
use Rattle.jvm_values.specs.declared.state.Mode.TheVariants.{Normal, Throwing}
use Rattle.jvm_values.specs.States.{MachineFrame, MachineState}
use Rattle.class_program.specs.declared.op.Op.{Op}
use Rattle.class_program.specs.declared.program.CatchRange.{CatchRange}
use Rattle.class_program.specs.declared.program.Method.{Method}
use Rattle.class_program.specs.Programs.{Program, insn_at}
use Rattle.op_forms.specs.Forms.{Form, form_of}
use Rattle.jvm_step.specs.Operands.{object_at}
use Rattle.jvm_step.specs.Effects.{Effect}
use Rattle.jvm_step.specs.Table.{Work, effect_of}
use Rattle.jvm_step.specs.Running.{Step, goes_on, entered, invokes, returns, applied, work_of, normal_step, takes, unwound}
use Rattle.jvm_step.specs.Running.{handled}
use Rattle.jvm_step.specs.Running.{throwing_step, step, IsEnd}
use Rattle.jvm_step.proofs.NormalSteps.{step_normal, step_throwing}

-- ---- normal mode

abbrev NoThrow : Step → Type 0
NoThrow (Step.Going state) = Unit {0}
NoThrow (Step.Returned value) = Unit {0}
NoThrow (Step.Threw r) = ⊥
NoThrow Step.Stuck = Unit {0}

invoked_by : (p : Program) (below : List MachineFrame) (number count : ℕ) (work : Work) (frame : Option MachineFrame)
    → entered p number (reverse (take count work.frame.stack)) ≡ frame → NoThrow (unwrap_or (invokes p below number count work) Step.Stuck)
unfolding invokes
invoked_by p below number count work None e = rw e tt
invoked_by p below number count work (Some frame) e = rw e tt

returned_by : (p : Program) (caller : MachineFrame) (below : List MachineFrame) (value : Option Value) (work : Work)
    (here : Option (Op × Option ℕ)) → insn_at p.methods caller.method caller.pc ≡ here
    → NoThrow (unwrap_or (returns p (caller ∷ below) value work) Step.Stuck)
unfolding returns
returned_by p caller below value work None e = rw e tt
returned_by p caller below value work (Some (op, None)) e = rw e tt
returned_by p caller below value work (Some (op, Some place)) e = rw e tt

returned : (p : Program) (below : List MachineFrame) (value : Option Value) (work : Work)
    → NoThrow (unwrap_or (returns p below value work) Step.Stuck)
unfolding returns
returned p [] value work = tt
returned p (caller ∷ below) value work = returned_by p caller below value work (insn_at p.methods caller.method caller.pc) refl

by_place : (next : Option ℕ) (f : ℕ → Step) → ((n : ℕ) → NoThrow (f n)) → NoThrow (unwrap_or (option_map f next) Step.Stuck)
by_place None f h = tt
by_place (Some n) f h = h n

no_throw : (p : Program) (below : List MachineFrame) (next : Option ℕ) (work : Work) (effect : Effect Work)
    → NoThrow (unwrap_or (applied p below next work effect) Step.Stuck)
no_throw p below next work (Effect.Next after) = by_place next (λ place. goes_on below place after) (λ n. tt)
no_throw p below next work (Effect.Jump place after) = tt
no_throw p below next work (Effect.Raise class) = tt
no_throw p below next work (Effect.Throw r) = tt
no_throw p below next work (Effect.Invoke number count) = invoked_by p below number count work
    (entered p number (reverse (take count work.frame.stack))) refl
no_throw p below next work (Effect.Return value) = returned p below value work

module _ (p : Program) (state : MachineState) (frame : MachineFrame) (below : List MachineFrame) where
  abbrev NoneThrown : Type 0
  NoneThrown = NoThrow (unwrap_or (normal_step p state (frame ∷ below)) Step.Stuck)

  by_effect : (m : Method) (here : Op × Option ℕ) (form : Form) (effect : Option (Effect Work)) → slice_get p.methods frame.method ≡ Some m
      → insn_at p.methods frame.method frame.pc ≡ Some here → form_of here.0 ≡ Some form
      → effect_of p m form (work_of state frame) ≡ effect → NoneThrown
  unfolding normal_step
  by_effect m here form None a b c d = rw a (rw b (rw c (rw d tt)))
  by_effect m here form (Some effect) a b c d = rw a (rw b (rw c (rw d (no_throw p below here.1 (work_of state frame) effect))))

  by_form : (m : Method) (here : Op × Option ℕ) (form : Option Form) → slice_get p.methods frame.method ≡ Some m
      → insn_at p.methods frame.method frame.pc ≡ Some here → form_of here.0 ≡ form → NoneThrown
  unfolding normal_step
  by_form m here None a b c = rw a (rw b (rw c tt))
  by_form m here (Some form) a b c = by_effect m here form (effect_of p m form (work_of state frame)) a b c refl

  by_insn : (m : Method) (here : Option (Op × Option ℕ)) → slice_get p.methods frame.method ≡ Some m
      → insn_at p.methods frame.method frame.pc ≡ here → NoneThrown
  unfolding normal_step
  by_insn m None a b = rw a (rw b tt)
  by_insn m (Some here) a b = by_form m here (form_of here.0) a b refl

  by_method : (m : Option Method) → slice_get p.methods frame.method ≡ m → NoneThrown
  unfolding normal_step
  by_method None a = rw a tt
  by_method (Some m) a = by_insn m (insn_at p.methods frame.method frame.pc) a refl

normal_throws_none : (p : Program) (state : MachineState) (frames : List MachineFrame)
    → NoThrow (unwrap_or (normal_step p state frames) Step.Stuck)
unfolding normal_step
normal_throws_none p state [] = tt
normal_throws_none p state (frame ∷ below) = by_method p state frame below (slice_get p.methods frame.method) refl

end_is_return : (s : Step) → NoThrow s → IsEnd s → (value : Option Value) × (s ≡ Step.Returned value)
end_is_return (Step.Going state) n e = absurd e
end_is_return (Step.Returned value) n e = (value, refl)
end_is_return (Step.Threw r) n e = absurd n
end_is_return Step.Stuck n e = absurd e

-- an end in normal mode is a return
pub normal_end : (p : Program) (state : MachineState) → state.mode ≡ Normal → IsEnd (step p state)
    → (value : Option Value) × (step p state ≡ Step.Returned value)
normal_end p state e h = end_is_return (step p state)
    (subst NoThrow (sym (step_normal p state e)) (normal_throws_none p state state.frames)) h

-- ---- throwing mode

abbrev Throws : ℕ → Step → Type 0
Throws r s = IsEnd s → s ≡ Step.Threw r

unwound_throws : (state : MachineState) (r : ℕ) (below : List MachineFrame) → Throws r (unwound state r below)
unwound_throws state r [] = λ e. refl
unwound_throws state r (caller ∷ below) = λ e. absurd e

handled_throws : (state : MachineState) (r : ℕ) (frame : MachineFrame) (below : List MachineFrame) (found : Option CatchRange)
    → Throws r (handled state r frame below found)
handled_throws state r frame below (Some range) = λ e. absurd e
handled_throws state r frame below None = unwound_throws state r below

module _ (p : Program) (state : MachineState) (r : ℕ) (frame : MachineFrame) (below : List MachineFrame) where
  abbrev ItThrows : Type 0
  ItThrows = Throws r (unwrap_or (throwing_step p state r (frame ∷ below)) Step.Stuck)

  by_object : (m : Method) (object : Option Object) → slice_get p.methods frame.method ≡ Some m → object_at state.heap r ≡ object
      → ItThrows
  unfolding throwing_step
  by_object m None a b = rw a (rw b (λ e. absurd e))
  by_object m (Some object) a b = rw a
      (rw b (handled_throws state r frame below (find (takes p.world object frame.pc) m.table)))

  thrown_by_method : (m : Option Method) → slice_get p.methods frame.method ≡ m → ItThrows
  unfolding throwing_step
  thrown_by_method None a = rw a (λ e. absurd e)
  thrown_by_method (Some m) a = by_object m (object_at state.heap r) a refl

throwing_throws : (p : Program) (state : MachineState) (r : ℕ) (frames : List MachineFrame)
    → Throws r (unwrap_or (throwing_step p state r frames) Step.Stuck)
unfolding throwing_step
throwing_throws p state r [] = λ e. absurd e
throwing_throws p state r (frame ∷ below) = thrown_by_method p state r frame below (slice_get p.methods frame.method) refl

-- an end in throwing mode is the throw of what is thrown
pub throwing_end : (p : Program) (state : MachineState) (r : ℕ) → state.mode ≡ Throwing r → IsEnd (step p state)
    → step p state ≡ Step.Threw r
throwing_end p state r e h = subst (Throws r) (sym (step_throwing p state r e)) (throwing_throws p state r state.frames) h
