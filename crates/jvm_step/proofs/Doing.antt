-- What was done to a part of a machine, as done to the whole.
use Rattle.std.proofs.Common.{◌≡◌, List, Option, Some, None, sym, ap, subst}
use Rattle.std.specs.Prelude.{Result, Ok, Err}
use Rattle.std.specs.Option.{option_map}
use Rattle.jvm_values.specs.declared.heap.Value.{Value}
use Rattle.jvm_values.specs.declared.heap.Heap.{Heap}
use Rattle.jvm_values.specs.States.{MachineFrame}
use Rattle.class_program.specs.declared.program.Method.{Method}
use Rattle.class_program.specs.Programs.{Program}
use Rattle.op_forms.specs.Forms.{Form}
use Rattle.jvm_step.specs.declared.after.After.{After}
use Rattle.jvm_step.specs.declared.after.After.TheVariants as afters
use Rattle.jvm_step.specs.Acts.{Did, Acts, Tries}
use Rattle.jvm_step.specs.Effects.{Effect, effect_on}
use Rattle.jvm_step.specs.Table.{Work, on_frame, on_heap, on_statics, effect_of}

pub did_on : {X Y : Type 0} (into : X → Y) (e : Effect X) (after : After) (old new : X) → Did e after old new
    → Did (effect_on into e) after (into old) (into new)
did_on into (Effect.Next x) afters.Next old new h = ap into h
did_on into (Effect.Next x) (afters.Jump to) old new h = absurd h
did_on into (Effect.Next x) (afters.Raise raised) old new h = absurd h
did_on into (Effect.Next x) (afters.Throw thrown) old new h = absurd h
did_on into (Effect.Next x) (afters.Invoke method taken) old new h = absurd h
did_on into (Effect.Next x) (afters.Return result) old new h = absurd h
did_on into (Effect.Jump place x) afters.Next old new h = absurd h
did_on into (Effect.Jump place x) (afters.Jump to) old new h = (h.0, ap into h.1)
did_on into (Effect.Jump place x) (afters.Raise raised) old new h = absurd h
did_on into (Effect.Jump place x) (afters.Throw thrown) old new h = absurd h
did_on into (Effect.Jump place x) (afters.Invoke method taken) old new h = absurd h
did_on into (Effect.Jump place x) (afters.Return result) old new h = absurd h
did_on into (Effect.Raise class) afters.Next old new h = absurd h
did_on into (Effect.Raise class) (afters.Jump to) old new h = absurd h
did_on into (Effect.Raise class) (afters.Raise raised) old new h = (h.0, ap into h.1)
did_on into (Effect.Raise class) (afters.Throw thrown) old new h = absurd h
did_on into (Effect.Raise class) (afters.Invoke method taken) old new h = absurd h
did_on into (Effect.Raise class) (afters.Return result) old new h = absurd h
did_on into (Effect.Throw r) afters.Next old new h = absurd h
did_on into (Effect.Throw r) (afters.Jump to) old new h = absurd h
did_on into (Effect.Throw r) (afters.Raise raised) old new h = absurd h
did_on into (Effect.Throw r) (afters.Throw thrown) old new h = (h.0, ap into h.1)
did_on into (Effect.Throw r) (afters.Invoke method taken) old new h = absurd h
did_on into (Effect.Throw r) (afters.Return result) old new h = absurd h
did_on into (Effect.Invoke number count) afters.Next old new h = absurd h
did_on into (Effect.Invoke number count) (afters.Jump to) old new h = absurd h
did_on into (Effect.Invoke number count) (afters.Raise raised) old new h = absurd h
did_on into (Effect.Invoke number count) (afters.Throw thrown) old new h = absurd h
did_on into (Effect.Invoke number count) (afters.Invoke method taken) old new h = (h.0, h.1, ap into h.2)
did_on into (Effect.Invoke number count) (afters.Return result) old new h = absurd h
did_on into (Effect.Return value) afters.Next old new h = absurd h
did_on into (Effect.Return value) (afters.Jump to) old new h = absurd h
did_on into (Effect.Return value) (afters.Raise raised) old new h = absurd h
did_on into (Effect.Return value) (afters.Throw thrown) old new h = absurd h
did_on into (Effect.Return value) (afters.Invoke method taken) old new h = absurd h
did_on into (Effect.Return value) (afters.Return result) old new h = (h.0, ap into h.1)

pub acts_on : {X Y : Type 0} (into : X → Y) (e : Option (Effect X)) (after : After) (old new : X) → Acts e after old new
    → Acts (option_map (effect_on into) e) after (into old) (into new)
acts_on into (Some e) after old new h = did_on into e after old new h
acts_on into None after old new h = tt

pub tries_on : {X Y E : Type 0} (into : X → Y) (e : Option (Effect X)) (result : Result After E) (old new : X)
    → Tries e result old new → Tries (option_map (effect_on into) e) result (into old) (into new)
tries_on into e (Ok after) old new h = acts_on into e after old new h
tries_on into e (Err fault) old new h = ap into h

-- ---- the parts of what an instruction works on

pub frame_acts : (w : Work) (e : Option (Effect MachineFrame)) (after : After) (new : MachineFrame) → Acts e after w.frame new
    → Acts (on_frame w e) after w (record w { frame = new })
frame_acts w e after new h = acts_on (λ (f : MachineFrame). record w { frame = f }) e after w.frame new h

pub frame_tries : {E : Type 0} (w : Work) (e : Option (Effect MachineFrame)) (result : Result After E) (new : MachineFrame)
    → Tries e result w.frame new → Tries (on_frame w e) result w (record w { frame = new })
frame_tries w e result new h = tries_on (λ (f : MachineFrame). record w { frame = f }) e result w.frame new h

pub heap_acts : (w : Work) (e : Option (Effect (MachineFrame × Heap))) (after : After) (new : MachineFrame) (heap : Heap)
    → Acts e after (w.frame, w.heap) (new, heap) → Acts (on_heap w e) after w (record w { frame = new; heap = heap })
heap_acts w e after new heap h = acts_on (λ (x : MachineFrame × Heap). record w { frame = x.0; heap = x.1 }) e after
    (w.frame, w.heap) (new, heap) h

pub heap_tries : {E : Type 0} (w : Work) (e : Option (Effect (MachineFrame × Heap))) (result : Result After E) (new : MachineFrame)
    (heap : Heap) → Tries e result (w.frame, w.heap) (new, heap) → Tries (on_heap w e) result w (record w { frame = new; heap = heap })
heap_tries w e result new heap h = tries_on (λ (x : MachineFrame × Heap). record w { frame = x.0; heap = x.1 }) e result
    (w.frame, w.heap) (new, heap) h

pub statics_acts : (w : Work) (e : Option (Effect (MachineFrame × List Value))) (after : After) (new : MachineFrame)
    (statics : List Value) → Acts e after (w.frame, w.statics) (new, statics)
    → Acts (on_statics w e) after w (record w { frame = new; statics = statics })
statics_acts w e after new statics h = acts_on (λ (x : MachineFrame × List Value). record w { frame = x.0; statics = x.1 }) e after
    (w.frame, w.statics) (new, statics) h

-- a form said in another way has the same effect
pub tries_as : {E : Type 0} (p : Program) (m : Method) (w : Work) (f g : Form) (result : Result After E) (new : Work) → f ≡ g
    → Tries (effect_of p m g w) result w new → Tries (effect_of p m f w) result w new
tries_as p m w f g result new e h = subst (λ (x : Form). Tries (effect_of p m x w) result w new) (sym e) h

pub acts_as : (p : Program) (m : Method) (w : Work) (f g : Form) (after : After) (new : Work) → f ≡ g
    → Acts (effect_of p m g w) after w new → Acts (effect_of p m f w) after w new
acts_as p m w f g after new e h = subst (λ (x : Form). Acts (effect_of p m x w) after w new) (sym e) h
