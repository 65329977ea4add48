-- A run from what a state gives to a program never gets stuck.
use Rattle.std.proofs.Common.{◌≡◌, List, [], ◌∷◌, map, Option, Some, None, refl, sym, ap, subst, ◌∙◌}
use Rattle.std.specs.Prelude.{slice_get}
use Rattle.std.specs.List.{AllZip}
use Rattle.std.specs.Option.{option_map_or}
use Rattle.jvm_values.specs.declared.types.Slot.{Slot}
use Rattle.jvm_values.specs.declared.types.Slot.TheVariants as slots
use Rattle.jvm_values.specs.declared.heap.Value.{Value}
use Rattle.jvm_values.specs.declared.heap.Value.TheVariants as values
use Rattle.jvm_values.specs.declared.heap.Heap.{Heap}
use Rattle.jvm_values.specs.States.{MachineState}
use Rattle.jvm_values.specs.TypedHeaps.{WorldTypes, Holds}
use Rattle.class_world.specs.WorldTypes.{types_of}
use Rattle.class_program.specs.declared.program.Method.{Method}
use Rattle.class_program.specs.Programs.{Program, IsClosed}
use Rattle.class_program.specs.Widths.{HasWidths}
use Rattle.jvm_run.specs.code_verify.Operands.{place_of}
use Rattle.jvm_run.specs.code_verify.TypedStates.{HasPlaceType}
use Rattle.jvm_step.specs.Running.{entered, start, IsNeverStuck}
use Rattle.jvm_run.specs.Laws.{AreInputs}
use Rattle.jvm_run.proofs.TypedRuns.{never_stuck, starts_typed}
use Rattle.input_desc.specs.declared.states.StateInput.{StateInput}
use Rattle.input_desc.specs.Given.{params_of, field_slot, argument_slot}
use Rattle.input_desc.specs.States.{IsTypedInput}
use Rattle.input_desc.proofs.Zipped.{zip_map}
use Rattle.input_steps.specs.Programs.{HasTypings}

-- ---- arguments and static fields

argument_place : (types : WorldTypes) (heap : Heap) (slot : Slot) (value : Value) → Holds types heap (argument_slot slot) value
    → HasPlaceType types heap (place_of types slot) (Some value)
argument_place types heap (slots.Num kind) (values.Int n) h = h
argument_place types heap (slots.Num kind) values.Null h = absurd h
argument_place types heap (slots.Num kind) (values.Ref r) h = absurd h
argument_place types heap (slots.Ref t) value h = h

argument_places : (types : WorldTypes) (heap : Heap) (params : List Slot) (args : List Value)
    → AllZip (Holds types heap) (map argument_slot params) args
    → AllZip (λ slot value. HasPlaceType types heap (place_of types slot) (Some value)) params args
argument_places types heap [] [] h = tt
argument_places types heap [] (arg ∷ args) h = absurd h
argument_places types heap (slot ∷ params) [] h = absurd h
argument_places types heap (slot ∷ params) (arg ∷ args) h =
    (argument_place types heap slot arg h.0, argument_places types heap params args h.1)

-- ---- the start

no_start : (p : Program) (args statics : List Value) (heap : Heap) → slice_get p.methods 0 ≡ None → start p args statics heap ≡ None
unfolding start entered
no_start p args statics heap e = rw e refl

entry_by : (found : Option Method) → (found ≡ None → ⊥) → (m : Method) × (found ≡ Some m)
entry_by (Some m) n = (m, refl)
entry_by None n = absurd (n refl)

-- where a run begins, there is an entry
entry_there : (p : Program) (args statics : List Value) (heap : Heap) (state : MachineState)
    → start p args statics heap ≡ Some state → (m : Method) × (slice_get p.methods 0 ≡ Some m)
entry_there p args statics heap state e =
    entry_by (slice_get p.methods 0) (λ none. let f : Some state ≡ None = sym e ∙ no_start p args statics heap none in cc)

params_are : (p : Program) (m : Method) → slice_get p.methods 0 ≡ Some m → params_of p ≡ m.params
params_are p m e = ap (λ (o : Option Method). option_map_or (λ (k : Method). k.params) o []) e

inputs_are : (p : Program) (given : StateInput) (state : MachineState) → IsTypedInput p given
    → start p given.args given.statics given.heap ≡ Some state → AreInputs p given.args given.statics given.heap
inputs_are p given state typed e =
    let types = types_of p.world in
    let entry = entry_there p given.args given.statics given.heap state e in
    let held = subst (λ (params : List Slot). AllZip (Holds types given.heap) (map argument_slot params) given.args)
    (params_are p entry.0 entry.1) typed.args_are in
    record {
      entry = entry.0;
      is_entry = entry.1;
      arguments_typed = argument_places types given.heap entry.0.params given.args held;
      statics_typed = zip_map field_slot (Holds types given.heap) p.statics given.statics typed.statics_are;
      heap_typed = typed.heap_is;
    }

-- the run never gets stuck
pub input_never_stuck : (p : Program) (given : StateInput) (state : MachineState) → IsClosed p → HasWidths p → HasTypings p
    → IsTypedInput p given → start p given.args given.statics given.heap ≡ Some state → IsNeverStuck p state
input_never_stuck p given state closed widths typings typed e =
    never_stuck p typings.0 closed widths typings.1 state
    (starts_typed p typings.0 closed typings.1 given.args given.statics given.heap (inputs_are p given state typed e) state e)
