-- Calls: the frame of the method that runs, over its caller's.
use Rattle.std.proofs.Common.{◌≡◌, ◌∙◌, inl, ◌+◌, ◌-◌, ℕ, zero, suc, Bool, true, false, cond, if◌then◌else◌, List, [], ◌∷◌, ◌++◌}
use Rattle.std.proofs.Common.{length, map, Option, Some, None, slice_get, refl, sym, ap, subst, arith, take, drop, replicate}
use Rattle.std.proofs.Common.{reverse}
use Rattle.std.specs.Prelude.{unwrap_or}
use Rattle.std.specs.List.{AllByRecursion}
use Rattle.std.specs.Option.{option_map, option_map_or, option_and_then}
use Rattle.std.proofs.lemmas.List.{reverse-append}
use Rattle.std.proofs.lemmas.List.Elements.{All-nil}
use Rattle.std.proofs.lemmas.Option.{none-some}
use Rattle.list_views.specs.Options.{asked}
use Rattle.list_views.proofs.Items.{map_reversed}
use Rattle.list_views.proofs.Quantified.{all_joined}
use Rattle.jvm_values.specs.declared.heap.Value.{Value}
use Rattle.jvm_values.specs.declared.heap.Value.TheVariants as values
use Rattle.jvm_values.specs.declared.heap.Object.{Object}
use Rattle.jvm_values.specs.declared.heap.Object.TheVariants as objects
use Rattle.jvm_values.specs.declared.heap.Heap.{Heap}
use Rattle.jvm_values.specs.declared.types.Slot.{Slot}
use Rattle.jvm_values.specs.States.{MachineFrame, MachineState, locals_from}
use Rattle.jvm_values.specs.TypedHeaps.{WorldTypes}
use Rattle.jvm_values.proofs.Options.{some_is}
use Rattle.abs_cells.specs.declared.cells.Cell.{Cell}
use Rattle.abs_cells.specs.declared.cells.Cell.TheVariants as cells
use Rattle.abs_cells.specs.AbstractStates.{AbstractState}
use Rattle.abs_cells.specs.Cells.{cell_at, HasCell}
use Rattle.abs_cells.specs.Fits.{Meaning}
use Rattle.abs_cells.specs.Sound.{given_ids}
use Rattle.jvm_step.specs.class_world.BuiltIns.{null_pointer_exception, abstract_method_error, incompatible_class_change_error}
use Rattle.jvm_step.specs.class_world.World.{World}
use Rattle.jvm_step.specs.class_world.WorldTypes.{types_of}
use Rattle.jvm_step.specs.class_program.declared.op.Call.{Call}
use Rattle.jvm_step.specs.class_program.declared.op.Op.{Op}
use Rattle.jvm_step.specs.class_program.declared.program.Method.{Method}
use Rattle.jvm_step.specs.class_program.declared.selected.Selected.{Selected}
use Rattle.jvm_step.specs.class_program.declared.selected.Selected.TheVariants as answers
use Rattle.jvm_step.specs.class_program.Programs.{Program}
use Rattle.jvm_step.specs.class_program.Selected.{can_receive}
use Rattle.frame_types.specs.Tables.{CodeTypes}
use Rattle.jvm_step.specs.Effects.{Effect, are_passed, below_arguments, invokestatic_effect, invokespecial_effect}
use Rattle.jvm_step.specs.Effects.{is_special_receiver, runs_or_lacks as effect_or_lacks, class_of_object, answer_of}
use Rattle.jvm_step.specs.Effects.{selected_effect, selecting_effect, on_object}
use Rattle.jvm_step.specs.Operands.{is_null, reference_of, top_reference, object_at}
use Rattle.jvm_step.specs.Table.{Work, effect_of, on_frame}
use Rattle.jvm_step.specs.Running.{Step, step, new_frame, entered, invokes as machine_invokes}
use Rattle.form_steps.specs.TermGraphEdges.{HoldsBetween}
use Rattle.form_steps.specs.abs_expand.inner.Building.{HoldsIds}
use Rattle.form_steps.specs.abs_expand.Needs.{need_null}
use Rattle.form_steps.specs.abs_expand.Plans.{Turn, Plan, steps, no_child, no_rows}
use Rattle.form_steps.specs.abs_expand.Table.{cell_here, is_null_here, unless_null, accessed, one_step, called_frame, invokes, runs_or_lacks}
use Rattle.form_steps.specs.abs_expand.Table.{static_plan, special_plan, class_of_cell, answered, selecting_plan}
use Rattle.form_steps.specs.abs_expand.Turns.{moves, throws, with_stack as stack_at}
use Rattle.form_steps.proofs.Tops.{from_tops, nothing_behind}
use Rattle.form_steps.proofs.Standing.{rests, Stands, here, Work_, held, lower_held, going, by_effect, not_stuck, no_frame_effect}
use Rattle.form_steps.proofs.Standing.{raises_frame}
use Rattle.form_steps.proofs.TurnKinds.{Fitting, Meets, moving_turn, throwing_turn}
use Rattle.form_steps.proofs.Needs.{need_null_meets}
use Rattle.object_steps.proofs.References.{null_agrees, accessed_meets}

-- ---- lists

mapped_taken : {A B : Type 0} (f : A → B) (n : ℕ) (xs : List A) → map f (take n xs) ≡ take n (map f xs)
mapped_taken f zero xs = refl
mapped_taken f (suc n) [] = refl
mapped_taken f (suc n) (x ∷ xs) = ap (λ ys. f x ∷ ys) (mapped_taken f n xs)

mapped_dropped : {A B : Type 0} (f : A → B) (n : ℕ) (xs : List A) → map f (drop n xs) ≡ drop n (map f xs)
mapped_dropped f zero xs = refl
mapped_dropped f (suc n) [] = refl
mapped_dropped f (suc n) (x ∷ xs) = mapped_dropped f n xs

-- what is below so many entries
dropped_is : {A : Type 0} (xs : List A) (n : ℕ) (x : A) → slice_get xs n ≡ Some x → (rest : List A) × (drop n xs ≡ x ∷ rest)
dropped_is [] n x e = absurd (none-some x e)
dropped_is (y ∷ xs) zero x e = (xs, ap (λ z. z ∷ xs) (some_is e))
dropped_is (y ∷ xs) (suc n) x e = dropped_is xs n x e

dropped_none : {A : Type 0} (xs : List A) (n : ℕ) → slice_get xs n ≡ None → drop n xs ≡ []
dropped_none [] zero e = refl
dropped_none [] (suc n) e = refl
dropped_none (y ∷ xs) zero e = absurd (none-some y (sym e))
dropped_none (y ∷ xs) (suc n) e = dropped_none xs n e

mapped_at : {A B : Type 0} (f : A → B) (xs : List A) (n : ℕ) (x : A) → slice_get xs n ≡ Some x → slice_get (map f xs) n ≡ Some (f x)
mapped_at f [] n x e = absurd (none-some x e)
mapped_at f (y ∷ xs) zero x e = ap (λ z. Some (f z)) (some_is e)
mapped_at f (y ∷ xs) (suc n) x e = mapped_at f xs n x e

unset_none : (k n id : ℕ) → slice_get (replicate k None) n ≡ Some (Some id) → ⊥
unset_none zero n id e = none-some (Some id) e
unset_none (suc k) zero id e = none-some id (some_is e)
unset_none (suc k) (suc n) id e = unset_none k n id e

-- the first locals are the arguments
argument_locals : (m : Meaning) (ids : List ℕ) (k j : ℕ) (n id : ℕ) → slice_get (map Some ids ++ replicate k None) n ≡ Some
    (Some id) → slice_get (map Some (map m ids) ++ replicate j None) n ≡ Some (Some (m id))
argument_locals m [] k j n id e = absurd (unset_none k n id e)
argument_locals m (i ∷ ids) k j zero id e = ap (λ (x : ℕ). Some (Some (m x))) (some_is (some_is e))
argument_locals m (i ∷ ids) k j (suc n) id e = argument_locals m ids k j n id e

set_ids : (P : ℕ → Type 0) (ids : List ℕ) (k : ℕ) → AllByRecursion P ids → AllByRecursion P (given_ids (map Some ids ++ replicate k None))
set_ids P [] zero h = tt
set_ids P [] (suc k) h = set_ids P [] k h
set_ids P (i ∷ ids) k h = (h.0, set_ids P ids k h.1)

reversed_held : (P : ℕ → Type 0) (ids : List ℕ) → AllByRecursion P ids → AllByRecursion P (reverse ids)
reversed_held P [] h = tt
reversed_held P (i ∷ ids) h = subst (AllByRecursion P) (sym (reverse-append (i ∷ []) ids))
    (all_joined P (reverse ids) (i ∷ []) (reversed_held P ids h.1) (h.0, tt))

taken_held : (P : ℕ → Type 0) (n : ℕ) (ids : List ℕ) → AllByRecursion P ids → AllByRecursion P (take n ids)
taken_held P zero ids h = tt
taken_held P (suc n) [] h = tt
taken_held P (suc n) (i ∷ ids) h = (h.0, taken_held P n ids h.1)

dropped_held : (P : ℕ → Type 0) (n : ℕ) (ids : List ℕ) → AllByRecursion P ids → AllByRecursion P (drop n ids)
dropped_held P zero ids h = h
dropped_held P (suc n) [] h = tt
dropped_held P (suc n) (i ∷ ids) h = dropped_held P n ids h.1

place_held : (P : ℕ → Type 0) (ids : List ℕ) (n x : ℕ) → AllByRecursion P ids → slice_get ids n ≡ Some x → P x
place_held P [] n x h e = absurd (none-some x e)
place_held P (i ∷ ids) zero x h e = subst P (some_is e) h.0
place_held P (i ∷ ids) (suc n) x h e = place_held P ids n x h.1 e

-- ---- effects

invokes_none : (p : Program) (below : List MachineFrame) (number count : ℕ) (work : Work) → slice_get p.methods number ≡ None
    → machine_invokes p below number count work ≡ None
unfolding machine_invokes entered
invokes_none p below number count work e = rw e refl

invokes_by : (p : Program) (below : List MachineFrame) (number count : ℕ) (work : Work) (m : Method)
    → slice_get p.methods number ≡ Some m → machine_invokes p below number count work ≡ Some
    (Step.Going (going (new_frame number m (reverse (take count work.frame.stack)) ∷ record work.frame
    { stack = drop count work.frame.stack } ∷ below) work.heap work.statics))
unfolding machine_invokes entered
invokes_by p below number count work m e = rw e refl

static_stuck : (types : WorldTypes) (call : Call) (heap : Heap) (f : MachineFrame)
    → below_arguments types heap call.params f.stack ≡ None → invokestatic_effect types call heap f ≡ None
unfolding invokestatic_effect
static_stuck types call heap f e = rw e refl

static_by : (types : WorldTypes) (call : Call) (heap : Heap) (f : MachineFrame) (below : List Value)
    → below_arguments types heap call.params f.stack ≡ Some below → invokestatic_effect types call heap f ≡ option_map
    (λ (number : ℕ). Effect.Invoke number (length call.params)) call.target
unfolding invokestatic_effect
static_by types call heap f below e = rw e refl

arguments_by : (types : WorldTypes) (heap : Heap) (params : List Slot) (stack : List Value)
    → below_arguments types heap params stack ≡ cond (are_passed types heap params (reverse (take (length params) stack)))
    (Some (drop (length params) stack)) None
unfolding below_arguments
arguments_by types heap params stack = refl

special_stuck : (world : World) (current : ℕ) (call : Call) (heap : Heap) (f : MachineFrame)
    → below_arguments (types_of world) heap call.params f.stack ≡ None → invokespecial_effect world current call heap f ≡ None
unfolding invokespecial_effect
special_stuck world current call heap f e = rw e refl

special_by : (world : World) (current : ℕ) (call : Call) (heap : Heap) (f : MachineFrame) (below : List Value)
    (found : Option (Value × List Value)) → below_arguments (types_of world) heap call.params f.stack ≡ Some below
    → top_reference below ≡ found
    → invokespecial_effect world current call heap f ≡ option_and_then
    (λ (receiver : Value × List Value). on_object heap receiver.0
    (λ r object. cond (is_special_receiver world current call object)
    (Some (effect_or_lacks (length call.params + 1) call.target)) None)) found
unfolding invokespecial_effect
special_by world current call heap f below None e g = rw (e, g) refl
special_by world current call heap f below (Some x) e g = rw (e, g) refl

selecting_stuck : (p : Program) (op : Op) (call : Call) (heap : Heap) (f : MachineFrame)
    → below_arguments (types_of p.world) heap call.params f.stack ≡ None → selecting_effect p op call heap f ≡ None
unfolding selecting_effect
selecting_stuck p op call heap f e = rw e refl

-- what comes of a receiver's object
abbrev selected_of : Program → Op → Call → Object → Option (Effect MachineFrame)
selected_of p op call object = option_and_then
    (λ (u : Unit {0}). option_map (selected_effect (length call.params + 1)) (answer_of p op (class_of_object object)))
    (asked (can_receive p.world op (class_of_object object)))

selecting_by : (p : Program) (op : Op) (call : Call) (heap : Heap) (f : MachineFrame) (below : List Value)
    (found : Option (Value × List Value)) → below_arguments (types_of p.world) heap call.params f.stack ≡ Some below
    → top_reference below ≡ found
    → selecting_effect p op call heap f ≡ option_and_then
    (λ (receiver : Value × List Value). on_object heap receiver.0 (λ r object. selected_of p op call object)) found
unfolding selecting_effect
selecting_by p op call heap f below None e g = rw (e, g) refl
selecting_by p op call heap f below (Some x) e g = rw (e, g) refl

module _ (p : Program) (typing : ℕ → CodeTypes) (state : AbstractState) (machine : MachineState) (meaning : Meaning)
    (s : Stands p typing state machine meaning) where
  abbrev types : WorldTypes
  types = types_of p.world

  abbrev Fit : Turn → Type 0
  Fit = Fitting p state machine meaning

  abbrev Covered : Plan → Type 0
  Covered = Meets p state machine meaning

  abbrev Holds : ℕ → Type 0
  Holds = HasCell (λ _. true) state

  abbrev Effects : Option (Effect MachineFrame) → Type 0
  Effects effect = effect_of p s.method s.form (Work_ p typing state machine meaning s) ≡ on_frame
      (Work_ p typing state machine meaning s) effect

  none : (effect : Option (Effect MachineFrame)) → Effects effect → effect ≡ None → ⊥
  none = no_frame_effect p typing state machine meaning s

  frame_held : HoldsIds state s.frame
  frame_held = held p typing state machine meaning s

  abbrev Arguments : ℕ → List ℕ
  Arguments count = reverse (take count s.frame.stack)

  -- a method is called
  pub invoked : (effect : Option (Effect MachineFrame)) (count number : ℕ) → Effects effect
      → effect ≡ Some (Effect.Invoke number count) → Covered (invokes (here p typing state machine meaning s) count number)
  invoked effect count number is e = at (slice_get p.methods number) refl
    where
      steps_by : step p machine ≡ unwrap_or (machine_invokes p s.below number count (Work_ p typing state machine meaning s)) Step.Stuck
      steps_by = by_effect p typing state machine meaning s (Some (Effect.Invoke number count))
          (is ∙ ap (on_frame (Work_ p typing state machine meaning s)) e)

      at : (found : Option Method) → slice_get p.methods number ≡ found
          → Covered (option_map_or
          (λ (m : Method). one_step
          (moves (called_frame number m (Arguments count) ∷ stack_at (here p typing state machine meaning s) s.frame.pc
          (drop count s.frame.stack)))) found no_child)
      at None f = absurd (not_stuck p typing state machine meaning s
          (steps_by ∙ ap (λ (o : Option Step). unwrap_or o Step.Stuck)
          (invokes_none p s.below number count (Work_ p typing state machine meaning s) f)))
      at (Some m) f =
          inl (moving_turn p typing state machine meaning s []
          (called_frame number m (Arguments count) ∷ record
          { method = s.frame.method; pc = s.frame.pc; locals = s.frame.locals; stack = drop count s.frame.stack } ∷ s.lower)
          no_rows
          (new_frame number m (reverse (take count s.running.stack)) ∷ record s.running { stack = drop count s.running.stack }
          ∷ s.below) machine.statics tt (
            record { locals = set_ids Holds (Arguments count) (m.max_locals - length (Arguments count)) arguments_held; stack = tt },
            (
              record { locals = frame_held.locals; stack = dropped_held Holds count s.frame.stack frame_held.stack },
              lower_held
                  p typing state machine meaning s,
            ),
          )
          (from_tops meaning (called_frame number m (Arguments count))
          (record { method = s.frame.method; pc = s.frame.pc; locals = s.frame.locals; stack = drop count s.frame.stack }
          ∷ s.lower) machine.statics (new_frame number m (reverse (take count s.running.stack)))
          (record s.running { stack = drop count s.running.stack } ∷ s.below)
          (record {
            top = record { method = refl; pc = refl; locals = entered_locals m; stack = refl };
            lower_fit = from_tops meaning
                (record { method = s.frame.method; pc = s.frame.pc; locals = s.frame.locals; stack = drop count s.frame.stack })
                s.lower machine.statics (record s.running { stack = drop count s.running.stack }) s.below
                (record {
                  top = record {
                    method = s.fit.top.method;
                    pc = s.fit.top.pc;
                    locals = s.fit.top.locals;
                    stack = ap
                        (drop count) s.fit.top.stack ∙ sym (mapped_dropped meaning count s.frame.stack);
                  };
                  lower_fit =
                      s.fit.lower_fit;
                });
          }))
          (λ id. All-nil (HoldsBetween meaning meaning))
          (steps_by ∙ ap (λ (o : Option Step). unwrap_or o Step.Stuck)
          (invokes_by p s.below number count (Work_ p typing state machine meaning s) m f)))
        where
          arguments_held : AllByRecursion Holds (Arguments count)
          arguments_held = reversed_held Holds (take count s.frame.stack) (taken_held Holds count s.frame.stack frame_held.stack)

          values_are : reverse (take count s.running.stack) ≡ map meaning (Arguments count)
          values_are = ap (λ (vs : List Value). reverse (take count vs)) s.fit.top.stack
              ∙ ap reverse (sym (mapped_taken meaning count s.frame.stack)) ∙ sym (map_reversed meaning (take count s.frame.stack))

          entered_locals : (m : Method) (n id : ℕ) → slice_get (locals_from Some None m.max_locals (Arguments count)) n ≡ Some
              (Some id) → slice_get (locals_from Some None m.max_locals (reverse (take count s.running.stack)) ++ []) n ≡ Some
              (Some (meaning id))
          entered_locals m n id g =
              subst (λ (vs : List Value). slice_get (locals_from Some None m.max_locals vs ++ []) n ≡ Some (Some (meaning id)))
              (sym values_are)
              (ap (λ (xs : List (Option Value)). slice_get xs n)
              (nothing_behind (locals_from Some None m.max_locals (map meaning (Arguments count))))
              ∙ argument_locals meaning (Arguments count) (m.max_locals - length (Arguments count))
              (m.max_locals - length (map meaning (Arguments count))) n id g)

  -- ---- invokestatic

  pub static_called : (call : Call) → Effects (invokestatic_effect types call machine.heap s.running)
      → Covered (static_plan (here p typing state machine meaning s) call)
  static_called call is = at (below_arguments types machine.heap call.params s.running.stack) refl call.target refl
    where
      effect : Option (Effect MachineFrame)
      effect = invokestatic_effect types call machine.heap s.running

      at : (below : Option (List Value)) → below_arguments types machine.heap call.params s.running.stack ≡ below
          → (target : Option ℕ) → call.target ≡ target
          → Covered (option_map_or (invokes (here p typing state machine meaning s) (length call.params)) target no_child)
      at None f target g = absurd (none effect is (static_stuck types call machine.heap s.running f))
      at (Some below) f None g = absurd
          (none effect is (static_by types call machine.heap s.running below f
          ∙ ap (option_map (λ (number : ℕ). Effect.Invoke number (length call.params))) g))
      at (Some below) f (Some number) g = invoked effect (length call.params) number is
          (static_by types call machine.heap s.running below f
          ∙ ap (option_map (λ (number : ℕ). Effect.Invoke number (length call.params))) g)

  -- ---- receivers

  -- below so many entries the machine's stack begins with the value of an id
  below_is : (stack : List Value) (ids : List ℕ) (n x : ℕ) → stack ≡ map meaning ids → slice_get ids n ≡ Some x
      → (rest : List Value) × (drop n stack ≡ meaning x ∷ rest)
  below_is stack ids n x e f = dropped_is stack n (meaning x) (ap (λ (vs : List Value). slice_get vs n) e ∙ mapped_at meaning ids n x f)

  arguments_are : (params : List Slot) (below : List Value) → below_arguments types machine.heap params s.running.stack ≡ Some below
      → below ≡ drop (length params) s.running.stack
  arguments_are params below e = at (are_passed types machine.heap params (reverse (take (length params) s.running.stack)))
      (sym (arguments_by types machine.heap params s.running.stack) ∙ e)
    where
      at : (b : Bool) → cond b (Some (drop (length params) s.running.stack)) None ≡ Some below
          → below ≡ drop (length params) s.running.stack
      at true f = sym (some_is f)
      at false f = absurd (none-some below f)

  mapped_missing : (ids : List ℕ) (n : ℕ) → slice_get ids n ≡ None → slice_get (map meaning ids) n ≡ None
  mapped_missing [] n e = refl
  mapped_missing (i ∷ ids) zero e = absurd (none-some i (sym e))
  mapped_missing (i ∷ ids) (suc n) e = mapped_missing ids n e

  -- a call by its receiver: the stack has one, and it is null or names an object
  by_receiver : (call : Call) (effect : Option (Effect MachineFrame)) (plan : ℕ → Plan) → Effects effect
      → (below_arguments types machine.heap call.params s.running.stack ≡ None → effect ≡ None)
      → (act : ℕ → Object → Option (Effect MachineFrame))
      → ((below : List Value) (found : Option (Value × List Value))
      → below_arguments types machine.heap call.params s.running.stack ≡ Some below → top_reference below ≡ found
      → effect ≡ option_and_then (λ (receiver : Value × List Value). on_object machine.heap receiver.0 act) found)
      → ((x : ℕ) → slice_get s.frame.stack (length call.params) ≡ Some x → reference_of (meaning x) ≡ Some (meaning x)
      → (meaning x ≡ values.Null → effect ≡ Some (Effect.Raise null_pointer_exception))
      → ((r : ℕ) → meaning x ≡ values.Ref r → effect ≡ option_and_then (act r) (object_at machine.heap r)) → Covered (plan x))
      → (found : Option ℕ) → slice_get s.frame.stack (length call.params) ≡ found → Covered (option_map_or plan found no_child)
  by_receiver call effect plan is stuck act gives h None e = at (below_arguments types machine.heap call.params s.running.stack) refl
    where
      at : (below : Option (List Value)) → below_arguments types machine.heap call.params s.running.stack ≡ below → ⊥
      at None f = none effect is (stuck f)
      at (Some below) f = none effect is
          (gives below None f (ap top_reference (arguments_are call.params below f
          ∙ dropped_none s.running.stack (length call.params)
          (ap (λ (vs : List Value). slice_get vs (length call.params)) s.fit.top.stack
          ∙ mapped_missing s.frame.stack (length call.params) e))))
  by_receiver call effect plan is stuck act gives h (Some x) e = at (below_arguments types machine.heap call.params s.running.stack) refl
    where
      under : (rest : List Value) × (drop (length call.params) s.running.stack ≡ meaning x ∷ rest)
      under = below_is s.running.stack s.frame.stack (length call.params) x s.fit.top.stack e

      at : (below : Option (List Value)) → below_arguments types machine.heap call.params s.running.stack ≡ below → Covered (plan x)
      at None f = absurd (none effect is (stuck f))
      at (Some below) f = by (meaning x) refl
        where
          whole : below ≡ meaning x ∷ under.0
          whole = arguments_are call.params below f ∙ under.1

          told : (v : Value) → meaning x ≡ v
              → effect ≡ option_and_then (λ (receiver : Value × List Value). on_object machine.heap receiver.0 act)
              (option_map (λ (r : Value). (r, under.0)) (reference_of v))
          told v g = gives below (option_map (λ (r : Value). (r, under.0)) (reference_of v)) f
              (ap top_reference whole ∙ ap (λ (w : Value). option_map (λ (r : Value). (r, under.0)) (reference_of w)) g)

          by : (v : Value) → meaning x ≡ v → Covered (plan x)
          by (values.Int n) g = absurd (none effect is (told (values.Int n) g))
          by values.Null g = h x e (ap reference_of g ∙ ap Some (sym g)) (λ k. told values.Null k) (λ r k. told (values.Ref r) k)
          by (values.Ref o) g = h x e (ap reference_of g ∙ ap Some (sym g)) (λ k. told values.Null k) (λ r k. told (values.Ref r) k)

  -- ---- invokespecial

  abbrev SpecialRest : Call → Plan
  SpecialRest call = runs_or_lacks (here p typing state machine meaning s) (length call.params + 1) call.target

  pub special_called : (call : Call) → Effects (invokespecial_effect p.world s.method.class call machine.heap s.running)
      → Covered (special_plan (here p typing state machine meaning s) call)
  special_called call is =
      by_receiver call effect
      (λ x. need_null state x
      (unless_null (here p typing state machine meaning s) x
      (runs_or_lacks (here p typing state machine meaning s) (length call.params + 1) call.target))) is
      (special_stuck p.world s.method.class call machine.heap s.running)
      (λ r object. cond (is_special_receiver p.world s.method.class call object)
      (Some (effect_or_lacks (length call.params + 1) call.target)) None)
      (λ below found f g. special_by p.world s.method.class call machine.heap s.running below found f g) at
      (slice_get s.frame.stack (length call.params)) refl
    where
      effect : Option (Effect MachineFrame)
      effect = invokespecial_effect p.world s.method.class call machine.heap s.running

      at : (x : ℕ) → slice_get s.frame.stack (length call.params) ≡ Some x → reference_of (meaning x) ≡ Some (meaning x)
          → (meaning x ≡ values.Null → effect ≡ Some (Effect.Raise null_pointer_exception))
          → ((r : ℕ) → meaning x ≡ values.Ref r
          → effect ≡ option_and_then (λ (object : Object). cond (is_special_receiver p.world s.method.class call object)
          (Some (effect_or_lacks (length call.params + 1) call.target)) None) (object_at machine.heap r))
          → Covered (need_null state x
          (unless_null (here p typing state machine meaning s) x
          (runs_or_lacks (here p typing state machine meaning s) (length call.params + 1) call.target)))
      at x e reference null_case object_case =
          need_null_meets p state machine meaning (rests p typing state machine meaning s) x
          (unless_null (here p typing state machine meaning s) x
          (runs_or_lacks (here p typing state machine meaning s) (length call.params + 1) call.target))
          (λ n. by (meaning x) refl (null_agrees p typing state machine meaning s x own n))
        where
          own : Holds x
          own = place_held Holds s.frame.stack (length call.params) x frame_held.stack e

          run : (target : Option ℕ) → effect ≡ Some (effect_or_lacks (length call.params + 1) target)
              → Covered (runs_or_lacks (here p typing state machine meaning s) (length call.params + 1) target)
          run None f = inl (throwing_turn p typing state machine meaning s [] no_rows abstract_method_error tt (omega arith)
              (λ id after. All-nil (HoldsBetween meaning after))
              (raises_frame p typing state machine meaning s effect abstract_method_error is f))
          run (Some number) f = invoked effect (length call.params + 1) number is f

          runs : (r : ℕ) → meaning x ≡ values.Ref r → (found : Option Object) → object_at machine.heap r ≡ found
              → Covered (SpecialRest call)
          runs r f None o = absurd
              (none effect is (object_case r f
              ∙ ap (option_and_then (λ (object : Object). cond (is_special_receiver p.world s.method.class call object)
              (Some (effect_or_lacks (length call.params + 1) call.target)) None)) o))
          runs r f (Some object) o = ok (is_special_receiver p.world s.method.class call object) refl
            where
              whole : effect ≡ cond (is_special_receiver p.world s.method.class call object)
                  (Some (effect_or_lacks (length call.params + 1) call.target)) None
              whole = object_case r f
                  ∙ ap (option_and_then
                  (λ (ob : Object). cond (is_special_receiver p.world s.method.class call ob)
                  (Some (effect_or_lacks (length call.params + 1) call.target)) None)) o

              ok : (b : Bool) → is_special_receiver p.world s.method.class call object ≡ b → Covered (SpecialRest call)
              ok false a = absurd (none effect is
                  (whole ∙ ap (λ (b : Bool). cond b (Some (effect_or_lacks (length call.params + 1) call.target)) None) a))
              ok true a = run call.target
                  (whole ∙ ap (λ (b : Bool). cond b (Some (effect_or_lacks (length call.params + 1) call.target)) None) a)

          by : (v : Value) → meaning x ≡ v → is_null_here (here p typing state machine meaning s) x ≡ is_null (meaning x)
              → Covered (unless_null (here p typing state machine meaning s) x (SpecialRest call))
          by (values.Int n) f a = absurd (none-some (meaning x) (sym (ap reference_of f) ∙ reference))
          by values.Null f a = subst
              (λ (b : Bool). Covered (if b then steps (throws (here p typing state machine meaning s) null_pointer_exception ∷ [])
              else (SpecialRest call))) (sym (a ∙ ap is_null f))
              (inl (throwing_turn p typing state machine meaning s [] no_rows null_pointer_exception tt (omega arith)
              (λ id after. All-nil (HoldsBetween meaning after))
              (raises_frame p typing state machine meaning s effect null_pointer_exception is (null_case f))))
          by (values.Ref r) f a = subst
              (λ (b : Bool). Covered (if b then steps (throws (here p typing state machine meaning s) null_pointer_exception ∷ [])
              else (SpecialRest call))) (sym (a ∙ ap is_null f)) (runs r f (object_at machine.heap r) refl)

  -- ---- invokevirtual, invokeinterface

  pub selecting_called : (op : Op) (call : Call) → Effects (selecting_effect p op call machine.heap s.running)
      → Covered (selecting_plan (here p typing state machine meaning s) op call)
  selecting_called op call is =
      by_receiver call effect
      (λ x. accessed (here p typing state machine meaning s) (length call.params) x
      (answered (here p typing state machine meaning s) (length call.params + 1)
      (answer_of p op (class_of_cell (cell_here (here p typing state machine meaning s) x))))) is
      (selecting_stuck p op call machine.heap s.running)
      (λ r object. selected_of p op call object) (λ below found f g. selecting_by p op call machine.heap s.running below found f g)
      at (slice_get s.frame.stack (length call.params)) refl
    where
      effect : Option (Effect MachineFrame)
      effect = selecting_effect p op call machine.heap s.running

      at : (x : ℕ) → slice_get s.frame.stack (length call.params) ≡ Some x → reference_of (meaning x) ≡ Some (meaning x)
          → (meaning x ≡ values.Null → effect ≡ Some (Effect.Raise null_pointer_exception))
          → ((r : ℕ) → meaning x ≡ values.Ref r → effect ≡ option_and_then (selected_of p op call) (object_at machine.heap r))
          → Covered (accessed (here p typing state machine meaning s) (length call.params) x
          (answered (here p typing state machine meaning s) (length call.params + 1)
          (answer_of p op (class_of_cell (cell_here (here p typing state machine meaning s) x)))))
      at x e reference null_case object_case =
          accessed_meets p typing state machine meaning s (length call.params) x
          (answered (here p typing state machine meaning s) (length call.params + 1)
          (answer_of p op (class_of_cell (cell_here (here p typing state machine meaning s) x)))) e reference
          (λ f. raises_frame p typing state machine meaning s effect null_pointer_exception is (null_case f))
          (λ class ids r c f o. selects (cells.Obj class ids) r (objects.Instance class (map meaning ids)) c f o refl)
          (λ kind len r items c f o l. selects (cells.Nums kind len) r (objects.Nums kind items) c f o refl)
          (λ element len shape r item items c f o b l. selects (cells.Refs element len shape) r (objects.Refs item items) c f o refl)
        where
          selects : (c : Cell) (r : ℕ) (object : Object) → cell_at state x ≡ Some c → meaning x ≡ values.Ref r
              → slice_get machine.heap.objects r ≡ Some object → class_of_cell (Some c) ≡ class_of_object object
              → Covered (answered (here p typing state machine meaning s) (length call.params + 1)
              (answer_of p op (class_of_cell (cell_here (here p typing state machine meaning s) x))))
          selects c r object e_c f o same =
              subst (λ (class : ℕ). Covered
              (answered (here p typing state machine meaning s) (length call.params + 1) (answer_of p op class)))
              (sym (ap class_of_cell e_c ∙ same))
              (by (asked (can_receive p.world op (class_of_object object))) refl (answer_of p op (class_of_object object)) refl)
            where
              whole : effect ≡ selected_of p op call object
              whole = object_case r f ∙ ap (option_and_then (selected_of p op call)) o

              by : (ok : Option (Unit {0})) → asked (can_receive p.world op (class_of_object object)) ≡ ok
                  → (answer : Option Selected) → answer_of p op (class_of_object object) ≡ answer
                  → Covered (answered (here p typing state machine meaning s) (length call.params + 1) answer)
              by None a answer b = absurd
                  (none effect is (whole
                  ∙ ap (option_and_then
                  (λ (u : Unit {0}). option_map (selected_effect (length call.params + 1))
                  (answer_of p op (class_of_object object)))) a))
              by (Some u) a None b = absurd
                  (none effect is (whole
                  ∙ ap (option_and_then
                  (λ (v : Unit {0}). option_map (selected_effect (length call.params + 1))
                  (answer_of p op (class_of_object object)))) a ∙ ap (option_map (selected_effect (length call.params + 1))) b))
              by (Some u) a (Some answer) b = goes answer
                  (whole ∙ ap (option_and_then
                  (λ (v : Unit {0}). option_map (selected_effect (length call.params + 1))
                  (answer_of p op (class_of_object object)))) a ∙ ap (option_map (selected_effect (length call.params + 1))) b)
                where
                  goes : (got : Selected) → effect ≡ Some (selected_effect (length call.params + 1) got)
                      → Covered (answered (here p typing state machine meaning s) (length call.params + 1) (Some got))
                  goes (answers.Method number) k = invoked effect (length call.params + 1) number is k
                  goes answers.Abstract k = inl (throwing_turn p typing state machine meaning s [] no_rows abstract_method_error tt
                      (omega arith) (λ id after. All-nil (HoldsBetween meaning after))
                      (raises_frame p typing state machine meaning s effect abstract_method_error is k))
                  goes answers.NoInterface k = inl
                      (throwing_turn p typing state machine meaning s [] no_rows incompatible_class_change_error tt (omega arith)
                      (λ id after. All-nil (HoldsBetween meaning after))
                      (raises_frame p typing state machine meaning s effect incompatible_class_change_error is k))
