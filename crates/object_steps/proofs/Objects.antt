-- Forms that read a field, take an array's length, make an object or an array, and throw an object.
use Rattle.std.proofs.Common.{◌≡◌, ◌∙◌, inl, ℕ, ℤ, zero, suc, pos, Bool, true, false, cond, if◌then◌else◌, List, [], ◌∷◌, length}
use Rattle.std.proofs.Common.{map, Option, Some, None, slice_get, refl, sym, ap, subst, arith}
use Rattle.std.specs.Prelude.{nat_lt}
use Rattle.std.specs.List.{AllByRecursion}
use Rattle.std.specs.Option.{option_map, option_and_then}
use Rattle.std.proofs.lemmas.List.Elements.{All-nil}
use Rattle.std.proofs.lemmas.Option.{none-some}
use Rattle.list_views.specs.Options.{asked}
use Rattle.jvm_values.specs.declared.heap.Value.{Value}
use Rattle.jvm_values.specs.declared.heap.Value.TheVariants as values
use Rattle.jvm_values.specs.declared.heap.Object.{Object}
use Rattle.jvm_values.specs.declared.heap.Object.TheVariants as objects
use Rattle.jvm_values.specs.declared.heap.Heap.{Heap}
use Rattle.jvm_values.specs.declared.types.Kind.{Kind}
use Rattle.jvm_values.specs.declared.types.Ty.{Ty}
use Rattle.jvm_values.specs.States.{MachineFrame, MachineState}
use Rattle.jvm_values.specs.Subtyping.{class_type}
use Rattle.jvm_values.specs.TypedHeaps.{WorldTypes}
use Rattle.jvm_values.proofs.Options.{some_is}
use Rattle.abs_cells.specs.declared.cells.Cell.{Cell}
use Rattle.abs_cells.specs.declared.cells.Cell.TheVariants as cells
use Rattle.abs_cells.specs.AbstractStates.{AbstractState}
use Rattle.abs_cells.specs.Cells.{ids_in, cell_at, HasCell}
use Rattle.abs_cells.specs.Fits.{Meaning}
use Rattle.form_steps.proofs.AbsReachWalks.{named_has_cell}
use Rattle.form_steps.specs.abs_heap.Laws.{heap_with}
use Rattle.jvm_step.specs.class_world.BuiltIns.{null_pointer_exception, throwable}
use Rattle.jvm_step.specs.class_world.WorldTypes.{types_of}
use Rattle.jvm_step.specs.class_program.declared.op.FieldUse.{FieldUse}
use Rattle.jvm_step.specs.class_program.Good.{IsGoodNew}
use Rattle.jvm_step.specs.class_program.Programs.{Program}
use Rattle.frame_types.specs.Tables.{CodeTypes}
use Rattle.jvm_step.specs.Effects.{Effect, with_stack, fields_in, getfield_effect, length_of, arraylength_effect, athrow_effect}
use Rattle.jvm_step.specs.Effects.{instance_of, new_instance, new_effect, array_made, zeros, nulls, newarray_effect}
use Rattle.jvm_step.specs.Effects.{anewarray_effect, makes}
use Rattle.jvm_step.specs.Operands.{is_null, reference_of, top_int, top_reference, object_at, is_assignable}
use Rattle.jvm_step.specs.Table.{effect_of, on_frame, on_heap}
use Rattle.jvm_step.specs.Running.{Step, step}
use Rattle.form_steps.specs.TermGraphEdges.{HoldsBetween}
use Rattle.form_steps.specs.abs_expand.Plans.{Turn, Plan, steps, no_rows}
use Rattle.form_steps.specs.abs_expand.Table.{cell_here, is_null_here, unless_null, step_if, one_step, field_id, getfield_plan, length_id}
use Rattle.form_steps.specs.abs_expand.Table.{length_plan, athrow_plan, new_of_base, new_plan}
use Rattle.form_steps.specs.abs_expand.Turns.{goes_on, moves, emptied, throws}
use Rattle.form_steps.proofs.SomeOf.{SomeOf}
use Rattle.form_steps.proofs.Tops.{stacked}
use Rattle.form_steps.proofs.Standing.{rests, Stands, here, onward, Work_, held, raised, by_effect, no_frame_effect, no_heap_effect}
use Rattle.form_steps.proofs.Standing.{goes_after, goes_next, raises_frame}
use Rattle.form_steps.proofs.TurnKinds.{Fitting, Meets, throwing_turn, throws_turn, object_turn}
use Rattle.form_steps.proofs.Needs.{need_null_meets}
use Rattle.object_steps.proofs.Moves.{by_reference, by_reference_at, going_turn}
use Rattle.object_steps.proofs.References.{null_agrees, top_is_reference, accessed_meets}

-- ---- effects

getfield_stuck : (types : WorldTypes) (used : FieldUse) (heap : Heap) (f : MachineFrame) → top_reference f.stack ≡ None
    → getfield_effect types used heap f ≡ None
unfolding getfield_effect
getfield_stuck types used heap f e = rw e refl

getfield_null : (types : WorldTypes) (used : FieldUse) (heap : Heap) (f : MachineFrame) (below : List Value)
    → top_reference f.stack ≡ Some (values.Null, below) → getfield_effect types used heap f ≡ Some (Effect.Raise null_pointer_exception)
unfolding getfield_effect
getfield_null types used heap f below e = rw e refl

-- what is read of an object
abbrev read_of : WorldTypes → FieldUse → Object → List Value → MachineFrame → Option (Effect MachineFrame)
read_of types used object below f = option_and_then
    (λ (u : Unit {0}). option_and_then
    (λ (fields : List Value). option_map (λ (value : Value). Effect.Next (with_stack f (value ∷ below)))
    (slice_get fields used.place)) (fields_in object)) (asked (is_assignable types object (class_type used.class)))

getfield_by : (types : WorldTypes) (used : FieldUse) (heap : Heap) (f : MachineFrame) (r : ℕ) (object : Object) (below : List Value)
    → top_reference f.stack ≡ Some (values.Ref r, below) → object_at heap r ≡ Some object
    → getfield_effect types used heap f ≡ read_of types used object below f
unfolding getfield_effect
getfield_by types used heap f r object below e g = rw (e, g) (maps object)
  where
    maps : (object : Object)
        → option_and_then (λ (u : Unit {0}). option_and_then
        (λ (fields : List Value). option_and_then (λ (value : Value). Some (Effect.Next (with_stack f (value ∷ below))))
        (slice_get fields used.place)) (fields_in object)) (asked (is_assignable types object (class_type used.class)))
        ≡ read_of types used object below f
    maps object = refl

arraylength_stuck : (heap : Heap) (f : MachineFrame) → top_reference f.stack ≡ None → arraylength_effect heap f ≡ None
unfolding arraylength_effect
arraylength_stuck heap f e = rw e refl

arraylength_null : (heap : Heap) (f : MachineFrame) (below : List Value) → top_reference f.stack ≡ Some (values.Null, below)
    → arraylength_effect heap f ≡ Some (Effect.Raise null_pointer_exception)
unfolding arraylength_effect
arraylength_null heap f below e = rw e refl

arraylength_none : (heap : Heap) (f : MachineFrame) (r : ℕ) (object : Object) (below : List Value)
    → top_reference f.stack ≡ Some (values.Ref r, below) → object_at heap r ≡ Some object → length_of object ≡ None
    → arraylength_effect heap f ≡ None
unfolding arraylength_effect
arraylength_none heap f r object below e g n = rw (e, g, n) refl

arraylength_by : (heap : Heap) (f : MachineFrame) (r : ℕ) (object : Object) (below : List Value) (count : ℕ)
    → top_reference f.stack ≡ Some (values.Ref r, below) → object_at heap r ≡ Some object → length_of object ≡ Some count
    → arraylength_effect heap f ≡ option_and_then
    (λ (u : Unit {0}). Some (Effect.Next (with_stack f (values.Int (pos count) ∷ below)))) (asked (nat_lt count 2147483648))
unfolding arraylength_effect
arraylength_by heap f r object below count e g n = rw (e, g, n) refl

athrow_stuck : (types : WorldTypes) (heap : Heap) (f : MachineFrame) → top_reference f.stack ≡ None → athrow_effect types heap f ≡ None
unfolding athrow_effect
athrow_stuck types heap f e = rw e refl

athrow_null : (types : WorldTypes) (heap : Heap) (f : MachineFrame) (below : List Value)
    → top_reference f.stack ≡ Some (values.Null, below) → athrow_effect types heap f ≡ Some (Effect.Raise null_pointer_exception)
unfolding athrow_effect
athrow_null types heap f below e = rw e refl

athrow_none : (types : WorldTypes) (heap : Heap) (f : MachineFrame) (r : ℕ) (below : List Value)
    → top_reference f.stack ≡ Some (values.Ref r, below) → object_at heap r ≡ None → athrow_effect types heap f ≡ None
unfolding athrow_effect
athrow_none types heap f r below e g = rw (e, g) refl

athrow_by : (types : WorldTypes) (heap : Heap) (f : MachineFrame) (r : ℕ) (object : Object) (below : List Value)
    → top_reference f.stack ≡ Some (values.Ref r, below) → object_at heap r ≡ Some object
    → athrow_effect types heap f ≡ cond (is_assignable types object (class_type throwable)) (Some (Effect.Throw r)) None
unfolding athrow_effect
athrow_by types heap f r object below e g = rw (e, g) refl

new_none : (types : WorldTypes) (t : Ty) (f : MachineFrame) (heap : Heap) → instance_of types t.dims t.base ≡ None
    → new_effect types t f heap ≡ None
unfolding new_effect
new_none types t f heap e = rw e refl

new_by : (types : WorldTypes) (t : Ty) (f : MachineFrame) (heap : Heap) (object : Object)
    → instance_of types t.dims t.base ≡ Some object → new_effect types t f heap ≡ Some (makes object f.stack f heap)
unfolding new_effect
new_by types t f heap object e = rw e refl

pub newarray_stuck : (kind : Kind) (f : MachineFrame) (heap : Heap) → top_int f.stack ≡ None → newarray_effect kind f heap ≡ None
unfolding newarray_effect
newarray_stuck kind f heap e = rw e refl

pub newarray_by : (kind : Kind) (f : MachineFrame) (heap : Heap) (n : ℤ) (below : List Value) → top_int f.stack ≡ Some (n, below)
    → newarray_effect kind f heap ≡ Some (array_made (zeros kind n) below f heap)
unfolding newarray_effect
newarray_by kind f heap n below e = rw e refl

pub anewarray_stuck : (t : Ty) (f : MachineFrame) (heap : Heap) → top_int f.stack ≡ None → anewarray_effect t f heap ≡ None
unfolding anewarray_effect
anewarray_stuck t f heap e = rw e refl

pub anewarray_by : (t : Ty) (f : MachineFrame) (heap : Heap) (n : ℤ) (below : List Value) → top_int f.stack ≡ Some (n, below)
    → anewarray_effect t f heap ≡ Some (array_made (nulls t n) below f heap)
unfolding anewarray_effect
anewarray_by t f heap n below e = rw e refl

mapped_some : {A B : Type 0} (f : A → B) (xs : List A) (n : ℕ) (x : A) → slice_get xs n ≡ Some x → slice_get (map f xs) n ≡ Some (f x)
mapped_some f [] n x e = absurd (none-some x e)
mapped_some f (y ∷ xs) zero x e = ap (λ z. Some (f z)) (some_is e)
mapped_some f (y ∷ xs) (suc n) x e = mapped_some f xs n x e

mapped_none : {A B : Type 0} (f : A → B) (xs : List A) (n : ℕ) → slice_get xs n ≡ None → slice_get (map f xs) n ≡ None
mapped_none f [] n e = refl
mapped_none f (y ∷ xs) zero e = absurd (none-some y (sym e))
mapped_none f (y ∷ xs) (suc n) e = mapped_none f xs n e

module _ (p : Program) (typing : ℕ → CodeTypes) (state : AbstractState) (machine : MachineState) (meaning : Meaning)
    (s : Stands p typing state machine meaning) where
  abbrev types : WorldTypes
  types = types_of p.world

  abbrev Fit : Turn → Type 0
  Fit = Fitting p state machine meaning

  abbrev Covered : Plan → Type 0
  Covered = Meets p state machine meaning

  abbrev Holds : ℕ → Type 0
  Holds = HasCell (λ _. true) state

  abbrev Next : ℕ
  Next = onward p typing state machine meaning s

  abbrev Effects : Option (Effect MachineFrame) → Type 0
  Effects effect = effect_of p s.method s.form (Work_ p typing state machine meaning s) ≡ on_frame
      (Work_ p typing state machine meaning s) effect

  abbrev HeapEffects : Option (Effect (MachineFrame × Heap)) → Type 0
  HeapEffects effect = effect_of p s.method s.form (Work_ p typing state machine meaning s) ≡ on_heap
      (Work_ p typing state machine meaning s) effect

  none : (effect : Option (Effect MachineFrame)) → Effects effect → effect ≡ None → ⊥
  none = no_frame_effect p typing state machine meaning s

  no_heap : (effect : Option (Effect (MachineFrame × Heap))) → HeapEffects effect → effect ≡ None → ⊥
  no_heap = no_heap_effect p typing state machine meaning s

  raise : (effect : Option (Effect MachineFrame)) (class : ℕ) → Effects effect → effect ≡ Some (Effect.Raise class)
      → step p machine ≡ Step.Going (raised p typing state machine meaning s class)
  raise = raises_frame p typing state machine meaning s

  -- an id that a cell names has a cell
  names_own : (x : ℕ) (c : Cell) (n id : ℕ) → cell_at state x ≡ Some c → slice_get (ids_in c) n ≡ Some id → Holds id
  names_own x c n id e f = named_has_cell state s.sound.well_formed x n id c e f

  -- an id of the state is pushed
  push : (x : ℕ) (rest : List ℕ) (effect : Option (Effect MachineFrame)) → Holds x → AllByRecursion Holds rest → Effects effect
      → effect ≡ Some (Effect.Next (with_stack s.running (meaning x ∷ map meaning rest)))
      → Fit (goes_on (here p typing state machine meaning s) Next (x ∷ rest))
  push x rest effect own h is e = going_turn p typing state machine meaning s Next (x ∷ rest) (meaning x ∷ map meaning rest)
      (own, h) refl (goes_next p typing state machine meaning s effect (with_stack s.running (meaning x ∷ map meaning rest)) is e)

  -- what an entry's reference is, on the stack of a form
  reference_there : (k : ℕ) (rest : List ℕ) → s.running.stack ≡ meaning k ∷ map meaning rest
      → top_reference s.running.stack ≡ Some (meaning k, map meaning rest) → reference_of (meaning k) ≡ Some (meaning k)
  reference_there k rest e t = top_is_reference (meaning k) (map meaning rest) (sym (ap top_reference e) ∙ t)

  top_valued : (k : ℕ) (rest : List ℕ) (v : Value) → top_reference s.running.stack ≡ Some (meaning k, map meaning rest)
      → meaning k ≡ v → top_reference s.running.stack ≡ Some (v, map meaning rest)
  top_valued k rest v t e = t ∙ ap (λ (w : Value). Some (w, map meaning rest)) e

  -- ---- getfield

  pub field_read : (used : FieldUse) → Effects (getfield_effect types used machine.heap s.running)
      → Covered (getfield_plan (here p typing state machine meaning s) used s.frame.stack)
  field_read used is =
      by_reference_at p typing state machine meaning s (getfield_plan (here p typing state machine meaning s) used)
      (λ f. none effect is (getfield_stuck types used machine.heap s.running f)) at s.frame.stack refl
    where
      effect : Option (Effect MachineFrame)
      effect = getfield_effect types used machine.heap s.running

      at : (k : ℕ) (rest : List ℕ) → s.frame.stack ≡ k ∷ rest → AllByRecursion Holds (k ∷ rest)
          → s.running.stack ≡ meaning k ∷ map meaning rest → top_reference s.running.stack ≡ Some (meaning k, map meaning rest)
          → Covered (getfield_plan (here p typing state machine meaning s) used (k ∷ rest))
      at k rest e h g t =
          accessed_meets p typing state machine meaning s 0 k
          (step_if (option_map (λ (x : ℕ). goes_on (here p typing state machine meaning s) Next (x ∷ rest))
          (field_id (cell_here (here p typing state machine meaning s) k) used.place)))
          (ap (λ (ids : List ℕ). slice_get ids 0) e) (reference_there k rest g t)
          (λ f. raise effect null_pointer_exception is
          (getfield_null types used machine.heap s.running (map meaning rest) (top_valued k rest values.Null t f)))
          instance
          (λ kind len r items c f o l. absurd
          (none effect is (by_object r (objects.Nums kind items) f o
          ∙ no_fields (asked (is_assignable types (objects.Nums kind items) (class_type used.class))))))
          (λ element len shape r item items c f o b l. absurd
          (none effect is (by_object r (objects.Refs item items) f o
          ∙ no_fields (asked (is_assignable types (objects.Refs item items) (class_type used.class))))))
        where
          by_object : (r : ℕ) (object : Object) → meaning k ≡ values.Ref r → slice_get machine.heap.objects r ≡ Some object
              → effect ≡ read_of types used object (map meaning rest) s.running
          by_object r object f o = getfield_by types used machine.heap s.running r object (map meaning rest)
              (top_valued k rest (values.Ref r) t f) o

          no_fields : (o : Option (Unit {0}))
              → option_and_then (λ (u : Unit {0}). option_and_then
              (λ (fields : List Value). option_map
              (λ (value : Value). Effect.Next (with_stack s.running (value ∷ map meaning rest))) (slice_get fields used.place))
              None) o ≡ None
          no_fields None = refl
          no_fields (Some u) = refl

          instance : (class : ℕ) (ids : List ℕ) (r : ℕ) → cell_at state k ≡ Some (cells.Obj class ids) → meaning k ≡ values.Ref r
              → slice_get machine.heap.objects r ≡ Some (objects.Instance class (map meaning ids))
              → Covered (step_if (option_map (λ (x : ℕ). goes_on (here p typing state machine meaning s) Next (x ∷ rest))
              (field_id (cell_here (here p typing state machine meaning s) k) used.place)))
          instance class ids r c f o =
              subst (λ (cell : Option Cell). Covered
              (step_if (option_map (λ (x : ℕ). goes_on (here p typing state machine meaning s) Next (x ∷ rest))
              (field_id cell used.place)))) (sym c)
              (read (asked (is_assignable types (objects.Instance class (map meaning ids)) (class_type used.class))) refl
              (slice_get ids used.place) refl)
            where
              read : (ok : Option (Unit {0}))
                  → asked (is_assignable types (objects.Instance class (map meaning ids)) (class_type used.class)) ≡ ok
                  → (found : Option ℕ) → slice_get ids used.place ≡ found
                  → Covered (step_if (option_map (λ (x : ℕ). goes_on (here p typing state machine meaning s) Next (x ∷ rest)) found))
              read None a found b = absurd
                  (none effect is (by_object r (objects.Instance class (map meaning ids)) f o
                  ∙ ap (λ (ok : Option (Unit {0})). option_and_then
                  (λ (u : Unit {0}). option_map
                  (λ (value : Value). Effect.Next (with_stack s.running (value ∷ map meaning rest)))
                  (slice_get (map meaning ids) used.place)) ok) a))
              read (Some u) a None b = absurd
                  (none effect is (by_object r (objects.Instance class (map meaning ids)) f o
                  ∙ ap (λ (ok : Option (Unit {0})). option_and_then
                  (λ (u : Unit {0}). option_map
                  (λ (value : Value). Effect.Next (with_stack s.running (value ∷ map meaning rest)))
                  (slice_get (map meaning ids) used.place)) ok) a
                  ∙ ap (option_map (λ (value : Value). Effect.Next (with_stack s.running (value ∷ map meaning rest))))
                  (mapped_none meaning ids used.place b)))
              read (Some u) a (Some x) b =
                  inl (push x rest effect (names_own k (cells.Obj class ids) used.place x c b) h.1 is
                  (by_object r (objects.Instance class (map meaning ids)) f o
                  ∙ ap (λ (ok : Option (Unit {0})). option_and_then
                  (λ (u : Unit {0}). option_map
                  (λ (value : Value). Effect.Next (with_stack s.running (value ∷ map meaning rest)))
                  (slice_get (map meaning ids) used.place)) ok) a
                  ∙ ap (option_map (λ (value : Value). Effect.Next (with_stack s.running (value ∷ map meaning rest))))
                  (mapped_some meaning ids used.place x b)))

  -- ---- arraylength

  pub length_taken : Effects (arraylength_effect machine.heap s.running)
      → Covered (length_plan (here p typing state machine meaning s) s.frame.stack)
  length_taken is =
      by_reference_at p typing state machine meaning s (length_plan (here p typing state machine meaning s))
      (λ f. none effect is (arraylength_stuck machine.heap s.running f)) at s.frame.stack refl
    where
      effect : Option (Effect MachineFrame)
      effect = arraylength_effect machine.heap s.running

      at : (k : ℕ) (rest : List ℕ) → s.frame.stack ≡ k ∷ rest → AllByRecursion Holds (k ∷ rest)
          → s.running.stack ≡ meaning k ∷ map meaning rest → top_reference s.running.stack ≡ Some (meaning k, map meaning rest)
          → Covered (length_plan (here p typing state machine meaning s) (k ∷ rest))
      at k rest e h g t =
          accessed_meets p typing state machine meaning s 0 k
          (step_if (option_map (λ (len : ℕ). goes_on (here p typing state machine meaning s) Next (len ∷ rest))
          (length_id (cell_here (here p typing state machine meaning s) k))))
          (ap (λ (ids : List ℕ). slice_get ids 0) e) (reference_there k rest g t)
          (λ f. raise effect null_pointer_exception is
          (arraylength_null machine.heap s.running (map meaning rest) (top_valued k rest values.Null t f)))
          (λ class ids r c f o. absurd
          (none effect is (arraylength_none machine.heap s.running r (objects.Instance class (map meaning ids))
          (map meaning rest) (top_valued k rest (values.Ref r) t f) o refl)))
          (λ kind len r items c f o l. taken len r (objects.Nums kind items) (length items) (cells.Nums kind len) c refl
          (names_own k (cells.Nums kind len) 0 len c refl) f o refl l)
          (λ element len shape r item items c f o b l. taken len r (objects.Refs item items) (length items)
          (cells.Refs element len shape) c refl (names_own k (cells.Refs element len shape) 0 len c refl) f o refl l)
        where
          taken : (len r : ℕ) (object : Object) (count : ℕ) (cell : Cell) → cell_at state k ≡ Some cell
              → length_id (Some cell) ≡ Some len → Holds len → meaning k ≡ values.Ref r
              → slice_get machine.heap.objects r ≡ Some object → length_of object ≡ Some count
              → meaning len ≡ values.Int (pos count)
              → Covered (step_if (option_map (λ (x : ℕ). goes_on (here p typing state machine meaning s) Next (x ∷ rest))
              (length_id (cell_here (here p typing state machine meaning s) k))))
          taken len r object count cell c lid own f o lo l =
              subst (λ (found : Option ℕ). Covered
              (step_if (option_map (λ (x : ℕ). goes_on (here p typing state machine meaning s) Next (x ∷ rest)) found)))
              (sym (ap length_id c ∙ lid)) (by (asked (nat_lt count 2147483648)) refl)
            where
              whole : effect ≡ option_and_then
                  (λ (u : Unit {0}). Some (Effect.Next (with_stack s.running (values.Int (pos count) ∷ map meaning rest))))
                  (asked (nat_lt count 2147483648))
              whole = arraylength_by machine.heap s.running r object (map meaning rest) count (top_valued k rest (values.Ref r) t f) o lo

              by : (ok : Option (Unit {0})) → asked (nat_lt count 2147483648) ≡ ok
                  → SomeOf Fit (goes_on (here p typing state machine meaning s) Next (len ∷ rest) ∷ [])
              by None a = absurd (none effect is
                  (whole ∙ ap (option_and_then
                  (λ (u : Unit {0}). Some (Effect.Next (with_stack s.running (values.Int (pos count) ∷ map meaning rest))))) a))
              by (Some u) a = inl (push len rest effect own h.1 is
                  (whole ∙ ap (option_and_then
                  (λ (u : Unit {0}). Some (Effect.Next (with_stack s.running (values.Int (pos count) ∷ map meaning rest))))) a
                  ∙ ap (λ (v : Value). Some (Effect.Next (with_stack s.running (v ∷ map meaning rest)))) (sym l)))

  -- ---- athrow

  pub thrown : Effects (athrow_effect types machine.heap s.running)
      → Covered (athrow_plan (here p typing state machine meaning s) s.frame.stack)
  thrown is =
      by_reference p typing state machine meaning s (athrow_plan (here p typing state machine meaning s))
      (λ f. none effect is (athrow_stuck types machine.heap s.running f)) at s.frame.stack refl
    where
      effect : Option (Effect MachineFrame)
      effect = athrow_effect types machine.heap s.running

      at : (x : ℕ) (rest : List ℕ) → AllByRecursion Holds (x ∷ rest) → s.running.stack ≡ meaning x ∷ map meaning rest
          → top_reference s.running.stack ≡ Some (meaning x, map meaning rest)
          → Covered (athrow_plan (here p typing state machine meaning s) (x ∷ rest))
      at x rest h g t = need_null_meets p state machine meaning (rests p typing state machine meaning s) x
          (unless_null (here p typing state machine meaning s) x
          (one_step (record (moves (emptied (here p typing state machine meaning s))) { throwing = Some x })))
          (λ n. by (meaning x) refl (null_agrees p typing state machine meaning s x h.0 n))
        where
          throws_npe : meaning x ≡ values.Null → SomeOf Fit (throws (here p typing state machine meaning s) null_pointer_exception ∷ [])
          throws_npe f = inl (throwing_turn p typing state machine meaning s [] no_rows null_pointer_exception tt (omega arith)
              (λ id after. All-nil (HoldsBetween meaning after))
              (raise effect null_pointer_exception is
              (athrow_null types machine.heap s.running (map meaning rest) (top_valued x rest values.Null t f))))

          throw_it : (r : ℕ) → meaning x ≡ values.Ref r
              → SomeOf Fit (record (moves (emptied (here p typing state machine meaning s))) { throwing = Some x } ∷ [])
          throw_it r f = found (object_at machine.heap r) refl
            where
              found : (o : Option Object) → object_at machine.heap r ≡ o
                  → SomeOf Fit (record (moves (emptied (here p typing state machine meaning s))) { throwing = Some x } ∷ [])
              found None o = absurd
                  (none effect is (athrow_none types machine.heap s.running r (map meaning rest) (top_valued x rest (values.Ref r) t f) o))
              found (Some object) o = ok (is_assignable types object (class_type throwable)) refl
                where
                  whole : effect ≡ cond (is_assignable types object (class_type throwable)) (Some (Effect.Throw r)) None
                  whole = athrow_by types machine.heap s.running r object (map meaning rest) (top_valued x rest (values.Ref r) t f) o

                  ok : (b : Bool) → is_assignable types object (class_type throwable) ≡ b
                      → SomeOf Fit (record (moves (emptied (here p typing state machine meaning s))) { throwing = Some x } ∷ [])
                  ok false a = absurd (none effect is (whole ∙ ap (λ (b : Bool). cond b (Some (Effect.Throw r)) None) a))
                  ok true a =
                      inl (throws_turn p typing state machine meaning s x r
                      (record { method = s.frame.method; pc = s.frame.pc; locals = s.frame.locals; stack = [] })
                      (record s.running { stack = [] }) h.0 f
                      (record { locals = (held p typing state machine meaning s).locals; stack = tt })
                      (record {
                        top = record {
                          method = s.fit.top.method;
                          pc = s.fit.top.pc;
                          locals = s.fit.top.locals;
                          stack = refl;
                        };
                        lower_fit = s.fit.lower_fit;
                      })
                      (by_effect p typing state machine meaning s (Some (Effect.Throw r))
                      (is ∙ ap (on_frame (Work_ p typing state machine meaning s))
                      (whole ∙ ap (λ (b : Bool). cond b (Some (Effect.Throw r)) None) a))))

          by : (v : Value) → meaning x ≡ v → is_null_here (here p typing state machine meaning s) x ≡ is_null (meaning x)
              → Covered (unless_null (here p typing state machine meaning s) x
              (one_step (record (moves (emptied (here p typing state machine meaning s))) { throwing = Some x })))
          by (values.Int n) f a = absurd (none-some (meaning x) (sym (ap reference_of f) ∙ reference_there x rest g t))
          by values.Null f a = subst
              (λ (b : Bool). Covered (if b then steps (throws (here p typing state machine meaning s) null_pointer_exception ∷ [])
              else one_step (record (moves (emptied (here p typing state machine meaning s))) { throwing = Some x })))
              (sym (a ∙ ap is_null f)) (throws_npe f)
          by (values.Ref r) f a = subst
              (λ (b : Bool). Covered (if b then steps (throws (here p typing state machine meaning s) null_pointer_exception ∷ [])
              else one_step (record (moves (emptied (here p typing state machine meaning s))) { throwing = Some x })))
              (sym (a ∙ ap is_null f)) (throw_it r f)

  -- ---- new objects

  pub made : (t : Ty) → IsGoodNew p.world t → HeapEffects (new_effect types t s.running machine.heap)
      → Covered (new_plan (here p typing state machine meaning s) t)
  made t good is =
      subst (λ (u : Ty). Covered (new_of_base (here p typing state machine meaning s) u.base)) (sym good.type_is)
      (inl (object_turn p typing state machine meaning s good.class
      (record { method = s.frame.method; pc = Next; locals = s.frame.locals; stack = s.frame.stack })
      (record s.running { pc = Next })
      (record { locals = (held p typing state machine meaning s).locals; stack = (held p typing state machine meaning s).stack })
      (stacked meaning s.frame s.lower machine.statics s.running s.below Next s.frame.stack s.running.stack s.fit.top.stack s.fit)
      good.within good.made
      (goes_after p typing state machine meaning s
      (record {
        frame = with_stack s.running (values.Ref (length machine.heap.objects) ∷ s.running.stack);
        statics =
            machine.statics;
        heap = heap_with machine.heap (new_instance types good.class);
      })
      (is ∙ ap (on_heap (Work_ p typing state machine meaning s))
      (new_by types t s.running machine.heap (new_instance types good.class) instance)))))
    where
      instance : instance_of types t.dims t.base ≡ Some (new_instance types good.class)
      instance = ap (λ (u : Ty). instance_of types u.dims u.base) good.type_is
          ∙ ap (λ (b : Bool). if b then Some (new_instance types good.class) else None) good.made
