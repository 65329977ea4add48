-- Forms over arrays: new ones, and numbers that are read.
use Rattle.std.proofs.Common.{◌≡◌, ◌∙◌, ◌<◌, ◌≤◌, ◌⊎◌, inl, inr, ◌+◌, ℕ, ℤ, zero, suc, pos, negsuc, ◌<ℤ◌, ◌≤ℤ◌, Bool, true, false}
use Rattle.std.proofs.Common.{cond, List, [], ◌∷◌, ◌++◌, length, map, Option, Some, None, slice_get, refl, sym, ap, subst, arith}
use Rattle.std.specs.Prelude.{All}
use Rattle.std.specs.List.{AllByRecursion}
use Rattle.std.specs.Option.{option_map, option_map_or, option_to_list, IsSomeAnd}
use Rattle.std.proofs.lemmas.Int.{ints}
use Rattle.std.proofs.lemmas.List.Elements.{All-nil}
use Rattle.list_views.proofs.Items.{get_within}
use Rattle.list_views.proofs.Quantified.{all_at}
use Rattle.lin_core.specs.Intervals.{Bounds, IsIn}
use Rattle.jvm_values.specs.declared.heap.Value.{Value}
use Rattle.jvm_values.specs.declared.heap.Value.TheVariants as values
use Rattle.jvm_values.specs.declared.heap.Object.{Object}
use Rattle.jvm_values.specs.declared.heap.Object.TheVariants as objects
use Rattle.jvm_values.specs.declared.heap.Heap.{Heap}
use Rattle.jvm_values.specs.declared.types.Kind.{Kind}
use Rattle.jvm_values.specs.declared.types.Slot.{Slot}
use Rattle.jvm_values.specs.declared.types.Slot.TheVariants as slots
use Rattle.jvm_values.specs.declared.types.Ty.{Ty}
use Rattle.jvm_values.specs.Kinds.{IsOfKind}
use Rattle.jvm_values.specs.States.{MachineFrame, MachineState}
use Rattle.jvm_values.specs.Subtyping.{IsReference}
use Rattle.jvm_values.specs.TypedHeaps.{WorldTypes, IsTypedObject}
use Rattle.abs_cells.specs.declared.cells.Cell.{Cell}
use Rattle.abs_cells.specs.declared.cells.Cell.TheVariants as cells
use Rattle.abs_cells.specs.AbstractStates.{AbstractState}
use Rattle.abs_cells.specs.Cells.{ids_in, cell_at, HasCell}
use Rattle.abs_cells.specs.Fits.{Meaning}
use Rattle.abs_ints.specs.IntIntervals.{meet_of}
use Rattle.abs_ints.proofs.AllCases.{is_int as int_inside}
use Rattle.abs_ints.proofs.Covering.{in_meet}
use Rattle.abs_reach.proofs.Walks.{named_has_cell}
use Rattle.abs_heap.specs.Laws.{IsItemSlot, heap_with, zeros_of}
use Rattle.class_world.specs.BuiltIns.{null_pointer_exception, negative_array_size_exception, array_index_out_of_bounds_exception}
use Rattle.class_world.specs.WorldTypes.{types_of}
use Rattle.jvm_step.specs.class_program.Programs.{Program}
use Rattle.jvm_step.specs.op_forms.declared.form.ItemKind.{ItemKind}
use Rattle.frame_types.specs.Tables.{CodeTypes}
use Rattle.jvm_step.specs.Effects.{Effect, with_stack, array_made, zeros, nulls, newarray_effect, anewarray_effect, on_item}
use Rattle.jvm_step.specs.Effects.{item_at, is_for, numbers_in, number_load_effect}
use Rattle.jvm_step.specs.Operands.{reference_of, top_int, top_reference, object_at}
use Rattle.jvm_step.specs.Table.{effect_of, on_frame, on_heap}
use Rattle.jvm_step.specs.Running.{Step, step}
use Rattle.term_graph.specs.Edges.{HoldsBetween}
use Rattle.term_graph.specs.declared.links.LinkRow.{LinkRow}
use Rattle.object_steps.specs.abs_expand.Plans.{makes as makes_act, on_stack, Turn, Plan, no_child, no_rows}
use Rattle.object_steps.specs.abs_expand.Table.{cell_here, natural, negative, array_turn, array_plan, length_id, access_at, of_kind, number_load_plan}
use Rattle.object_steps.specs.abs_expand.Turns.{throws_after, with_stack as stack_at, interval_of_id}
use Rattle.object_steps.proofs.form_steps.SomeOf.{SomeOf}
use Rattle.object_steps.proofs.form_steps.Tops.{stacked}
use Rattle.step_laws.proofs.Accesses.{access_meets}
use Rattle.object_steps.proofs.Casts.{some_later}
use Rattle.object_steps.proofs.form_steps.Standing.{Stands, here, onward, Work_, held, going, raised, no_frame_effect, no_heap_effect}
use Rattle.object_steps.proofs.form_steps.Standing.{goes_after, goes_next, raises_frame, raises_heap}
use Rattle.object_steps.proofs.form_steps.TurnKinds.{Fitting, Meets, IsChange, throwing_turn, array_making_turn}
use Rattle.object_steps.proofs.form_steps.Operands.{IntAt, int_at, bounded, by_int, narrow_to}
use Rattle.object_steps.proofs.Moves.{pushed_turn}
use Rattle.object_steps.proofs.Objects.{newarray_stuck, newarray_by, anewarray_stuck, anewarray_by}
use Rattle.object_steps.proofs.References.{accessed_meets}

missing : {A : Type 0} (xs : List A) (i : ℕ) → length xs ≤ i → slice_get xs i ≡ None
missing [] i l = refl
missing (x ∷ xs) zero l = absurd (omega (arith, l))
missing (x ∷ xs) (suc i) l = missing xs i (omega (arith, l))

-- ---- effects

number_load_stuck : (for_ : ItemKind) (heap : Heap) (f : MachineFrame) → top_int f.stack ≡ None → number_load_effect for_ heap f ≡ None
unfolding number_load_effect
number_load_stuck for_ heap f e = rw e refl

number_load_stuck_next : (for_ : ItemKind) (heap : Heap) (f : MachineFrame) (n : ℤ) (below : List Value)
    → top_int f.stack ≡ Some (n, below) → top_reference below ≡ None → number_load_effect for_ heap f ≡ None
unfolding number_load_effect
number_load_stuck_next for_ heap f n below e g = rw (e, g) refl

number_load_null : (for_ : ItemKind) (heap : Heap) (f : MachineFrame) (n : ℤ) (below rest : List Value)
    → top_int f.stack ≡ Some (n, below) → top_reference below ≡ Some (values.Null, rest)
    → number_load_effect for_ heap f ≡ Some (Effect.Raise null_pointer_exception)
unfolding number_load_effect
number_load_null for_ heap f n below rest e g = rw (e, g) refl

number_load_none : (for_ : ItemKind) (heap : Heap) (f : MachineFrame) (n : ℤ) (below rest : List Value) (r : ℕ) (object : Object)
    → top_int f.stack ≡ Some (n, below) → top_reference below ≡ Some (values.Ref r, rest) → object_at heap r ≡ Some object
    → numbers_in for_ object ≡ None → number_load_effect for_ heap f ≡ None
unfolding number_load_effect
number_load_none for_ heap f n below rest r object e g o k = rw (e, g, o, k) refl

number_load_by : (for_ : ItemKind) (heap : Heap) (f : MachineFrame) (n : ℤ) (below rest : List Value) (r : ℕ) (object : Object)
    (kind : Kind) (items : List ℤ) → top_int f.stack ≡ Some (n, below) → top_reference below ≡ Some (values.Ref r, rest)
    → object_at heap r ≡ Some object → numbers_in for_ object ≡ Some (kind, items)
    → number_load_effect for_ heap f ≡ Some (on_item (item_at items n) (λ (v : ℤ). Effect.Next (with_stack f (values.Int v ∷ rest))))
unfolding number_load_effect
number_load_by for_ heap f n below rest r object kind items e g o k = rw (e, g, o, k) refl

module _ (p : Program) (typing : ℕ → CodeTypes) (state : AbstractState) (machine : MachineState) (meaning : Meaning)
    (s : Stands p typing state machine meaning) where
  abbrev types : WorldTypes
  types = types_of p.world

  abbrev Fit : Turn → Type 0
  Fit = Fitting p state machine meaning

  abbrev Covered : Plan → Type 0
  Covered = Meets p state machine meaning

  abbrev Holds : ℕ → Type 0
  Holds = HasCell (λ _. true) state

  abbrev Next : ℕ
  Next = onward p typing state machine meaning s

  abbrev AreChanges : List (ℕ × Cell) → Type 0
  AreChanges list = AllByRecursion (IsChange types machine.heap state meaning) list

  abbrev Effects : Option (Effect MachineFrame) → Type 0
  Effects effect = effect_of p s.method s.form (Work_ p typing state machine meaning s) ≡ on_frame
      (Work_ p typing state machine meaning s) effect

  abbrev HeapEffects : Option (Effect (MachineFrame × Heap)) → Type 0
  HeapEffects effect = effect_of p s.method s.form (Work_ p typing state machine meaning s) ≡ on_heap
      (Work_ p typing state machine meaning s) effect

  none : (effect : Option (Effect MachineFrame)) → Effects effect → effect ≡ None → ⊥
  none = no_frame_effect p typing state machine meaning s

  -- ---- new arrays

  abbrev ArrayTurns : Slot → ℕ → List ℕ → List Turn
  ArrayTurns slot count rest =
      option_to_list (option_map (array_turn (here p typing state machine meaning s) slot count rest)
      (meet_of (interval_of_id state count) natural))
      ++ option_to_list (option_map (λ both. throws_after (here p typing state machine meaning s) ((count, cells.Int both) ∷ [])
      no_rows negative_array_size_exception) (meet_of (interval_of_id state count) negative))

  array_steps : (slot : Slot) (count : ℕ) (rest : List ℕ) (n : ℤ) → IsItemSlot types slot
      → IntAt p typing state machine meaning s count n → AllByRecursion Holds rest
      → ((k : ℕ) → n ≡ pos k
      → step p machine ≡ Step.Going
      (going (record s.running { pc = Next; stack = values.Ref (length machine.heap.objects) ∷ map meaning rest } ∷ s.below)
      (heap_with machine.heap (zeros_of slot k)) machine.statics))
      → ((k : ℕ) → n ≡ negsuc k
      → step p machine ≡ Step.Going (raised p typing state machine meaning s negative_array_size_exception))
      → SomeOf Fit (ArrayTurns slot count rest)
  array_steps slot count rest (pos k) item i h makes_ raises_ = by (meet_of (interval_of_id state count) natural)
      (in_meet (pos k) (interval_of_id state count) natural i.inside (
        omega (arith, ints),
        (int_inside (interval_of_id state count) (pos k) (bounded p typing state machine meaning s count)
            i.inside).1,
      ))
    where
      by : (found : Option Bounds) → IsSomeAnd found (λ b. IsIn (pos k) b)
          → SomeOf Fit (option_to_list (option_map (array_turn (here p typing state machine meaning s) slot count rest) found)
          ++ option_to_list (option_map
          (λ both. throws_after (here p typing state machine meaning s) ((count, cells.Int both) ∷ []) no_rows
          negative_array_size_exception) (meet_of (interval_of_id state count) negative)))
      by None x = absurd x
      by (Some both) x =
          inl (array_making_turn p typing state machine meaning s slot count k ((count, cells.Int both) ∷ [])
          (record { method = s.frame.method; pc = Next; locals = s.frame.locals; stack = rest })
          (record s.running { pc = Next; stack = map meaning rest })
          (narrow_to p typing state machine meaning s count (pos k) both i x, tt)
          (record { cell = cells.Int i.old; is = i.at; sort_is = refl }) i.is item
          (record { locals = (held p typing state machine meaning s).locals; stack = h })
          (stacked meaning s.frame s.lower machine.statics s.running s.below Next rest (map meaning rest) refl s.fit) (makes_ k refl))
  array_steps slot count rest (negsuc k) item i h makes_ raises_ =
      some_later Fit (option_to_list (option_map (array_turn (here p typing state machine meaning s) slot count rest)
      (meet_of (interval_of_id state count) natural)))
      (option_to_list (option_map (λ both. throws_after (here p typing state machine meaning s) ((count, cells.Int both) ∷ [])
      no_rows negative_array_size_exception) (meet_of (interval_of_id state count) negative)))
      (by (meet_of (interval_of_id state count) negative)
      (in_meet (negsuc k) (interval_of_id state count) negative i.inside (
        (int_inside (interval_of_id state count) (negsuc k) (bounded p typing state machine meaning s count) i.inside).0,
        omega (arith, ints),
      )))
    where
      by : (found : Option Bounds) → IsSomeAnd found (λ b. IsIn (negsuc k) b)
          → SomeOf Fit (option_to_list
          (option_map (λ both. throws_after (here p typing state machine meaning s) ((count, cells.Int both) ∷ []) no_rows
          negative_array_size_exception) found))
      by None x = absurd x
      by (Some both) x = inl (throwing_turn p typing state machine meaning s ((count, cells.Int both) ∷ []) no_rows
          negative_array_size_exception (narrow_to p typing state machine meaning s count (negsuc k) both i x, tt) (omega arith)
          (λ id after. All-nil (HoldsBetween meaning after)) (raises_ k refl))

  -- an effect that makes an array
  array_made_by : (slot : Slot) (array : ℤ → Option Object) (effect : Option (Effect (MachineFrame × Heap))) → IsItemSlot types slot
      → HeapEffects effect → (top_int s.running.stack ≡ None → effect ≡ None)
      → ((n : ℤ) (below : List Value) → top_int s.running.stack ≡ Some (n, below)
      → effect ≡ Some (array_made (array n) below s.running machine.heap))
      → ((k : ℕ) → array (pos k) ≡ Some (zeros_of slot k)) → ((k : ℕ) → array (negsuc k) ≡ None)
      → Covered (array_plan (here p typing state machine meaning s) slot s.frame.stack)
  array_made_by slot array effect item is stuck gives some never =
      by_int p typing state machine meaning s (array_plan (here p typing state machine meaning s) slot)
      (λ f. no_heap_effect p typing state machine meaning s effect is (stuck f)) (λ a rest e t.
      array_steps slot a rest t.number item t.int t.others
      (λ k f. goes_after p typing state machine meaning s
      (record {
        frame = with_stack s.running (values.Ref (length machine.heap.objects) ∷ map meaning rest);
        statics =
            machine.statics;
        heap = heap_with machine.heap (zeros_of slot k);
      })
      (is ∙ ap (on_heap (Work_ p typing state machine meaning s))
      (gives t.number (map meaning rest) (ap top_int (e ∙ t.stack))
      ∙ ap (λ (n : ℤ). Some (array_made (array n) (map meaning rest) s.running machine.heap)) f
      ∙ ap (λ (o : Option Object). Some (array_made o (map meaning rest) s.running machine.heap)) (some k))))
      (λ k f. raises_heap p typing state machine meaning s effect negative_array_size_exception is
      (gives t.number (map meaning rest) (ap top_int (e ∙ t.stack))
      ∙ ap (λ (n : ℤ). Some (array_made (array n) (map meaning rest) s.running machine.heap)) f
      ∙ ap (λ (o : Option Object). Some (array_made o (map meaning rest) s.running machine.heap)) (never k)))) s.frame.stack refl

  pub numbers_made : (kind : Kind) → HeapEffects (newarray_effect kind s.running machine.heap)
      → Covered (array_plan (here p typing state machine meaning s) (slots.Num kind) s.frame.stack)
  numbers_made kind is = array_made_by (slots.Num kind) (zeros kind) (newarray_effect kind s.running machine.heap) tt is
      (newarray_stuck kind s.running machine.heap) (λ n below f. newarray_by kind s.running machine.heap n below f) (λ k. refl) (λ k. refl)

  pub references_made : (t : Ty) → IsReference types.classes t × (t.dims < 255)
      → HeapEffects (anewarray_effect t s.running machine.heap)
      → Covered (array_plan (here p typing state machine meaning s) (slots.Ref t) s.frame.stack)
  references_made t item is = array_made_by (slots.Ref t) (nulls t) (anewarray_effect t s.running machine.heap) item is
      (anewarray_stuck t s.running machine.heap) (λ n below f. anewarray_by t s.running machine.heap n below f) (λ k. refl) (λ k. refl)

  -- ---- an index over an array

  pub record IndexOver (stack : List Value) (ids : List ℕ) (index k : ℕ) (rest : List ℕ) : Type 0 where
    pub number : ℤ
    pub int : IntAt p typing state machine meaning s index number
    pub own : Holds k
    pub others : AllByRecursion Holds rest
    pub ids_are : ids ≡ index ∷ k ∷ rest
    pub top : top_int stack ≡ Some (number, meaning k ∷ map meaning rest)
    pub reference : reference_of (meaning k) ≡ Some (meaning k)

  pub index_of : (plan : List ℕ → Plan) (stack : List Value) → (top_int stack ≡ None → ⊥)
      → ((n : ℤ) (below : List Value) → top_int stack ≡ Some (n, below) → top_reference below ≡ None → ⊥) → (ids : List ℕ)
      → stack ≡ map meaning ids → AllByRecursion Holds ids
      → ((index k : ℕ) (rest : List ℕ) → IndexOver stack ids index k rest → Covered (plan (index ∷ k ∷ rest))) → Covered (plan ids)
  index_of plan stack some next [] e h found = absurd (some (ap top_int e))
  index_of plan stack some next (index ∷ []) e h found = int_top (meaning index) refl
    where
      int_top : (v : Value) → meaning index ≡ v → Covered (plan (index ∷ []))
      int_top (values.Int n) f = absurd (next n [] (ap top_int e ∙ ap (λ (v : Value). top_int (v ∷ [])) f) refl)
      int_top values.Null f = absurd (some (ap top_int e ∙ ap (λ (v : Value). top_int (v ∷ [])) f))
      int_top (values.Ref r) f = absurd (some (ap top_int e ∙ ap (λ (v : Value). top_int (v ∷ [])) f))
  index_of plan stack some next (index ∷ k ∷ rest) e h found = int_top (meaning index) refl (meaning k) refl
    where
      at : (n : ℤ) → meaning index ≡ values.Int n → reference_of (meaning k) ≡ Some (meaning k) → Covered (plan (index ∷ k ∷ rest))
      at n f r = found index k rest (record {
        number = n;
        int = int_at p typing state machine meaning s index n h.0 f;
        own = h.1.0;
        others = h.1.1;
        ids_are = refl;
        top = ap top_int e ∙ ap (λ (v : Value). top_int (v ∷ meaning k ∷ map meaning rest)) f;
        reference = r;
      })

      int_top : (v : Value) → meaning index ≡ v → (w : Value) → meaning k ≡ w → Covered (plan (index ∷ k ∷ rest))
      int_top values.Null f w g = absurd (some (ap top_int e ∙ ap (λ (v : Value). top_int (v ∷ meaning k ∷ map meaning rest)) f))
      int_top (values.Ref r) f w g = absurd (some (ap top_int e ∙ ap (λ (v : Value). top_int (v ∷ meaning k ∷ map meaning rest)) f))
      int_top (values.Int n) f (values.Int m) g = absurd
          (next n (meaning k ∷ map meaning rest) (ap top_int e ∙ ap (λ (v : Value). top_int (v ∷ meaning k ∷ map meaning rest)) f)
          (ap (λ (v : Value). top_reference (v ∷ map meaning rest)) g))
      int_top (values.Int n) f values.Null g = at n f (ap reference_of g ∙ ap Some (sym g))
      int_top (values.Int n) f (values.Ref r) g = at n f (ap reference_of g ∙ ap Some (sym g))

  pub by_index : (plan : List ℕ → Plan) → (top_int s.running.stack ≡ None → ⊥)
      → ((n : ℤ) (below : List Value) → top_int s.running.stack ≡ Some (n, below) → top_reference below ≡ None → ⊥)
      → ((index k : ℕ) (rest : List ℕ) → IndexOver s.running.stack s.frame.stack index k rest → Covered (plan (index ∷ k ∷ rest)))
      → Covered (plan s.frame.stack)
  by_index plan some next found = index_of plan s.running.stack some next s.frame.stack s.fit.top.stack
      (held p typing state machine meaning s).stack found

  -- the id of an array's length has a cell
  pub length_held : (k : ℕ) (c : Cell) (len : ℕ) → cell_at state k ≡ Some c → slice_get (ids_in c) 0 ≡ Some len → Holds len
  length_held k c len e f = named_has_cell state s.sound.well_formed k 0 len c e f

  pub top_array : (k : ℕ) (rest : List ℕ) (v : Value) → reference_of (meaning k) ≡ Some (meaning k) → meaning k ≡ v
      → top_reference (meaning k ∷ map meaning rest) ≡ Some (v, map meaning rest)
  top_array k rest v r e = ap (option_map (λ (x : Value). (x, map meaning rest))) r ∙ ap (λ (x : Value). Some (x, map meaning rest)) e

  pub outside_item : {A : Type 0} (items : List A) (n : ℤ) → ((n <ℤ pos 0) ⊎ (pos (length items) ≤ℤ n)) → item_at items n ≡ None
  outside_item items (pos i) (inl l) = absurd (omega (arith, ints, l))
  outside_item items (pos i) (inr l) = missing items i (omega (arith, ints, l))
  outside_item items (negsuc i) l = refl

  -- ---- iaload, baload, caload, saload

  pub number_read : (for_ : ItemKind) → Effects (number_load_effect for_ machine.heap s.running)
      → Covered (number_load_plan (here p typing state machine meaning s) s.frame.stack)
  number_read for_ is =
      by_index (number_load_plan (here p typing state machine meaning s))
      (λ f. none effect is (number_load_stuck for_ machine.heap s.running f))
      (λ n below f g. none effect is (number_load_stuck_next for_ machine.heap s.running n below f g)) at
    where
      effect : Option (Effect MachineFrame)
      effect = number_load_effect for_ machine.heap s.running

      at : (index k : ℕ) (rest : List ℕ) → IndexOver s.running.stack s.frame.stack index k rest
          → Covered (number_load_plan (here p typing state machine meaning s) (index ∷ k ∷ rest))
      at index k rest x =
          accessed_meets p typing state machine meaning s 1 k
          (option_map_or (λ (len : ℕ). access_at (here p typing state machine meaning s) index len
          (λ narrowed rows. record {
            changed = narrowed;
            frames = stack_at (here p typing state machine meaning s) Next
                rest;
            throwing = None;
            act = makes_act
                (cells.Int (of_kind (cell_here (here p typing state machine meaning s) k)));
            goal = on_stack;
            rows = rows;
          }
          ∷ [])) (length_id (cell_here (here p typing state machine meaning s) k)) no_child)
          (ap (λ (ids : List ℕ). slice_get ids 1) x.ids_are) x.reference
          (λ f. raises_frame p typing state machine meaning s effect null_pointer_exception is
          (number_load_null for_ machine.heap s.running x.number (meaning k ∷ map meaning rest) (map meaning rest) x.top
          (top_array k rest values.Null x.reference f)))
          (λ class ids r c f o. absurd
          (none effect is (number_load_none for_ machine.heap s.running x.number (meaning k ∷ map meaning rest)
          (map meaning rest) r (objects.Instance class (map meaning ids)) x.top
          (top_array k rest (values.Ref r) x.reference f) o refl)))
          numbers
          (λ element len shape r item items c f o b l. absurd
          (none effect is (number_load_none for_ machine.heap s.running x.number (meaning k ∷ map meaning rest)
          (map meaning rest) r (objects.Refs item items) x.top (top_array k rest (values.Ref r) x.reference f) o refl)))
        where
          numbers : (kind : Kind) (len r : ℕ) (items : List ℤ) → cell_at state k ≡ Some (cells.Nums kind len)
              → meaning k ≡ values.Ref r → slice_get machine.heap.objects r ≡ Some (objects.Nums kind items)
              → meaning len ≡ values.Int (pos (length items))
              → Covered (option_map_or
              (λ (l : ℕ). access_at (here p typing state machine meaning s) index l
              (λ narrowed rows. record {
                changed = narrowed;
                frames = stack_at (here p typing state machine meaning s) Next
                    rest;
                throwing = None;
                act = makes_act
                    (cells.Int (of_kind (cell_here (here p typing state machine meaning s) k)));
                goal = on_stack;
                rows = rows;
              } ∷ [])) (length_id (cell_here (here p typing state machine meaning s) k)) no_child)
          numbers kind len r items c f o l =
              subst (λ (cell : Option Cell). Covered
              (option_map_or (λ (y : ℕ). access_at (here p typing state machine meaning s) index y
              (λ narrowed rows. record {
                changed = narrowed;
                frames = stack_at (here p typing state machine meaning s) Next rest;
                throwing =
                    None;
                act = makes_act (cells.Int (of_kind cell));
                goal = on_stack;
                rows = rows;
              } ∷ [])) (length_id cell)
              no_child)) (sym c)
              (read (is_for for_ kind) refl)
            where
              read : (b : Bool) → is_for for_ kind ≡ b
                  → Covered (access_at (here p typing state machine meaning s) index len
                  (λ narrowed rows. record {
                    changed = narrowed;
                    frames = stack_at (here p typing state machine meaning s) Next
                        rest;
                    throwing = None;
                    act = makes_act (cells.Int (of_kind (Some (cells.Nums kind len))));
                    goal = on_stack;
                    rows = rows;
                  } ∷ []))
              read false b = absurd
                  (none effect is (number_load_none for_ machine.heap s.running x.number (meaning k ∷ map meaning rest)
                  (map meaning rest) r (objects.Nums kind items) x.top (top_array k rest (values.Ref r) x.reference f) o
                  (ap (λ (y : Bool). cond y (Some (kind, items)) None) b)))
              read true b =
                  access_meets p typing state machine meaning s index len x.number (length items)
                  (λ narrowed rows. record {
                    changed = narrowed;
                    frames = stack_at (here p typing state machine meaning s) Next
                        rest;
                    throwing = None;
                    act = makes_act (cells.Int (of_kind (Some (cells.Nums kind len))));
                    goal =
                        on_stack;
                    rows = rows;
                  } ∷ [])
                  x.int (int_at p typing state machine meaning s len (pos (length items))
                  (length_held k (cells.Nums kind len) len c refl) l)
                  (λ i n low list rows are only hold. inl (inside i n low list rows are hold))
                  (λ out. raises_frame p typing state machine meaning s effect array_index_out_of_bounds_exception is
                  (whole ∙ ap (λ (found : Option ℤ). Some
                  (on_item found (λ (v : ℤ). Effect.Next (with_stack s.running (values.Int v ∷ map meaning rest)))))
                  (outside_item items x.number out)))
                where
                  whole : effect ≡ Some
                      (on_item (item_at items x.number) (λ (v : ℤ). Effect.Next (with_stack s.running (values.Int v ∷ map meaning rest))))
                  whole = number_load_by for_ machine.heap s.running x.number (meaning k ∷ map meaning rest) (map meaning rest) r
                      (objects.Nums kind items) kind items x.top (top_array k rest (values.Ref r) x.reference f) o
                      (ap (λ (y : Bool). cond y (Some (kind, items)) None) b)

                  typed : IsTypedObject types machine.heap (objects.Nums kind items)
                  typed = all_at (IsTypedObject types machine.heap) machine.heap.objects r (objects.Nums kind items) s.heap o

                  inside : (i : ℕ) → x.number ≡ pos i → i < length items → (list : List (ℕ × Cell)) (rows : ℕ → List LinkRow)
                      → AreChanges list → ((fresh : ℕ) (after : Meaning) → All (HoldsBetween meaning after) (rows fresh))
                      → Fit (record {
                        changed = list;
                        frames = stack_at (here p typing state machine meaning s) Next rest;
                        throwing
                            = None;
                        act = makes_act (cells.Int (of_kind (Some (cells.Nums kind len))));
                        goal = on_stack;
                        rows = rows;
                      })
                  inside i n low list rows are hold =
                      let v = get_within items i low in
                      pushed_turn p typing state machine meaning s list rest (map meaning rest)
                      (cells.Int (of_kind (Some (cells.Nums kind len)))) (values.Int v.0) rows are x.others refl tt
                      (v.0, (refl, all_at (IsOfKind kind) items i v.0 typed.1 v.1)) (λ fresh after e. hold fresh after)
                      (goes_next p typing state machine meaning s effect (with_stack s.running (values.Int v.0 ∷ map meaning rest))
                      is (whole ∙ ap (λ (m : ℤ). Some
                      (on_item (item_at items m)
                      (λ (w : ℤ). Effect.Next (with_stack s.running (values.Int w ∷ map meaning rest))))) n
                      ∙ ap (λ (found : Option ℤ). Some
                      (on_item found (λ (w : ℤ). Effect.Next (with_stack s.running (values.Int w ∷ map meaning rest))))) v.1))
