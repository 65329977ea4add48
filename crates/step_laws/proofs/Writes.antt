-- Forms that read and write items of arrays of references, and that write numbers into arrays.
use Rattle.std.proofs.Common.{◌≡◌, ◌==◌, eqb, ◌∙◌, ◌<◌, ◌≤◌, ◌⊎◌, inl, inr, ℕ, ℤ, pos, negsuc, ◌<ℤ◌, ◌≤ℤ◌, Bool, true, false, cond}
use Rattle.std.proofs.Common.{if◌then◌else◌, List, [], ◌∷◌, length, map, Option, Some, None, slice_get, refl, sym, ap, subst, arith}
use Rattle.std.specs.Prelude.{All, slice_set}
use Rattle.std.specs.List.{AllByRecursion}
use Rattle.std.specs.Option.{option_map, option_map_or}
use Rattle.std.proofs.lemmas.Bool.{eqb-true, false≢true, lt-ltb, le-ltb}
use Rattle.std.proofs.lemmas.Int.{ints}
use Rattle.std.proofs.lemmas.Option.{none-some}
use Rattle.list_views.proofs.Items.{get_within, length_set}
use Rattle.jvm_values.specs.declared.heap.Value.{Value}
use Rattle.jvm_values.specs.declared.heap.Value.TheVariants as values
use Rattle.jvm_values.specs.declared.heap.Object.{Object}
use Rattle.jvm_values.specs.declared.heap.Object.TheVariants as objects
use Rattle.jvm_values.specs.declared.heap.Heap.{Heap}
use Rattle.jvm_values.specs.declared.shape.Shape.{Shape}
use Rattle.jvm_values.specs.declared.types.Kind.{Kind}
use Rattle.jvm_values.specs.declared.types.Ty.{Ty}
use Rattle.jvm_values.specs.Heaps.{target}
use Rattle.jvm_values.specs.Kinds.{narrowed}
use Rattle.jvm_values.specs.States.{MachineFrame, MachineState}
use Rattle.jvm_values.specs.TypedHeaps.{WorldTypes}
use Rattle.jvm_values.proofs.Options.{some_is}
use Rattle.jvm_values.specs.Writes.{AreRenumbered}
use Rattle.abs_cells.specs.declared.cells.Cell.{Cell}
use Rattle.abs_cells.specs.declared.cells.Cell.TheVariants as cells
use Rattle.abs_cells.specs.AbstractStates.{AbstractFrame, AbstractState}
use Rattle.abs_cells.specs.Cells.{is_int, cell_at, HasCell}
use Rattle.abs_cells.specs.Fits.{Meaning, Describes}
use Rattle.class_world.specs.BuiltIns.{null_pointer_exception, array_index_out_of_bounds_exception, array_store_exception}
use Rattle.class_world.specs.WorldTypes.{types_of}
use Rattle.jvm_step.specs.class_program.Programs.{Program}
use Rattle.jvm_step.specs.op_forms.declared.form.ItemKind.{ItemKind}
use Rattle.frame_types.specs.Tables.{CodeTypes}
use Rattle.jvm_step.specs.Effects.{Effect, with_stack, on_item, item_at, index_below, is_for, numbers_in, references_in}
use Rattle.jvm_step.specs.Effects.{with_number, with_item, aaload_effect, number_store_effect, aastore_effect}
use Rattle.jvm_step.specs.Operands.{reference_of, top_int, top_reference, object_at, is_null_or_below}
use Rattle.jvm_step.specs.Table.{effect_of, on_frame, on_heap}
use Rattle.jvm_step.specs.Running.{Step, step}
use Rattle.term_graph.specs.Edges.{HoldsBetween}
use Rattle.term_graph.specs.declared.links.LinkRow.{LinkRow}
use Rattle.object_steps.specs.abs_expand.Plans.{nothing, nowhere, on_stack, item, writes, Turn, Plan, no_child}
use Rattle.object_steps.specs.abs_expand.Table.{cell_here, is_null_cell, is_null_here, access_at, length_id, items_length_id, items_of}
use Rattle.object_steps.specs.abs_expand.Table.{number_store_plan, aaload_plan, aastore_plan}
use Rattle.object_steps.specs.abs_expand.Turns.{throws_after, with_stack as stack_at}
use Rattle.object_steps.proofs.form_steps.SomeOf.{SomeOf}
use Rattle.object_steps.proofs.form_steps.Carry.{described_of}
use Rattle.object_steps.proofs.form_steps.Tops.{stacked}
use Rattle.step_laws.proofs.Accesses.{access_meets}
use Rattle.step_laws.proofs.Arrays.{IndexOver, index_of, by_index, length_held, top_array, outside_item}
use Rattle.object_steps.proofs.form_steps.Standing.{Stands, here, onward, Work_, held, raised, no_frame_effect, no_heap_effect, goes_after}
use Rattle.object_steps.proofs.form_steps.Standing.{goes_next, raises_frame, raises_heap}
use Rattle.object_steps.proofs.form_steps.TurnKinds.{Fitting, Meets, IsChange, throwing_turn, item_turn, writing_turn, keeping_turn, alikes, nameds}
use Rattle.object_steps.proofs.form_steps.Operands.{int_at, by_int_at, TopInt}
use Rattle.object_steps.proofs.Moves.{by_reference_at}
use Rattle.object_steps.proofs.References.{top_is_reference, accessed_meets}

-- a reference isn't the id of an int
other_id : (meaning : Meaning) (k index : ℕ) (n : ℤ) → meaning index ≡ values.Int n → reference_of (meaning k) ≡ Some (meaning k)
    → (k == index) ≡ false
other_id meaning k index n e r = at (eqb k index) refl
  where
    at : (b : Bool) → eqb k index ≡ b → b ≡ false
    at true f = absurd (none-some (meaning k) (sym (ap reference_of (ap meaning (eqb-true k index f) ∙ e)) ∙ r))
    at false f = refl

-- ---- effects

aaload_stuck : (heap : Heap) (f : MachineFrame) → top_int f.stack ≡ None → aaload_effect heap f ≡ None
unfolding aaload_effect
aaload_stuck heap f e = rw e refl

aaload_stuck_next : (heap : Heap) (f : MachineFrame) (n : ℤ) (below : List Value) → top_int f.stack ≡ Some (n, below)
    → top_reference below ≡ None → aaload_effect heap f ≡ None
unfolding aaload_effect
aaload_stuck_next heap f n below e g = rw (e, g) refl

aaload_null : (heap : Heap) (f : MachineFrame) (n : ℤ) (below rest : List Value) → top_int f.stack ≡ Some (n, below)
    → top_reference below ≡ Some (values.Null, rest) → aaload_effect heap f ≡ Some (Effect.Raise null_pointer_exception)
unfolding aaload_effect
aaload_null heap f n below rest e g = rw (e, g) refl

aaload_none : (heap : Heap) (f : MachineFrame) (n : ℤ) (below rest : List Value) (r : ℕ) (object : Object)
    → top_int f.stack ≡ Some (n, below) → top_reference below ≡ Some (values.Ref r, rest) → object_at heap r ≡ Some object
    → references_in object ≡ None → aaload_effect heap f ≡ None
unfolding aaload_effect
aaload_none heap f n below rest r object e g o k = rw (e, g, o, k) refl

aaload_by : (heap : Heap) (f : MachineFrame) (n : ℤ) (below rest : List Value) (r : ℕ) (object : Object) (own : Ty)
    (items : List Value) → top_int f.stack ≡ Some (n, below) → top_reference below ≡ Some (values.Ref r, rest)
    → object_at heap r ≡ Some object → references_in object ≡ Some (own, items)
    → aaload_effect heap f ≡ Some (on_item (item_at items n) (λ (v : Value). Effect.Next (with_stack f (v ∷ rest))))
unfolding aaload_effect
aaload_by heap f n below rest r object own items e g o k = rw (e, g, o, k) refl

number_store_stuck : (for_ : ItemKind) (f : MachineFrame) (heap : Heap) → top_int f.stack ≡ None → number_store_effect for_ f heap ≡ None
unfolding number_store_effect
number_store_stuck for_ f heap e = rw e refl

number_store_stuck_index : (for_ : ItemKind) (f : MachineFrame) (heap : Heap) (v : ℤ) (next : List Value)
    → top_int f.stack ≡ Some (v, next) → top_int next ≡ None → number_store_effect for_ f heap ≡ None
unfolding number_store_effect
number_store_stuck_index for_ f heap v next e g = rw (e, g) refl

number_store_stuck_array : (for_ : ItemKind) (f : MachineFrame) (heap : Heap) (v n : ℤ) (next below : List Value)
    → top_int f.stack ≡ Some (v, next) → top_int next ≡ Some (n, below) → top_reference below ≡ None
    → number_store_effect for_ f heap ≡ None
unfolding number_store_effect
number_store_stuck_array for_ f heap v n next below e g k = rw (e, g, k) refl

number_store_null : (for_ : ItemKind) (f : MachineFrame) (heap : Heap) (v n : ℤ) (next below rest : List Value)
    → top_int f.stack ≡ Some (v, next) → top_int next ≡ Some (n, below) → top_reference below ≡ Some (values.Null, rest)
    → number_store_effect for_ f heap ≡ Some (Effect.Raise null_pointer_exception)
unfolding number_store_effect
number_store_null for_ f heap v n next below rest e g k = rw (e, g, k) refl

number_store_none : (for_ : ItemKind) (f : MachineFrame) (heap : Heap) (v n : ℤ) (next below rest : List Value) (r : ℕ)
    (object : Object) → top_int f.stack ≡ Some (v, next) → top_int next ≡ Some (n, below)
    → top_reference below ≡ Some (values.Ref r, rest) → object_at heap r ≡ Some object → numbers_in for_ object ≡ None
    → number_store_effect for_ f heap ≡ None
unfolding number_store_effect
number_store_none for_ f heap v n next below rest r object e g k o q = rw (e, g, k, o, q) refl

number_store_by : (for_ : ItemKind) (f : MachineFrame) (heap : Heap) (v n : ℤ) (next below rest : List Value) (r : ℕ)
    (object : Object) (kind : Kind) (items : List ℤ) → top_int f.stack ≡ Some (v, next) → top_int next ≡ Some (n, below)
    → top_reference below ≡ Some (values.Ref r, rest) → object_at heap r ≡ Some object → numbers_in for_ object ≡ Some (kind, items)
    → number_store_effect for_ f heap ≡ Some
    (on_item (index_below (length items) n) (λ (i : ℕ). Effect.Next (with_stack f rest, with_number heap r (kind, items) i v)))
unfolding number_store_effect
number_store_by for_ f heap v n next below rest r object kind items e g k o q = rw (e, g, k, o, q) refl

aastore_stuck : (types : WorldTypes) (f : MachineFrame) (heap : Heap) → top_reference f.stack ≡ None → aastore_effect types f heap ≡ None
unfolding aastore_effect
aastore_stuck types f heap e = rw e refl

aastore_stuck_index : (types : WorldTypes) (f : MachineFrame) (heap : Heap) (v : Value) (next : List Value)
    → top_reference f.stack ≡ Some (v, next) → top_int next ≡ None → aastore_effect types f heap ≡ None
unfolding aastore_effect
aastore_stuck_index types f heap v next e g = rw (e, g) refl

aastore_stuck_array : (types : WorldTypes) (f : MachineFrame) (heap : Heap) (v : Value) (n : ℤ) (next below : List Value)
    → top_reference f.stack ≡ Some (v, next) → top_int next ≡ Some (n, below) → top_reference below ≡ None
    → aastore_effect types f heap ≡ None
unfolding aastore_effect
aastore_stuck_array types f heap v n next below e g k = rw (e, g, k) refl

aastore_null : (types : WorldTypes) (f : MachineFrame) (heap : Heap) (v : Value) (n : ℤ) (next below rest : List Value)
    → top_reference f.stack ≡ Some (v, next) → top_int next ≡ Some (n, below) → top_reference below ≡ Some (values.Null, rest)
    → aastore_effect types f heap ≡ Some (Effect.Raise null_pointer_exception)
unfolding aastore_effect
aastore_null types f heap v n next below rest e g k = rw (e, g, k) refl

aastore_none : (types : WorldTypes) (f : MachineFrame) (heap : Heap) (v : Value) (n : ℤ) (next below rest : List Value) (r : ℕ)
    (object : Object) → top_reference f.stack ≡ Some (v, next) → top_int next ≡ Some (n, below)
    → top_reference below ≡ Some (values.Ref r, rest) → object_at heap r ≡ Some object → references_in object ≡ None
    → aastore_effect types f heap ≡ None
unfolding aastore_effect
aastore_none types f heap v n next below rest r object e g k o q = rw (e, g, k, o, q) refl

aastore_by : (types : WorldTypes) (f : MachineFrame) (heap : Heap) (v : Value) (n : ℤ) (next below rest : List Value) (r : ℕ)
    (object : Object) (own : Ty) (items : List Value) (storable : Option Bool) → top_reference f.stack ≡ Some (v, next)
    → top_int next ≡ Some (n, below) → top_reference below ≡ Some (values.Ref r, rest) → object_at heap r ≡ Some object
    → references_in object ≡ Some (own, items) → is_null_or_below types heap own v ≡ storable
    → aastore_effect types f heap ≡ option_map
    (λ (ok : Bool). on_item (index_below (length items) n)
    (λ (i : ℕ). if ok then Effect.Next (with_stack f rest, with_item heap r i v object) else Effect.Raise
    array_store_exception)) storable
unfolding aastore_effect
aastore_by types f heap v n next below rest r object own items None e g k o q z = rw (e, g, k, o, q, z) refl
aastore_by types f heap v n next below rest r object own items (Some ok) e g k o q z = rw (e, g, k, o, q, z) refl

-- an index is a place below so many items, or it is outside
below_is : (count i : ℕ) → i < count → index_below count (pos i) ≡ Some i
below_is count i l = ap (λ (b : Bool). if b then Some i else None) (lt-ltb i count l)

outside_is : (count : ℕ) (n : ℤ) → ((n <ℤ pos 0) ⊎ (pos count ≤ℤ n)) → index_below count n ≡ None
outside_is count (pos i) (inl l) = absurd (omega (arith, ints, l))
outside_is count (pos i) (inr l) = let m : count ≤ i = omega (arith, ints, l) in ap (λ (b : Bool). if b then Some i else None)
    (le-ltb i count m)
outside_is count (negsuc i) l = refl

-- what an int's cell describes has nothing to do with heaps
int_described : (types : WorldTypes) (heap other : Heap) (m : Meaning) (c : Cell) (v : Value) → is_int c ≡ true
    → Describes types heap m c v → Describes types other m c v
int_described types heap other m (cells.Int interval) v i d = d
int_described types heap other m cells.Null v i d = absurd (false≢true i)
int_described types heap other m (cells.Obj class ids) v i d = absurd (false≢true i)
int_described types heap other m (cells.Nums kind len) v i d = absurd (false≢true i)
int_described types heap other m (cells.Refs element len shape) v i d = absurd (false≢true i)
int_described types heap other m (cells.Unk bound nullable shape) v i d = absurd (false≢true i)

-- a reference's cell is no int's
no_int_cell : (types : WorldTypes) (heap : Heap) (m : Meaning) (c : Cell) (v : Value) → reference_of v ≡ Some v
    → Describes types heap m c v → is_int c ≡ false
no_int_cell types heap m (cells.Int interval) v r d = absurd (none-some v (sym (ap reference_of d.1.0) ∙ r))
no_int_cell types heap m cells.Null v r d = refl
no_int_cell types heap m (cells.Obj class ids) v r d = refl
no_int_cell types heap m (cells.Nums kind len) v r d = refl
no_int_cell types heap m (cells.Refs element len shape) v r d = refl
no_int_cell types heap m (cells.Unk bound nullable shape) v r d = refl

null_cell_told : (types : WorldTypes) (heap : Heap) (m : Meaning) (c : Cell) (v : Value) → Describes types heap m c v
    → is_null_cell (Some c) ≡ true → v ≡ values.Null
null_cell_told types heap m (cells.Int interval) v d n = absurd (false≢true n)
null_cell_told types heap m cells.Null v d n = d
null_cell_told types heap m (cells.Obj class ids) v d n = absurd (false≢true n)
null_cell_told types heap m (cells.Nums kind len) v d n = absurd (false≢true n)
null_cell_told types heap m (cells.Refs element len shape) v d n = absurd (false≢true n)
null_cell_told types heap m (cells.Unk bound nullable shape) v d n = absurd (false≢true n)

module _ (p : Program) (typing : ℕ → CodeTypes) (state : AbstractState) (machine : MachineState) (meaning : Meaning)
    (s : Stands p typing state machine meaning) where
  abbrev types : WorldTypes
  types = types_of p.world

  abbrev Fit : Turn → Type 0
  Fit = Fitting p state machine meaning

  abbrev Covered : Plan → Type 0
  Covered = Meets p state machine meaning

  abbrev Holds : ℕ → Type 0
  Holds = HasCell (λ _. true) state

  abbrev Next : ℕ
  Next = onward p typing state machine meaning s

  abbrev AreChanges : List (ℕ × Cell) → Type 0
  AreChanges list = AllByRecursion (IsChange types machine.heap state meaning) list

  abbrev OnlyInts : List (ℕ × Cell) → Type 0
  OnlyInts list = AllByRecursion (λ (c : ℕ × Cell). is_int c.1 ≡ true) list

  abbrev Effects : Option (Effect MachineFrame) → Type 0
  Effects effect = effect_of p s.method s.form (Work_ p typing state machine meaning s) ≡ on_frame
      (Work_ p typing state machine meaning s) effect

  abbrev HeapEffects : Option (Effect (MachineFrame × Heap)) → Type 0
  HeapEffects effect = effect_of p s.method s.form (Work_ p typing state machine meaning s) ≡ on_heap
      (Work_ p typing state machine meaning s) effect

  abbrev Rows : (ℕ → List LinkRow) → Type 0
  Rows rows = (fresh : ℕ) (after : Meaning) → All (HoldsBetween meaning after) (rows fresh)

  none : (effect : Option (Effect MachineFrame)) → Effects effect → effect ≡ None → ⊥
  none = no_frame_effect p typing state machine meaning s

  no_heap : (effect : Option (Effect (MachineFrame × Heap))) → HeapEffects effect → effect ≡ None → ⊥
  no_heap = no_heap_effect p typing state machine meaning s

  -- the frame at the next place, with another stack
  abbrev Placed : List ℕ → AbstractFrame
  Placed ids = record { method = s.frame.method; pc = Next; locals = s.frame.locals; stack = ids }

  abbrev PlacedRunning : List Value → MachineFrame
  PlacedRunning stack = record s.running { pc = Next; stack = stack }

  -- ---- aaload

  abbrev ItemSteps : ℕ → List ℕ → List (ℕ × Cell) → (ℕ → List LinkRow) → List Turn
  ItemSteps k rest narrowed rows = record {
    changed = narrowed;
    frames = stack_at (here p typing state machine meaning s) Next rest;
    throwing = None;
    act = item k;
    goal = on_stack;
    rows = rows;
  } ∷ []

  pub item_read : Effects (aaload_effect machine.heap s.running)
      → Covered (aaload_plan (here p typing state machine meaning s) s.frame.stack)
  item_read is =
      by_index p typing state machine meaning s (aaload_plan (here p typing state machine meaning s))
      (λ f. none effect is (aaload_stuck machine.heap s.running f))
      (λ n below f g. none effect is (aaload_stuck_next machine.heap s.running n below f g)) at
    where
      effect : Option (Effect MachineFrame)
      effect = aaload_effect machine.heap s.running

      at : (index k : ℕ) (rest : List ℕ) → IndexOver p typing state machine meaning s s.running.stack s.frame.stack index k rest
          → Covered (aaload_plan (here p typing state machine meaning s) (index ∷ k ∷ rest))
      at index k rest x =
          accessed_meets p typing state machine meaning s 1 k
          (option_map_or (λ (len : ℕ). access_at (here p typing state machine meaning s) index len (ItemSteps k rest))
          (items_of (here p typing state machine meaning s) k index) no_child)
          (ap (λ (ids : List ℕ). slice_get ids 1) x.ids_are) x.reference
          (λ f. raises_frame p typing state machine meaning s effect null_pointer_exception is
          (aaload_null machine.heap s.running x.number (meaning k ∷ map meaning rest) (map meaning rest) x.top
          (top_array p typing state machine meaning s k rest values.Null x.reference f)))
          (λ class ids r c f o. absurd
          (none effect is (aaload_none machine.heap s.running x.number (meaning k ∷ map meaning rest) (map meaning rest) r
          (objects.Instance class (map meaning ids)) x.top
          (top_array p typing state machine meaning s k rest (values.Ref r) x.reference f) o refl)))
          (λ kind len r items c f o l. absurd
          (none effect is (aaload_none machine.heap s.running x.number (meaning k ∷ map meaning rest) (map meaning rest) r
          (objects.Nums kind items) x.top (top_array p typing state machine meaning s k rest (values.Ref r) x.reference f)
          o refl)))
          (λ element len shape r own items c f o b l.
          subst (λ (b : Bool). Covered
          (option_map_or (λ (y : ℕ). access_at (here p typing state machine meaning s) index y (ItemSteps k rest))
          (if b then None else items_length_id (cell_here (here p typing state machine meaning s) k)) no_child))
          (sym (other_id meaning k index x.number x.int.is x.reference))
          (subst (λ (cell : Option Cell). Covered
          (option_map_or (λ (y : ℕ). access_at (here p typing state machine meaning s) index y (ItemSteps k rest))
          (items_length_id cell) no_child)) (sym c)
          (access_meets p typing state machine meaning s index len x.number (length items) (ItemSteps k rest) x.int
          (int_at p typing state machine meaning s len (pos (length items))
          (length_held p typing state machine meaning s k (cells.Refs element len shape) len c refl) l)
          (λ i n low list rows are only hold. inl (inside r own items f o i n low list rows are only hold))
          (λ out. raises_frame p typing state machine meaning s effect array_index_out_of_bounds_exception is
          (whole r own items f o
          ∙ ap (λ (found : Option Value). Some
          (on_item found (λ (v : Value). Effect.Next (with_stack s.running (v ∷ map meaning rest)))))
          (outside_item p typing state machine meaning s items x.number out))))))
        where
          whole : (r : ℕ) (own : Ty) (items : List Value) → meaning k ≡ values.Ref r
              → slice_get machine.heap.objects r ≡ Some (objects.Refs own items)
              → effect ≡ Some (on_item (item_at items x.number) (λ (v : Value). Effect.Next (with_stack s.running (v ∷ map meaning rest))))
          whole r own items f o = aaload_by machine.heap s.running x.number (meaning k ∷ map meaning rest) (map meaning rest) r
              (objects.Refs own items) own items x.top
              (top_array p typing state machine meaning s k rest (values.Ref r) x.reference f) o refl

          inside : (r : ℕ) (own : Ty) (items : List Value) → meaning k ≡ values.Ref r
              → slice_get machine.heap.objects r ≡ Some (objects.Refs own items) → (i : ℕ) → x.number ≡ pos i → i < length items
              → (list : List (ℕ × Cell)) (rows : ℕ → List LinkRow) → AreChanges list → OnlyInts list → Rows rows
              → Fit (record {
                changed = list;
                frames = stack_at (here p typing state machine meaning s) Next rest;
                throwing = None;
                act = item k;
                goal = on_stack;
                rows = rows;
              })
          inside r own items f o i n low list rows are only hold =
              let v = get_within items i low in
              item_turn p typing state machine meaning s k r i own items v.0 list (Placed rest) rows
              (PlacedRunning (map meaning rest)) are only (ap target f) o v.1
              (record { locals = (held p typing state machine meaning s).locals; stack = x.others })
              (stacked meaning s.frame s.lower machine.statics s.running s.below Next rest (map meaning rest) refl s.fit) hold
              (goes_next p typing state machine meaning s effect (with_stack s.running (v.0 ∷ map meaning rest)) is
              (whole r own items f o
              ∙ ap (λ (m : ℤ). Some
              (on_item (item_at items m) (λ (w : Value). Effect.Next (with_stack s.running (w ∷ map meaning rest))))) n
              ∙ ap (λ (found : Option Value). Some
              (on_item found (λ (w : Value). Effect.Next (with_stack s.running (w ∷ map meaning rest))))) v.1))

  -- ---- iastore, bastore, castore, sastore

  abbrev StoreSteps : List ℕ → List (ℕ × Cell) → (ℕ → List LinkRow) → List Turn
  StoreSteps rest narrowed rows = record {
    changed = narrowed;
    frames = stack_at (here p typing state machine meaning s) Next rest;
    throwing = None;
    act = nothing;
    goal = nowhere;
    rows = rows;
  } ∷ []

  -- narrowed ints are described in any heap
  moved_ints : (list : List (ℕ × Cell)) → AreChanges list → OnlyInts list → (heap : Heap)
      → AllByRecursion (λ (c : ℕ × Cell). Describes types heap meaning c.1 (meaning c.0)) list
  moved_ints [] a only heap = tt
  moved_ints (c ∷ list) a only heap = (
    int_described types machine.heap heap meaning c.1 (meaning c.0) only.0 a.0.described,
    moved_ints list a.1 only.1 heap,
  )

  pub number_stored : (for_ : ItemKind) → HeapEffects (number_store_effect for_ s.running machine.heap)
      → Covered (number_store_plan (here p typing state machine meaning s) s.frame.stack)
  number_stored for_ is =
      by_int_at p typing state machine meaning s (number_store_plan (here p typing state machine meaning s))
      (λ f. no_heap effect is (number_store_stuck for_ s.running machine.heap f)) first s.frame.stack refl
    where
      effect : Option (Effect (MachineFrame × Heap))
      effect = number_store_effect for_ s.running machine.heap

      -- a number goes into the array
      stored_number : (kind : Kind) (r : ℕ) (items : List ℤ) → slice_get machine.heap.objects r ≡ Some (objects.Nums kind items)
          → (i : ℕ) (rest : List ℕ) → AllByRecursion Holds rest → (number : ℤ) (list : List (ℕ × Cell)) (rows : ℕ → List LinkRow)
          → AreChanges list → OnlyInts list → Rows rows
          → effect ≡ Some (Effect.Next (with_stack s.running (map meaning rest), with_number machine.heap r (kind, items) i number))
          → Fit (record {
            changed = list;
            frames = stack_at (here p typing state machine meaning s) Next rest;
            throwing = None;
            act
                = nothing;
            goal = nowhere;
            rows = rows;
          })
      stored_number kind r items o i rest h number list rows are only hold e =
          let heap : Heap = with_number machine.heap r (kind, items) i number in
          let write : AreRenumbered machine.heap r heap = record
          { kind = kind; before = items; after = slice_set items i (narrowed kind number); stands = o; objects = refl } in
          let alike = s.lows.number_writes types state machine meaning r heap s.sound.well_formed s.fits write
          (length_set items i (narrowed kind number)) in
          keeping_turn p typing state machine meaning s list (Placed rest) rows (PlacedRunning (map meaning rest)) heap
          (alikes p typing state machine meaning s list are) (nameds p typing state machine meaning s list are)
          (s.lows.numbers_keep machine.heap heap r write)
          (described_of types heap meaning state list (moved_ints list are only heap) (λ id c f g. alike.fits.cells id c g))
          (record { locals = (held p typing state machine meaning s).locals; stack = h })
          (stacked meaning s.frame s.lower machine.statics s.running s.below Next rest (map meaning rest) refl s.fit)
          (λ fresh. hold fresh meaning)
          (goes_after p typing state machine meaning s
          (record { frame = with_stack s.running (map meaning rest); statics = machine.statics; heap = heap })
          (is ∙ ap (on_heap (Work_ p typing state machine meaning s)) e))

      first : (value : ℕ) (ids : List ℕ) → s.frame.stack ≡ value ∷ ids → s.running.stack ≡ map meaning (value ∷ ids)
          → TopInt p typing state machine meaning s value ids
          → Covered (number_store_plan (here p typing state machine meaning s) (value ∷ ids))
      first value ids frame_is e t =
          index_of p typing state machine meaning s
          (λ (xs : List ℕ). number_store_plan (here p typing state machine meaning s) (value ∷ xs)) (map meaning ids)
          (λ f. no_heap effect is (number_store_stuck_index for_ s.running machine.heap t.number (map meaning ids) top f))
          (λ n below f g. no_heap effect is (number_store_stuck_array for_ s.running machine.heap t.number n (map meaning ids)
          below top f g)) ids refl t.others at
        where
          top : top_int s.running.stack ≡ Some (t.number, map meaning ids)
          top = ap top_int (e ∙ t.stack)

          at : (index k : ℕ) (rest : List ℕ) → IndexOver p typing state machine meaning s (map meaning ids) ids index k rest
              → Covered (number_store_plan (here p typing state machine meaning s) (value ∷ index ∷ k ∷ rest))
          at index k rest x =
              accessed_meets p typing state machine meaning s 2 k
              (option_map_or (λ (len : ℕ). access_at (here p typing state machine meaning s) index len (StoreSteps rest))
              (length_id (cell_here (here p typing state machine meaning s) k)) no_child)
              (ap (λ (xs : List ℕ). slice_get xs 2) (frame_is ∙ ap (λ (xs : List ℕ). value ∷ xs) x.ids_are)) x.reference
              (λ f. raises_heap p typing state machine meaning s effect null_pointer_exception is
              (number_store_null for_ s.running machine.heap t.number x.number (map meaning ids)
              (meaning k ∷ map meaning rest) (map meaning rest) top x.top
              (top_array p typing state machine meaning s k rest values.Null x.reference f)))
              (λ class fields r c f o. absurd
              (no_heap effect is (number_store_none for_ s.running machine.heap t.number x.number (map meaning ids)
              (meaning k ∷ map meaning rest) (map meaning rest) r (objects.Instance class (map meaning fields)) top x.top
              (top_array p typing state machine meaning s k rest (values.Ref r) x.reference f) o refl)))
              (λ kind len r items c f o l.
              subst (λ (cell : Option Cell). Covered
              (option_map_or (λ (y : ℕ). access_at (here p typing state machine meaning s) index y (StoreSteps rest))
              (length_id cell) no_child)) (sym c) (numbers kind len r items c f o l (is_for for_ kind) refl))
              (λ element len shape r own items c f o b l. absurd
              (no_heap effect is (number_store_none for_ s.running machine.heap t.number x.number (map meaning ids)
              (meaning k ∷ map meaning rest) (map meaning rest) r (objects.Refs own items) top x.top
              (top_array p typing state machine meaning s k rest (values.Ref r) x.reference f) o refl)))
            where
              numbers : (kind : Kind) (len r : ℕ) (items : List ℤ) → cell_at state k ≡ Some (cells.Nums kind len)
                  → meaning k ≡ values.Ref r → slice_get machine.heap.objects r ≡ Some (objects.Nums kind items)
                  → meaning len ≡ values.Int (pos (length items)) → (b : Bool) → is_for for_ kind ≡ b
                  → Covered (access_at (here p typing state machine meaning s) index len (StoreSteps rest))
              numbers kind len r items c f o l false b = absurd
                  (no_heap effect is (number_store_none for_ s.running machine.heap t.number x.number (map meaning ids)
                  (meaning k ∷ map meaning rest) (map meaning rest) r (objects.Nums kind items) top x.top
                  (top_array p typing state machine meaning s k rest (values.Ref r) x.reference f) o
                  (ap (λ (y : Bool). cond y (Some (kind, items)) None) b)))
              numbers kind len r items c f o l true b =
                  access_meets p typing state machine meaning s index len x.number (length items) (StoreSteps rest) x.int
                  (int_at p typing state machine meaning s len (pos (length items))
                  (length_held p typing state machine meaning s k (cells.Nums kind len) len c refl) l)
                  (λ i n low list rows are only hold. inl
                  (stored_number kind r items o i rest x.others t.number list rows are only hold
                  (whole ∙ ap (λ (m : ℤ). Some
                  (on_item (index_below (length items) m)
                  (λ (j : ℕ). Effect.Next
                  (with_stack s.running (map meaning rest), with_number machine.heap r (kind, items) j t.number))))
                  n ∙ ap (λ (found : Option ℕ). Some
                  (on_item found (λ (j : ℕ). Effect.Next
                  (with_stack s.running (map meaning rest), with_number machine.heap r (kind, items) j t.number))))
                  (below_is (length items) i low))))
                  (λ out. raises_heap p typing state machine meaning s effect array_index_out_of_bounds_exception is
                  (whole ∙ ap (λ (found : Option ℕ). Some
                  (on_item found (λ (j : ℕ). Effect.Next
                  (with_stack s.running (map meaning rest), with_number machine.heap r (kind, items) j t.number))))
                  (outside_is (length items) x.number out)))
                where
                  whole : effect ≡ Some
                      (on_item (index_below (length items) x.number)
                      (λ (j : ℕ). Effect.Next (
                        with_stack s.running (map meaning rest),
                        with_number machine.heap r (kind, items) j
                            t.number,
                      )))
                  whole = number_store_by for_ s.running machine.heap t.number x.number (map meaning ids)
                      (meaning k ∷ map meaning rest) (map meaning rest) r (objects.Nums kind items) kind items top x.top
                      (top_array p typing state machine meaning s k rest (values.Ref r) x.reference f) o
                      (ap (λ (y : Bool). cond y (Some (kind, items)) None) b)

  -- ---- aastore

  abbrev WriteSteps : ℕ → ℕ → List ℕ → List (ℕ × Cell) → (ℕ → List LinkRow) → List Turn
  WriteSteps value k rest narrowed rows =
      record {
        changed = narrowed;
        frames = stack_at (here p typing state machine meaning s) Next rest;
        throwing = None;
        act =
            writes (record { object = k; field = None; value = value });
        goal = nowhere;
        rows = rows;
      }
      ∷ (if is_null_here (here p typing state machine meaning s) value then [] else throws_after
      (here p typing state machine meaning s) narrowed rows array_store_exception ∷ [])

  pub item_written : HeapEffects (aastore_effect types s.running machine.heap)
      → Covered (aastore_plan (here p typing state machine meaning s) s.frame.stack)
  item_written is =
      by_reference_at p typing state machine meaning s (aastore_plan (here p typing state machine meaning s))
      (λ f. no_heap effect is (aastore_stuck types s.running machine.heap f)) first s.frame.stack refl
    where
      effect : Option (Effect (MachineFrame × Heap))
      effect = aastore_effect types s.running machine.heap

      first : (value : ℕ) (ids : List ℕ) → s.frame.stack ≡ value ∷ ids → AllByRecursion Holds (value ∷ ids)
          → s.running.stack ≡ meaning value ∷ map meaning ids
          → top_reference s.running.stack ≡ Some (meaning value, map meaning ids)
          → Covered (aastore_plan (here p typing state machine meaning s) (value ∷ ids))
      first value ids e h g top =
          index_of p typing state machine meaning s
          (λ (xs : List ℕ). aastore_plan (here p typing state machine meaning s) (value ∷ xs)) (map meaning ids)
          (λ f. no_heap effect is (aastore_stuck_index types s.running machine.heap (meaning value) (map meaning ids) top f))
          (λ n below f q. no_heap effect is
          (aastore_stuck_array types s.running machine.heap (meaning value) n (map meaning ids) below top f q)) ids refl h.1 at
        where
          own_reference : reference_of (meaning value) ≡ Some (meaning value)
          own_reference = top_is_reference (meaning value) (map meaning ids) (sym (ap top_reference g) ∙ top)

          at : (index k : ℕ) (rest : List ℕ) → IndexOver p typing state machine meaning s (map meaning ids) ids index k rest
              → Covered (aastore_plan (here p typing state machine meaning s) (value ∷ index ∷ k ∷ rest))
          at index k rest x =
              accessed_meets p typing state machine meaning s 2 k
              (option_map_or (λ (len : ℕ). access_at (here p typing state machine meaning s) index len
              (WriteSteps value k rest)) (length_id (cell_here (here p typing state machine meaning s) k)) no_child)
              (ap (λ (xs : List ℕ). slice_get xs 2) (e ∙ ap (λ (xs : List ℕ). value ∷ xs) x.ids_are)) x.reference
              (λ f. raises_heap p typing state machine meaning s effect null_pointer_exception is
              (aastore_null types s.running machine.heap (meaning value) x.number (map meaning ids)
              (meaning k ∷ map meaning rest) (map meaning rest) top x.top
              (top_array p typing state machine meaning s k rest values.Null x.reference f)))
              (λ class fields r c f o. absurd
              (no_heap effect is (aastore_none types s.running machine.heap (meaning value) x.number (map meaning ids)
              (meaning k ∷ map meaning rest) (map meaning rest) r (objects.Instance class (map meaning fields)) top x.top
              (top_array p typing state machine meaning s k rest (values.Ref r) x.reference f) o refl)))
              (λ kind len r items c f o l. absurd
              (no_heap effect is (aastore_none types s.running machine.heap (meaning value) x.number (map meaning ids)
              (meaning k ∷ map meaning rest) (map meaning rest) r (objects.Nums kind items) top x.top
              (top_array p typing state machine meaning s k rest (values.Ref r) x.reference f) o refl)))
              (λ element len shape r own items c f o b l.
              subst (λ (cell : Option Cell). Covered
              (option_map_or (λ (y : ℕ). access_at (here p typing state machine meaning s) index y (WriteSteps value k rest))
              (length_id cell) no_child)) (sym c)
              (access_meets p typing state machine meaning s index len x.number (length items) (WriteSteps value k rest) x.int
              (int_at p typing state machine meaning s len (pos (length items))
              (length_held p typing state machine meaning s k (cells.Refs element len shape) len c refl) l)
              (λ i n low list rows are only hold. inside element len shape r own items c f o i n low list rows are only hold
              (is_null_or_below types machine.heap own (meaning value)) refl)
              (λ out. outside r own items f o out (is_null_or_below types machine.heap own (meaning value)) refl)))
            where
              whole : (r : ℕ) (own : Ty) (items : List Value) → meaning k ≡ values.Ref r
                  → slice_get machine.heap.objects r ≡ Some (objects.Refs own items) → (storable : Option Bool)
                  → is_null_or_below types machine.heap own (meaning value) ≡ storable
                  → effect ≡ option_map
                  (λ (ok : Bool). on_item (index_below (length items) x.number)
                  (λ (i : ℕ). if ok then Effect.Next (
                    with_stack s.running (map meaning rest),
                    with_item machine.heap r i (meaning value)
                        (objects.Refs own items),
                  ) else Effect.Raise array_store_exception)) storable
              whole r own items f o storable z = aastore_by types s.running machine.heap (meaning value) x.number (map meaning ids)
                  (meaning k ∷ map meaning rest) (map meaning rest) r (objects.Refs own items) own items storable top x.top
                  (top_array p typing state machine meaning s k rest (values.Ref r) x.reference f) o refl z

              outside : (r : ℕ) (own : Ty) (items : List Value) → meaning k ≡ values.Ref r
                  → slice_get machine.heap.objects r ≡ Some (objects.Refs own items)
                  → ((x.number <ℤ pos 0) ⊎ (pos (length items) ≤ℤ x.number)) → (storable : Option Bool)
                  → is_null_or_below types machine.heap own (meaning value) ≡ storable
                  → step p machine ≡ Step.Going (raised p typing state machine meaning s array_index_out_of_bounds_exception)
              outside r own items f o out None z = absurd (no_heap effect is (whole r own items f o None z))
              outside r own items f o out (Some ok) z = raises_heap p typing state machine meaning s effect
                  array_index_out_of_bounds_exception is (whole r own items f o (Some ok) z
                  ∙ ap (λ (found : Option ℕ). Some
                  (on_item found (λ (i : ℕ). if ok then Effect.Next (
                    with_stack s.running (map meaning rest),
                    with_item machine.heap r i (meaning value)
                        (objects.Refs own items),
                  ) else Effect.Raise array_store_exception))) (outside_is (length items) x.number out))

              inside : (element : Ty) (len : ℕ) (shape : Shape) (r : ℕ) (own : Ty) (items : List Value)
                  → cell_at state k ≡ Some (cells.Refs element len shape) → meaning k ≡ values.Ref r
                  → slice_get machine.heap.objects r ≡ Some (objects.Refs own items) → (i : ℕ) → x.number ≡ pos i → i < length items
                  → (list : List (ℕ × Cell)) (rows : ℕ → List LinkRow) → AreChanges list → OnlyInts list → Rows rows
                  → (storable : Option Bool) → is_null_or_below types machine.heap own (meaning value) ≡ storable
                  → SomeOf Fit (WriteSteps value k rest list rows)
              inside element len shape r own items c f o i n low list rows are only hold None z = absurd
                  (no_heap effect is (whole r own items f o None z))
              inside element len shape r own items c f o i n low list rows are only hold (Some true) z =
                  let heap : Heap = with_item machine.heap r i (meaning value) (objects.Refs own items) in
                  inl (writing_turn p typing state machine meaning s (record { object = k; field = None; value = value })
                  (cells.Refs element len shape) r i heap list (Placed rest) rows (PlacedRunning (map meaning rest)) are only
                  h.0.cell h.0.is (no_int_cell types machine.heap meaning h.0.cell (meaning value) own_reference
                  (s.fits.cells value h.0.cell h.0.is)) c refl
                  (λ changed. record {
                    field_is = λ field q. absurd (none-some field q);
                    array_is = λ q. (element, len, shape, refl);
                  }) (ap target f) (record { object = objects.Refs own items; stands = o; objects = refl })
                  (record { locals = (held p typing state machine meaning s).locals; stack = x.others })
                  (stacked meaning s.frame s.lower machine.statics s.running s.below Next rest (map meaning rest) refl s.fit) hold
                  (goes_after p typing state machine meaning s
                  (record { frame = with_stack s.running (map meaning rest); statics = machine.statics; heap = heap })
                  (is ∙ ap (on_heap (Work_ p typing state machine meaning s)) (told true z))))
                where
                  told : (ok : Bool) → is_null_or_below types machine.heap own (meaning value) ≡ Some ok
                      → effect ≡ Some (if ok then Effect.Next (
                        with_stack s.running (map meaning rest),
                        with_item machine.heap r i (meaning value)
                            (objects.Refs own items),
                      ) else Effect.Raise array_store_exception)
                  told ok q = whole r own items f o (Some ok) q
                      ∙ ap (λ (m : ℤ). Some
                      (on_item (index_below (length items) m)
                      (λ (j : ℕ). if ok then Effect.Next (
                        with_stack s.running (map meaning rest),
                        with_item machine.heap r j (meaning value)
                            (objects.Refs own items),
                      ) else Effect.Raise array_store_exception))) n
                      ∙ ap (λ (found : Option ℕ). Some
                      (on_item found (λ (j : ℕ). if ok then Effect.Next (
                        with_stack s.running (map meaning rest),
                        with_item machine.heap r j (meaning value)
                            (objects.Refs own items),
                      ) else Effect.Raise array_store_exception))) (below_is (length items) i low)
              inside element len shape r own items c f o i n low list rows are only hold (Some false) z =
                  inr (not_null (is_null_here (here p typing state machine meaning s) value) refl)
                where
                  told : effect ≡ Some (Effect.Raise array_store_exception)
                  told = whole r own items f o (Some false) z
                      ∙ ap (λ (m : ℤ). Some
                      (on_item (index_below (length items) m) (λ (j : ℕ). Effect.Raise array_store_exception))) n
                      ∙ ap (λ (found : Option ℕ). Some (on_item found (λ (j : ℕ). Effect.Raise array_store_exception)))
                      (below_is (length items) i low)

                  true_false : true ≡ false → ⊥
                  true_false q = false≢true (sym q)

                  not_null : (b : Bool) → is_null_here (here p typing state machine meaning s) value ≡ b
                      → SomeOf Fit (if b then [] else throws_after (here p typing state machine meaning s) list rows
                      array_store_exception ∷ [])
                  not_null true q =
                      let null : meaning value ≡ values.Null = null_cell_told types machine.heap meaning h.0.cell (meaning value)
                      (s.fits.cells value h.0.cell h.0.is) (sym (ap is_null_cell h.0.is) ∙ q) in
                      absurd (true_false (some_is (sym (ap (is_null_or_below types machine.heap own) null) ∙ z)))
                  not_null false q = inl (throwing_turn p typing state machine meaning s list rows array_store_exception are
                      (omega arith) hold (raises_heap p typing state machine meaning s effect array_store_exception is told))
