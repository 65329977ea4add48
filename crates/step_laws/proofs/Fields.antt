-- putfield: a reference is written, or an int, which may be narrowed to the field's kind.
use Rattle.std.proofs.Common.{◌≡◌, ◌≢◌, ◌∙◌, ◌<◌, ◌⊎◌, inl, inr, eqb, ℕ, ℤ, zero, suc, Bool, true, false, if◌then◌else◌, List, []}
use Rattle.std.proofs.Common.{◌∷◌, length, map, Option, Some, None, slice_get, refl, sym, ap, subst}
use Rattle.std.specs.Prelude.{nat_lt, slice_set}
use Rattle.std.specs.List.{AllByRecursion, AllZip}
use Rattle.std.specs.Option.{option_map, option_and_then, MatchOption}
use Rattle.std.proofs.lemmas.Bool.{false≢true, eqb-true, eq-eqb, ne_eqb, ltb-true, cases_eq}
use Rattle.std.proofs.lemmas.List.Elements.{All-nil, All-head}
use Rattle.std.proofs.lemmas.Option.{none-some}
use Rattle.list_views.specs.Options.{asked}
use Rattle.list_views.proofs.Items.{length_mapped}
use Rattle.list_views.proofs.Quantified.{all_places}
use Rattle.lin_core.specs.Intervals.{Bounds, IsIn}
use Rattle.jvm_values.specs.declared.heap.Value.{Value}
use Rattle.jvm_values.specs.declared.heap.Value.TheVariants as values
use Rattle.jvm_values.specs.declared.heap.Object.{Object}
use Rattle.jvm_values.specs.declared.heap.Object.TheVariants as objects
use Rattle.jvm_values.specs.declared.heap.Heap.{Heap}
use Rattle.jvm_values.specs.declared.ints.IntOp.TheVariants.{Narrow}
use Rattle.jvm_values.specs.declared.state.Mode.TheVariants.{Normal}
use Rattle.jvm_values.specs.declared.types.Slot.{Slot}
use Rattle.jvm_values.specs.declared.types.Slot.TheVariants as slots
use Rattle.jvm_values.specs.declared.types.Ty.{Ty}
use Rattle.jvm_values.specs.Heaps.{target, values_of}
use Rattle.jvm_values.specs.Kinds.{narrowed}
use Rattle.jvm_values.specs.States.{MachineFrame, MachineState}
use Rattle.jvm_values.specs.Subtyping.{class_type}
use Rattle.jvm_values.specs.TypedHeaps.{WorldTypes}
use Rattle.jvm_values.specs.Writes.{IsKept}
use Rattle.jvm_values.proofs.Options.{some_is}
use Rattle.abs_cells.specs.declared.cells.Cell.{Cell}
use Rattle.abs_cells.specs.declared.cells.Cell.TheVariants as cells
use Rattle.abs_cells.specs.AbstractStates.{AbstractFrame, AbstractState}
use Rattle.abs_cells.specs.Cells.{is_int, cell_in, cell_at, HasCell}
use Rattle.abs_cells.specs.Fits.{Meaning, FitsFrame, with_statics, Describes, Fits}
use Rattle.abs_cells.specs.Sound.{IsOfSlot, IsSoundCell}
use Rattle.abs_ints.specs.Falling.{FallsUnder}
use Rattle.abs_ints.specs.Operating.{operated}
use Rattle.abs_ints.specs.declared.cases.IntCase.{IntCase}
use Rattle.abs_ints.proofs.AllCases.{operated_covers}
use Rattle.abs_reach.proofs.Walks.{named_has_cell}
use Rattle.abs_heap.specs.Given.{first_cell, with_cells}
use Rattle.abs_heap.proofs.Placing.{cell_here, cell_later}
use Rattle.class_world.specs.BuiltIns.{null_pointer_exception}
use Rattle.class_world.specs.WorldTypes.{types_of}
use Rattle.jvm_step.specs.class_program.declared.op.FieldUse.{FieldUse}
use Rattle.jvm_step.specs.class_program.Good.{IsGoodField}
use Rattle.jvm_step.specs.class_program.Programs.{Program}
use Rattle.frame_types.specs.Tables.{CodeTypes}
use Rattle.jvm_step.specs.Effects.{Effect, with_stack, fields_in, with_item, putfield_effect}
use Rattle.jvm_step.specs.Operands.{reference_of, top, top_reference, object_at, is_assignable, is_passed, kept}
use Rattle.jvm_step.specs.Table.{effect_of, on_heap}
use Rattle.jvm_step.specs.Running.{Step, step}
use Rattle.object_steps.proofs.jvm_run.Lists.{zip_get}
use Rattle.object_steps.proofs.jvm_run.Objects.{erased_class, class_below_by}
use Rattle.term_graph.specs.Edges.{HoldsBetween}
use Rattle.object_steps.specs.abs_expand.Plans.{makes, in_field, Turn, Plan, steps, no_rows}
use Rattle.object_steps.specs.abs_expand.Children.{set_field, field_with}
use Rattle.object_steps.specs.abs_expand.inner.Building.{HoldsIds}
use Rattle.object_steps.specs.abs_expand.Table.{cell_here as cell_of, on_instance, put_slot, putfield_plan}
use Rattle.object_steps.specs.abs_expand.Turns.{moves, turn_narrowing, turns_narrowing, interval_of_id, with_stack as stack_at}
use Rattle.object_steps.proofs.form_steps.SomeOf.{SomeOf, some_one, some_of_map}
use Rattle.abs_heap.specs.Laws.{HasOtherCells}
use Rattle.object_steps.proofs.form_steps.Formed.{changed_formed, frames_held, thrown_held}
use Rattle.object_steps.proofs.form_steps.Steps.{formed, mid_fits, field_goes}
use Rattle.object_steps.proofs.form_steps.Tops.{stacked, from_tops}
use Rattle.object_steps.proofs.form_steps.Standing.{Stands, here, onward, Work_, held, lower_held, going, no_heap_effect, goes_after, raises_heap}
use Rattle.object_steps.proofs.form_steps.TurnKinds.{Fitting, Meets, sound_at, writing_turn, keeping_turn}
use Rattle.object_steps.proofs.form_steps.Operands.{IntAt, int_at, bounded, stack_is, stack_held}
use Rattle.object_steps.proofs.References.{accessed_meets}

-- ---- effects

putfield_stuck : (types : WorldTypes) (used : FieldUse) (f : MachineFrame) (heap : Heap) → top f.stack ≡ None
    → putfield_effect types used f heap ≡ None
unfolding putfield_effect
putfield_stuck types used f heap e = rw e refl

putfield_stuck_next : (types : WorldTypes) (used : FieldUse) (f : MachineFrame) (heap : Heap) (v : Value) (next : List Value)
    → top f.stack ≡ Some (v, next) → top_reference next ≡ None → putfield_effect types used f heap ≡ None
unfolding putfield_effect
putfield_stuck_next types used f heap v next e g = rw (e, g) refl

putfield_untaken : (types : WorldTypes) (used : FieldUse) (f : MachineFrame) (heap : Heap) (v w : Value) (next rest : List Value)
    → top f.stack ≡ Some (v, next) → top_reference next ≡ Some (w, rest) → is_passed types heap used.slot v ≡ false
    → putfield_effect types used f heap ≡ None
unfolding putfield_effect
putfield_untaken types used f heap v w next rest e g b = rw (e, g, b) refl

putfield_null : (types : WorldTypes) (used : FieldUse) (f : MachineFrame) (heap : Heap) (v : Value) (next rest : List Value)
    → top f.stack ≡ Some (v, next) → top_reference next ≡ Some (values.Null, rest) → is_passed types heap used.slot v ≡ true
    → putfield_effect types used f heap ≡ Some (Effect.Raise null_pointer_exception)
unfolding putfield_effect
putfield_null types used f heap v next rest e g b = rw (e, g, b) refl

-- what is put into an object
abbrev put_of : WorldTypes → FieldUse → MachineFrame → Heap → Value → List Value → ℕ → Object → Option (Effect (MachineFrame × Heap))
put_of types used f heap v rest r object = option_and_then
    (λ (u : Unit {0}). option_and_then
    (λ (fields : List Value). option_and_then
    (λ (w : Unit {0}). Some (Effect.Next (with_stack f rest, with_item heap r used.place (kept used.slot v) object)))
    (asked (nat_lt used.place (length fields)))) (fields_in object)) (asked (is_assignable types object (class_type used.class)))

putfield_by : (types : WorldTypes) (used : FieldUse) (f : MachineFrame) (heap : Heap) (v : Value) (next rest : List Value) (r : ℕ)
    (object : Object) → top f.stack ≡ Some (v, next) → top_reference next ≡ Some (values.Ref r, rest)
    → is_passed types heap used.slot v ≡ true → object_at heap r ≡ Some object → putfield_effect types used f heap ≡ put_of types
    used f heap v rest r object
unfolding putfield_effect
putfield_by types used f heap v next rest r object e g b o = rw (e, g, b, o) refl

no_fields : {X : Type 0} (o : Option (Unit {0})) (none_ : Option X) → none_ ≡ None → option_and_then (λ (u : Unit {0}). none_) o ≡ None
no_fields None none_ e = refl
no_fields (Some u) none_ e = e

-- ---- cells with another id in a field

field_cells : (k place x : ℕ) (list : List (ℕ × Cell)) (id : ℕ) → cell_in (map (field_with k place x) list) id ≡ option_map
    (λ (c : Cell). if eqb id k then set_field place x c else c) (cell_in list id)
field_cells k place x [] id = refl
field_cells k place x (c ∷ list) id = at (eqb c.0 id) refl (field_cells k place x list id)
  where
    at : (b : Bool) → eqb c.0 id ≡ b → cell_in (map (field_with k place x) list) id ≡ option_map
        (λ (d : Cell). if eqb id k then set_field place x d else d) (cell_in list id)
        → (if b then Some (if eqb c.0 k then set_field place x c.1 else c.1) else cell_in (map (field_with k place x) list) id)
        ≡ option_map (λ (d : Cell). if eqb id k then set_field place x d else d) (if b then Some c.1 else cell_in list id)
    at true e rest = ap (λ (n : ℕ). Some (if eqb n k then set_field place x c.1 else c.1)) (eqb-true c.0 id e)
    at false e rest = rest

other_cells : (state : AbstractState) (k place x class : ℕ) (ids : List ℕ) → cell_at state k ≡ Some (cells.Obj class ids)
    → HasOtherCells state (with_cells ((k, cells.Obj class (slice_set ids place x)) ∷ []) state)
    (record state { cells = map (field_with k place x) state.cells })
other_cells state k place x class ids e = record {
  frames_are = refl;
  throwing_is = refl;
  eq_is = refl;
  share_is = refl;
  cells = λ
      id. field_cells k place x state.cells id ∙ each id (cases_eq k id);
}
  where
    kept_cell : (o : Option Cell) → option_map (λ (c : Cell). c) o ≡ o
    kept_cell None = refl
    kept_cell (Some c) = refl

    each : (id : ℕ) → (k ≡ id) ⊎ (k ≡ id → ⊥) → option_map (λ (c : Cell). if eqb id k then set_field place x c else c)
        (cell_at state id) ≡ with_cells ((k, cells.Obj class (slice_set ids place x)) ∷ []) state id
    each id (inl s) =
        ap (λ (b : Bool). option_map (λ (c : Cell). if b then set_field place x c else c) (cell_at state id)) (eq-eqb id k (sym s))
        ∙ ap (option_map (set_field place x)) (ap (cell_at state) (sym s) ∙ e)
        ∙ sym (ap (λ (o : Option Cell). first_cell o (cell_at state id))
        (cell_here (k, cells.Obj class (slice_set ids place x)) [] id s))
    each id (inr n) =
        ap (λ (b : Bool). option_map (λ (c : Cell). if b then set_field place x c else c) (cell_at state id))
        (ne_eqb id k (λ q. n (sym q))) ∙ kept_cell (cell_at state id)
        ∙ sym (ap (λ (o : Option Cell). first_cell o (cell_at state id))
        (cell_later (k, cells.Obj class (slice_set ids place x)) [] id n))

mapped_at : (m : Meaning) (ids : List ℕ) (n x : ℕ) → slice_get ids n ≡ Some x → slice_get (map m ids) n ≡ Some (m x)
mapped_at m [] n x e = absurd (none-some x e)
mapped_at m (i ∷ ids) zero x e = ap (λ (y : ℕ). Some (m y)) (some_is e)
mapped_at m (i ∷ ids) (suc n) x e = mapped_at m ids n x e

set_all : (P : ℕ → Type 0) (ids : List ℕ) (n x : ℕ) → AllByRecursion P ids → P x → AllByRecursion P (slice_set ids n x)
set_all P [] n x h p = tt
set_all P (i ∷ ids) zero x h p = (p, h.1)
set_all P (i ∷ ids) (suc n) x h p = (h.0, set_all P ids n x h.1 p)

module _ (p : Program) (typing : ℕ → CodeTypes) (state : AbstractState) (machine : MachineState) (meaning : Meaning)
    (s : Stands p typing state machine meaning) where
  abbrev types : WorldTypes
  types = types_of p.world

  abbrev Fit : Turn → Type 0
  Fit = Fitting p state machine meaning

  abbrev Covered : Plan → Type 0
  Covered = Meets p state machine meaning

  abbrev Holds : ℕ → Type 0
  Holds = HasCell (λ _. true) state

  abbrev Next : ℕ
  Next = onward p typing state machine meaning s

  abbrev Placed : List ℕ → AbstractFrame
  Placed ids = record { method = s.frame.method; pc = Next; locals = s.frame.locals; stack = ids }

  abbrev PlacedRunning : List Value → MachineFrame
  PlacedRunning stack = record s.running { pc = Next; stack = stack }

  abbrev HeapEffects : Option (Effect (MachineFrame × Heap)) → Type 0
  HeapEffects effect = effect_of p s.method s.form (Work_ p typing state machine meaning s) ≡ on_heap
      (Work_ p typing state machine meaning s) effect

  no_heap : (effect : Option (Effect (MachineFrame × Heap))) → HeapEffects effect → effect ≡ None → ⊥
  no_heap = no_heap_effect p typing state machine meaning s

  -- an int field of a known object is written
  record IntField (k class place old r : ℕ) (ids : List ℕ) : Type 0 where
    at : cell_at state k ≡ Some (cells.Obj class ids)
    got : slice_get ids place ≡ Some old
    before : ℤ
    old_int : IntAt p typing state machine meaning s old before
    names : meaning k ≡ values.Ref r
    stands : slice_get machine.heap.objects r ≡ Some (objects.Instance class (map meaning ids))

  abbrev Written : ℕ → ℕ → ℕ → List ℕ → Value → Heap
  Written r place class ids value = with_item machine.heap r place value (objects.Instance class (map meaning ids))

  int_cell : (x : ℕ) (n : ℤ) → IntAt p typing state machine meaning s x n → HasCell is_int state x
  int_cell x n i = record { cell = cells.Int i.old; is = i.at; sort_is = refl }

  keeps_all : (k class place old r : ℕ) (ids : List ℕ) (n : ℤ) → IntField k class place old r ids → (x : Value)
      → IsKept machine.heap (Written r place class ids (values.Int n)) x
  keeps_all k class place old r ids n f = s.lows.ints_keep machine.heap (Written r place class ids (values.Int n)) r place f.before
      n (record { object = objects.Instance class (map meaning ids); stands = f.stands; objects = refl })
      (ap (option_and_then (λ (ob : Object). slice_get (values_of ob) place)) f.stands ∙ mapped_at meaning ids place old f.got
      ∙ ap Some f.old_int.is)

  -- the int stays as it is
  same_turn : (k class place old r x : ℕ) (ids rest : List ℕ) (n : ℤ) → IntField k class place old r ids
      → IntAt p typing state machine meaning s x n → AllByRecursion Holds rest
      → step p machine ≡ Step.Going (going (PlacedRunning (map meaning rest) ∷ s.below) (Written r place class ids (values.Int n))
      machine.statics) → Fit
      (record (moves (stack_at (here p typing state machine meaning s) Next rest))
      { changed = (k, cells.Obj class (slice_set ids place x)) ∷ [] })
  same_turn k class place old r x ids rest n f i h e =
      let alike_law = s.lows.int_writes types state (record state { cells = map (field_with k place x) state.cells }) machine
      meaning k class place old x r ids (Written r place class ids (values.Int n)) s.sound.well_formed s.fits f.at f.got
      (int_cell old f.before f.old_int) (int_cell x n i) (ap target f.names)
      (record {
        object = objects.Instance class (map meaning ids);
        stands = f.stands;
        objects = ap
            (λ (v : Value). (Written r place class ids v).objects) (sym i.is);
      }) (other_cells state k place x class ids f.at) in
      keeping_turn p typing state machine meaning s ((k, cells.Obj class (slice_set ids place x)) ∷ []) (Placed rest) no_rows
      (PlacedRunning (map meaning rest)) (Written r place class ids (values.Int n))
      (record { old = cells.Obj class ids; is = f.at; known = refl; hazy = refl; shape = refl; int = refl; variable = refl }, tt) (
        set_all Holds ids place x
            (all_places Holds ids (λ j y q. named_has_cell state s.sound.well_formed k j y (cells.Obj class ids) f.at q))
            (record { cell = cells.Int i.old; is = i.at; sort_is = refl }),
        tt,
      )
      (keeps_all k class place old r ids n f)
      (λ id c q. alike_law.fits.cells id c ((other_cells state k place x class ids f.at).cells id ∙ q))
      (record { locals = (held p typing state machine meaning s).locals; stack = h })
      (stacked meaning s.frame s.lower machine.statics s.running s.below Next rest (map meaning rest) refl s.fit)
      (λ fresh. All-nil (HoldsBetween meaning meaning)) e

  -- a fresh int goes into the field
  fresh_turn : (k class place old r : ℕ) (ids rest : List ℕ) (interval : Bounds) (n : ℤ) → IntField k class place old r ids
      → IsIn n interval → AllByRecursion Holds rest
      → step p machine ≡ Step.Going (going (PlacedRunning (map meaning rest) ∷ s.below) (Written r place class ids (values.Int n))
      machine.statics)
      → Fit (record {
        changed = [];
        frames = stack_at (here p typing state machine meaning s) Next rest;
        throwing = None;
        act =
            makes (cells.Int interval);
        goal = in_field k place;
        rows = no_rows;
      })
  fresh_turn k class place old r ids rest interval n f inside h e = record {
    after = going (PlacedRunning (map meaning rest) ∷ s.below) (Written r place class ids (values.Int n)) machine.statics;
    steps = e;
    child = λ whole child t lean.
        let good = formed s.lows.drop types state machine meaning s.sound.well_formed s.fits [] tt tt (Placed rest ∷ s.lower) held_
        None tt (PlacedRunning (map meaning rest) ∷ s.below) Normal machine.statics positions tt t.changed t.is_changed in
        let mid = mid_fits s.lows.drop types state machine meaning s.sound.well_formed s.fits [] tt tt (Placed rest ∷ s.lower) held_
        None tt (PlacedRunning (map meaning rest) ∷ s.below) Normal machine.statics positions tt t.changed t.is_changed tt in
        let goes = s.lows.fresh types t.changed t.acted
        (going (PlacedRunning (map meaning rest) ∷ s.below) machine.heap machine.statics) meaning t.id (cells.Int interval)
        (values.Int n) good mid tt (n, (refl, inside)) t.is_acted.0 t.is_acted.1 in
        let acted_good = changed_formed t.changed good ((t.id, cells.Int interval) ∷ []) (tt, tt) t.changed.frames
        (frames_held t.changed good) t.changed.throwing (thrown_held t.changed good) t.acted t.is_acted.1 in
        let free = All-head (λ (y : ℕ). cell_at t.changed y ≡ None) t.id [] t.is_acted.0.free in
        let stays : (y : ℕ) (c : Cell) → cell_at state y ≡ Some c → cell_at t.acted y ≡ Some c = λ y c q. t.is_acted.1.cells y
        ∙ ap (λ (o : Option Cell). first_cell o (cell_at t.changed y))
        (cell_later (t.id, cells.Int interval) [] y
        (λ same. none-some c (sym free ∙ ap (cell_at t.changed) same ∙ t.is_changed.cells y ∙ q))) ∙ t.is_changed.cells y ∙ q in
        let own : (y : ℕ) (c : Cell) → cell_at state y ≡ Some c → HasCell (λ _. true) t.changed y = λ y c q. record
        { cell = c; is = t.is_changed.cells y ∙ q; sort_is = refl } in
        let written = s.lows.int_writes types t.acted (record t.acted { cells = map (field_with k place t.id) t.acted.cells })
        (going (PlacedRunning (map meaning rest) ∷ s.below) machine.heap machine.statics) goes.meaning_after k class place old
        t.id r ids (Written r place class ids (values.Int n)) acted_good goes.fits (stays k (cells.Obj class ids) f.at) f.got
        (record { cell = cells.Int f.old_int.old; is = stays old (cells.Int f.old_int.old) f.old_int.at; sort_is = refl })
        (record {
          cell = cells.Int interval;
          is = t.is_acted.1.cells t.id
              ∙ ap (λ (o : Option Cell). first_cell o (cell_at t.changed t.id))
              (cell_here (t.id, cells.Int interval) [] t.id refl);
          sort_is = refl;
        })
        (ap target (goes.others k (own k (cells.Obj class ids) f.at)) ∙ ap target f.names)
        (record {
          object = objects.Instance class (map meaning ids);
          stands = f.stands;
          objects = ap
              (λ (v : Value). (Written r place class ids v).objects) (sym goes.value_is);
        })
        (other_cells t.acted k place t.id class ids (stays k (cells.Obj class ids) f.at)) in
        field_goes s.lows.drop types state machine meaning s.sound.well_formed s.fits [] tt tt (Placed rest ∷ s.lower) held_ None tt
        (PlacedRunning (map meaning rest) ∷ s.below) Normal machine.statics positions tt t.changed t.is_changed tt t.acted
        (Written r place class ids (values.Int n)) t.id (values.Int n) goes whole child []
        (subst (λ (w : AbstractState). Fits types w
        (going (PlacedRunning (map meaning rest) ∷ s.below) (Written r place class ids (values.Int n)) machine.statics)
        goes.meaning_after) (sym t.is) written.fits) (keeps_all k class place old r ids n f) lean t.link
        (All-nil (HoldsBetween meaning goes.meaning_after));
  }
    where
      held_ : AllByRecursion (HoldsIds state) (Placed rest ∷ s.lower)
      held_ = (record { locals = (held p typing state machine meaning s).locals; stack = h }, lower_held p typing state machine meaning s)

      positions : AllZip (FitsFrame meaning) (Placed rest ∷ s.lower)
          (with_statics machine.statics (PlacedRunning (map meaning rest) ∷ s.below))
      positions = from_tops meaning (Placed rest) s.lower machine.statics (PlacedRunning (map meaning rest)) s.below
          (stacked meaning s.frame s.lower machine.statics s.running s.below Next rest (map meaning rest) refl s.fit)

  -- ---- the field of an object

  field_slot : (used : FieldUse) → IsGoodField p.world used → (class : ℕ) (fields : List Value) → class < types.classes
      → is_assignable types (objects.Instance class fields) (class_type used.class) ≡ true
      → slice_get (types.fields class) used.place ≡ Some used.slot
  field_slot used good class fields low e =
      good.right class low (class_below_by p.world s.linked class used.class
      (subst (λ (t : Ty). types.sub (class_type class) t ≡ true) (erased_class p.world used.class good.no_interface) e))

  -- the id of a field, by its slot
  field_id_of : (k class place : ℕ) (ids : List ℕ) (slot : Slot) → cell_at state k ≡ Some (cells.Obj class ids)
      → slice_get (types.fields class) place ≡ Some slot → (old : ℕ) × ((slice_get ids place ≡ Some old) × IsOfSlot state slot old)
  field_id_of k class place ids slot c e =
      let sound = sound_at types state s.sound.cells k (cells.Obj class ids) c in
      let b = zip_get (IsOfSlot state) (types.fields class) ids place slot sound.1.1 e in
      (b.other, (b.there, b.alike))

  int_value : (x : ℕ) → HasCell is_int state x → (n : ℤ) × IntAt p typing state machine meaning s x n
  int_value x h = at h.cell h.is h.sort_is (s.fits.cells x h.cell h.is)
    where
      at : (c : Cell) → cell_at state x ≡ Some c → is_int c ≡ true → Describes types machine.heap meaning c (meaning x) → (n : ℤ)
          × IntAt p typing state machine meaning s x n
      at (cells.Int interval) e i d =
          (d.0, int_at p typing state machine meaning s x d.0 (record { cell = cells.Int interval; is = e; sort_is = refl }) d.1.0)
      at cells.Null e i d = absurd (false≢true i)
      at (cells.Obj class ids) e i d = absurd (false≢true i)
      at (cells.Nums kind len) e i d = absurd (false≢true i)
      at (cells.Refs element len shape) e i d = absurd (false≢true i)
      at (cells.Unk bound nullable shape) e i d = absurd (false≢true i)

  abbrev PutPlan : FieldUse → ℕ → ℕ → List ℕ → Plan
  PutPlan used x k rest = on_instance (cell_of (here p typing state machine meaning s) k)
      (put_slot (here p typing state machine meaning s) used.slot k used.place x rest)

  pub field_put : (used : FieldUse) → IsGoodField p.world used → HeapEffects (putfield_effect types used s.running machine.heap)
      → Covered (putfield_plan (here p typing state machine meaning s) used s.frame.stack)
  field_put used good is = by_list s.frame.stack refl
    where
      effect : Option (Effect (MachineFrame × Heap))
      effect = putfield_effect types used s.running machine.heap

      by_list : (ids : List ℕ) → s.frame.stack ≡ ids → Covered (putfield_plan (here p typing state machine meaning s) used ids)
      by_list [] e = absurd
          (no_heap effect is (putfield_stuck types used s.running machine.heap (ap top (stack_is p typing state machine meaning s [] e))))
      by_list (x ∷ []) e = absurd
          (no_heap effect is (putfield_stuck_next types used s.running machine.heap (meaning x) []
          (ap top (stack_is p typing state machine meaning s (x ∷ []) e)) refl))
      by_list (x ∷ k ∷ rest) e = receiver (meaning k) refl
        where
          top_is : top s.running.stack ≡ Some (meaning x, meaning k ∷ map meaning rest)
          top_is = ap top (stack_is p typing state machine meaning s (x ∷ k ∷ rest) e)

          h : AllByRecursion Holds (x ∷ k ∷ rest)
          h = stack_held p typing state machine meaning s (x ∷ k ∷ rest) e

          next_is : (v : Value) → meaning k ≡ v → top_reference (meaning k ∷ map meaning rest) ≡ option_map
              (λ (w : Value). (w, map meaning rest)) (reference_of v)
          next_is v f = ap (λ (w : Value). top_reference (w ∷ map meaning rest)) f

          step_by : (r : ℕ) → meaning k ≡ values.Ref r → (class : ℕ) (ids : List ℕ)
              → slice_get machine.heap.objects r ≡ Some (objects.Instance class (map meaning ids))
              → is_passed types machine.heap used.slot (meaning x) ≡ true
              → is_assignable types (objects.Instance class (map meaning ids)) (class_type used.class) ≡ true
              → nat_lt used.place (length (map meaning ids)) ≡ true
              → step p machine ≡ Step.Going
              (going (PlacedRunning (map meaning rest) ∷ s.below) (Written r used.place class ids (kept used.slot (meaning x)))
              machine.statics)
          step_by r f class ids o taken ok within =
              goes_after p typing state machine meaning s
              (record {
                frame = with_stack s.running (map meaning rest);
                statics = machine.statics;
                heap = Written r used.place
                    class ids (kept used.slot (meaning x));
              }) (is ∙ ap (on_heap (Work_ p typing state machine meaning s))
              (putfield_by types used s.running machine.heap (meaning x) (meaning k ∷ map meaning rest) (map meaning rest) r
              (objects.Instance class (map meaning ids)) top_is (next_is (values.Ref r) f) taken o
              ∙ ap (λ (b : Bool). option_and_then
              (λ (u : Unit {0}). option_and_then
              (λ (w : Unit {0}). Some
              (Effect.Next (
                with_stack s.running (map meaning rest),
                Written r used.place class ids
                    (kept used.slot (meaning x)),
              ))) (asked (nat_lt used.place (length (map meaning ids))))) (asked b)) ok
              ∙ ap (λ (b : Bool). option_and_then
              (λ (w : Unit {0}). Some
              (Effect.Next (
                with_stack s.running (map meaning rest),
                Written r used.place class ids
                    (kept used.slot (meaning x)),
              ))) (asked b)) within))

          taken_or : (b : Bool) → is_passed types machine.heap used.slot (meaning x) ≡ b
              → reference_of (meaning k) ≡ Some (meaning k) → b ≡ true
          taken_or true q r = refl
          taken_or false q r = absurd
              (no_heap effect is (putfield_untaken types used s.running machine.heap (meaning x) (meaning k)
              (meaning k ∷ map meaning rest) (map meaning rest) top_is (ap (option_map (λ (w : Value). (w, map meaning rest))) r) q))

          by_object : is_passed types machine.heap used.slot (meaning x) ≡ true → (class : ℕ) (ids : List ℕ) (r : ℕ)
              → meaning k ≡ values.Ref r → slice_get machine.heap.objects r ≡ Some (objects.Instance class (map meaning ids))
              → effect ≡ put_of types used s.running machine.heap (meaning x) (map meaning rest) r
              (objects.Instance class (map meaning ids))
          by_object taken class ids r f o = putfield_by types used s.running machine.heap (meaning x) (meaning k ∷ map meaning rest)
              (map meaning rest) r (objects.Instance class (map meaning ids)) top_is (next_is (values.Ref r) f) taken o

          value_no_int : (t : Ty) → used.slot ≡ slots.Ref t → is_passed types machine.heap used.slot (meaning x) ≡ true → (c : Cell)
              → Describes types machine.heap meaning c (meaning x) → is_int c ≡ false
          value_no_int t q taken (cells.Int interval) d = absurd
              (false≢true (ap (is_passed types machine.heap (slots.Ref t)) (sym d.1.0)
              ∙ ap (λ (sl : Slot). is_passed types machine.heap sl (meaning x)) (sym q) ∙ taken))
          value_no_int t q taken cells.Null d = refl
          value_no_int t q taken (cells.Obj class ids) d = refl
          value_no_int t q taken (cells.Nums kind len) d = refl
          value_no_int t q taken (cells.Refs element len shape) d = refl
          value_no_int t q taken (cells.Unk bound nullable shape) d = refl

          instance : is_passed types machine.heap used.slot (meaning x) ≡ true → (class : ℕ) (ids : List ℕ) (r : ℕ)
              → cell_at state k ≡ Some (cells.Obj class ids) → meaning k ≡ values.Ref r
              → slice_get machine.heap.objects r ≡ Some (objects.Instance class (map meaning ids)) → (ok : Bool)
              → is_assignable types (objects.Instance class (map meaning ids)) (class_type used.class) ≡ ok → (within : Bool)
              → nat_lt used.place (length (map meaning ids)) ≡ within
              → Covered (put_slot (here p typing state machine meaning s) used.slot k used.place x rest class ids)
          instance taken class ids r c f o false a within b = absurd
              (no_heap effect is (by_object taken class ids r f o
              ∙ ap (λ (t : Bool). option_and_then
              (λ (u : Unit {0}). option_and_then
              (λ (w : Unit {0}). Some
              (Effect.Next (
                with_stack s.running (map meaning rest),
                Written r used.place class ids
                    (kept used.slot (meaning x)),
              ))) (asked (nat_lt used.place (length (map meaning ids))))) (asked t)) a))
          instance taken class ids r c f o true a false b = absurd
              (no_heap effect is (by_object taken class ids r f o
              ∙ ap (λ (t : Bool). option_and_then
              (λ (u : Unit {0}). option_and_then
              (λ (w : Unit {0}). Some
              (Effect.Next (
                with_stack s.running (map meaning rest),
                Written r used.place class ids
                    (kept used.slot (meaning x)),
              ))) (asked (nat_lt used.place (length (map meaning ids))))) (asked t)) a
              ∙ ap (λ (t : Bool). option_and_then
              (λ (w : Unit {0}). Some
              (Effect.Next (
                with_stack s.running (map meaning rest),
                Written r used.place class ids
                    (kept used.slot (meaning x)),
              ))) (asked t)) b))
          instance taken class ids r c f o true a true b = by_slot used.slot refl
            where
              sound : IsSoundCell types state (cells.Obj class ids)
              sound = sound_at types state s.sound.cells k (cells.Obj class ids) c

              goes : step p machine ≡ Step.Going
                  (going (PlacedRunning (map meaning rest) ∷ s.below) (Written r used.place class ids (kept used.slot (meaning x)))
                  machine.statics)
              goes = step_by r f class ids o taken a b

              slot_is : slice_get (types.fields class) used.place ≡ Some used.slot
              slot_is = field_slot used good class (map meaning ids) sound.0 a

              by_slot : (slot : Slot) → used.slot ≡ slot
                  → Covered (put_slot (here p typing state machine meaning s) slot k used.place x rest class ids)
              by_slot (slots.Ref t) q =
                  inl (writing_turn p typing state machine meaning s (record { object = k; field = Some used.place; value = x })
                  (cells.Obj class ids) r used.place (Written r used.place class ids (kept used.slot (meaning x))) []
                  (Placed rest) no_rows (PlacedRunning (map meaning rest)) tt tt h.0.cell h.0.is
                  (value_no_int t q taken h.0.cell (s.fits.cells x h.0.cell h.0.is)) c refl
                  (λ changed. record {
                    field_is = λ field z. (
                      some_is z,
                      (
                        class,
                        ids,
                        (
                          refl,
                          subst (λ (n : ℕ). n < length ids) (some_is z)
                              (subst (λ (n : ℕ). used.place < n) (length_mapped meaning ids)
                              (ltb-true used.place (length (map meaning ids)) b)),
                        ),
                      ),
                    );
                    array_is = λ z. absurd
                        (none-some used.place (sym z));
                  }) (ap target f)
                  (record {
                    object = objects.Instance class (map meaning ids);
                    stands = o;
                    objects = ap
                        (λ (v : Value). (Written r used.place class ids v).objects) (ap (λ (sl : Slot). kept sl (meaning x)) q);
                  })
                  (record { locals = (held p typing state machine meaning s).locals; stack = h.1.1 })
                  (stacked meaning s.frame s.lower machine.statics s.running s.below Next rest (map meaning rest) refl s.fit)
                  (λ fresh after. All-nil (HoldsBetween meaning after)) goes)
              by_slot (slots.Num kind) q = int_slot (meaning x) refl
                where
                  old : (id : ℕ) × ((slice_get ids used.place ≡ Some id) × IsOfSlot state (slots.Num kind) id)
                  old = field_id_of k class used.place ids (slots.Num kind) c (slot_is ∙ ap Some q)

                  field : (before : ℤ) × IntAt p typing state machine meaning s old.0 before → IntField k class used.place old.0 r ids
                  field i = record { at = c; got = old.1.0; before = i.0; old_int = i.1; names = f; stands = o }

                  narrow : (n : ℤ) → IntAt p typing state machine meaning s x n → IntField k class used.place old.0 r ids
                      → step p machine ≡ Step.Going
                      (going (PlacedRunning (map meaning rest) ∷ s.below)
                      (Written r used.place class ids (values.Int (narrowed kind n))) machine.statics) → (result : Option Bounds)
                      → MatchOption result (narrowed kind n ≡ n) (λ interval. IsIn (narrowed kind n) interval)
                      → Fit (turn_narrowing
                      (record (moves (stack_at (here p typing state machine meaning s) Next rest))
                      { changed = (k, cells.Obj class (slice_set ids used.place x)) ∷ [] })
                      (stack_at (here p typing state machine meaning s) Next rest) (in_field k used.place) result)
                  narrow n i fd g None same = same_turn k class used.place old.0 r x ids rest n fd i h.1.1
                      (g ∙ ap (λ (m : ℤ). Step.Going
                      (going (PlacedRunning (map meaning rest) ∷ s.below) (Written r used.place class ids (values.Int m))
                      machine.statics)) same)
                  narrow n i fd g (Some interval) inside = fresh_turn k class used.place old.0 r ids rest interval (narrowed kind n)
                      fd inside h.1.1 g

                  turns : (n : ℤ) → meaning x ≡ values.Int n
                      → SomeOf Fit (turns_narrowing (here p typing state machine meaning s) kind x
                      (record (moves (stack_at (here p typing state machine meaning s) Next rest))
                      { changed = (k, cells.Obj class (slice_set ids used.place x)) ∷ [] })
                      (stack_at (here p typing state machine meaning s) Next rest) (in_field k used.place))
                  turns n g =
                      let i = int_at p typing state machine meaning s x n h.0 g in
                      let fd = field (int_value old.0 old.1.1) in
                      some_of_map (FallsUnder (Narrow kind) n n) Fit
                      (λ (case : IntCase). turn_narrowing
                      (record (moves (stack_at (here p typing state machine meaning s) Next rest))
                      { changed = (k, cells.Obj class (slice_set ids used.place x)) ∷ [] })
                      (stack_at (here p typing state machine meaning s) Next rest) (in_field k used.place) case.result)
                      (operated (Narrow kind) (interval_of_id state x) (interval_of_id state x))
                      (λ case fu. narrow n i fd
                      (goes ∙ ap (λ (v : Value). Step.Going
                      (going (PlacedRunning (map meaning rest) ∷ s.below) (Written r used.place class ids v)
                      machine.statics)) (ap (λ (sl : Slot). kept sl (meaning x)) q ∙ ap (kept (slots.Num kind)) g))
                      case.result fu.answered.0)
                      (some_one (FallsUnder (Narrow kind) n n)
                      (operated (Narrow kind) (interval_of_id state x) (interval_of_id state x))
                      (operated_covers (Narrow kind) (interval_of_id state x) (interval_of_id state x) n n
                      (bounded p typing state machine meaning s x) (bounded p typing state machine meaning s x) i.inside i.inside))

                  untaken : (v : Value) → meaning x ≡ v → is_passed types machine.heap (slots.Num kind) v ≡ false → ⊥
                  untaken v g z = false≢true (sym z ∙ ap (is_passed types machine.heap (slots.Num kind)) (sym g)
                      ∙ ap (λ (sl : Slot). is_passed types machine.heap sl (meaning x)) (sym q) ∙ taken)

                  int_slot : (v : Value) → meaning x ≡ v
                      → SomeOf Fit (turns_narrowing (here p typing state machine meaning s) kind x
                      (record (moves (stack_at (here p typing state machine meaning s) Next rest))
                      { changed = (k, cells.Obj class (slice_set ids used.place x)) ∷ [] })
                      (stack_at (here p typing state machine meaning s) Next rest) (in_field k used.place))
                  int_slot (values.Int n) g = turns n g
                  int_slot values.Null g = absurd (untaken values.Null g refl)
                  int_slot (values.Ref w) g = absurd (untaken (values.Ref w) g refl)

          found : reference_of (meaning k) ≡ Some (meaning k)
              → Covered (putfield_plan (here p typing state machine meaning s) used (x ∷ k ∷ rest))
          found reference =
              let taken : is_passed types machine.heap used.slot (meaning x) ≡ true = taken_or
              (is_passed types machine.heap used.slot (meaning x)) refl reference in
              accessed_meets p typing state machine meaning s 1 k (PutPlan used x k rest) (ap (λ (xs : List ℕ). slice_get xs 1) e)
              reference
              (λ f. raises_heap p typing state machine meaning s effect null_pointer_exception is
              (putfield_null types used s.running machine.heap (meaning x) (meaning k ∷ map meaning rest) (map meaning rest)
              top_is (next_is values.Null f) taken))
              (λ class ids r c f o. subst
              (λ (cell : Option Cell). Covered
              (on_instance cell (put_slot (here p typing state machine meaning s) used.slot k used.place x rest))) (sym c)
              (instance taken class ids r c f o
              (is_assignable types (objects.Instance class (map meaning ids)) (class_type used.class)) refl
              (nat_lt used.place (length (map meaning ids))) refl))
              (λ kind len r items c f o l. absurd
              (no_heap effect is (putfield_by types used s.running machine.heap (meaning x) (meaning k ∷ map meaning rest)
              (map meaning rest) r (objects.Nums kind items) top_is (next_is (values.Ref r) f) taken o
              ∙ no_fields (asked (is_assignable types (objects.Nums kind items) (class_type used.class))) None refl)))
              (λ element len shape r own items c f o b l. absurd
              (no_heap effect is (putfield_by types used s.running machine.heap (meaning x) (meaning k ∷ map meaning rest)
              (map meaning rest) r (objects.Refs own items) top_is (next_is (values.Ref r) f) taken o
              ∙ no_fields (asked (is_assignable types (objects.Refs own items) (class_type used.class))) None refl)))

          receiver : (v : Value) → meaning k ≡ v → Covered (putfield_plan (here p typing state machine meaning s) used (x ∷ k ∷ rest))
          receiver (values.Int n) f = absurd
              (no_heap effect is (putfield_stuck_next types used s.running machine.heap (meaning x) (meaning k ∷ map meaning rest)
              top_is (next_is (values.Int n) f)))
          receiver values.Null f = found (ap reference_of f ∙ ap Some (sym f))
          receiver (values.Ref r) f = found (ap reference_of f ∙ ap Some (sym f))
