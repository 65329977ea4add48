-- The kinds of steps that plans have, each with the machine's step that it covers.
use Rattle.std.proofs.Common.{◌≡◌, ◌∙◌, ◌<◌, ℕ, ℤ, pos, IsTrue, not, true, false, slice_get, List, [], ◌∷◌, length, map, Option}
use Rattle.std.proofs.Common.{Some, None, refl, sym, ap, subst}
use Rattle.std.specs.Prelude.{slice_set}
use Rattle.std.specs.List.{All, AllByRecursion, AllZip}
use Rattle.std.proofs.lemmas.Bool.{false≢true}
use Rattle.std.proofs.lemmas.List.Elements.{All-nil}
use Rattle.list_views.proofs.Quantified.{all_at as item_at}
use Rattle.list_views.proofs.Quantified.{all_weaker}
use Rattle.lin_core.specs.Intervals.{Bounds, IsIn}
use Rattle.jvm_values.specs.declared.heap.Value.{Value}
use Rattle.jvm_values.specs.declared.heap.Value.TheVariants as values
use Rattle.jvm_values.specs.declared.heap.Heap.{Heap}
use Rattle.jvm_values.specs.declared.heap.Object.TheVariants as objects
use Rattle.jvm_values.specs.declared.state.Mode.TheVariants.{Normal, Throwing}
use Rattle.jvm_values.specs.declared.types.Slot.{Slot}
use Rattle.jvm_values.specs.declared.types.Slot.TheVariants as slots
use Rattle.jvm_values.specs.declared.types.Ty.{Ty}
use Rattle.jvm_values.specs.Heaps.{target}
use Rattle.jvm_values.specs.Writes.{IsWritten, IsKept}
use Rattle.jvm_values.proofs.Options.{some_is}
use Rattle.jvm_values.specs.States.{MachineFrame, MachineState}
use Rattle.jvm_values.specs.Slots.{initial_value}
use Rattle.jvm_values.specs.TypedHeaps.{WorldTypes}
use Rattle.abs_cells.specs.declared.cells.Cell.{Cell}
use Rattle.abs_cells.specs.declared.cells.Cell.TheVariants as cells
use Rattle.abs_cells.specs.AbstractStates.{AbstractFrame, AbstractState}
use Rattle.abs_cells.specs.Cells.{is_int, ids_in, cell_in, cell_at, HasCell}
use Rattle.abs_cells.specs.Sound.{IsOfSlot, IsSoundCell}
use Rattle.abs_cells.proofs.CellLaws.{place_of_cell}
use Rattle.abs_cells.specs.Fits.{Meaning, FitsFrame, with_statics, Describes, IsClosedState}
use Rattle.abs_heap.specs.Given.{first_cell, with_cells}
use Rattle.abs_heap.specs.Laws.{AreSoundReferences, IsWriteOf, heap_with, zeros_of, IsItemSlot}
use Rattle.abs_heap.specs.Writing.{Write, IsObjectChild}
use Rattle.abs_expand.specs.ClassWorldBuiltIns.{built_in_count}
use Rattle.abs_expand.specs.ClassWorldWorldTypes.{types_of}
use Rattle.abs_expand.specs.ClassProgramPrograms.{Program}
use Rattle.frame_types.specs.Tables.{CodeTypes}
use Rattle.jvm_run.specs.jvm_step.Running.{Step, step, IsEnd}
use Rattle.jvm_run.proofs.Lists.{zip_map}
use Rattle.term_graph.specs.Graphs.{GraphChild}
use Rattle.term_graph.specs.Edges.{HoldsBetween}
use Rattle.term_graph.specs.declared.links.LinkRow.{LinkRow}
use Rattle.abs_expand.specs.Plans.{Goal, nowhere, on_stack, in_local, nothing, makes, writes, item, object, array, no_rows, Turn}
use Rattle.abs_expand.specs.Plans.{Plan, ends, steps, by_null, by_class, by_equal}
use Rattle.abs_expand.specs.inner.Building.{HoldsIds}
use Rattle.abs_expand.specs.Children.{IsTurnChild, IsLean, gone_to, top_with}
use Rattle.abs_expand.specs.Expansions.{AreChildren}
use Rattle.abs_expand.specs.Turns.{emptied, throws_after}
use Rattle.form_steps.specs.inner.Lows.{IsPlainCell}
use Rattle.form_steps.specs.Laws.{Moved}
use Rattle.form_steps.proofs.Carry.{in_list, IsAlike, alike_of, sort_stays}
use Rattle.form_steps.proofs.Steps.{FitsChild, formed, ints_stay, mid_fits, moved_goes, kept_goes, written_goes, made_goes}
use Rattle.form_steps.proofs.Tops.{FitFrames, tops, from_tops, pushed_id, local_set}
use Rattle.form_steps.proofs.SomeOf.{SomeOf}
use Rattle.form_steps.proofs.Standing.{Stands, types, here, held, lower_held, going, raised}

-- a step of the machine leads to a state that each child of the turn fits
pub record Fitting (p : Program) (state : AbstractState) (machine : MachineState) (meaning : Meaning) (turn : Turn) : Type 0 where
  pub after : MachineState
  pub steps : step p machine ≡ Step.Going after
  pub child : (whole child : GraphChild) → IsTurnChild (types_of p.world) state turn whole → IsLean whole child
      → FitsChild (types_of p.world) state machine meaning after child

-- a child of a split fits the machine's state as it is
pub record FitsSplit (types : WorldTypes) (state : AbstractState) (machine : MachineState) (meaning : Meaning)
    (wholes : List GraphChild) : Type 0 where
  pub n : ℕ
  pub whole : GraphChild
  pub is : slice_get wholes n ≡ Some whole
  pub stays : whole.link.step ≡ false
  pub fits_child : FitsChild types state machine meaning machine whole

-- the machine's step is as a plan says
abbrev pub Meets : Program → AbstractState → MachineState → Meaning → Plan → Type 0
Meets p state machine meaning ends = IsEnd (step p machine)
Meets p state machine meaning (steps turns) = SomeOf (Fitting p state machine meaning) turns
Meets p state machine meaning (by_null x) = (wholes : List GraphChild) → AreChildren (types_of p.world) state (by_null x) wholes
    → FitsSplit (types_of p.world) state machine meaning wholes
Meets p state machine meaning (by_class x wanted) = (wholes : List GraphChild)
    → AreChildren (types_of p.world) state (by_class x wanted) wholes → FitsSplit (types_of p.world) state machine meaning wholes
Meets p state machine meaning (by_equal x y) = (wholes : List GraphChild) → AreChildren (types_of p.world) state (by_equal x y)
    wholes → FitsSplit (types_of p.world) state machine meaning wholes

-- a cell of an id changes to one of its sort, which describes the id's value
pub record IsChange (types : WorldTypes) (heap : Heap) (state : AbstractState) (meaning : Meaning) (c : ℕ × Cell) : Type 0 where
  pub alike : IsAlike state c.0 c.1
  pub named : AllByRecursion (HasCell (λ _. true) state) (ids_in c.1)
  pub described : Describes types heap meaning c.1 (meaning c.0)

pub int_change : (types_ : WorldTypes) (heap : Heap) (state : AbstractState) (meaning : Meaning) (x : ℕ) (old interval : Bounds)
    (n : ℤ) → cell_at state x ≡ Some (cells.Int old) → meaning x ≡ values.Int n → IsIn n interval
    → IsChange types_ heap state meaning (x, cells.Int interval)
int_change types_ heap state meaning x old interval n at e i = record {
  alike = record { old = cells.Int old; is = at; known = refl; hazy = refl; shape = refl; int = refl; variable = refl };
  named = tt;
  described = (n, (e, i));
}

-- rows that hold whatever the fresh id stands for, where its value is this one
abbrev pub RowsHold : AbstractState → Meaning → Value → (ℕ → List LinkRow) → Type 0
RowsHold state meaning value rows = (id : ℕ) (after : Meaning) → after id ≡ value → All (HoldsBetween meaning after) (rows id)

-- what a cell says is of the world
pub sound_at : (types : WorldTypes) (state : AbstractState) → All (λ (c : ℕ × Cell). IsSoundCell types state c.1) state.cells
    → (id : ℕ) (cell : Cell) → cell_at state id ≡ Some cell → IsSoundCell types state cell
sound_at types state all id cell e =
    let place = place_of_cell state.cells id cell e in
    item_at (λ (c : ℕ × Cell). IsSoundCell types state c.1) state.cells place.0 (id, cell) all place.1

module _ (p : Program) (typing : ℕ → CodeTypes) (state : AbstractState) (machine : MachineState) (meaning : Meaning)
    (s : Stands p typing state machine meaning) where
  abbrev Types : WorldTypes
  Types = types_of p.world

  abbrev pub Fit : Turn → Type 0
  Fit = Fitting p state machine meaning

  abbrev pub Covered : Plan → Type 0
  Covered = Meets p state machine meaning

  abbrev pub Holds : ℕ → Type 0
  Holds = HasCell (λ _. true) state

  abbrev pub AreChanges : List (ℕ × Cell) → Type 0
  AreChanges list = AllByRecursion (IsChange Types machine.heap state meaning) list

  pub alikes : (list : List (ℕ × Cell)) → AreChanges list → AllByRecursion (λ (c : ℕ × Cell). IsAlike state c.0 c.1) list
  alikes list a = all_weaker (IsChange Types machine.heap state meaning) (λ (c : ℕ × Cell). IsAlike state c.0 c.1) (λ c x. x.alike) list a

  pub nameds : (list : List (ℕ × Cell)) → AreChanges list → AllByRecursion (λ (c : ℕ × Cell). AllByRecursion Holds (ids_in c.1)) list
  nameds list a = all_weaker (IsChange Types machine.heap state meaning) (λ (c : ℕ × Cell). AllByRecursion Holds (ids_in c.1))
      (λ c x. x.named) list a

  describeds : (list : List (ℕ × Cell)) → AreChanges list
      → AllByRecursion (λ (c : ℕ × Cell). Describes Types machine.heap meaning c.1 (meaning c.0)) list
  describeds list a = all_weaker (IsChange Types machine.heap state meaning)
      (λ (c : ℕ × Cell). Describes Types machine.heap meaning c.1 (meaning c.0)) (λ c x. x.described) list a

  -- ---- no id is made

  pub moving_turn : (list : List (ℕ × Cell)) (frames : List AbstractFrame) (rows : ℕ → List LinkRow) (running : List MachineFrame)
      (statics : List Value) → AreChanges list → AllByRecursion (HoldsIds state) frames
      → AllZip (FitsFrame meaning) frames (with_statics statics running)
      → ((id : ℕ) → All (HoldsBetween meaning meaning) (rows id)) → step p machine ≡ Step.Going (going running machine.heap statics)
      → Fit (record { changed = list; frames = frames; throwing = None; act = nothing; goal = nowhere; rows = rows })
  moving_turn list frames rows running statics a h positions holds e = record {
    after = going running machine.heap statics;
    steps = e;
    child = λ whole child t lean. moved_goes s.lows.drop Types state machine meaning s.sound.well_formed s.fits list (alikes list a)
        (nameds list a) frames h None tt running Normal statics positions tt t.changed t.is_changed (describeds list a) whole child
        (rows t.id) (t.is ∙ t.is_acted) lean t.link (holds t.id);
  }

  -- an id of the state is thrown
  pub throws_turn : (x r : ℕ) (frame : AbstractFrame) (running : MachineFrame) → Holds x → meaning x ≡ values.Ref r
      → HoldsIds state frame → FitFrames meaning frame s.lower machine.statics running s.below
      → step p machine ≡ Step.Going
      (record { frames = running ∷ s.below; heap = machine.heap; mode = Throwing r; statics = machine.statics })
      → Fit (record { changed = []; frames = frame ∷ s.lower; throwing = Some x; act = nothing; goal = nowhere; rows = no_rows })
  throws_turn x r frame running own names h fit e = record {
    after = record { frames = running ∷ s.below; heap = machine.heap; mode = Throwing r; statics = machine.statics };
    steps = e;
    child = λ whole child t lean. moved_goes s.lows.drop Types state machine meaning s.sound.well_formed s.fits [] tt tt
        (frame ∷ s.lower) (h, lower_held p typing state machine meaning s) (Some x) (own, tt) (running ∷ s.below) (Throwing r)
        machine.statics (from_tops meaning frame s.lower machine.statics running s.below fit) names t.changed t.is_changed tt whole
        child [] (t.is ∙ t.is_acted) lean t.link (All-nil (HoldsBetween meaning meaning));
  }

  -- the running frame alone changes
  abbrev pub Frames : MachineFrame → List MachineFrame
  Frames running = running ∷ s.below

  pub top_turn : (list : List (ℕ × Cell)) (frame : AbstractFrame) (rows : ℕ → List LinkRow) (running : MachineFrame)
      → AreChanges list → HoldsIds state frame → FitFrames meaning frame s.lower machine.statics running s.below
      → ((id : ℕ) → All (HoldsBetween meaning meaning) (rows id))
      → step p machine ≡ Step.Going (going (running ∷ s.below) machine.heap machine.statics)
      → Fit (record { changed = list; frames = frame ∷ s.lower; throwing = None; act = nothing; goal = nowhere; rows = rows })
  top_turn list frame rows running a h fit holds e =
      moving_turn list (frame ∷ s.lower) rows (running ∷ s.below) machine.statics a (h, lower_held p typing state machine meaning s)
      (from_tops meaning frame s.lower machine.statics running s.below fit) holds e

  -- ---- a fresh id of an int, or of null

  pub making_turn : (list : List (ℕ × Cell)) (frames : List AbstractFrame) (cell : Cell) (value : Value) (goal : Goal)
      (rows : ℕ → List LinkRow) (running : List MachineFrame) (statics : List Value) (frames_after : ℕ → List AbstractFrame)
      (running_after : List MachineFrame) (statics_after : List Value)
      → AreChanges list → AllByRecursion (HoldsIds state) frames → AllZip (FitsFrame meaning) frames (with_statics statics running)
      → IsPlainCell cell → Describes Types machine.heap meaning cell value
      → ((id : ℕ) (acted : AbstractState) → acted.frames ≡ frames → acted.throwing ≡ None
      → gone_to goal id acted ≡ Moved acted (frames_after id) None)
      → ((id : ℕ) (after : Meaning) → after id ≡ value → AllZip (FitsFrame after) frames (with_statics statics running)
      → AllZip (FitsFrame after) (frames_after id) (with_statics statics_after running_after))
      → RowsHold state meaning value rows → step p machine ≡ Step.Going (going running_after machine.heap statics_after)
      → Fit (record { changed = list; frames = frames; throwing = None; act = makes cell; goal = goal; rows = rows })
  making_turn list frames cell value goal rows running statics frames_after running_after statics_after a h positions plain
      described to places holds e = record {
        after = going running_after machine.heap statics_after;
        steps = e;
        child = λ whole child t lean.
            let good = formed s.lows.drop Types state machine meaning s.sound.well_formed s.fits list (alikes list a) (nameds list a)
            frames h None tt running Normal statics positions tt t.changed t.is_changed in
            let mid = mid_fits s.lows.drop Types state machine meaning s.sound.well_formed s.fits list (alikes list a) (nameds list a)
            frames h None tt running Normal statics positions tt t.changed t.is_changed (describeds list a) in
            let goes = s.lows.fresh Types t.changed t.acted (going running machine.heap statics) meaning t.id cell value good mid plain
            described t.is_acted.0 t.is_acted.1 in
            let frames_are : t.acted.frames ≡ frames = t.is_acted.1.frames_are ∙ t.is_changed.frames_are in
            let thrown_is : t.acted.throwing ≡ None = t.is_acted.1.throwing_is ∙ t.is_changed.throwing_is in
            let acted_positions : AllZip (FitsFrame goes.meaning_after) frames (with_statics statics running) = subst
            (λ (fs : List AbstractFrame). AllZip (FitsFrame goes.meaning_after) fs (with_statics statics running)) frames_are
            goes.fits.positions in
            made_goes s.lows.drop Types state machine meaning s.sound.well_formed s.fits list (alikes list a) (nameds list a) frames h
            None tt running Normal statics positions tt t.changed t.is_changed (describeds list a) t.acted machine.heap t.id value
            goes whole child (rows t.id) (frames_after t.id) None running_after Normal statics_after
            (t.is ∙ to t.id t.acted frames_are thrown_is) lean t.link (places t.id goes.meaning_after goes.value_is acted_positions) tt
            (holds t.id goes.meaning_after goes.value_is);
      }

  -- on the stack of the running frame
  pub pushing_turn : (list : List (ℕ × Cell)) (frame : AbstractFrame) (cell : Cell) (value : Value) (rows : ℕ → List LinkRow)
      (running : MachineFrame) → AreChanges list → HoldsIds state frame → FitFrames meaning frame s.lower machine.statics running
      s.below → IsPlainCell cell → Describes Types machine.heap meaning cell value
      → RowsHold state meaning value rows
      → step p machine ≡ Step.Going (going (record running { stack = value ∷ running.stack } ∷ s.below) machine.heap
      machine.statics) → Fit
      (record { changed = list; frames = frame ∷ s.lower; throwing = None; act = makes cell; goal = on_stack; rows = rows })
  pushing_turn list frame cell value rows running a h fit plain described holds e =
      making_turn list (frame ∷ s.lower) cell value on_stack rows (running ∷ s.below) machine.statics
      (λ id. record frame { stack = id ∷ frame.stack } ∷ s.lower) (record running { stack = value ∷ running.stack } ∷ s.below)
      machine.statics a (h, lower_held p typing state machine meaning s)
      (from_tops meaning frame s.lower machine.statics running s.below fit) plain described
      (λ id acted f t. ap (λ (fs : List AbstractFrame). Moved acted
      (top_with (λ (x : AbstractFrame). record x { stack = id ∷ x.stack }) fs) acted.throwing) f
      ∙ ap (Moved acted (record frame { stack = id ∷ frame.stack } ∷ s.lower)) t)
      (λ id after v z. from_tops after (record frame { stack = id ∷ frame.stack }) s.lower machine.statics
      (record running { stack = value ∷ running.stack }) s.below
      (pushed_id after frame s.lower machine.statics running s.below id value v
      (tops after frame s.lower machine.statics running s.below z)))
      holds e

  -- in a local of it
  pub setting_turn : (list : List (ℕ × Cell)) (frame : AbstractFrame) (cell : Cell) (value : Value) (n : ℕ)
      (rows : ℕ → List LinkRow) (running : MachineFrame) → AreChanges list → HoldsIds state frame
      → FitFrames meaning frame s.lower machine.statics running s.below → n < length running.locals → IsPlainCell cell
      → Describes Types machine.heap meaning cell value
      → RowsHold state meaning value rows
      → step p machine ≡ Step.Going (going (record running { locals = slice_set running.locals n (Some value) } ∷ s.below)
      machine.heap machine.statics)
      → Fit (record { changed = list; frames = frame ∷ s.lower; throwing = None; act = makes cell; goal = in_local n; rows = rows })
  setting_turn list frame cell value n rows running a h fit l plain described holds e =
      making_turn list (frame ∷ s.lower) cell value (in_local n) rows (running ∷ s.below) machine.statics
      (λ id. record frame { locals = slice_set frame.locals n (Some id) } ∷ s.lower)
      (record running { locals = slice_set running.locals n (Some value) } ∷ s.below) machine.statics a
      (h, lower_held p typing state machine meaning s)
      (from_tops meaning frame s.lower machine.statics running s.below fit) plain described
      (λ id acted f t. ap (λ (fs : List AbstractFrame). Moved acted
      (top_with (λ (x : AbstractFrame). record x { locals = slice_set x.locals n (Some id) }) fs) acted.throwing) f
      ∙ ap (Moved acted (record frame { locals = slice_set frame.locals n (Some id) } ∷ s.lower)) t)
      (λ id after v z. from_tops after (record frame { locals = slice_set frame.locals n (Some id) }) s.lower machine.statics
      (record running { locals = slice_set running.locals n (Some value) }) s.below
      (local_set after frame s.lower machine.statics running s.below n id value l v
      (tops after frame s.lower machine.statics running s.below z)))
      holds e

  -- ---- a new object of a built-in class is thrown

  closed_changed : (list : List (ℕ × Cell)) (frames : List AbstractFrame) (running : List MachineFrame) (statics : List Value)
      (changed : AbstractState) → ((id : ℕ) → cell_at changed id ≡ with_cells list state id)
      → AllByRecursion (λ (c : ℕ × Cell). IsAlike state c.0 c.1) list → IsClosedState (going running machine.heap statics) changed meaning
  closed_changed list frames running statics changed g a = record { heap = s.closed.heap; ids = λ id h. s.closed.ids id (back id h) }
    where
      back : (id : ℕ) → HasCell (λ _. true) changed id → Holds id
      back id h = let x = alike_of state list a id h.cell (sym (g id) ∙ h.is) in record { cell = x.old; is = x.is; sort_is = refl }

  abbrev EmptiedFrames : List AbstractFrame
  EmptiedFrames = emptied (here p typing state machine meaning s)

  abbrev EmptiedRunning : List MachineFrame
  EmptiedRunning = record s.running { stack = [] } ∷ s.below

  pub throwing_turn : (list : List (ℕ × Cell)) (rows : ℕ → List LinkRow) (class : ℕ) → AreChanges list → class < built_in_count
      → ((id : ℕ) (after : Meaning) → All (HoldsBetween meaning after) (rows id))
      → step p machine ≡ Step.Going (raised p typing state machine meaning s class)
      → Fit (throws_after (here p typing state machine meaning s) list rows class)
  throwing_turn list rows class a low holds e = record {
    after = raised p typing state machine meaning s class;
    steps = e;
    child = λ whole child t lean.
        let good = formed s.lows.drop Types state machine meaning s.sound.well_formed s.fits list (alikes list a) (nameds list a)
        EmptiedFrames h None tt EmptiedRunning Normal machine.statics positions tt t.changed t.is_changed in
        let mid = mid_fits s.lows.drop Types state machine meaning s.sound.well_formed s.fits list (alikes list a) (nameds list a)
        EmptiedFrames h None tt EmptiedRunning Normal machine.statics positions tt t.changed t.is_changed (describeds list a) in
        let object : IsObjectChild Types t.changed class t.id t.acted = record
        { ids = []; count = ap length (sym (s.built_ins.without_fields class low)); fresh = t.is_acted.0; is = t.is_acted.1 } in
        let goes = s.lows.objects Types t.changed t.acted (going EmptiedRunning machine.heap machine.statics) meaning class t.id
        good (closed_changed list EmptiedFrames EmptiedRunning machine.statics t.changed t.is_changed.cells (alikes list a)) mid
        (s.built_ins.there class low) (s.built_ins.made class low) object in
        let frames_are : t.acted.frames ≡ EmptiedFrames = t.is_acted.1.frames_are ∙ t.is_changed.frames_are in
        let acted_positions : AllZip (FitsFrame goes.meaning_after) EmptiedFrames (with_statics machine.statics EmptiedRunning) =
        subst (λ (fs : List AbstractFrame). AllZip (FitsFrame goes.meaning_after) fs
        (with_statics machine.statics EmptiedRunning)) frames_are goes.fits.positions in
        made_goes s.lows.drop Types state machine meaning s.sound.well_formed s.fits list (alikes list a) (nameds list a)
        EmptiedFrames h None tt EmptiedRunning Normal machine.statics positions tt t.changed t.is_changed (describeds list a)
        t.acted (heap_with machine.heap (objects.Instance class (map initial_value (Types.fields class)))) t.id
        (values.Ref (length machine.heap.objects)) goes whole child (rows t.id) EmptiedFrames (Some t.id) EmptiedRunning
        (Throwing (length machine.heap.objects)) machine.statics
        (t.is ∙ ap (λ (fs : List AbstractFrame). Moved t.acted fs (Some t.id)) frames_are) lean t.link acted_positions goes.value_is
        (holds t.id goes.meaning_after);
  }
    where
      h : AllByRecursion (HoldsIds state) EmptiedFrames
      h = (record { locals = (held p typing state machine meaning s).locals; stack = tt }, lower_held p typing state machine meaning s)

      positions : AllZip (FitsFrame meaning) EmptiedFrames (with_statics machine.statics EmptiedRunning)
      positions = from_tops meaning (record { method = s.frame.method; pc = s.frame.pc; locals = s.frame.locals; stack = [] })
          s.lower machine.statics (record s.running { stack = [] }) s.below
          (record {
            top = record { method = s.fit.top.method; pc = s.fit.top.pc; locals = s.fit.top.locals; stack = refl };
            lower_fit = s.fit.lower_fit;
          })

  -- ---- a new object, or a new array

  -- what goes on the stack of the running frame
  stack_places : (frame : AbstractFrame) (running : MachineFrame) (after : Meaning) (id : ℕ) (value : Value) → after id ≡ value
      → AllZip (FitsFrame after) (frame ∷ s.lower) (with_statics machine.statics (running ∷ s.below))
      → AllZip (FitsFrame after) (record frame { stack = id ∷ frame.stack } ∷ s.lower)
      (with_statics machine.statics (record running { stack = value ∷ running.stack } ∷ s.below))
  stack_places frame running after id value v z = from_tops after (record frame { stack = id ∷ frame.stack }) s.lower
      machine.statics (record running { stack = value ∷ running.stack }) s.below
      (pushed_id after frame s.lower machine.statics running s.below id value v
      (tops after frame s.lower machine.statics running s.below z))

  stack_goal : (frame : AbstractFrame) (id : ℕ) (acted : AbstractState) → acted.frames ≡ frame ∷ s.lower → acted.throwing ≡ None
      → gone_to on_stack id acted ≡ Moved acted (record frame { stack = id ∷ frame.stack } ∷ s.lower) None
  stack_goal frame id acted f t = ap
      (λ (fs : List AbstractFrame). Moved acted (top_with (λ (x : AbstractFrame). record x { stack = id ∷ x.stack }) fs)
      acted.throwing) f ∙ ap (Moved acted (record frame { stack = id ∷ frame.stack } ∷ s.lower)) t

  pub object_turn : (class : ℕ) (frame : AbstractFrame) (running : MachineFrame) → HoldsIds state frame
      → FitFrames meaning frame s.lower machine.statics running s.below → class < Types.classes → IsTrue (Types.can_be_made class)
      → step p machine ≡ Step.Going
      (going (record running { stack = values.Ref (length machine.heap.objects) ∷ running.stack } ∷ s.below)
      (heap_with machine.heap (objects.Instance class (map initial_value (Types.fields class)))) machine.statics)
      → Fit (record { changed = []; frames = frame ∷ s.lower; throwing = None; act = object class; goal = on_stack; rows = no_rows })
  object_turn class frame running h fit low made e = record {
    after = going (record running { stack = values.Ref (length machine.heap.objects) ∷ running.stack } ∷ s.below)
        (heap_with machine.heap (objects.Instance class (map initial_value (Types.fields class)))) machine.statics;
    steps = e;
    child = λ whole child t lean.
        let good = formed s.lows.drop Types state machine meaning s.sound.well_formed s.fits [] tt tt (frame ∷ s.lower) held_ None
        tt (running ∷ s.below) Normal machine.statics positions tt t.changed t.is_changed in
        let mid = mid_fits s.lows.drop Types state machine meaning s.sound.well_formed s.fits [] tt tt (frame ∷ s.lower) held_ None
        tt (running ∷ s.below) Normal machine.statics positions tt t.changed t.is_changed tt in
        let goes = s.lows.objects Types t.changed t.acted (going (running ∷ s.below) machine.heap machine.statics) meaning class
        t.id good (closed_changed [] (frame ∷ s.lower) (running ∷ s.below) machine.statics t.changed t.is_changed.cells tt) mid
        low made t.is_acted in
        let frames_are : t.acted.frames ≡ frame ∷ s.lower = t.is_acted.is.frames_are ∙ t.is_changed.frames_are in
        let thrown_is : t.acted.throwing ≡ None = t.is_acted.is.throwing_is ∙ t.is_changed.throwing_is in
        let acted_positions : AllZip (FitsFrame goes.meaning_after) (frame ∷ s.lower)
        (with_statics machine.statics (running ∷ s.below)) = subst
        (λ (fs : List AbstractFrame). AllZip (FitsFrame goes.meaning_after) fs
        (with_statics machine.statics (running ∷ s.below))) frames_are goes.fits.positions in
        made_goes s.lows.drop Types state machine meaning s.sound.well_formed s.fits [] tt tt (frame ∷ s.lower) held_ None tt
        (running ∷ s.below) Normal machine.statics positions tt t.changed t.is_changed tt t.acted
        (heap_with machine.heap (objects.Instance class (map initial_value (Types.fields class)))) t.id
        (values.Ref (length machine.heap.objects)) goes whole child [] (record frame { stack = t.id ∷ frame.stack } ∷ s.lower)
        None (record running { stack = values.Ref (length machine.heap.objects) ∷ running.stack } ∷ s.below) Normal machine.statics
        (t.is ∙ stack_goal frame t.id t.acted frames_are thrown_is) lean t.link
        (stack_places frame running goes.meaning_after t.id (values.Ref (length machine.heap.objects)) goes.value_is
        acted_positions) tt (All-nil (HoldsBetween meaning goes.meaning_after));
  }
    where
      held_ : AllByRecursion (HoldsIds state) (frame ∷ s.lower)
      held_ = (h, lower_held p typing state machine meaning s)

      positions : AllZip (FitsFrame meaning) (frame ∷ s.lower) (with_statics machine.statics (running ∷ s.below))
      positions = from_tops meaning frame s.lower machine.statics running s.below fit

  pub array_making_turn : (slot : Slot) (len count : ℕ) (list : List (ℕ × Cell)) (frame : AbstractFrame) (running : MachineFrame)
      → AreChanges list → HasCell is_int state len → meaning len ≡ values.Int (pos count) → IsItemSlot Types slot
      → HoldsIds state frame → FitFrames meaning frame s.lower machine.statics running s.below
      → step p machine ≡ Step.Going
      (going (record running { stack = values.Ref (length machine.heap.objects) ∷ running.stack } ∷ s.below)
      (heap_with machine.heap (zeros_of slot count)) machine.statics)
      → Fit (record { changed = list; frames = frame ∷ s.lower; throwing = None; act = array slot len; goal = on_stack; rows = no_rows })
  array_making_turn slot len count list frame running a int is_count is_item h fit e = record {
    after = going (record running { stack = values.Ref (length machine.heap.objects) ∷ running.stack } ∷ s.below)
        (heap_with machine.heap (zeros_of slot count)) machine.statics;
    steps = e;
    child = λ whole child t lean.
        let good = formed s.lows.drop Types state machine meaning s.sound.well_formed s.fits list (alikes list a) (nameds list a)
        (frame ∷ s.lower) held_ None tt (running ∷ s.below) Normal machine.statics positions tt t.changed t.is_changed in
        let mid = mid_fits s.lows.drop Types state machine meaning s.sound.well_formed s.fits list (alikes list a) (nameds list a)
        (frame ∷ s.lower) held_ None tt (running ∷ s.below) Normal machine.statics positions tt t.changed t.is_changed
        (describeds list a) in
        let int_ = ints_stay s.lows.drop Types state machine meaning s.sound.well_formed s.fits list (alikes list a) (nameds list a)
        (frame ∷ s.lower) held_ None tt (running ∷ s.below) Normal machine.statics positions tt t.changed t.is_changed len int in
        let goes = s.lows.arrays Types t.changed t.acted (going (running ∷ s.below) machine.heap machine.statics) meaning slot len
        t.id count s.laws good (closed_changed list (frame ∷ s.lower) (running ∷ s.below) machine.statics t.changed
        t.is_changed.cells (alikes list a)) mid is_item int_ is_count t.is_acted in
        let frames_are : t.acted.frames ≡ frame ∷ s.lower = t.is_acted.is.frames_are ∙ t.is_changed.frames_are in
        let thrown_is : t.acted.throwing ≡ None = t.is_acted.is.throwing_is ∙ t.is_changed.throwing_is in
        let acted_positions : AllZip (FitsFrame goes.meaning_after) (frame ∷ s.lower)
        (with_statics machine.statics (running ∷ s.below)) = subst
        (λ (fs : List AbstractFrame). AllZip (FitsFrame goes.meaning_after) fs
        (with_statics machine.statics (running ∷ s.below))) frames_are goes.fits.positions in
        made_goes s.lows.drop Types state machine meaning s.sound.well_formed s.fits list (alikes list a) (nameds list a)
        (frame ∷ s.lower) held_ None tt (running ∷ s.below) Normal machine.statics positions tt t.changed t.is_changed
        (describeds list a) t.acted (heap_with machine.heap (zeros_of slot count)) t.id
        (values.Ref (length machine.heap.objects)) goes whole child [] (record frame { stack = t.id ∷ frame.stack } ∷ s.lower)
        None (record running { stack = values.Ref (length machine.heap.objects) ∷ running.stack } ∷ s.below) Normal machine.statics
        (t.is ∙ stack_goal frame t.id t.acted frames_are thrown_is) lean t.link
        (stack_places frame running goes.meaning_after t.id (values.Ref (length machine.heap.objects)) goes.value_is
        acted_positions) tt (All-nil (HoldsBetween meaning goes.meaning_after));
  }
    where
      held_ : AllByRecursion (HoldsIds state) (frame ∷ s.lower)
      held_ = (h, lower_held p typing state machine meaning s)

      positions : AllZip (FitsFrame meaning) (frame ∷ s.lower) (with_statics machine.statics (running ∷ s.below))
      positions = from_tops meaning frame s.lower machine.statics running s.below fit

  -- ---- an item of an array, and a write of a reference

  abbrev OnlyInts : List (ℕ × Cell) → Type 0
  OnlyInts list = AllByRecursion (λ (c : ℕ × Cell). is_int c.1 ≡ true) list

  -- what is no int is as it was
  unchanged : (list : List (ℕ × Cell)) → OnlyInts list → (id : ℕ) (c : Cell) → with_cells list state id ≡ Some c → is_int c ≡ false
      → cell_at state id ≡ Some c
  unchanged list only id c e n = at (cell_in list id) refl e
    where
      at : (o : Option Cell) → cell_in list id ≡ o → first_cell o (cell_at state id) ≡ Some c → cell_at state id ≡ Some c
      at None f g = g
      at (Some d) f g = absurd (false≢true (sym n ∙ in_list (λ k x. is_int x ≡ true) list id c only (f ∙ g)))

  -- a cell that is no int stays where ints are narrowed
  stays_cell : (list : List (ℕ × Cell)) → OnlyInts list → AreChanges list → (changed : AbstractState)
      → ((id : ℕ) → cell_at changed id ≡ with_cells list state id) → (id : ℕ) (c : Cell) → cell_at state id ≡ Some c
      → is_int c ≡ false → cell_at changed id ≡ Some c
  stays_cell list only a changed g id c e n = g id ∙ at (cell_in list id) refl
    where
      at : (o : Option Cell) → cell_in list id ≡ o → first_cell (cell_in list id) (cell_at state id) ≡ Some c
      at None f = ap (λ (o : Option Cell). first_cell o (cell_at state id)) f ∙ e
      at (Some d) f =
          let alike = in_list (λ k x. IsAlike state k x) list id d (alikes list a) f in
          let same : alike.old ≡ c = some_is (sym alike.is ∙ e) in
          absurd (false≢true (sym n ∙ ap is_int (sym same) ∙ sym alike.int ∙ in_list (λ k x. is_int x ≡ true) list id d only f))

  -- what cells of references say is of the world still
  sound_still : (list : List (ℕ × Cell)) → OnlyInts list → AreChanges list → (changed : AbstractState)
      → ((id : ℕ) → cell_at changed id ≡ with_cells list state id) → AreSoundReferences Types changed
  sound_still list only a changed g id c e n = still c
      (sound_at Types state s.sound.cells id c (unchanged list only id c (sym (g id) ∙ e) n))
    where
      ints_ : (x : ℕ) → HasCell is_int state x → HasCell is_int changed x
      ints_ x h = sort_stays is_int state list changed g (λ i d k. k.int) (alikes list a) x h

      others_ : (x : ℕ) → HasCell (λ d. not (is_int d)) state x → HasCell (λ d. not (is_int d)) changed x
      others_ x h = sort_stays (λ d. not (is_int d)) state list changed g (λ i d k. ap not k.int) (alikes list a) x h

      slots_still : (fields : List Slot) (ids : List ℕ) → AllZip (IsOfSlot state) fields ids → AllZip (IsOfSlot changed) fields ids
      slots_still fields ids z = zip_map (IsOfSlot state) (IsOfSlot changed) one fields ids z
        where
          one : (slot : Slot) (x : ℕ) → IsOfSlot state slot x → IsOfSlot changed slot x
          one (slots.Num kind) x h = ints_ x h
          one (slots.Ref t) x h = others_ x h

      still : (d : Cell) → IsSoundCell Types state d → IsSoundCell Types changed d
      still (cells.Int interval) h = h
      still cells.Null h = h
      still (cells.Obj class ids) h = (h.0, (h.1.0, slots_still (Types.fields class) ids h.1.1))
      still (cells.Nums kind len) h = ints_ len h
      still (cells.Refs element len shape) h = (ints_ len h.0, h.1)
      still (cells.Unk bound nullable shape) h = h

  pub item_turn : (k o n : ℕ) (own : Ty) (items : List Value) (value : Value) (list : List (ℕ × Cell)) (frame : AbstractFrame)
      (rows : ℕ → List LinkRow) (running : MachineFrame) → AreChanges list → OnlyInts list → target (meaning k) ≡ Some o
      → slice_get machine.heap.objects o ≡ Some (objects.Refs own items) → slice_get items n ≡ Some value
      → HoldsIds state frame → FitFrames meaning frame s.lower machine.statics running s.below
      → ((id : ℕ) (after : Meaning) → All (HoldsBetween meaning after) (rows id))
      → step p machine ≡ Step.Going (going (record running { stack = value ∷ running.stack } ∷ s.below) machine.heap machine.statics)
      → Fit (record { changed = list; frames = frame ∷ s.lower; throwing = None; act = item k; goal = on_stack; rows = rows })
  item_turn k o n own items value list frame rows running a only names stands got h fit holds e = record {
    after = going (record running { stack = value ∷ running.stack } ∷ s.below) machine.heap machine.statics;
    steps = e;
    child = λ whole child t lean.
        let good = formed s.lows.drop Types state machine meaning s.sound.well_formed s.fits list (alikes list a) (nameds list a)
        (frame ∷ s.lower) held_ None tt (running ∷ s.below) Normal machine.statics positions tt t.changed t.is_changed in
        let mid = mid_fits s.lows.drop Types state machine meaning s.sound.well_formed s.fits list (alikes list a) (nameds list a)
        (frame ∷ s.lower) held_ None tt (running ∷ s.below) Normal machine.statics positions tt t.changed t.is_changed
        (describeds list a) in
        let act = t.is_acted in
        let child_ = act.3.1 in
        let goes = s.lows.items Types t.changed t.acted (going (running ∷ s.below) machine.heap machine.statics) meaning k t.id o n
        act.0 own act.1 act.2 items value s.laws good (sound_still list only a t.changed t.is_changed.cells) s.heap
        (closed_changed list (frame ∷ s.lower) (running ∷ s.below) machine.statics t.changed t.is_changed.cells (alikes list a))
        mid act.3.0 names stands got child_ in
        let frames_are : t.acted.frames ≡ frame ∷ s.lower = child_.is.frames_are ∙ t.is_changed.frames_are in
        let thrown_is : t.acted.throwing ≡ None = child_.is.throwing_is ∙ t.is_changed.throwing_is in
        let acted_positions : AllZip (FitsFrame goes.meaning_after) (frame ∷ s.lower)
        (with_statics machine.statics (running ∷ s.below)) = subst
        (λ (fs : List AbstractFrame). AllZip (FitsFrame goes.meaning_after) fs
        (with_statics machine.statics (running ∷ s.below))) frames_are goes.fits.positions in
        made_goes s.lows.drop Types state machine meaning s.sound.well_formed s.fits list (alikes list a) (nameds list a)
        (frame ∷ s.lower) held_ None tt (running ∷ s.below) Normal machine.statics positions tt t.changed t.is_changed
        (describeds list a) t.acted machine.heap t.id value goes whole child (rows t.id)
        (record frame { stack = t.id ∷ frame.stack } ∷ s.lower) None
        (record running { stack = value ∷ running.stack } ∷ s.below) Normal machine.statics
        (t.is ∙ stack_goal frame t.id t.acted frames_are thrown_is) lean t.link
        (stack_places frame running goes.meaning_after t.id value goes.value_is acted_positions) tt (holds t.id goes.meaning_after);
  }
    where
      held_ : AllByRecursion (HoldsIds state) (frame ∷ s.lower)
      held_ = (h, lower_held p typing state machine meaning s)

      positions : AllZip (FitsFrame meaning) (frame ∷ s.lower) (with_statics machine.statics (running ∷ s.below))
      positions = from_tops meaning frame s.lower machine.statics running s.below fit

  pub writing_turn : (write : Write) (cell : Cell) (o place : ℕ) (heap : Heap) (list : List (ℕ × Cell)) (frame : AbstractFrame)
      (rows : ℕ → List LinkRow) (running : MachineFrame) → AreChanges list → OnlyInts list → (value_cell : Cell)
      → cell_at state write.value ≡ Some value_cell → is_int value_cell ≡ false → cell_at state write.object ≡ Some cell
      → is_int cell ≡ false → ((changed : AbstractState) → IsWriteOf changed write place cell) → target (meaning write.object) ≡ Some o
      → IsWritten machine.heap o place (meaning write.value) heap → HoldsIds state frame
      → FitFrames meaning frame s.lower machine.statics running s.below
      → ((id : ℕ) (after : Meaning) → All (HoldsBetween meaning after) (rows id))
      → step p machine ≡ Step.Going (going (running ∷ s.below) heap machine.statics)
      → Fit (record { changed = list; frames = frame ∷ s.lower; throwing = None; act = writes write; goal = nowhere; rows = rows })
  writing_turn write cell o place heap list frame rows running a only value_cell value_at_ value_is at is write_of names written h
      fit holds e = record {
        after = going (running ∷ s.below) heap machine.statics;
        steps = e;
        child = λ whole child t lean.
            let good = formed s.lows.drop Types state machine meaning s.sound.well_formed s.fits list (alikes list a) (nameds list a)
            (frame ∷ s.lower) held_ None tt (running ∷ s.below) Normal machine.statics positions tt t.changed t.is_changed in
            let mid = mid_fits s.lows.drop Types state machine meaning s.sound.well_formed s.fits list (alikes list a) (nameds list a)
            (frame ∷ s.lower) held_ None tt (running ∷ s.below) Normal machine.statics positions tt t.changed t.is_changed
            (describeds list a) in
            let goes = s.lows.writes Types t.changed t.acted (going (running ∷ s.below) machine.heap machine.statics) meaning write cell
            o place heap good (closed_changed list (frame ∷ s.lower) (running ∷ s.below) machine.statics t.changed
            t.is_changed.cells (alikes list a)) mid
            (record {
              cell = value_cell;
              is = stays_cell list only a t.changed t.is_changed.cells write.value value_cell value_at_
                  value_is;
              sort_is = ap not value_is;
            }) (stays_cell list only a t.changed t.is_changed.cells write.object cell at is)
            (write_of t.changed) names written t.is_acted in
            written_goes s.lows.drop Types state machine meaning s.sound.well_formed s.fits list (alikes list a) (nameds list a)
            (frame ∷ s.lower) held_ None tt (running ∷ s.below) Normal machine.statics positions tt t.changed t.is_changed
            (describeds list a) t.acted heap goes whole child (rows t.id) t.is lean t.link (λ after. holds t.id after);
      }
    where
      held_ : AllByRecursion (HoldsIds state) (frame ∷ s.lower)
      held_ = (h, lower_held p typing state machine meaning s)

      positions : AllZip (FitsFrame meaning) (frame ∷ s.lower) (with_statics machine.statics (running ∷ s.below))
      positions = from_tops meaning frame s.lower machine.statics running s.below fit

  -- ---- an int in a heap changes

  -- no id is made, and the heap's values keep all that they had
  pub keeping_turn : (list : List (ℕ × Cell)) (frame : AbstractFrame) (rows : ℕ → List LinkRow) (running : MachineFrame)
      (heap : Heap) → AllByRecursion (λ (c : ℕ × Cell). IsAlike state c.0 c.1) list
      → AllByRecursion (λ (c : ℕ × Cell). AllByRecursion Holds (ids_in c.1)) list → ((x : Value) → IsKept machine.heap heap x)
      → ((id : ℕ) (c : Cell) → with_cells list state id ≡ Some c → Describes Types heap meaning c (meaning id))
      → HoldsIds state frame → FitFrames meaning frame s.lower machine.statics running s.below
      → ((id : ℕ) → All (HoldsBetween meaning meaning) (rows id))
      → step p machine ≡ Step.Going (going (running ∷ s.below) heap machine.statics)
      → Fit (record { changed = list; frames = frame ∷ s.lower; throwing = None; act = nothing; goal = nowhere; rows = rows })
  keeping_turn list frame rows running heap alike named kept described h fit holds e = record {
    after = going (running ∷ s.below) heap machine.statics;
    steps = e;
    child = λ whole child t lean. kept_goes s.lows.drop Types state machine meaning s.sound.well_formed s.fits list alike named
        (frame ∷ s.lower) (h, lower_held p typing state machine meaning s) None tt (running ∷ s.below) Normal machine.statics
        (from_tops meaning frame s.lower machine.statics running s.below fit) tt t.changed t.is_changed heap
        (λ id k. kept (meaning id)) described whole child (rows t.id) (t.is ∙ t.is_acted) lean t.link (holds t.id);
  }
