-- Where a good state and a typed state of the machine that fits it look for a handler: the plan is true of the machine's step.
use Rattle.std.proofs.Common.{◌≡◌, ◌≢◌, ◌∙◌, ◌⊎◌, inl, inr, ◌&&◌, ◌||◌, if◌then◌else◌, ℕ, Bool, true, false, List, [], ◌∷◌, map}
use Rattle.std.proofs.Common.{Option, Some, None, IsTrue, slice_get, refl, sym, ap, subst}
use Rattle.std.specs.Prelude.{filter, find, unwrap_or}
use Rattle.std.specs.List.{AllZip, AllByRecursion, list_any}
use Rattle.std.specs.Option.{option_map_or, option_and_then, is_none}
use Rattle.std.proofs.lemmas.Bool.{false≢true}
use Rattle.std.proofs.lemmas.List.Elements.{All-nil}
use Rattle.std.proofs.lemmas.Option.{none-some}
use Rattle.jvm_values.specs.declared.heap.Value.{Value}
use Rattle.jvm_values.specs.declared.heap.Value.TheVariants as values
use Rattle.jvm_values.specs.declared.heap.Object.{Object}
use Rattle.jvm_values.specs.declared.state.Mode.{Mode}
use Rattle.jvm_values.specs.declared.state.Mode.TheVariants.{Normal, Throwing}
use Rattle.jvm_values.specs.declared.typing.PlaceType.TheVariants as places
use Rattle.jvm_values.specs.States.{MachineFrame, MachineState}
use Rattle.jvm_values.specs.Subtyping.{class_type, IsReference}
use Rattle.jvm_values.specs.TypedHeaps.{WorldTypes, HasType, type_of}
use Rattle.jvm_values.proofs.Options.{some_is}
use Rattle.abs_cells.specs.declared.cells.Cell.{Cell}
use Rattle.abs_cells.specs.declared.cells.Cell.TheVariants as cells
use Rattle.abs_cells.specs.AbstractStates.{AbstractFrame, AbstractState}
use Rattle.abs_cells.specs.Cells.{cell_at, HasCell}
use Rattle.abs_cells.specs.Sound.{is_object}
use Rattle.abs_cells.specs.Fits.{Meaning, FitsFrame, FitsMode, with_statics}
use Rattle.class_world.specs.BuiltIns.{throwable}
use Rattle.class_world.specs.lemmas.WorldLaws.{world_laws}
use Rattle.class_world.specs.WorldTypes.{types_of}
use Rattle.jvm_step.specs.class_program.declared.program.CatchRange.{CatchRange}
use Rattle.jvm_step.specs.class_program.declared.program.Method.{Method}
use Rattle.jvm_step.specs.class_program.Programs.{Program, IsClosed}
use Rattle.frame_types.specs.Tables.{CodeTypes}
use Rattle.object_steps.specs.code_verify.Flows.{covers}
use Rattle.object_steps.specs.code_verify.TypedStates.{IsUnwinding, AreTypedFrames}
use Rattle.jvm_step.specs.Running.{Step, step, step_in, throwing_step, handled as handled_by, IsEnd}
use Rattle.term_graph.specs.Edges.{HoldsBetween}
use Rattle.object_steps.specs.abs_expand.BadStates.{IsRunningPlaced, ArePlaced, statics_under}
use Rattle.object_steps.specs.abs_expand.inner.Building.{HoldsIds}
use Rattle.object_steps.specs.abs_expand.Expansions.{plan_in, plan_of}
use Rattle.object_steps.specs.abs_expand.Laws.{IsMet}
use Rattle.object_steps.specs.abs_expand.Needs.{Passing, passes, splits, passing_id, may_be_null, is_unknown, split_below}
use Rattle.object_steps.specs.abs_expand.Plans.{Plan, steps}
use Rattle.object_steps.specs.abs_expand.Throwing.{takes, may_take, before_taker, handled, caught_plan, if_passes, throwing_plan}
use Rattle.object_steps.specs.abs_expand.Turns.{moves}
use Rattle.object_steps.proofs.form_steps.Formed.{frames_held}
use Rattle.object_steps.proofs.form_steps.Steps.{moved_goes}
use Rattle.object_steps.proofs.form_steps.Tops.{FitFrames, tops, from_tops}
use Rattle.object_steps.specs.form_steps.inner.Lows.{Lows, AreThrowablesErased}
use Rattle.step_laws.proofs.Handlers.{is_caught, none_may, finds_same}
use Rattle.step_laws.proofs.Meeting.{TopFrames, top_frames, closed_state}
use Rattle.object_steps.proofs.form_steps.Needs.{IsTypedId, passing_typed, split_meets}
use Rattle.object_steps.proofs.form_steps.Standing.{Rests}
use Rattle.object_steps.proofs.form_steps.TurnKinds.{Fitting, Meets}

-- what is thrown
record IsThrown (meaning : Meaning) (x : ℕ) (mode : Mode) : Type 0 where
  r : ℕ
  mode_is : mode ≡ Throwing r
  names : meaning x ≡ values.Ref r

is_thrown : (meaning : Meaning) (thrown : Option ℕ) (x : ℕ) (mode : Mode) → thrown ≡ Some x → FitsMode meaning thrown mode
    → IsThrown meaning x mode
is_thrown meaning None x mode e h = absurd (none-some x e)
is_thrown meaning (Some y) x Normal e h = absurd h
is_thrown meaning (Some y) x (Throwing r) e h = record { r = r; mode_is = refl; names = ap meaning (sym (some_is e)) ∙ h }

unwinding_typed : (p : Program) (typing : ℕ → CodeTypes) (machine : MachineState) (r : ℕ) (running : MachineFrame)
    (below : List MachineFrame) → machine.frames ≡ running ∷ below → machine.mode ≡ Throwing r
    → AreTypedFrames p typing machine.heap machine.mode machine.frames → IsUnwinding p typing machine.heap running
    × HasType (types_of p.world) machine.heap (values.Ref r) (class_type throwable)
unwinding_typed p typing machine r running below f n h =
    let k : AreTypedFrames p typing machine.heap (Throwing r) (running ∷ below) = subst
    (λ (fs : List MachineFrame). AreTypedFrames p typing machine.heap (Throwing r) fs) f
    (subst (λ (m : Mode). AreTypedFrames p typing machine.heap m machine.frames) n h) in
    k.0

-- the running frame with its place and its stack new
replaced : (meaning : Meaning) (frame : AbstractFrame) (lower : List AbstractFrame) (statics : List Value) (running : MachineFrame)
    (below : List MachineFrame) (place : ℕ) (ids : List ℕ) → FitFrames meaning frame lower statics running below
    → FitFrames meaning (record frame { pc = place; stack = ids }) lower statics
    (record running { pc = place; stack = map meaning ids }) below
replaced meaning frame lower statics running below place ids h = record
    { top = record { method = h.top.method; pc = refl; locals = h.top.locals; stack = refl }; lower_fit = h.lower_fit }

without_stack : (meaning : Meaning) (frame : AbstractFrame) (lower : List AbstractFrame) (statics : List Value)
    (running : MachineFrame) (below : List MachineFrame) → FitFrames meaning frame lower statics running below
    → FitFrames meaning (record frame { stack = [] }) lower statics (record running { stack = [] }) below
without_stack meaning frame lower statics running below h = record
    { top = record { method = h.top.method; pc = h.top.pc; locals = h.top.locals; stack = refl }; lower_fit = h.lower_fit }

module _ (lows : Lows) (p : Program) (typing : ℕ → CodeTypes) (state : AbstractState) (machine : MachineState) (meaning : Meaning)
    (closed : IsClosed p) (erased : AreThrowablesErased p) (met : IsMet p typing state machine meaning) (x : ℕ)
    (thrown : state.throwing ≡ Some x) (frame : AbstractFrame) (lower : List AbstractFrame)
    (frames_are : state.frames ≡ frame ∷ lower) where
  abbrev types : WorldTypes
  types = types_of p.world

  abbrev Covered : Plan → Type 0
  Covered = Meets p state machine meaning

  base : Rests p state machine meaning
  base = record {
    lows = lows;
    sound = met.good.sound;
    laws = world_laws p.world closed.known.linked;
    heap = met.typed.heap;
    closed
        = closed_state types state machine meaning met.typed.heap met.fits;
    fits = met.fits;
  }

  top : TopFrames meaning frame lower machine
  top = top_frames meaning frame lower machine machine.frames refl
      (subst (λ (frames : List AbstractFrame). AllZip (FitsFrame meaning) frames (with_statics machine.statics machine.frames))
      frames_are met.fits.positions)

  it : IsThrown meaning x machine.mode
  it = is_thrown meaning state.throwing x machine.mode thrown met.fits.mode

  running : IsRunningPlaced p typing state (statics_under p lower) frame
  running = (subst (ArePlaced p typing state) frames_are met.good.placed).0

  typed : IsUnwinding p typing machine.heap top.running × HasType types machine.heap (values.Ref it.r) (class_type throwable)
  typed = unwinding_typed p typing machine it.r top.running top.below top.frames_are it.mode_is met.typed.frames

  abbrev Object_ : Object
  Object_ = typed.1.0

  abbrev Method_ : Method
  Method_ = running.placed.method

  own : HasCell is_object state x
  own = met.good.sound.thrown x thrown

  any : HasCell (λ _. true) state x
  any = record { cell = own.cell; is = own.is; sort_is = refl }

  held : AllByRecursion (HoldsIds state) (frame ∷ lower)
  held = subst (AllByRecursion (HoldsIds state)) frames_are (frames_held state met.good.sound.well_formed)

  -- ---- the step

  found_method : slice_get p.methods top.running.method ≡ Some Method_
  found_method = ap (slice_get p.methods) top.fit.top.method ∙ running.placed.is_method

  step_is : step p machine ≡ handled_by machine it.r top.running top.below
      (find (λ (range : CatchRange). covers top.running.pc range && is_caught types (type_of Object_) range) Method_.table)
  unfolding step throwing_step
  step_is =
      ap (λ (mode : Mode). unwrap_or (step_in p machine mode) Step.Stuck) it.mode_is
      ∙ ap (λ (frames : List MachineFrame). unwrap_or (throwing_step p machine it.r frames) Step.Stuck) top.frames_are
      ∙ ap (λ (m : Option Method). unwrap_or
      (option_and_then (λ (y : Method). option_and_then
      (λ (object : Object). Some
      (handled_by machine it.r top.running top.below
      (find (λ (range : CatchRange). covers top.running.pc range && is_caught types (type_of object) range) y.table)))
      (slice_get machine.heap.objects it.r)) m) Step.Stuck) found_method
      ∙ ap (λ (o : Option Object). unwrap_or
      (option_and_then (λ (object : Object). Some
      (handled_by machine it.r top.running top.below
      (find (λ (range : CatchRange). covers top.running.pc range && is_caught types (type_of object) range)
      Method_.table))) o) Step.Stuck) typed.1.1.0

  abbrev Ranges : List CatchRange
  Ranges = filter (covers frame.pc) Method_.table

  step_finds : list_any (may_take types state x) (before_taker types state x Ranges) ≡ false
      → step p machine ≡ handled_by machine it.r top.running top.below (find (takes types state x) Ranges)
  step_finds e =
      step_is
      ∙ ap (λ (pc : ℕ). handled_by machine it.r top.running top.below
      (find (λ (range : CatchRange). covers pc range && is_caught types (type_of Object_) range) Method_.table)) top.fit.top.pc
      ∙ ap (handled_by machine it.r top.running top.below)
      (finds_same p state machine meaning base erased x it.r Object_ it.names typed.1.1.0 typed.1.1.1 frame.pc Method_.table
      (met.typing_is.each frame.method Method_ running.placed.is_method).is_typing.catches own e)

  -- ---- a handler, or none

  handler_turn : (range : CatchRange) → step p machine ≡ handled_by machine it.r top.running top.below (Some range)
      → Fitting p state machine meaning (moves (record frame { pc = range.handler; stack = x ∷ [] } ∷ lower))
  handler_turn range e = record {
    after = record machine { frames = record top.running { pc = range.handler; stack = values.Ref it.r ∷ [] } ∷ top.below; mode = Normal };
    steps = e;
    child = λ whole child t lean. moved_goes lows.drop types state machine meaning met.good.sound.well_formed met.fits [] tt tt
        (record frame { pc = range.handler; stack = x ∷ [] } ∷ lower) (record { locals = held.0.locals; stack = (any, tt) }, held.1)
        None tt (record top.running { pc = range.handler; stack = values.Ref it.r ∷ [] } ∷ top.below) Normal machine.statics
        (subst (λ (v : Value). AllZip (FitsFrame meaning) (record frame { pc = range.handler; stack = x ∷ [] } ∷ lower)
        (with_statics machine.statics (record top.running { pc = range.handler; stack = v ∷ [] } ∷ top.below))) it.names
        (from_tops meaning (record frame { pc = range.handler; stack = x ∷ [] }) lower machine.statics
        (record top.running { pc = range.handler; stack = meaning x ∷ [] }) top.below
        (replaced meaning frame lower machine.statics top.running top.below range.handler (x ∷ []) top.fit)))
        tt t.changed t.is_changed tt whole child [] (t.is ∙ t.is_acted) lean t.link (All-nil (HoldsBetween meaning meaning));
  }

  unwound_turn : (caller : AbstractFrame) (rest : List AbstractFrame) (running_ : MachineFrame) (below_ : List MachineFrame)
      → HoldsIds state caller → AllByRecursion (HoldsIds state) rest
      → AllZip (FitsFrame meaning) (caller ∷ rest) (with_statics machine.statics (running_ ∷ below_))
      → step p machine ≡ Step.Going (record machine { frames = record running_ { stack = [] } ∷ below_ })
      → Fitting p state machine meaning (record (moves (record caller { stack = [] } ∷ rest)) { throwing = Some x })
  unwound_turn caller rest running_ below_ h hs fit e = record {
    after = record machine { frames = record running_ { stack = [] } ∷ below_; mode = Throwing it.r };
    steps = e ∙ ap (λ (mode : Mode). Step.Going (record machine { frames = record running_ { stack = [] } ∷ below_; mode = mode }))
        it.mode_is;
    child = λ whole child t lean. moved_goes lows.drop types state machine meaning met.good.sound.well_formed met.fits [] tt tt
        (record caller { stack = [] } ∷ rest) (record { locals = h.locals; stack = tt }, hs) (Some x) (any, tt)
        (record running_ { stack = [] } ∷ below_) (Throwing it.r) machine.statics
        (from_tops meaning (record caller { stack = [] }) rest machine.statics (record running_ { stack = [] }) below_
        (without_stack meaning caller rest machine.statics running_ below_
        (tops meaning caller rest machine.statics running_ below_ fit)))
        it.names t.changed t.is_changed tt whole child [] (t.is ∙ t.is_acted) lean t.link (All-nil (HoldsBetween meaning meaning));
  }

  handled_meets : (found : Option CatchRange) → step p machine ≡ handled_by machine it.r top.running top.below found
      → Covered (handled x frame lower found)
  handled_meets (Some range) e = inl (handler_turn range e)
  handled_meets None e = at lower top.below top.fit.lower_fit held.1 e
    where
      at : (ls : List AbstractFrame) (bs : List MachineFrame) → AllZip (FitsFrame meaning) ls (with_statics machine.statics bs)
          → AllByRecursion (HoldsIds state) ls → step p machine ≡ handled_by machine it.r top.running bs None
          → Covered (handled x frame ls None)
      at [] [] z h g = subst IsEnd (sym g) tt
      at [] (b ∷ []) z h g = absurd z
      at [] (b ∷ c ∷ bs) z h g = absurd z
      at (l ∷ ls) [] z h g = absurd z
      at (l ∷ ls) (b ∷ bs) z h g = inl (unwound_turn l ls b bs h.0 h.1 z g)

  -- ---- the plan

  throwable_typed : IsTypedId types state machine meaning (places.Ref (class_type throwable)) x
  throwable_typed = record {
    own = any;
    typed = subst (λ (v : Value). HasType types machine.heap v (class_type throwable)) (sym it.names) typed.1;
    set = λ e. cc;
    of_world = (thrown_reference, erased (class_type throwable) reflexive);
  }
    where
      thrown_reference : IsReference types.classes (class_type throwable)
      thrown_reference = (base.laws.of_world (type_of Object_) (class_type throwable) typed.1.1.1).1

      reflexive : IsTrue (types.sub (class_type throwable) (class_type throwable))
      reflexive = base.laws.reflexive (class_type throwable) thrown_reference

  never_null : may_be_null (cell_at state x) ≡ true → ⊥
  never_null e = at own.cell own.sort_is (sym (ap may_be_null own.is) ∙ e)
    where
      at : (c : Cell) → is_object c ≡ true → may_be_null (Some c) ≡ true → ⊥
      at (cells.Int interval) i n = false≢true i
      at cells.Null i n = false≢true i
      at (cells.Obj class ids) i n = false≢true n
      at (cells.Nums kind len) i n = false≢true n
      at (cells.Refs element len shape) i n = false≢true n
      at (cells.Unk bound true shape) i n = false≢true i
      at (cells.Unk bound false shape) i n = false≢true n

  caught_meets : Covered (caught_plan types state x frame lower Ranges)
  caught_meets = at (is_unknown (cell_at state x)) refl (list_any (may_take types state x) (before_taker types state x Ranges)) refl
      (is_none (find (takes types state x) Ranges))
    where
      plain : list_any (may_take types state x) (before_taker types state x Ranges) ≡ false
          → Covered (handled x frame lower (find (takes types state x) Ranges))
      plain e = handled_meets (find (takes types state x) Ranges) (step_finds e)

      at : (u : Bool) → is_unknown (cell_at state x) ≡ u → (m : Bool)
          → list_any (may_take types state x) (before_taker types state x Ranges) ≡ m → (n : Bool)
          → Covered (if (u && (m || n)) then split_below state x (places.Ref (class_type throwable)) else handled x frame lower
          (find (takes types state x) Ranges))
      at false e m f n = plain (none_may types state x e (before_taker types state x Ranges))
      at true e true f n = split_meets p state machine meaning base x (places.Ref (class_type throwable)) throwable_typed e
      at true e false f true = split_meets p state machine meaning base x (places.Ref (class_type throwable)) throwable_typed e
      at true e false f false = plain f

  pub throwing_meets : Covered (plan_of p typing state)
  throwing_meets =
      subst Covered (sym plan_is)
      (by (passing_id types state (places.Ref (class_type throwable)) x)
      (passing_typed p state machine meaning base (places.Ref (class_type throwable)) x throwable_typed).only)
    where
      plan_is : plan_of p typing state ≡ throwing_plan types state x frame lower Method_.table
      plan_is =
          ap (λ (t : Option ℕ). plan_in p typing state t state.frames) thrown
          ∙ ap (λ (frames : List AbstractFrame). plan_in p typing state (Some x) frames) frames_are
          ∙ ap (λ (m : Option Method). throwing_plan types state x frame lower (option_map_or (λ (y : Method). y.table) m []))
          running.placed.is_method

      by : (result : Passing) → (result ≡ passes) ⊎ ((result ≡ splits) × (may_be_null (cell_at state x) ≡ true))
          → Covered (if_passes result (caught_plan types state x frame lower Ranges))
      by result (inl e) = subst (λ (q : Passing). Covered (if_passes q (caught_plan types state x frame lower Ranges))) (sym e)
          caught_meets
      by result (inr e) = absurd (never_null e.1)
