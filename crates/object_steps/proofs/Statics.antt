-- Static fields: they are read and put. Their ids follow the locals of the bottom frame.
use Rattle.std.proofs.Common.{inl, ◌≡◌, ◌∙◌, ◌<◌, ◌&&◌, ℕ, ℤ, zero, suc, Bool, true, false, List, [], ◌∷◌, length, map, Option}
use Rattle.std.proofs.Common.{Some, None, slice_get, refl, sym, ap, subst}
use Rattle.std.specs.Prelude.{nat_lt, slice_set}
use Rattle.std.specs.List.{AllByRecursion, AllZip}
use Rattle.std.specs.Option.{option_map, option_map_or, option_and_then, MatchOption}
use Rattle.std.proofs.lemmas.Bool.{false≢true, ltb-true, and_parts}
use Rattle.std.proofs.lemmas.List.Elements.{All-nil}
use Rattle.std.proofs.lemmas.Option.{none-some}
use Rattle.list_views.specs.Options.{asked}
use Rattle.lin_core.specs.Intervals.{Bounds, IsIn}
use Rattle.jvm_values.specs.declared.heap.Value.{Value}
use Rattle.jvm_values.specs.declared.heap.Value.TheVariants as values
use Rattle.jvm_values.specs.declared.heap.Heap.{Heap}
use Rattle.jvm_values.specs.declared.ints.IntOp.TheVariants.{Narrow}
use Rattle.jvm_values.specs.declared.types.Slot.{Slot}
use Rattle.jvm_values.specs.declared.types.Slot.TheVariants as slots
use Rattle.jvm_values.specs.Kinds.{narrowed}
use Rattle.jvm_values.specs.States.{MachineFrame, MachineState}
use Rattle.jvm_values.specs.TypedHeaps.{WorldTypes, Holds as IsHeld}
use Rattle.abs_cells.specs.declared.cells.Cell.TheVariants as cells
use Rattle.abs_cells.specs.AbstractStates.{AbstractFrame, AbstractState}
use Rattle.abs_cells.specs.Cells.{HasCell}
use Rattle.abs_cells.specs.Fits.{Meaning, FitsFrame, with_statics}
use Rattle.abs_ints.specs.Falling.{FallsUnder}
use Rattle.abs_ints.specs.Operating.{operated}
use Rattle.abs_ints.specs.declared.cases.IntCase.{IntCase}
use Rattle.abs_ints.proofs.AllCases.{operated_covers}
use Rattle.jvm_step.specs.class_world.WorldTypes.{types_of}
use Rattle.jvm_step.specs.class_program.declared.program.StaticField.{StaticField}
use Rattle.jvm_step.specs.class_program.Programs.{Program}
use Rattle.frame_types.specs.Tables.{CodeTypes}
use Rattle.jvm_step.specs.Effects.{Effect, with_stack, pushes, getstatic_effect, putstatic_effect}
use Rattle.jvm_step.specs.Operands.{top, is_passed, kept}
use Rattle.jvm_step.specs.Table.{effect_of, on_frame, on_statics}
use Rattle.jvm_step.specs.Running.{Step, step}
use Rattle.form_steps.specs.TermGraphEdges.{HoldsBetween}
use Rattle.form_steps.specs.abs_expand.inner.Building.{HoldsIds}
use Rattle.form_steps.specs.abs_expand.Plans.{in_bottom, makes, Turn, Plan, no_child, no_rows}
use Rattle.form_steps.specs.abs_expand.Table.{step_if, bottom_of, bottom_with, static_local, locals_of_method, getstatic_plan, put_static}
use Rattle.form_steps.specs.abs_expand.Table.{putstatic_plan}
use Rattle.form_steps.specs.abs_expand.Turns.{moves, goes_on, turn_narrowing, turns_narrowing, interval_of_id, with_stack as stack_at}
use Rattle.form_steps.proofs.abs_plans.Holding.{set_held}
use Rattle.form_steps.proofs.SomeOf.{SomeOf, some_one, some_of_map}
use Rattle.form_steps.specs.Laws.{Moved}
use Rattle.form_steps.proofs.Tops.{BottomHas, bottom_set, stacked, from_tops}
use Rattle.form_steps.proofs.Bottoms.{StandsOnStatics, bottom_is}
use Rattle.form_steps.proofs.Standing.{Stands, here, onward, Work_, held, lower_held, going, goes_after, goes_next, some_effect}
use Rattle.form_steps.proofs.Standing.{no_frame_effect}
use Rattle.form_steps.proofs.TurnKinds.{Fitting, Meets, moving_turn, making_turn, top_turn}
use Rattle.form_steps.proofs.Operands.{int_at, bounded, stack_is, stack_held}

-- ---- effects

getstatic_none : (place : ℕ) (statics : List Value) (f : MachineFrame) → slice_get statics place ≡ None
    → getstatic_effect place statics f ≡ None
unfolding getstatic_effect
getstatic_none place statics f e = rw e refl

getstatic_by : (place : ℕ) (statics : List Value) (f : MachineFrame) (v : Value) → slice_get statics place ≡ Some v
    → getstatic_effect place statics f ≡ Some (pushes v f.stack f)
unfolding getstatic_effect
getstatic_by place statics f v e = rw e refl

putstatic_none : (types : WorldTypes) (fields : List StaticField) (place : ℕ) (heap : Heap) (f : MachineFrame)
    (statics : List Value) → slice_get fields place ≡ None → putstatic_effect types fields place heap f statics ≡ None
unfolding putstatic_effect
putstatic_none types fields place heap f statics e = rw e refl

putstatic_stuck : (types : WorldTypes) (fields : List StaticField) (place : ℕ) (heap : Heap) (f : MachineFrame)
    (statics : List Value) (field : StaticField) → slice_get fields place ≡ Some field → top f.stack ≡ None
    → putstatic_effect types fields place heap f statics ≡ None
unfolding putstatic_effect
putstatic_stuck types fields place heap f statics field e g = rw (e, g) refl

putstatic_by : (types : WorldTypes) (fields : List StaticField) (place : ℕ) (heap : Heap) (f : MachineFrame) (statics : List Value)
    (field : StaticField) (v : Value) (below : List Value) (b : Bool) → slice_get fields place ≡ Some field
    → top f.stack ≡ Some (v, below) → (is_passed types heap field.slot v && nat_lt place (length statics)) ≡ b
    → putstatic_effect types fields place heap f statics ≡ option_and_then
    (λ (u : Unit {0}). Some (Effect.Next (with_stack f below, slice_set statics place (kept field.slot v)))) (asked b)
unfolding putstatic_effect
putstatic_by types fields place heap f statics field v below b e g q = rw (e, g, q) refl

-- what stands at a place on the other side
other_side : {A B : Type 0} (R : A → B → Type 0) (xs : List A) (ys : List B) (n : ℕ) (y : B) → AllZip R xs ys
    → slice_get ys n ≡ Some y → (x : A) × (slice_get xs n ≡ Some x)
other_side R [] [] n y h e = absurd (none-some y e)
other_side R [] (b ∷ ys) n y h e = absurd h
other_side R (a ∷ xs) [] n y h e = absurd h
other_side R (a ∷ xs) (b ∷ ys) zero y h e = (a, refl)
other_side R (a ∷ xs) (b ∷ ys) (suc n) y h e = other_side R xs ys n y h.1 e

-- the running frame's place and stack don't count
bottom_moved : (count place : ℕ) (stack : List Value) (running : MachineFrame) (below : List MachineFrame)
    → BottomHas count (running ∷ below) → BottomHas count (record running { pc = place; stack = stack } ∷ below)
bottom_moved count place stack running [] h = h
bottom_moved count place stack running (next ∷ rest) h = h

bottom_held : (state : AbstractState) (n x : ℕ) (frames : List AbstractFrame) → HasCell (λ _. true) state x
    → AllByRecursion (HoldsIds state) frames → AllByRecursion (HoldsIds state) (bottom_with n x frames)
bottom_held state n x [] own h = tt
bottom_held state n x (frame ∷ []) own h =
    (record { locals = set_held (HasCell (λ _. true) state) frame.locals n x h.0.locals own; stack = h.0.stack }, tt)
bottom_held state n x (frame ∷ next ∷ rest) own h = (h.0, bottom_held state n x (next ∷ rest) own h.1)

module _ (p : Program) (typing : ℕ → CodeTypes) (state : AbstractState) (machine : MachineState) (meaning : Meaning)
    (s : Stands p typing state machine meaning) where
  abbrev types : WorldTypes
  types = types_of p.world

  abbrev Fit : Turn → Type 0
  Fit = Fitting p state machine meaning

  abbrev Covered : Plan → Type 0
  Covered = Meets p state machine meaning

  abbrev Holds : ℕ → Type 0
  Holds = HasCell (λ _. true) state

  abbrev Next : ℕ
  Next = onward p typing state machine meaning s

  abbrev Bottom : AbstractFrame
  Bottom = bottom_of (here p typing state machine meaning s)

  abbrev Local : ℕ → ℕ
  Local place = static_local (here p typing state machine meaning s) place

  on : StandsOnStatics p state meaning machine.statics Bottom (s.running ∷ s.below)
  on = subst (λ (b : AbstractFrame). StandsOnStatics p state meaning machine.statics b (s.running ∷ s.below))
      (sym (bottom_is s.frame s.lower s.frame)) s.on_statics

  -- ---- getstatic

  pub static_read : (place : ℕ) → effect_of p s.method s.form (Work_ p typing state machine meaning s) ≡ on_frame
      (Work_ p typing state machine meaning s) (getstatic_effect place machine.statics s.running)
      → Covered (getstatic_plan (here p typing state machine meaning s) place)
  static_read place is = at (slice_get machine.statics place) refl
    where
      read : (id : ℕ) → slice_get Bottom.locals (Local place) ≡ Some (Some id) → slice_get machine.statics place ≡ Some (meaning id)
          → Holds id → Covered (getstatic_plan (here p typing state machine meaning s) place)
      read id e v own =
          subst (λ (o : Option (Option ℕ)). Covered
          (step_if (option_map (λ (x : ℕ). goes_on (here p typing state machine meaning s) Next (x ∷ s.frame.stack))
          (option_and_then (λ (local : Option ℕ). local) o)))) (sym e)
          (inl (top_turn p typing state machine meaning s []
          (record { method = s.frame.method; pc = Next; locals = s.frame.locals; stack = id ∷ s.frame.stack }) no_rows
          (record s.running { pc = Next; stack = meaning id ∷ s.running.stack }) tt
          (record {
            locals = (held p typing state machine meaning s).locals;
            stack =
                (own, (held p typing state machine meaning s).stack);
          })
          (stacked meaning s.frame s.lower machine.statics s.running s.below Next (id ∷ s.frame.stack)
          (meaning id ∷ s.running.stack) (ap (λ (vs : List Value). meaning id ∷ vs) s.fit.top.stack) s.fit)
          (λ fresh. All-nil (HoldsBetween meaning meaning))
          (goes_next p typing state machine meaning s (getstatic_effect place machine.statics s.running)
          (record s.running { stack = meaning id ∷ s.running.stack }) is
          (getstatic_by place machine.statics s.running (meaning id) v))))

      at : (found : Option Value) → slice_get machine.statics place ≡ found
          → Covered (getstatic_plan (here p typing state machine meaning s) place)
      at None e = absurd (no_frame_effect p typing state machine meaning s (getstatic_effect place machine.statics s.running) is
          (getstatic_none place machine.statics s.running e))
      at (Some v) e =
          let field = other_side (λ (f : StaticField) (w : Value). IsHeld types machine.heap f.slot w) p.statics machine.statics
          place v s.statics_typed e in
          let has = on.each place field.0 field.1 in
          read has.id has.given has.value_is has.own

  -- ---- putstatic

  abbrev Placed : List ℕ → AbstractFrame
  Placed ids = record { method = s.frame.method; pc = Next; locals = s.frame.locals; stack = ids }

  abbrev PlacedRunning : List ℕ → MachineFrame
  PlacedRunning ids = record s.running { pc = Next; stack = map meaning ids }

  abbrev Count : ℕ
  Count = locals_of_method p Bottom.method

  positions : (rest : List ℕ) → AllZip (FitsFrame meaning) (Placed rest ∷ s.lower)
      (with_statics machine.statics (PlacedRunning rest ∷ s.below))
  positions rest = from_tops meaning (Placed rest) s.lower machine.statics (PlacedRunning rest) s.below
      (stacked meaning s.frame s.lower machine.statics s.running s.below Next rest (map meaning rest) refl s.fit)

  counted : (rest : List ℕ) → BottomHas Count (PlacedRunning rest ∷ s.below)
  counted rest = bottom_moved Count Next (map meaning rest) s.running s.below on.count

  all_held : (rest : List ℕ) → AllByRecursion Holds rest → AllByRecursion (HoldsIds state) (Placed rest ∷ s.lower)
  all_held rest h = (
    record { locals = (held p typing state machine meaning s).locals; stack = h },
    lower_held p typing state
        machine meaning s,
  )

  -- an id of the state becomes the field's
  put_turn : (place x : ℕ) (rest : List ℕ) (value : Value) → place < length machine.statics → meaning x ≡ value
      → AllByRecursion Holds (x ∷ rest)
      → step p machine ≡ Step.Going (going (PlacedRunning rest ∷ s.below) machine.heap (slice_set machine.statics place value))
      → Fit (moves (bottom_with (Local place) x (stack_at (here p typing state machine meaning s) Next rest)))
  put_turn place x rest value l v h e =
      moving_turn p typing state machine meaning s [] (bottom_with (Local place) x (Placed rest ∷ s.lower)) no_rows
      (PlacedRunning rest ∷ s.below) (slice_set machine.statics place value) tt
      (bottom_held state (Local place) x (Placed rest ∷ s.lower) h.0 (all_held rest h.1))
      (bottom_set meaning machine.statics Count place x value l v (Placed rest ∷ s.lower) (PlacedRunning rest ∷ s.below)
      (counted rest) (positions rest)) (λ fresh. All-nil (HoldsBetween meaning meaning)) e

  -- a fresh int does
  fresh_turn : (place : ℕ) (rest : List ℕ) (interval : Bounds) (n : ℤ) → place < length machine.statics → IsIn n interval
      → AllByRecursion Holds rest
      → step p machine ≡ Step.Going (going (PlacedRunning rest ∷ s.below) machine.heap (slice_set machine.statics place (values.Int n)))
      → Fit (record {
        changed = [];
        frames = stack_at (here p typing state machine meaning s) Next rest;
        throwing = None;
        act =
            makes (cells.Int interval);
        goal = in_bottom (Local place);
        rows = no_rows;
      })
  fresh_turn place rest interval n l inside h e =
      making_turn p typing state machine meaning s [] (Placed rest ∷ s.lower) (cells.Int interval) (values.Int n)
      (in_bottom (Local place)) no_rows (PlacedRunning rest ∷ s.below) machine.statics
      (λ id. bottom_with (Local place) id (Placed rest ∷ s.lower)) (PlacedRunning rest ∷ s.below)
      (slice_set machine.statics place (values.Int n)) tt
      (all_held rest h) (positions rest) tt (n, (refl, inside))
      (λ id acted f t. ap (λ (fs : List AbstractFrame). Moved acted (bottom_with (Local place) id fs) acted.throwing) f
      ∙ ap (Moved acted (bottom_with (Local place) id (Placed rest ∷ s.lower))) t)
      (λ id after v z. bottom_set after machine.statics Count place id (values.Int n) l v (Placed rest ∷ s.lower)
      (PlacedRunning rest ∷ s.below) (counted rest) z)
      (λ id after v. All-nil (HoldsBetween meaning after)) e

  pub static_put : (place : ℕ) → effect_of p s.method s.form (Work_ p typing state machine meaning s) ≡ on_statics
      (Work_ p typing state machine meaning s) (putstatic_effect types p.statics place machine.heap s.running machine.statics)
      → Covered (putstatic_plan (here p typing state machine meaning s) place s.frame.stack)
  static_put place is = at (slice_get p.statics place) refl
    where
      effect : Option (Effect (MachineFrame × List Value))
      effect = putstatic_effect types p.statics place machine.heap s.running machine.statics

      none : effect ≡ None → ⊥
      none e = some_effect p typing state machine meaning s (is ∙ ap (on_statics (Work_ p typing state machine meaning s)) e)

      by_slot : (x : ℕ) (rest : List ℕ) → AllByRecursion Holds (x ∷ rest) → place < length machine.statics → (slot : Slot)
          → is_passed types machine.heap slot (meaning x) ≡ true
          → step p machine ≡ Step.Going
          (going (PlacedRunning rest ∷ s.below) machine.heap (slice_set machine.statics place (kept slot (meaning x))))
          → Covered (put_static (here p typing state machine meaning s) slot (Local place) x rest)
      by_slot x rest h l (slots.Ref t) passed e = inl (put_turn place x rest (meaning x) l refl h e)
      by_slot x rest h l (slots.Num kind) passed e = by_value (meaning x) refl
        where
          narrow : (n : ℤ) → meaning x ≡ values.Int n
              → step p machine ≡ Step.Going
              (going (PlacedRunning rest ∷ s.below) machine.heap (slice_set machine.statics place (values.Int (narrowed kind n))))
              → (result : Option Bounds) → MatchOption result (narrowed kind n ≡ n) (λ interval. IsIn (narrowed kind n) interval)
              → Fit (turn_narrowing
              (moves (bottom_with (Local place) x (stack_at (here p typing state machine meaning s) Next rest)))
              (stack_at (here p typing state machine meaning s) Next rest) (in_bottom (Local place)) result)
          narrow n f g None same = put_turn place x rest (values.Int (narrowed kind n)) l (f ∙ ap (λ (m : ℤ). values.Int m) (sym same)) h g
          narrow n f g (Some interval) inside = fresh_turn place rest interval (narrowed kind n) l inside h.1 g

          by_value : (v : Value) → meaning x ≡ v
              → SomeOf Fit (turns_narrowing (here p typing state machine meaning s) kind x
              (moves (bottom_with (Local place) x (stack_at (here p typing state machine meaning s) Next rest)))
              (stack_at (here p typing state machine meaning s) Next rest) (in_bottom (Local place)))
          by_value (values.Int n) f =
              let i = int_at p typing state machine meaning s x n h.0 f in
              some_of_map (FallsUnder (Narrow kind) n n) Fit
              (λ (case : IntCase). turn_narrowing
              (moves (bottom_with (Local place) x (stack_at (here p typing state machine meaning s) Next rest)))
              (stack_at (here p typing state machine meaning s) Next rest) (in_bottom (Local place)) case.result)
              (operated (Narrow kind) (interval_of_id state x) (interval_of_id state x))
              (λ case fu. narrow n f
              (e ∙ ap (λ (v : Value). Step.Going
              (going (PlacedRunning rest ∷ s.below) machine.heap
              (slice_set machine.statics place (kept (slots.Num kind) v)))) f) case.result fu.answered.0)
              (some_one (FallsUnder (Narrow kind) n n) (operated (Narrow kind) (interval_of_id state x) (interval_of_id state x))
              (operated_covers (Narrow kind) (interval_of_id state x) (interval_of_id state x) n n
              (bounded p typing state machine meaning s x) (bounded p typing state machine meaning s x) i.inside i.inside))
          by_value values.Null f = absurd (false≢true (ap (is_passed types machine.heap (slots.Num kind)) (sym f) ∙ passed))
          by_value (values.Ref r) f = absurd (false≢true (ap (is_passed types machine.heap (slots.Num kind)) (sym f) ∙ passed))

      by_list : (field : StaticField) → slice_get p.statics place ≡ Some field → (ids : List ℕ) → s.frame.stack ≡ ids
          → Covered (putstatic_plan (here p typing state machine meaning s) place ids)
      by_list field e [] f = absurd
          (none (putstatic_stuck types p.statics place machine.heap s.running machine.statics field e
          (ap top (stack_is p typing state machine meaning s [] f))))
      by_list field e (x ∷ rest) f = asked_of
          (is_passed types machine.heap field.slot (meaning x) && nat_lt place (length machine.statics)) refl
        where
          asked_of : (b : Bool) → (is_passed types machine.heap field.slot (meaning x) && nat_lt place (length machine.statics)) ≡ b
              → Covered (putstatic_plan (here p typing state machine meaning s) place (x ∷ rest))
          asked_of false g = absurd
              (none (putstatic_by types p.statics place machine.heap s.running machine.statics field (meaning x) (map meaning rest)
              false e (ap top (stack_is p typing state machine meaning s (x ∷ rest) f)) g))
          asked_of true g =
              let goes = goes_after p typing state machine meaning s
              (record {
                frame = with_stack s.running (map meaning rest);
                heap = machine.heap;
                statics = slice_set
                    machine.statics place (kept field.slot (meaning x));
              })
              (is ∙ ap (on_statics (Work_ p typing state machine meaning s))
              (putstatic_by types p.statics place machine.heap s.running machine.statics field (meaning x) (map meaning rest)
              true e (ap top (stack_is p typing state machine meaning s (x ∷ rest) f)) g)) in
              subst (λ (o : Option StaticField). Covered
              (option_map_or (λ (field_ : StaticField). put_static (here p typing state machine meaning s) field_.slot
              (Local place) x rest) o no_child)) (sym e)
              (by_slot x rest (stack_held p typing state machine meaning s (x ∷ rest) f)
              (ltb-true place (length machine.statics)
              (and_parts (is_passed types machine.heap field.slot (meaning x)) (nat_lt place (length machine.statics)) g).1)
              field.slot (and_parts (is_passed types machine.heap field.slot (meaning x))
              (nat_lt place (length machine.statics)) g).0 goes)

      at : (found : Option StaticField) → slice_get p.statics place ≡ found
          → Covered (putstatic_plan (here p typing state machine meaning s) place s.frame.stack)
      at None e = absurd (none (putstatic_none types p.statics place machine.heap s.running machine.statics e))
      at (Some field) e = by_list field e s.frame.stack refl
