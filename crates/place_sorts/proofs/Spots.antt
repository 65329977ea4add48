-- Where a state stands at a form: its running frame, what the typing says there, and where the form leads.
use Rattle.std.proofs.Common.{◌≡◌, ◌∙◌, ◌<◌, ℕ, true, eqb, List, [], ◌∷◌, length, take, drop, Option}
use Rattle.std.proofs.Common.{Some, None, slice_get, refl, sym, subst}
use Rattle.std.specs.Prelude.{IsTrue}
use Rattle.std.specs.List.{AllByRecursion, AllZip, list_any}
use Rattle.std.proofs.lemmas.Option.{none-some}
use Rattle.jvm_values.specs.declared.types.Slot.{Slot}
use Rattle.jvm_values.specs.declared.typing.PlaceType.{PlaceType}
use Rattle.jvm_values.specs.States.{PlaceTypes}
use Rattle.jvm_values.specs.TypedHeaps.{WorldTypes, AreLawful}
use Rattle.jvm_run.proofs.Forms.{acted_of}
use Rattle.jvm_run.proofs.Named.{IsNamed}
use Rattle.abs_cells.specs.declared.cells.Cell.{Cell}
use Rattle.abs_cells.specs.AbstractStates.{AbstractFrame, AbstractState}
use Rattle.abs_cells.specs.Sound.{IsOfSlot, IsSound}
use Rattle.class_world.specs.BuiltIns.{HasBuiltIns, built_in_count}
use Rattle.class_world.specs.Linking.{is_linked}
use Rattle.class_program.specs.declared.op.Op.{Op}
use Rattle.class_program.specs.declared.program.Method.{Method}
use Rattle.class_program.specs.Good.{IsGood}
use Rattle.class_program.specs.Programs.{op_at}
use Rattle.op_forms.specs.Forms.{Form}
use Rattle.op_forms.specs.Widths.{IsFormInWidth}
use Rattle.frame_types.specs.Places.{IsFrame}
use Rattle.frame_types.specs.Tables.{CodeTypes, Takes}
use Rattle.code_verify.specs.declared.want.Want.{Want}
use Rattle.code_verify.specs.Flows.{falls, jumps}
use Rattle.code_verify.specs.Rows.{taken, with_result, acted, types_after}
use Rattle.code_verify.specs.Typings.{IsTyping}
use Rattle.abs_turns.specs.Needs.{passes, passing_id, operands_of}
use Rattle.abs_turns.specs.Plans.{Act, nothing, nowhere, on_stack, Turn, Plan, no_rows}
use Rattle.abs_turns.specs.Turns.{Here, frames_at, with_stack, emptied, goes_on, throws_after}
use Rattle.abs_turns.specs.Table.{types_here, taken_by}
use Rattle.term_graph.specs.declared.links.LinkRow.{LinkRow}
use Rattle.abs_expand.specs.BadStates.{IsOfPlace, IsOfField, HasStackOf, HasRunningStack, IsPlaced, statics_under, AreCallersPlaced}
use Rattle.abs_expand.specs.BadStates.{ArePlaced}
use Rattle.place_sorts.specs.Growing.{AreWaiting}
use Rattle.place_sorts.proofs.Keeping.{KeepsSorts, locals_kept, fields_kept, stack_kept, callers_kept}
use Rattle.place_sorts.proofs.Landing.{running_lands}
use Rattle.place_sorts.proofs.Turns.{IsMade, AreSoundChanges, IsSoundAct, IsGrowingTurn, IsGrowingPlan}

-- the running frame and those below it stand as the typing says
pub record Spot (typing : ℕ → CodeTypes) (here : Here) : Type 0 where
  pub linked : IsTrue (is_linked here.program.world)
  pub laws : AreLawful (types_here here)
  pub built_ins : HasBuiltIns here.program.world
  pub good : IsGood here.program
  pub sound : IsSound (types_here here) here.state
  pub typings : (number : ℕ) (m : Method) → slice_get here.program.methods number ≡ Some m → IsTyping here.program m (typing number)
  pub there : PlaceTypes
  pub placed : IsPlaced here.program typing here.state (statics_under here.program here.below) here.frame there
  pub limits : IsFrame (types_here here) placed.method.max_locals placed.method.max_stack there
  pub stack : HasStackOf here.state there.stack here.frame.stack
  pub places_are : here.places ≡ there.stack
  pub callers : AreCallersPlaced here.program typing here.state here.below
  pub waiting : AreWaiting here.program here.frame.method here.below

-- what stands there
pub record StandsAt (typing : ℕ → CodeTypes) (here : Here) (spot : Spot typing here) (op : Op) (form : Form) : Type 0 where
  pub named : IsNamed here.program spot.placed.method.class op form
  pub stands : op_at here.program.methods here.frame.method here.frame.pc ≡ Some op
  pub wide : IsFormInWidth form
  pub after : PlaceTypes
  pub types_are : types_after here.program spot.placed.method form spot.there ≡ Some after
  pub next : falls form ≡ true → Takes (types_here here) (typing here.frame.method) (record { to = here.next; frame = after })
  pub jump : (to : ℕ) → list_any (eqb to) (jumps form) ≡ true → Takes (types_here here) (typing here.frame.method)
      (record { to = to; frame = after })
  pub tested : AllByRecursion (λ (operand : PlaceType × ℕ). passing_id (types_here here) here.state operand.0 operand.1 ≡ passes)
      (operands_of (taken_by form) here.places here.frame.stack)

module _ (typing : ℕ → CodeTypes) (here : Here) (spot : Spot typing here) where
  abbrev Types : WorldTypes
  Types = types_here here

  abbrev pub Statics : List Slot
  Statics = statics_under here.program here.below

  abbrev pub Grows : Turn → Type 0
  Grows = IsGrowingTurn here.program typing here.state

  abbrev pub GrowsPlan : Plan → Type 0
  GrowsPlan = IsGrowingPlan here.program typing here.state

  -- types come to a place
  abbrev pub Comes : ℕ → List PlaceType → List PlaceType → Type 0
  Comes to locals stack = Takes Types (typing here.frame.method) (record { to = to; frame = record { locals = locals; stack = stack } })

  -- ---- frames

  callers_stay : (after : AbstractState) → KeepsSorts here.state after → AreCallersPlaced here.program typing after here.below
  callers_stay after keeps = callers_kept here.state after keeps here.program typing here.below spot.callers

  -- the running frame goes on at a place, with other locals and another stack
  pub lands : (to : ℕ) (wanted_locals wanted_stack : List PlaceType) (locals : List (Option ℕ)) (stack : List ℕ)
      → Comes to wanted_locals wanted_stack → (after : AbstractState) → KeepsSorts here.state after
      → length locals ≡ length here.frame.locals
      → AllZip (IsOfPlace after) wanted_locals (take spot.placed.method.max_locals locals)
      → AllZip (IsOfField after) Statics (drop spot.placed.method.max_locals locals)
      → HasStackOf after wanted_stack stack → after.throwing ≡ None → ArePlaced here.program typing after (frames_at here to locals stack)
  lands to wanted_locals wanted_stack locals stack takes after keeps count given fields has unthrown = (
    running_lands here.program typing after Statics spot.placed.method here.frame.method to
        (record { locals = wanted_locals; stack = wanted_stack }) locals stack spot.placed.is_method takes
        (count ∙ spot.placed.count) given fields has unthrown,
    callers_stay after keeps,
  )

  -- with the same locals
  pub stack_lands : (to : ℕ) (wanted_stack : List PlaceType) (stack : List ℕ) → Comes to spot.there.locals wanted_stack
      → (after : AbstractState) → KeepsSorts here.state after
      → HasStackOf after wanted_stack stack → after.throwing ≡ None → ArePlaced here.program typing after (with_stack here to stack)
  stack_lands to wanted_stack stack takes after keeps has unthrown =
      let max = spot.placed.method.max_locals in
      lands to spot.there.locals wanted_stack here.frame.locals stack takes after keeps refl
      (locals_kept here.state after keeps spot.there.locals (take max here.frame.locals) spot.placed.locals)
      (fields_kept here.state after keeps Statics (drop max here.frame.locals) spot.placed.fields) has unthrown

  -- what is thrown empties the stack
  pub thrown_lands : (after : AbstractState) (x : ℕ) → KeepsSorts here.state after → after.throwing ≡ Some x
      → ArePlaced here.program typing after (emptied here)
  thrown_lands after x keeps t =
      let max = spot.placed.method.max_locals in (
        record {
          there = spot.there;
          placed = record {
            method = spot.placed.method;
            is_method = spot.placed.is_method;
            is_there = spot.placed.is_there;
            count = spot.placed.count;
            locals = locals_kept here.state after keeps spot.there.locals (take max here.frame.locals) spot.placed.locals;
            fields = fields_kept here.state after keeps Statics (drop max here.frame.locals) spot.placed.fields;
          };
          stack = subst (λ (thrown : Option ℕ). HasRunningStack after thrown spot.there.stack []) (sym t) refl;
        },
        callers_stay after keeps,
      )

  not_empty : (frame : AbstractFrame) (frames : List AbstractFrame) → frame ∷ frames ≡ [] → ⊥
  not_empty frame frames e = cc

  pub some_frame : (place : ℕ) (locals : List (Option ℕ)) (stack : List ℕ) → frames_at here place locals stack ≡ [] → ⊥
  some_frame place locals stack e = not_empty (record { method = here.frame.method; pc = place; locals = locals; stack = stack })
      here.below e

  -- ---- steps

  -- nothing but the running frame changes, and ints are narrowed
  pub narrowed_moves : (changed : List (ℕ × Cell)) (rows : ℕ → List LinkRow) (to : ℕ) (wanted_stack : List PlaceType)
      (stack : List ℕ) → AreSoundChanges Types here.state changed
      → Comes to spot.there.locals wanted_stack → HasStackOf here.state wanted_stack stack
      → Grows (record {
        changed = changed;
        frames = with_stack here to stack;
        throwing = None;
        act = nothing;
        goal = nowhere;
        rows =
            rows;
      })
  narrowed_moves changed rows to wanted_stack stack n takes has = record {
    changed = n;
    act = tt;
    placed = λ after id keeps made t. stack_lands to wanted_stack stack takes after keeps
        (stack_kept here.state after keeps wanted_stack stack has) t;
    waiting = spot.waiting;
    framed = some_frame to here.frame.locals stack;
    thrown = λ x e. absurd (none-some x e);
  }

  pub goes_grows : (to : ℕ) (wanted_stack : List PlaceType) (stack : List ℕ) → Comes to spot.there.locals wanted_stack
      → HasStackOf here.state wanted_stack stack → Grows (goes_on here to stack)
  goes_grows to wanted_stack stack takes has = narrowed_moves [] no_rows to wanted_stack stack tt takes has

  -- an exception of a built-in class is thrown
  pub throws_grows : (changed : List (ℕ × Cell)) (rows : ℕ → List LinkRow) (class : ℕ) → class < built_in_count
      → AreSoundChanges Types here.state changed → Grows (throws_after here changed rows class)
  throws_grows changed rows class l n = record {
    changed = n;
    act = (
      λ after keeps. (
        spot.built_ins.there class l,
        (
          spot.built_ins.made class l,
          subst (λ (fields : List Slot). AllZip (IsOfSlot after) fields [])
              (sym (spot.built_ins.without_fields class l)) tt,
        ),
      ),
      refl,
    );
    placed = λ after id keeps made t. thrown_lands after id keeps t;
    waiting = spot.waiting;
    framed = some_frame here.frame.pc here.frame.locals [];
    thrown = λ x e. absurd (none-some x e);
  }

  -- an id that an act makes goes on the stack
  pub pushes_grows : (changed : List (ℕ × Cell)) (rows : ℕ → List LinkRow) (act : Act) (to : ℕ) (place : PlaceType)
      (below : List PlaceType) (stack : List ℕ) → AreSoundChanges Types here.state changed
      → IsSoundAct Types here.state changed act on_stack
      → ((after : AbstractState) (id : ℕ) → IsMade act after id → IsOfPlace after place (Some id))
      → Comes to spot.there.locals (place ∷ below) → HasStackOf here.state below stack
      → Grows (record { changed = changed; frames = with_stack here to stack; throwing = None; act = act; goal = on_stack; rows = rows })
  pushes_grows changed rows act to place below stack n a is takes has = record {
    changed = n;
    act = a;
    placed = λ after id keeps made t. stack_lands to (place ∷ below) (id ∷ stack) takes after keeps
        (is after id made, stack_kept here.state after keeps below stack has) t;
    waiting = spot.waiting;
    framed = some_frame to here.frame.locals stack;
    thrown = λ x e. absurd (none-some x e);
  }

-- ---- what is asked of the stack

module _ (typing : ℕ → CodeTypes) (here : Here) (spot : Spot typing here) (op : Op) (form : Form)
    (s : StandsAt typing here spot op form) where
  -- operands leave the stack, and the result comes
  pub record Acts (asks : List Want) (result : Option PlaceType) : Type 0 where
    pub below : List PlaceType
    pub taken_is : taken (types_here here) asks spot.there.stack ≡ Some below
    pub next : falls form ≡ true → Comes typing here spot here.next spot.there.locals (with_result result below)
    pub jump : (to : ℕ) → list_any (eqb to) (jumps form) ≡ true → Comes typing here spot to spot.there.locals (with_result result below)

  pub acts : (asks : List Want) (result : Option PlaceType) → acted (types_here here) asks result spot.there ≡ Some s.after
      → Acts asks result
  acts asks result e =
      let a = acted_of (types_here here) asks result spot.there s.after e in
      record {
        below = a.below;
        taken_is = a.taken_is;
        next = λ f. subst (λ (after : PlaceTypes). Takes (types_here here) (typing here.frame.method)
            (record { to = here.next; frame = after })) a.after_is (s.next f);
        jump = λ to j. subst (λ (after : PlaceTypes). Takes (types_here here) (typing here.frame.method)
            (record { to = to; frame = after })) a.after_is (s.jump to j);
      }
