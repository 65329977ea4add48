-- The plan of a growing state, and its children.
use Rattle.std.proofs.Common.{◌≡◌, ◌∙◌, ℕ, List, [], ◌∷◌, Option, Some, None, slice_get, refl, sym, ap, subst}
use Rattle.std.specs.List.{AllByRecursion, AllZip}
use Rattle.std.specs.Option.{option_map_or}
use Rattle.std.proofs.lemmas.Option.{none-some}
use Rattle.jvm_values.specs.declared.typing.PlaceType.{PlaceType}
use Rattle.jvm_values.specs.TypedHeaps.{WorldTypes}
use Rattle.place_sorts.proofs.JvmRunNamed.{named_of}
use Rattle.place_sorts.proofs.JvmRunPlaced.{Placed, placed, jump_taken, next_taken, at_has}
use Rattle.place_sorts.proofs.JvmRunStepping.{Known, insn_there, stands_at}
use Rattle.abs_cells.specs.AbstractStates.{AbstractFrame, AbstractState}
use Rattle.place_sorts.proofs.AbsTurnsSoundCells.{cell_sound}
use Rattle.abs_match.specs.Laws.{DroppedStatesReachAll}
use Rattle.class_world.specs.WorldTypes.{types_of}
use Rattle.class_program.specs.declared.op.Op.{Op}
use Rattle.class_program.specs.declared.program.Method.{Method}
use Rattle.class_program.specs.Good.{IsGoodMethod, IsGoodOp}
use Rattle.class_program.specs.Programs.{Program, insn_at}
use Rattle.class_program.proofs.Got.{all_at}
use Rattle.place_sorts.specs.OpFormsForms.{Form, form_of}
use Rattle.place_sorts.proofs.OpFormsWidths.{forms_wide}
use Rattle.frame_types.specs.Tables.{CodeTypes, Takes}
use Rattle.code_verify.specs.Typings.{IsTyping}
use Rattle.term_graph.specs.Graphs.{GraphChild}
use Rattle.place_sorts.specs.AbsTurnsGoodPlans.{IsGoodTurn, IsGoodPlan}
use Rattle.place_sorts.specs.AbsTurnsPlans.{Turn, Plan, ends, steps, by_null, by_class, by_equal}
use Rattle.place_sorts.specs.AbsTurnsTable.{plan_of_form}
use Rattle.place_sorts.specs.AbsTurnsThrowing.{throwing_plan}
use Rattle.place_sorts.specs.AbsTurnsTurns.{Here}
use Rattle.place_sorts.specs.AbsPlansPlanning.{plan_here, plan_in, plan_of}
use Rattle.place_sorts.proofs.AbsPlansGoodPlans.{plan_is_good}
use Rattle.place_sorts.specs.AbsExpandBadStates.{HasStackOf, HasRunningStack, IsRunningPlaced, AreCallersPlaced, statics_under, ArePlaced}
use Rattle.place_sorts.specs.AbsExpandChildren.{IsTurnChild}
use Rattle.place_sorts.specs.AbsExpandExpansions.{AreChildren, AreExpanded}
use Rattle.place_sorts.specs.Laws.{ResultsStayInts, BranchesStayInts}
use Rattle.place_sorts.specs.Growing.{AreWaiting, WaitBelow, IsGrowing}
use Rattle.place_sorts.proofs.Spots.{Spot}
use Rattle.place_sorts.proofs.Turns.{IsGrowingTurn, IsGrowingPlan}
use Rattle.place_sorts.proofs.FormTable.{form_grows}
use Rattle.place_sorts.proofs.Throwing.{throwing_grows}
use Rattle.grow_laws.proofs.Merges.{equal_wholes}
use Rattle.grow_laws.proofs.NewCells.{AreSound}
use Rattle.grow_laws.proofs.Splits.{null_wholes, class_wholes}
use Rattle.grow_laws.proofs.Steps.{turn_whole}
use Rattle.grow_laws.proofs.Wholes.{IsWhole, all_grow}

module _ (results : ResultsStayInts) (branches : BranchesStayInts) (p : Program) (typing : ℕ → CodeTypes) (k : Known p typing)
    (state : AbstractState) (g : IsGrowing p typing state) where
  abbrev Types : WorldTypes
  Types = types_of p.world

  abbrev Plans : Plan → Type 0
  Plans = IsGrowingPlan p typing state

  method_typed : (number : ℕ) (m : Method) → slice_get p.methods number ≡ Some m → IsTyping p m (typing number)
  method_typed = k.typings

  stack_of : (places : List PlaceType) (stack : List ℕ) (thrown : Option ℕ) → thrown ≡ None
      → HasRunningStack state thrown places stack → HasStackOf state places stack
  stack_of places stack None e h = h
  stack_of places stack (Some x) e h = absurd (none-some x (sym e))

  module _ (frame : AbstractFrame) (below : List AbstractFrame)
      (running : IsRunningPlaced p typing state (statics_under p below) frame) (callers : AreCallersPlaced p typing state below)
      (waiting : AreWaiting p frame.method below) where
    abbrev own : Method
    own = running.placed.method

    is_typing : IsTyping p own (typing frame.method)
    is_typing = method_typed frame.method own running.placed.is_method

    at : Placed p own (typing frame.method) frame.pc running.there
    at = placed p own (typing frame.method) frame.pc running.there (is_typing.each frame.pc running.there running.placed.is_there)

    insn : insn_at p.methods frame.method frame.pc ≡ Some (at.op, at.next)
    insn = insn_there p frame.method frame.pc own at.op at.next running.placed.is_method at.insn_is

    good_op : IsGoodOp p own at.op
    good_op =
        let method : IsGoodMethod p own = all_at (IsGoodMethod p) p.methods frame.method own k.good.methods running.placed.is_method in
        at_has (IsGoodOp p own) own.insns frame.pc (at.op, at.next) method.insns at.insn_is

    abbrev here : Here
    here = record {
      program = p;
      state = state;
      frame = frame;
      below = below;
      places = running.there.stack;
      next = option_map_or
          (λ place. place) at.next frame.pc;
    }

    spot : state.throwing ≡ None → Spot typing here
    spot unthrown = record {
      linked = k.linked;
      laws = k.laws;
      built_ins = k.built_ins;
      good = k.good;
      sound = g.good.sound;
      typings = method_typed;
      there = running.there;
      placed = running.placed;
      limits = (is_typing.each frame.pc running.there running.placed.is_there).limits;
      stack = stack_of running.there.stack frame.stack state.throwing unthrown running.stack;
      places_are = refl;
      callers = callers;
      waiting = waiting;
    }

    formed_plan : state.throwing ≡ None → Plans (plan_of_form here at.form)
    unfolding spot
    formed_plan unthrown =
        form_grows results branches typing here (spot unthrown) at.op at.form (λ tested. record {
          named = named_of p own.class at.op at.form good_op.named at.form_is;
          stands = stands_at p frame.method frame.pc own at.op at.next running.placed.is_method at.insn_is;
          wide = forms_wide p k.widths frame.method frame.pc at.op at.next insn at.form at.form_is;
          after = at.after;
          types_are = at.types_are;
          next = λ f.
              let n = next_taken p own (typing frame.method) frame.pc running.there at f in
              subst (λ (to : ℕ). Takes Types (typing frame.method) (record { to = to; frame = at.after }))
              (sym (ap (λ (o : Option ℕ). option_map_or (λ place. place) o frame.pc) n.next_is)) n.taken;
          jump = λ to j. jump_taken p own (typing frame.method) frame.pc running.there at to j;
          tested = tested;
        })

    abbrev plan_by : Option (Op × Option ℕ) → Plan
    plan_by found =
        plan_here p typing state frame below (option_map_or (λ (x : Op × Option ℕ). form_of x.0) found None)
        (option_map_or (λ (x : Op × Option ℕ). x.1) found None) (typing frame.method frame.pc)

    normal_plan : state.throwing ≡ None → Plans (plan_in p typing state None (frame ∷ below))
    normal_plan unthrown =
        subst Plans
        (sym (ap plan_by insn
        ∙ ap (λ (f : Option Form). plan_here p typing state frame below f at.next (typing frame.method frame.pc)) at.form_is
        ∙ ap (plan_here p typing state frame below (Some at.form) at.next) running.placed.is_there)) (formed_plan unthrown)

    thrown_plan : (x : ℕ) → state.throwing ≡ Some x → Plans (plan_in p typing state (Some x) (frame ∷ below))
    thrown_plan x thrown =
        subst (λ (o : Option Method). Plans
        (throwing_plan Types state x frame below (option_map_or (λ (m : Method). m.table) o []))) (sym running.placed.is_method)
        (throwing_grows p typing state x (g.good.sound.thrown x thrown) frame below running.there running.placed callers waiting
        k.laws k.built_ins is_typing)

  in_mode : (thrown : Option ℕ) → state.throwing ≡ thrown → (frames : List AbstractFrame) → ArePlaced p typing state frames
      → WaitBelow p frames → Plans (plan_in p typing state thrown frames)
  in_mode thrown e [] a w = tt
  in_mode None e (frame ∷ below) a w = normal_plan frame below a.0 a.1 w e
  in_mode (Some x) e (frame ∷ below) a w = thrown_plan frame below a.0 a.1 w x e

  plan_grows : Plans (plan_of p typing state)
  plan_grows = in_mode state.throwing refl state.frames g.good.placed g.waiting

  -- ---- the children

  cells_sound : AreSound Types state
  cells_sound id c e = cell_sound Types state g.good.sound id c e

  whole : IsWhole p typing state
  whole = record {
    formed = g.good.sound.well_formed;
    framed = g.good.sound.framed;
    cells = cells_sound;
    thrown = g.good.sound.thrown;
    placed = g.good.placed;
    waiting = g.waiting;
  }

  turns_whole : (turns : List Turn) (wholes : List GraphChild) → AllByRecursion (IsGoodTurn Types state) turns
      → AllByRecursion (IsGrowingTurn p typing state) turns → AllZip (IsTurnChild Types state) turns wholes
      → AllByRecursion (λ (child : GraphChild). IsWhole p typing child.state) wholes
  turns_whole [] [] good grows h = tt
  turns_whole [] (child ∷ wholes) good grows h = absurd h
  turns_whole (turn ∷ turns) [] good grows h = absurd h
  turns_whole (turn ∷ turns) (child ∷ wholes) good grows h = (
    turn_whole p typing k.laws state g.good.sound.well_formed cells_sound turn good.0 grows.0 child h.0,
    turns_whole turns wholes good.1 grows.1 h.1,
  )

  children_whole : (plan : Plan) (wholes : List GraphChild) → IsGoodPlan Types state plan → Plans plan
      → AreChildren Types state plan wholes → AllByRecursion (λ (child : GraphChild). IsWhole p typing child.state) wholes
  children_whole ends wholes good grows h = absurd h
  children_whole (steps turns) wholes good grows h = turns_whole turns wholes good grows h
  children_whole (by_null x) wholes good grows h = null_wholes p typing state whole x wholes h
  children_whole (by_class x wanted) wholes good grows h = class_wholes p typing state whole k.laws x wanted grows wholes h
  children_whole (by_equal x y) wholes good grows h = equal_wholes p typing state whole k.laws x y good.1 good.0 wholes h

  pub children_grow : DroppedStatesReachAll → (children : List GraphChild) → AreExpanded Types state (plan_of p typing state)
      children → AllByRecursion (λ (child : GraphChild). IsGrowing p typing child.state) children
  children_grow law children h =
      all_grow law p typing h.wholes children
      (children_whole (plan_of p typing state) h.wholes (plan_is_good p typing state k.good g.good.sound) plan_grows h.are) h.lean
