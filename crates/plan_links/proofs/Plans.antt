-- Each step of a good state's plan keeps the sorts of ids and has rows such as the rules of paths take.
use Rattle.std.proofs.Common.{◌≡◌, ◌∙◌, ℕ, List, [], ◌∷◌, Option, Some, None, slice_get, filter}
use Rattle.std.proofs.Common.{refl, sym, ap, subst}
use Rattle.std.specs.List.{find}
use Rattle.std.specs.Option.{option_map_or}
use Rattle.jvm_values.specs.declared.typing.PlaceType.{PlaceType}
use Rattle.jvm_values.specs.declared.typing.PlaceType.TheVariants as places
use Rattle.jvm_values.specs.Subtyping.{class_type}
use Rattle.jvm_values.specs.TypedHeaps.{WorldTypes}
use Rattle.jvm_values.specs.States.{PlaceTypes}
use Rattle.jvm_run.proofs.Placed.{Placed, placed}
use Rattle.jvm_run.proofs.Stepping.{insn_there}
use Rattle.abs_cells.specs.AbstractStates.{AbstractFrame, AbstractState}
use Rattle.abs_ints.proofs.OperatorCases.{if_either}
use Rattle.class_program.specs.class_world.BuiltIns.{throwable}
use Rattle.class_program.specs.class_world.WorldTypes.{types_of}
use Rattle.class_program.specs.declared.op.Op.{Op}
use Rattle.class_program.specs.declared.program.CatchRange.{CatchRange}
use Rattle.class_program.specs.declared.program.Method.{Method}
use Rattle.class_program.specs.Programs.{Program, insn_at}
use Rattle.class_program.specs.Widths.{HasWidths}
use Rattle.jvm_run.specs.OpFormsForms.{Form, form_of}
use Rattle.jvm_run.proofs.OpFormsWidths.{forms_wide}
use Rattle.frame_types.specs.Tables.{CodeTypes}
use Rattle.jvm_run.specs.code_verify.Flows.{covers}
use Rattle.jvm_run.specs.code_verify.Typings.{IsTypingOf}
use Rattle.abs_expand.specs.BadStates.{HasStackOf, HasRunningStack, IsRunningPlaced, ArePlaced, statics_under, IsGoodState}
use Rattle.abs_expand.specs.Expansions.{plan_here, plan_in, plan_of}
use Rattle.abs_expand.specs.Needs.{Passing, passes, fails, splits, after_test, passing_id, tested, operands_of, split_below}
use Rattle.abs_expand.specs.Plans.{Plan}
use Rattle.abs_expand.specs.Table.{taken_by, row_of, plan_of_form}
use Rattle.abs_expand.specs.Throwing.{takes, handled, is_open, caught_plan, if_passes, throwing_plan}
use Rattle.abs_expand.specs.Turns.{Here}
use Rattle.plan_links.proofs.FitTurns.{AreFit, bare}
use Rattle.plan_links.proofs.Forms.{split_below_fit, IsTypedForm, row_fit}
use Rattle.plan_links.proofs.Operands.{local_int}

-- ---- tests of operands

tested_fit : (types : WorldTypes) (state : AbstractState) (operands : List (PlaceType × ℕ)) (plan : Plan) → AreFit state plan
    → AreFit state (tested types state operands plan)
tested_fit types state [] plan h = h
tested_fit types state (operand ∷ operands) plan h = at (passing_id types state operand.0 operand.1)
    (tested types state operands plan) (tested_fit types state operands plan h)
  where
    at : (passing : Passing) (next : Plan) → AreFit state next → AreFit state (after_test passing operand.1 next)
    at passes next k = k
    at fails next k = tt
    at splits next k = tt

-- ---- a handler is looked for

handled_fit : (state : AbstractState) (x : ℕ) (frame : AbstractFrame) (below : List AbstractFrame) (range : Option CatchRange)
    → AreFit state (handled x frame below range)
handled_fit state x frame below (Some range) = (bare state _ tt refl, tt)
handled_fit state x frame [] None = tt
handled_fit state x frame (caller ∷ below) None = (bare state _ tt refl, tt)

caught_fit : (types : WorldTypes) (state : AbstractState) (x : ℕ) (frame : AbstractFrame) (below : List AbstractFrame)
    (ranges : List CatchRange) → AreFit state (caught_plan types state x frame below ranges)
caught_fit types state x frame below ranges =
    if_either (AreFit state) (is_open types state x ranges) (split_below state x (places.Ref (class_type throwable)))
    (handled x frame below (find (takes types state x) ranges))
    (λ e. split_below_fit state x (places.Ref (class_type throwable)))
    (λ e. handled_fit state x frame below (find (takes types state x) ranges))

passed_fit : (state : AbstractState) (passing : Passing) (plan : Plan) → AreFit state plan → AreFit state (if_passes passing plan)
passed_fit state passes plan h = h
passed_fit state fails plan h = tt
passed_fit state splits plan h = tt

throwing_fit : (types : WorldTypes) (state : AbstractState) (x : ℕ) (frame : AbstractFrame) (below : List AbstractFrame)
    (table : List CatchRange) → AreFit state (throwing_plan types state x frame below table)
throwing_fit types state x frame below table = passed_fit state (passing_id types state (places.Ref (class_type throwable)) x) _
    (caught_fit types state x frame below (filter (covers frame.pc) table))

-- ---- the plan of a state of the program's typing

module _ (p : Program) (typing : ℕ → CodeTypes) (state : AbstractState) (widths : HasWidths p) (good : IsGoodState p typing state) where
  stack_of : (places_ : List PlaceType) (stack : List ℕ) (thrown : Option ℕ) → thrown ≡ None
      → HasRunningStack state thrown places_ stack → HasStackOf state places_ stack
  stack_of places_ stack None e h = h
  stack_of places_ stack (Some x) e h = absurd cc

  module _ (frame : AbstractFrame) (below : List AbstractFrame) (frames_are : state.frames ≡ frame ∷ below)
      (unthrown : state.throwing ≡ None) where
    -- the state stands at a form, with the typing's types there
    abbrev stands : List PlaceType → Option ℕ → Here
    stands places_ next = record {
      program = p;
      state = state;
      frame = frame;
      below = below;
      places = places_;
      next = option_map_or
          (λ place. place) next frame.pc;
    }

    running : IsRunningPlaced p typing state (statics_under p below) frame
    running = (subst (ArePlaced p typing state) frames_are good.placed).0

    form_fit : (op : Op) (next : Option ℕ) (form : Form) (places_ : List PlaceType)
        → insn_at p.methods frame.method frame.pc ≡ Some (op, next) → form_of op ≡ Some form
        → IsTypedForm p (stands places_ next) form → AreFit state (plan_of_form (stands places_ next) form)
    form_fit op next form places_ insn is typed =
        tested_fit (types_of p.world) state (operands_of (taken_by form) places_ frame.stack) (row_of (stands places_ next) form)
        (row_fit p (stands places_ next) good.sound form typed (forms_wide p widths frame.method frame.pc op next insn form is))

    -- the plan, by the instruction, its form and the types there
    abbrev plan_by : Option (Op × Option ℕ) → Option Form → Plan
    plan_by found form = plan_here p typing state frame below form (option_map_or (λ (x : Op × Option ℕ). x.1) found None)
        (typing frame.method frame.pc)

    plan_is : plan_of p typing state ≡ plan_by (insn_at p.methods frame.method frame.pc)
        (option_map_or (λ (x : Op × Option ℕ). form_of x.0) (insn_at p.methods frame.method frame.pc) None)
    plan_is = ap (λ (t : Option ℕ). plan_in p typing state t state.frames) unthrown
        ∙ ap (λ (frames : List AbstractFrame). plan_in p typing state None frames) frames_are

    -- the typing is the program's
    module _ (typing_is : IsTypingOf p typing) where
      at : Placed p running.placed.method (typing frame.method) frame.pc running.there
      at = placed p running.placed.method (typing frame.method) frame.pc running.there
          ((typing_is.each frame.method running.placed.method running.placed.is_method).is_typing.each frame.pc running.there
          running.placed.is_there)

      insn : insn_at p.methods frame.method frame.pc ≡ Some (at.op, at.next)
      insn = insn_there p frame.method frame.pc running.placed.method at.op at.next running.placed.is_method at.insn_is

      typed : IsTypedForm p (stands running.there.stack at.next) at.form
      typed = record {
        method = running.placed.method;
        there = running.there;
        after = at.after;
        types_are = at.types_are;
        stack = stack_of running.there.stack frame.stack state.throwing unthrown running.stack;
        locals = λ n x is given. local_int state running.there.locals running.placed.method.max_locals frame.locals n x
            running.placed.locals is given;
      }

      placed_is : plan_of p typing state ≡ plan_of_form (stands running.there.stack at.next) at.form
      placed_is =
          plan_is
          ∙ ap (λ (found : Option (Op × Option ℕ)). plan_by found (option_map_or (λ (x : Op × Option ℕ). form_of x.0) found None)) insn
          ∙ ap (plan_by (Some (at.op, at.next))) at.form_is
          ∙ ap (λ (found : Option PlaceTypes). plan_here p typing state frame below (Some at.form) at.next found) running.placed.is_there

      typed_fit : AreFit state (plan_of p typing state)
      typed_fit = subst (AreFit state) (sym placed_is) (form_fit at.op at.next at.form running.there.stack insn at.form_is typed)

  by_mode : (thrown : Option ℕ) (frames : List AbstractFrame) → IsTypingOf p typing → state.throwing ≡ thrown
      → state.frames ≡ frames → AreFit state (plan_of p typing state)
  by_mode thrown [] typing_is t f = subst (AreFit state) (sym (ap (plan_in p typing state state.throwing) f)) tt
  by_mode None (frame ∷ below) typing_is t f = typed_fit frame below f t typing_is
  by_mode (Some x) (frame ∷ below) typing_is t f =
      subst (AreFit state) (sym (ap (λ (thrown : Option ℕ). plan_in p typing state thrown state.frames) t
      ∙ ap (plan_in p typing state (Some x)) f))
      (throwing_fit (types_of p.world) state x frame below (option_map_or (λ (m : Method). m.table) (slice_get p.methods frame.method) []))

  pub plan_fit : IsTypingOf p typing → AreFit state (plan_of p typing state)
  plan_fit typing_is = by_mode state.throwing state.frames typing_is refl refl
