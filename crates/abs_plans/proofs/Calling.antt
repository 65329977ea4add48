-- Calls and returns: what is selected, and where a caller goes on.
use Rattle.std.proofs.Common.{◌≡◌, ◌∙◌, ◌<◌, ◌++◌, ℕ, Bool, if◌then◌else◌, List, [], ◌∷◌, length, reverse, take, drop, slice_get}
use Rattle.std.proofs.Common.{Option, Some, None, refl, sym, ap}
use Rattle.std.specs.Prelude.{Result, IfOk, option_and_then}
use Rattle.std.specs.Option.{option_map, option_map_or, option_to_list}
use Rattle.list_views.proofs.Orders.{nat_lt_from}
use Rattle.jvm_values.proofs.Options.{some_is}
use Rattle.abs_cells.specs.AbstractStates.{AbstractFrame}
use Rattle.class_program.specs.declared.op.Op.{Op}
use Rattle.class_program.specs.declared.op.Call.{Call}
use Rattle.class_program.specs.declared.program.Method.{Method}
use Rattle.class_program.specs.declared.selected.Selected.{Selected}
use Rattle.class_program.specs.Programs.{Program, refs_of, insn_at}
use Rattle.class_program.specs.Selected.{selection_at, selected_in, selected_for}
use Rattle.abs_turns.specs.op_forms.Forms.{Form, form_of}
use Rattle.abs_turns.specs.jvm_step.Effects.{answer_of}
use Rattle.abs_turns.proofs.jvm_step.CallOps.{virtual_op, interface_op}
use Rattle.abs_turns.specs.declared.plans.Plan.{Plan as PlanSeen}
use Rattle.abs_turns.specs.Plans.{ends, no_child}
use Rattle.abs_turns.specs.PlansSeen.{plan_seen}
use Rattle.abs_turns.specs.Turns.{Here, moves, with_stack}
use Rattle.abs_turns.specs.Table.{one_step, step_if, called_frame, invokes, returned_to, selecting_plan, row_of}
use Rattle.abs_plans.proofs.MadePlans.{made_is}

-- what a call selects in a program that is seen as another one, for a class of its world
pub selects : (p q : Program) (op : Op) (class found : ℕ) (answer : Option Selected) → p ≡ q → class ≡ found
    → class < length q.world → answer ≡ selected_for p op class → answer ≡ answer_of q op found
unfolding answer_of selected_for
selects p q op class found answer e f l h =
    h ∙ ap (λ (r : Program). selected_for r op class) e
    ∙ ap (λ (b : Bool). if b then option_and_then (selected_in (refs_of q.methods)) (selection_at q.world op class) else None)
    (nat_lt_from class (length q.world) l)
    ∙ ap (λ (n : ℕ). option_and_then (selected_in (refs_of q.methods)) (selection_at q.world op n)) f

-- the instruction of a call that selects is that call
pub virtual_row : (here : Here) (op : Op) (call : Call) → form_of op ≡ Some (Form.Invokevirtual call)
    → selecting_plan here op call ≡ row_of here (Form.Invokevirtual call)
virtual_row here op call e = ap (λ (o : Op). selecting_plan here o call) (some_is (virtual_op (Some op) call e))

pub interface_row : (here : Here) (op : Op) (call : Call) → form_of op ≡ Some (Form.Invokeinterface call)
    → selecting_plan here op call ≡ row_of here (Form.Invokeinterface call)
interface_row here op call e = ap (λ (o : Op). selecting_plan here o call) (some_is (interface_op (Some op) call e))

-- ---- methods that run

pub runs_method : (here : Here) (count number : ℕ) (m : Method) → Some m ≡ slice_get here.program.methods number
    → one_step (moves (called_frame number m (reverse (take count here.frame.stack)) ∷ with_stack here here.frame.pc
    (drop count here.frame.stack))) ≡ invokes here count number
runs_method here count number m e = ap
    (λ (o : Option Method). option_map_or
    (λ (x : Method). one_step
    (moves (called_frame number x (reverse (take count here.frame.stack)) ∷ with_stack here here.frame.pc
    (drop count here.frame.stack)))) o no_child) e

pub lacks_method : (here : Here) (count number : ℕ) → None ≡ slice_get here.program.methods number → no_child ≡ invokes here count number
lacks_method here count number e = ap
    (λ (o : Option Method). option_map_or
    (λ (x : Method). one_step
    (moves (called_frame number x (reverse (take count here.frame.stack)) ∷ with_stack here here.frame.pc
    (drop count here.frame.stack)))) o no_child) e

-- ---- returns

module _ (here : Here) (value : Option ℕ) where
  -- with no caller the run ends
  pub returns_from_all : (below : List AbstractFrame) → below ≡ [] → ends ≡ returned_to here value below
  returns_from_all below e = ap (returned_to here value) (sym e)

  pub returns_to : {E : Type 0} (below rest : List AbstractFrame) (caller : AbstractFrame) (result : Result PlanSeen E)
      → below ≡ caller ∷ rest → IfOk result (λ plan. plan_seen plan ≡ returned_to here value (caller ∷ rest))
      → IfOk result (λ plan. plan_seen plan ≡ returned_to here value below)
  returns_to below rest caller result e h = made_is (returned_to here value (caller ∷ rest)) (returned_to here value below) result
      (ap (returned_to here value) (sym e)) h

  -- a caller with an instruction behind its call, and one without
  pub goes_on_there : (rest : List AbstractFrame) (caller : AbstractFrame) (found : Option ℕ) (place : ℕ)
      → found ≡ option_and_then (λ found. found.1) (insn_at here.program.methods caller.method caller.pc) → found ≡ Some place
      → one_step (moves (record caller { pc = place; stack = option_to_list value ++ caller.stack } ∷ rest)) ≡ returned_to here
      value (caller ∷ rest)
  goes_on_there rest caller found place e f = ap
      (λ (o : Option ℕ). step_if
      (option_map (λ place. moves (record caller { pc = place; stack = option_to_list value ++ caller.stack } ∷ rest)) o)) (sym f ∙ e)

  pub goes_nowhere : (rest : List AbstractFrame) (caller : AbstractFrame) (found : Option ℕ)
      → found ≡ option_and_then (λ found. found.1) (insn_at here.program.methods caller.method caller.pc) → found ≡ None
      → step_if None ≡ returned_to here value (caller ∷ rest)
  goes_nowhere rest caller found e f = ap
      (λ (o : Option ℕ). step_if
      (option_map (λ place. moves (record caller { pc = place; stack = option_to_list value ++ caller.stack } ∷ rest)) o)) (sym f ∙ e)
