-- A plan that a call makes is what a definition says, where both are equal.
use Rattle.std.proofs.Common.{◌≡◌, ◌∙◌, ℕ, List, [], ◌∷◌, Some, None, refl, sym, ap, subst}
use Rattle.std.specs.Prelude.{Result, IfOk}
use Rattle.std.proofs.lemmas.Option.{none-some}
use Rattle.jvm_values.specs.declared.typing.PlaceType.{PlaceType}
use Rattle.jvm_values.specs.TypedHeaps.{WorldTypes}
use Rattle.jvm_values.proofs.Options.{some_is}
use Rattle.abs_cells.specs.AbstractStates.{AbstractState}
use Rattle.abs_turns.specs.op_forms.declared.form.Form.{Form as FormSeen}
use Rattle.abs_turns.specs.op_forms.Forms.{Form, form_seen}
use Rattle.abs_turns.specs.declared.plans.Plan.{Plan as PlanSeen}
use Rattle.abs_turns.specs.Plans.{Plan}
use Rattle.abs_turns.specs.PlansSeen.{plan_seen}
use Rattle.abs_turns.specs.Needs.{Passing, passes, fails, splits, passing_id, after_test, tested, operands_of}
use Rattle.abs_turns.specs.Turns.{Here}
use Rattle.abs_turns.specs.Table.{types_here, row_of, taken_by, plan_of_form}
use Rattle.abs_turns.specs.Stops.{or_next, stop_of, first_stop}
use Rattle.abs_turns.specs.GoodPlans.{IsGoodPlan}
use Rattle.abs_turns.proofs.OptionLists.{if_ok}

pub made_is : {E : Type 0} (made said : Plan) (result : Result PlanSeen E) → made ≡ said
    → IfOk result (λ plan. plan_seen plan ≡ made) → IfOk result (λ plan. plan_seen plan ≡ said)
made_is made said result e h = if_ok (λ plan. plan_seen plan ≡ made) (λ plan. plan_seen plan ≡ said) result (λ plan f. f ∙ e) h

-- and good, where what is said is
pub good_is : {E : Type 0} (types : WorldTypes) (state : AbstractState) (said : Plan) (result : Result PlanSeen E)
    → IsGoodPlan types state said → IfOk result (λ plan. plan_seen plan ≡ said)
    → IfOk result (λ plan. IsGoodPlan types state (plan_seen plan))
good_is types state said result good h = if_ok (λ plan. plan_seen plan ≡ said) (λ plan. IsGoodPlan types state (plan_seen plan))
    result (λ plan f. subst (IsGoodPlan types state) (sym f) good) h

-- ---- operands that are tested

-- the first operand that doesn't pass decides
pub tested_stops : (types : WorldTypes) (state : AbstractState) (operands : List (PlaceType × ℕ)) (plan stop : Plan)
    → first_stop types state operands ≡ Some stop → tested types state operands plan ≡ stop
tested_stops types state [] plan stop e = absurd (none-some stop e)
tested_stops types state (operand ∷ operands) plan stop e = at (passing_id types state operand.0 operand.1) e
    (tested_stops types state operands plan stop)
  where
    at : (p : Passing) → or_next (stop_of p operand.1) (first_stop types state operands) ≡ Some stop
        → (first_stop types state operands ≡ Some stop → tested types state operands plan ≡ stop)
        → after_test p operand.1 (tested types state operands plan) ≡ stop
    at passes f rest = rest f
    at fails f rest = some_is f
    at splits f rest = some_is f

-- and where all pass the row comes
pub tested_passes : (types : WorldTypes) (state : AbstractState) (operands : List (PlaceType × ℕ)) (plan : Plan)
    → first_stop types state operands ≡ None → tested types state operands plan ≡ plan
tested_passes types state [] plan e = refl
tested_passes types state (operand ∷ operands) plan e = at (passing_id types state operand.0 operand.1) e
    (tested_passes types state operands plan)
  where
    at : (p : Passing) → or_next (stop_of p operand.1) (first_stop types state operands) ≡ None
        → (first_stop types state operands ≡ None → tested types state operands plan ≡ plan)
        → after_test p operand.1 (tested types state operands plan) ≡ plan
    at passes f rest = rest f
    at fails f rest = absurd (none-some _ (sym f))
    at splits f rest = absurd (none-some _ (sym f))

-- ---- forms

pub form_stops : (here : Here) (form : Form) (count : ℕ) (stack : List ℕ) (stop : Plan) → count ≡ taken_by form
    → stack ≡ here.frame.stack → Some stop ≡ first_stop (types_here here) here.state (operands_of count here.places stack)
    → stop ≡ plan_of_form here form
form_stops here form count stack stop e f h =
    sym (tested_stops (types_here here) here.state (operands_of (taken_by form) here.places here.frame.stack) (row_of here form) stop
    (ap (λ (k : ℕ). first_stop (types_here here) here.state (operands_of k here.places here.frame.stack)) (sym e)
    ∙ ap (λ (s : List ℕ). first_stop (types_here here) here.state (operands_of count here.places s)) (sym f)
    ∙ sym h))

pub form_goes_on : (here : Here) (form : Form) (count : ℕ) (stack : List ℕ) → count ≡ taken_by form → stack ≡ here.frame.stack
    → None ≡ first_stop (types_here here) here.state (operands_of count here.places stack) → row_of here form ≡ plan_of_form here form
form_goes_on here form count stack e f h =
    sym (tested_passes (types_here here) here.state (operands_of (taken_by form) here.places here.frame.stack) (row_of here form)
    (ap (λ (k : ℕ). first_stop (types_here here) here.state (operands_of k here.places here.frame.stack)) (sym e)
    ∙ ap (λ (s : List ℕ). first_stop (types_here here) here.state (operands_of count here.places s)) (sym f)
    ∙ sym h))

-- the row of a form that is found
pub row_made : {E : Type 0} (here : Here) (form found : FormSeen) (made : Plan) (result : Result PlanSeen E) → form ≡ found
    → made ≡ row_of here (form_seen found) → IfOk result (λ plan. plan_seen plan ≡ made)
    → IfOk result (λ plan. plan_seen plan ≡ row_of here (form_seen form))
row_made here form found made result e f h = made_is made (row_of here (form_seen form)) result
    (f ∙ ap (λ (x : FormSeen). row_of here (form_seen x)) (sym e)) h
