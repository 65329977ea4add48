use Rattle.std.proofs.Common.{◌∙◌, map, sym, ap, subst}
use Rattle.class_program.specs.Views.{program_of}
use Rattle.class_program.specs.class_world.WorldTypes.{types_of}
use Rattle.abs_plans.specs.abs_turns.code_verify.Typings.{typing_at}
use Rattle.abs_plans.specs.abs_turns.Plans.{steps, by_null, by_class, by_equal}
use Rattle.abs_plans.specs.abs_turns.PlansSeen.{turn_seen, plan_seen}
use Rattle.abs_plans.specs.abs_turns.GoodPlans.{IsGoodPlan}
use Rattle.abs_expand.proofs.ChildLists.{plan_answer}
use Rattle.abs_expand.proofs.expanding.expand.Goals as goal

pub children-requires-clause-turns : goal.children-requires-clause-turns
children-requires-clause-turns g c = subst (IsGoodPlan (types_of (program_of c.args.program.now).world) c.args.state.now)
    (ap plan_seen c.in-Steps.is) c.in_ok-plan.ensures.good

pub null_children-requires-clause-nullable : goal.null_children-requires-clause-nullable
null_children-requires-clause-nullable g c = subst (IsGoodPlan (types_of (program_of c.args.program.now).world) c.args.state.now)
    (ap plan_seen c.in-ByNull.is) c.in_ok-plan.ensures.good

pub class_children-requires-clause-object : goal.class_children-requires-clause-object
class_children-requires-clause-object g c = subst (IsGoodPlan (types_of (program_of c.args.program.now).world) c.args.state.now)
    (ap plan_seen c.in-ByClass.is) c.in_ok-plan.ensures.good

pub equal_children-requires-clause-pair : goal.equal_children-requires-clause-pair
equal_children-requires-clause-pair g c = (subst (IsGoodPlan (types_of (program_of c.args.program.now).world) c.args.state.now)
    (ap plan_seen c.in-ByEqual.is) c.in_ok-plan.ensures.good).0

pub equal_children-requires-clause-differ : goal.equal_children-requires-clause-differ
equal_children-requires-clause-differ g c = (subst (IsGoodPlan (types_of (program_of c.args.program.now).world) c.args.state.now)
    (ap plan_seen c.in-ByEqual.is) c.in_ok-plan.ensures.good).1

pub returns-in-Ends : goal.returns-in-Ends
returns-in-Ends g c = (c.in_default.ensures, sym c.in_ok-plan.ensures.exact ∙ ap plan_seen c.in-Ends.is)

pub returns-in-Steps : goal.returns-in-Steps
returns-in-Steps g c =
    plan_answer (program_of c.args.program.now) (typing_at c.args.typing.now) c.args.state.now
    (steps (map turn_seen c.in-Steps.turns)) c.children.result c.in_default.ensures
    (sym (ap plan_seen c.in-Steps.is) ∙ c.in_ok-plan.ensures.exact) c.children.ensures

pub returns-in-ByNull : goal.returns-in-ByNull
returns-in-ByNull g c =
    plan_answer (program_of c.args.program.now) (typing_at c.args.typing.now) c.args.state.now (by_null c.in-ByNull.x)
    c.null_children.result c.in_default.ensures
    (sym (ap plan_seen c.in-ByNull.is) ∙ c.in_ok-plan.ensures.exact)
    (c.null_children.ensures (types_of (program_of c.args.program.now).world))

pub returns-in-ByClass : goal.returns-in-ByClass
returns-in-ByClass g c =
    plan_answer (program_of c.args.program.now) (typing_at c.args.typing.now) c.args.state.now
    (by_class c.in-ByClass.x c.in-ByClass.wanted) c.class_children.result c.in_default.ensures
    (sym (ap plan_seen c.in-ByClass.is) ∙ c.in_ok-plan.ensures.exact) c.class_children.ensures

pub returns-in-ByEqual : goal.returns-in-ByEqual
returns-in-ByEqual g c =
    plan_answer (program_of c.args.program.now) (typing_at c.args.typing.now) c.args.state.now
    (by_equal c.in-ByEqual.x c.in-ByEqual.y) c.equal_children.result c.in_default.ensures
    (sym (ap plan_seen c.in-ByEqual.is) ∙ c.in_ok-plan.ensures.exact) c.equal_children.ensures
