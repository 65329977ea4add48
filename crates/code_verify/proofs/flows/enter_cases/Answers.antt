use Rattle.std.proofs.Common.{◌≡◌, length, arith, refl, map, List}
use Rattle.frame_types.proofs.GrowthLaws.{grown_none}
use Rattle.jvm_values.specs.States.{types_of as seen}
use Rattle.class_program.specs.code_forms.declared.insn.Case.{Case}
use Rattle.code_verify.specs.Flows.{onward}
use Rattle.code_verify.proofs.WorldOf.{laws_at}
use Rattle.code_verify.proofs.FlowLaws.{cases_add, came, did_not_come, next_comes, next_refuses, all_came}
use Rattle.code_verify.proofs.flows.enter_cases.Goals as goal

pub loop-case-init : goal.loop-case-init
loop-case-init c = grown_none _ (laws_at c.args.world.now) _ c.requires.table

pub returns-then-not-entered : goal.returns-then-not-entered
returns-then-not-entered c =
    next_refuses _ (laws_at c.args.world.now) (λ (cs : List Case). onward (seen c.args.frame.now) (map (λ (x : Case). x.target) cs))
    (cases_add (seen c.args.frame.now)) c.args.cases.now c.loop-case.case-index _ _ _ (omega (arith, c.loop-case-test.true))
    c.loop-case.invariant
    (did_not_come _ (laws_at c.args.world.now) _ _ _ _ c.if-not-entered.true c.in_ok-entered.ensures)

pub loop-case-preserved : goal.loop-case-preserved
loop-case-preserved c =
    next_comes _ (laws_at c.args.world.now) (λ (cs : List Case). onward (seen c.args.frame.now) (map (λ (x : Case). x.target) cs))
    (cases_add (seen c.args.frame.now)) c.args.cases.now c.loop-case.case-index _ _ _ _ (omega (arith, c.loop-case-test.true))
    c.loop-case.invariant
    (came _ (laws_at c.args.world.now) _ _ _ _ c.if-not-entered.false c.in_ok-entered.ensures)

pub returns : goal.returns
returns c =
    let e : c.loop-case.case-index ≡ length c.args.cases.now = omega (arith, c.loop-case-test.false) in
    all_came _ (laws_at c.args.world.now) (λ (cs : List Case). onward (seen c.args.frame.now) (map (λ (x : Case). x.target) cs))
    (cases_add (seen c.args.frame.now)) c.args.cases.now c.loop-case.case-index _ _ e c.loop-case.invariant
