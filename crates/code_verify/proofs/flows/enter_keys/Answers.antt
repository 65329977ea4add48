use Rattle.std.proofs.Common.{refl, ap, map}
use Rattle.std.specs.Option.{option_to_list}
use Rattle.class_program.specs.code_forms.declared.insn.Case.{Case}
use Rattle.code_verify.proofs.WorldOf.{laws_at}
use Rattle.code_verify.proofs.FlowLaws.{onward_two, came, did_not_come, first_refuses, both_answer}
use Rattle.code_verify.proofs.flows.enter_keys.Goals as goal

pub returns-then-not-entered : goal.returns-then-not-entered
returns-then-not-entered c =
    first_refuses _ (laws_at c.args.world.now) _ _ _ c.args.table.now
    (did_not_come _ (laws_at c.args.world.now) _ _ c.args.table.now _ c.if-not-entered.true c.in_ok-entered.ensures)
    (onward_two _ _ _ _ _ c.table_targets.ensures refl)

pub returns : goal.returns
returns c =
    both_answer _ (laws_at c.args.world.now) _ _ _ _ _ _ _
    (came _ (laws_at c.args.world.now) _ _ _ _ c.if-not-entered.false c.in_ok-entered.ensures)
    (onward_two _ _ _ _ _ c.table_targets.ensures (ap (map (λ (x : Case). x.target)) c.lookup_cases.ensures)) c.enter_cases.ensures
