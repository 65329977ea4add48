use Rattle.std.proofs.Common.{◌∙◌, sym}
use Rattle.descent.proofs.Checked.{dead_told, dead_none, over_at}
use Rattle.descent.proofs.Ranked.{rule_fits}
use Rattle.descent.proofs.steps.dead_step.Goals as goal

pub dead-requires-clause-rule : goal.dead-requires-clause-rule
dead-requires-clause-rule c = rule_fits c.args.rules.now c.args.number c.in-Some.rule.now c.requires.rules c.in-Some.ensures

pub dead-requires-clause-vars : goal.dead-requires-clause-vars
dead-requires-clause-vars c = over_at _ c.args.rules.now c.args.number c.in-Some.rule.now c.requires.room c.in-Some.ensures

pub returns-in-Some-clause-fault : goal.returns-in-Some-clause-fault
returns-in-Some-clause-fault c = dead_told _ _ c.args.number c.in-Some.rule.now c.args.multipliers.now _
    (sym c.has.ensures ∙ c.if-not-has.false) c.in-Some.ensures c.dead.ensures.fault

pub returns-in-None-clause-fault : goal.returns-in-None-clause-fault
returns-in-None-clause-fault c = dead_none _ _ c.args.number c.args.multipliers.now (sym c.has.ensures ∙ c.if-not-has.false)
    c.in-None.ensures
