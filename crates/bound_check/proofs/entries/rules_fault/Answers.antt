use Rattle.std.proofs.Common.{sym, subst}
use Rattle.descent.specs.declared.rules.PathRule.{PathRule}
use Rattle.descent.specs.Conditions.{IsRule}
use Rattle.bound_check.proofs.entries.rules_fault.Goals as goal

pub outer_fault-fault-requires-clause-rule : goal.outer_fault-fault-requires-clause-rule
outer_fault-fault-requires-clause-rule g c = subst (λ (r : PathRule). IsRule r) (sym c.index-rules-number.is)
    (c.requires.rules c.loop-number.number c.index-rules-number.result c.loop-number-test.true)
