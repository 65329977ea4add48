use Rattle.std.proofs.Common.{◌∙◌, ap, sym, Bool, cond, None, Some}
use Rattle.lin_core.specs.Weights.{unweighed}
use Rattle.descent.specs.declared.faults.DescentFault.TheVariants.{NotStrict}
use Rattle.descent.specs.Rankings.{minus_one}
use Rattle.descent.proofs.Adding.{need_told}
use Rattle.descent.proofs.Checked.{leaves_one}
use Rattle.descent.proofs.needs.dead.Goals as goal

pub returns-then-leaves-clause-fault : goal.returns-then-leaves-clause-fault
returns-then-leaves-clause-fault c =
    let need = need_told c.leaves.result (NotStrict c.args.number) unweighed c.args.rule.now _ minus_one c.args.multipliers.now
    c.combined.new.scratch c.requires.rule tt (leaves_one c.leaves.result c.combined.new.scratch c.leaves.ensures)
    c.in_ok-combined.ensures.sum c.in_ok-combined.ensures.fault in
    sym (need ∙ ap (λ (b : Bool). cond b None (Some (NotStrict c.args.number))) c.if-leaves.true)

pub returns-else-leaves-clause-fault : goal.returns-else-leaves-clause-fault
returns-else-leaves-clause-fault c =
    let need = need_told c.leaves.result (NotStrict c.args.number) unweighed c.args.rule.now _ minus_one c.args.multipliers.now
    c.combined.new.scratch c.requires.rule tt (leaves_one c.leaves.result c.combined.new.scratch c.leaves.ensures)
    c.in_ok-combined.ensures.sum c.in_ok-combined.ensures.fault in
    sym (need ∙ ap (λ (b : Bool). cond b None (Some (NotStrict c.args.number))) c.if-leaves.false)
