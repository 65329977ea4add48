use Rattle.asm_lines.specs.Operations.{cases_of}
use Rattle.asm_lines.proofs.Cases.{step}
use Rattle.asm_lines.proofs.operation.cases_of.Goals as goal

pub loop-key-preserved : goal.loop-key-preserved
loop-key-preserved c =
    rw c.in_ok-push.ensures.items (step c.args.line c.loop-key.cases c.loop-key.rest.now c.in-Some.key.now c.in-Some.after.now
    c.in_ok-label.label.now c.in_ok-label.after.now c.in_ok-key.key c.in_ok-copy.field-0
    (cases_of c.args.line c.args.words.now) c.in-Some.ensures.cases.0 c.in_ok-label.ensures c.in_ok-key.ensures
    c.in_ok-copy.ensures c.loop-key.invariant)
