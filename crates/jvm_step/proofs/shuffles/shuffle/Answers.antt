use Rattle.op_forms.specs.declared.form.Shuffle.TheVariants as shuffles
use Rattle.jvm_step.proofs.Wanted.{longer_as, dup_longer, dup_x1_longer, dup_x2_longer, dup2_longer, dup2_x1_longer, dup2_x2_longer}
use Rattle.jvm_step.proofs.shuffles.shuffle.Goals as goal

pub returns-in-Dup-clause-full : goal.returns-in-Dup-clause-full
returns-in-Dup-clause-full c = longer_as c.args.shuffle shuffles.Dup c.args.frame.now.stack.1 c.args.frame.now.stack.0 c.dup.result
    c.in-Dup.is (dup_longer c.args.frame.now.stack.1 c.args.frame.now.stack.0) c.dup.ensures.memory

pub returns-in-DupX1-clause-full : goal.returns-in-DupX1-clause-full
returns-in-DupX1-clause-full c = longer_as c.args.shuffle shuffles.DupX1 c.args.frame.now.stack.1 c.args.frame.now.stack.0
    c.dup_x1.result c.in-DupX1.is (dup_x1_longer c.args.frame.now.stack.1 c.args.frame.now.stack.0) c.dup_x1.ensures.memory

pub returns-in-DupX2-clause-full : goal.returns-in-DupX2-clause-full
returns-in-DupX2-clause-full c = longer_as c.args.shuffle shuffles.DupX2 c.args.frame.now.stack.1 c.args.frame.now.stack.0
    c.dup_x2.result c.in-DupX2.is (dup_x2_longer c.args.frame.now.stack.1 c.args.frame.now.stack.0) c.dup_x2.ensures.memory

pub returns-in-Dup2-clause-full : goal.returns-in-Dup2-clause-full
returns-in-Dup2-clause-full c = longer_as c.args.shuffle shuffles.Dup2 c.args.frame.now.stack.1 c.args.frame.now.stack.0
    c.dup2.result c.in-Dup2.is (dup2_longer c.args.frame.now.stack.1 c.args.frame.now.stack.0) c.dup2.ensures.memory

pub returns-in-Dup2X1-clause-full : goal.returns-in-Dup2X1-clause-full
returns-in-Dup2X1-clause-full c = longer_as c.args.shuffle shuffles.Dup2X1 c.args.frame.now.stack.1 c.args.frame.now.stack.0
    c.dup2_x1.result c.in-Dup2X1.is (dup2_x1_longer c.args.frame.now.stack.1 c.args.frame.now.stack.0) c.dup2_x1.ensures.memory

pub returns-in-Dup2X2-clause-full : goal.returns-in-Dup2X2-clause-full
returns-in-Dup2X2-clause-full c = longer_as c.args.shuffle shuffles.Dup2X2 c.args.frame.now.stack.1 c.args.frame.now.stack.0
    c.dup2_x2.result c.in-Dup2X2.is (dup2_x2_longer c.args.frame.now.stack.1 c.args.frame.now.stack.0) c.dup2_x2.ensures.memory
