use Rattle.std.proofs.Common.{arith}
use Rattle.class_world.specs.Linking.{rule_of}
use Rattle.class_world.proofs.Rules.{passed_on, refuses_here, broken_kept, broken_never}
use Rattle.class_world.proofs.linking.Hierarchy.keeps.Goals as goal

pub returns-in_err-keeps_at : goal.returns-in_err-keeps_at
returns-in_err-keeps_at c = passed_on _ _ _ c.from_residual.ensures.1
    (refuses_here (rule_of c.args.rule c.args.self.now.roster.now.classes) c.args.self.now.roster.now.classes c.loop-class.class
    c.in_err-keeps_at.field-0.0 (omega (arith, c.len-class-end.ensures)) c.loop-class.invariant c.in_err-keeps_at.ensures)

pub loop-class-preserved : goal.loop-class-preserved
loop-class-preserved c = broken_kept (rule_of c.args.rule c.args.self.now.roster.now.classes) c.args.self.now.roster.now.classes
    c.loop-class.class (omega (arith, c.len-class-end.ensures)) c.loop-class.invariant c.in_ok-keeps_at.ensures

pub returns : goal.returns
returns c = broken_never (rule_of c.args.rule c.args.self.now.roster.now.classes) c.args.self.now.roster.now.classes
    c.loop-class.class (omega (arith, c.len-class-end.ensures)) c.loop-class.invariant
