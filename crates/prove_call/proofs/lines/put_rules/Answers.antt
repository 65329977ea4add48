use Rattle.std.proofs.Common.{refl}
use Rattle.class_program.specs.Views.{program_of}
use Rattle.call_graph.proofs.Rows.{flat_step}
use Rattle.prove_call.specs.Lines.{rule_line}
use Rattle.prove_call.proofs.lines.put_rules.Goals as goal

pub loop-rule-preserved : goal.loop-rule-preserved
loop-rule-preserved g c = flat_step (rule_line (program_of c.args.program.now) c.args.graph.now) c.args.left.now
    c.loop-rule.rule-index _ c.loop-rule.text c.put_rule.new.text _ _ c.loop-rule.invariant c.loop-rule-test.true refl
    c.in_ok-put_rule.ensures
