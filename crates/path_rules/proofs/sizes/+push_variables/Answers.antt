use Rattle.path_rules.specs.Rules.{variable_of}
use Rattle.path_rules.proofs.PatternNames.{all_variables}
use Rattle.path_rules.proofs.sizes.+push_variables.Goals as goal

pub returns-after-loop-child : goal.returns-after-loop-child
returns-after-loop-child g t c =
    all_variables (variable_of c.args.stop.now.first c.args.stop.now.node.state) c.args.pattern.now c.in-Node.field-0
    c.in-Node.children c.deref-child-items.result.now c.loop-child.child-index
    c.loop-child.names c.args.names.now c.in-Node.is c.deref-child-items.ensures.value c.loop-child-test.false c.loop-child.invariant
