use Rattle.path_rules.proofs.PatternNames.{all_classes}
use Rattle.path_rules.proofs.sizes.+push_classes.Goals as goal

pub returns-after-loop-child : goal.returns-after-loop-child
returns-after-loop-child t c =
    all_classes c.args.pattern.now c.in-Node.class c.in-Node.children c.deref-child-items.result.now c.loop-child.child-index
    c.loop-child.names c.push.new.self c.args.names.now c.in-Node.is
    c.deref-child-items.ensures.value c.loop-child-test.false c.in_ok-push-in-Node.ensures.items c.loop-child.invariant
