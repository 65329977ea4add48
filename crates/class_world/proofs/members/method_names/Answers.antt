use Rattle.class_world.specs.inner.Index.{method_key}
use Rattle.class_world.proofs.Keys.{names_more}
use Rattle.class_world.proofs.members.method_names.Goals as goal

pub loop-method-preserved : goal.loop-method-preserved
loop-method-preserved c = names_more method_key c.args.methods.now c.loop-method.method-index c.method-item.result
    c.method-item.result _ _ _ c.requires c.loop-method-test.true c.method-item.is c.loop-method.invariant c.in_ok-add.ensures.keys
    c.in_ok-add.ensures.was_there
