use Rattle.std.proofs.Common.{rules}
use Rattle.abs_expand.specs.Children.{IsLean}
use Rattle.abs_expand.proofs.ZipLists.{pushed}
use Rattle.abs_expand.proofs.splitting.lean_children.Goals as goal

pub loop-child-preserved : goal.loop-child-preserved
loop-child-preserved g c = record {
  good = search rules;
  done = pushed IsLean c.loop-child.yielded c.loop-child.made _ c.in-Some.child c.lean_child.result c.in_ok-push.ensures.items
      c.loop-child.invariant.done c.lean_child.ensures;
}
