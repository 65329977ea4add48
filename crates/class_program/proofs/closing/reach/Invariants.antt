use Rattle.std.proofs.Common.{◌-◌, length}
use Rattle.class_world.specs.Worlds.{classes_of}
use Rattle.class_program.specs.Reached.{method_count}
use Rattle.class_program.specs.inner.Rows.{AreRows}
use Rattle.class_program.proofs.GoingThrough.{IsReaching}
use Rattle.class_program.proofs.closing.reach.Given as goal

abbrev pub invariant-loop-next : goal.invariant-loop-next
invariant-loop-next l = IsReaching (classes_of l.world) l.fn.entry l.refs l.methods × AreRows (classes_of l.world) l.rows

abbrev pub decreases-loop-next : goal.decreases-loop-next
decreases-loop-next l = method_count (classes_of l.world) - length l.methods
