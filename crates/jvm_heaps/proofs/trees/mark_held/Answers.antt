use Rattle.jvm_heaps.proofs.Ways.{none_marks, none_new}
use Rattle.jvm_heaps.proofs.trees.mark_held.Goals as goal

pub returns-else-is_inside-clause-marks : goal.returns-else-is_inside-clause-marks
returns-else-is_inside-clause-marks c = none_marks c.args.is_inside c.args.object.now c.args.named.now.items c.if-is_inside.false

pub returns-else-is_inside-clause-new : goal.returns-else-is_inside-clause-new
returns-else-is_inside-clause-new c = none_new c.args.is_inside c.args.object.now c.args.named.now.items c.args.new c.if-is_inside.false
