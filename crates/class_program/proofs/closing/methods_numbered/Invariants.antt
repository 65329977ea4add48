use Rattle.std.proofs.Common.{◌≡◌}
use Rattle.std.specs.Prelude.{map}
use Rattle.class_program.specs.Reached.{method_numbered}
use Rattle.class_program.specs.Widths.{AreMethodsInWidth}
use Rattle.class_program.proofs.closing.methods_numbered.Given as goal

abbrev pub invariant-loop-method : goal.invariant-loop-method
invariant-loop-method l = (l.done ≡ map (method_numbered l.refs l.statics) l.yielded) × AreMethodsInWidth l.done
