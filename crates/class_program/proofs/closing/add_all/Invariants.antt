use Rattle.std.proofs.Common.{◌≡◌, drop}
use Rattle.class_program.specs.Reached.{with_new}
use Rattle.class_program.proofs.closing.add_all.Given as goal

abbrev pub invariant-loop-method : goal.invariant-loop-method
invariant-loop-method l = with_new l.refs (drop l.method-index l.found) ≡ with_new l.initial.refs l.found
