use Rattle.std.proofs.Common.{◌≡◌}
use Rattle.class_program.specs.Reached.{insns_numbered}
use Rattle.class_program.proofs.closing.items_numbered.Given as goal

abbrev pub invariant-loop-pc : goal.invariant-loop-pc
invariant-loop-pc l = l.done ≡ insns_numbered l.refs l.statics l.yielded
