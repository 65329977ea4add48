use Rattle.std.proofs.Common.{length}
use Rattle.code_verify.proofs.operands.+take_arguments.Given as goal

abbrev pub decreases-take_arguments : goal.decreases-take_arguments
decreases-take_arguments l = length l.params.now
