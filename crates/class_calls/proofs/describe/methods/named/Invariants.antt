use Rattle.std.specs.Prelude.{IfSome}
use Rattle.class_calls.specs.describe.Methods.{IsNamed}
use Rattle.class_calls.proofs.describe.methods.named.Given as goal

abbrev pub invariant-loop-method : goal.invariant-loop-method
invariant-loop-method l = IfSome l.found (IsNamed l.class l.word)
