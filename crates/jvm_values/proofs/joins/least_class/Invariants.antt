use Rattle.jvm_values.proofs.Joining.{IsLeastBelow}
use Rattle.jvm_values.proofs.joins.least_class.Given as goal

abbrev pub invariant-loop-class : goal.invariant-loop-class
invariant-loop-class g l = IsLeastBelow (g.T.Types.sub l.types) (g.T.Types.erase l.types) l.a l.b l.class l.least
