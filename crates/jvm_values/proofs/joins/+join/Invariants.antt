use Rattle.jvm_values.proofs.joins.+join.Given as goal

abbrev pub decreases-join : goal.decreases-join
decreases-join g l = l.a.dims
