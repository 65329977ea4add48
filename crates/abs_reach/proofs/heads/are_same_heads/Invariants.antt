use Rattle.abs_reach.specs.Instances.{head_of}
use Rattle.abs_reach.proofs.HeadLists.{FirstSame}
use Rattle.abs_reach.proofs.heads.are_same_heads.Given as goal

abbrev pub invariant-loop-place : goal.invariant-loop-place
invariant-loop-place l = FirstSame head_of l.a l.b l.place
