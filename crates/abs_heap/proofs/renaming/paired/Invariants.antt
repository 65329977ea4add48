use Rattle.std.proofs.Common.{◌≡◌, take, zip}
use Rattle.abs_heap.proofs.renaming.paired.Given as goal

abbrev pub invariant-loop-place : goal.invariant-loop-place
invariant-loop-place l = l.names ≡ take l.place (zip l.olds l.news)
