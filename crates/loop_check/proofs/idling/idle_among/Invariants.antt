use Rattle.std.proofs.Common.{◌≡◌, ◌++◌, drop}
use Rattle.loop_check.specs.Loops.{idle_among}
use Rattle.loop_check.proofs.idling.idle_among.Given as goal

abbrev pub invariant-loop-place : goal.invariant-loop-place
invariant-loop-place l = l.idle ++ idle_among l.links l.place (drop l.place l.named) ≡ idle_among l.links 0 l.named
