use Rattle.std.proofs.Common.{◌<◌, ℕ, get_or}
use Rattle.number_graphs.specs.Lists.{Edge}
use Rattle.number_graphs.proofs.order.falls.Given as goal

abbrev pub invariant-loop-place : goal.invariant-loop-place
invariant-loop-place l = (a b : ℕ) → a < l.place → Edge l.graph a b → get_or l.ranks b 0 < get_or l.ranks a 0
