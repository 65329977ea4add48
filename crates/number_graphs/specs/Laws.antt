-- What follows from the definitions of graphs and cycles.
use Rattle.std.specs.Prelude.{ℕ, ◌<◌, List, length}
use Rattle.number_graphs.specs.Graphs.{IsOnCycle}
use Rattle.number_graphs.specs.Lists.{Edge, Fall}

-- where every edge leads to a lower rank, no number is on a cycle
abbrev pub FallingHasNoCycle : Type 0
FallingHasNoCycle = (graph : List (List ℕ)) (ranks : List ℕ) → Fall graph ranks → (a : ℕ) → IsOnCycle (Edge graph) a → ⊥

-- a number on a cycle has a list of its own
abbrev pub CyclesAreListed : Type 0
CyclesAreListed = (graph : List (List ℕ)) (a : ℕ) → IsOnCycle (Edge graph) a → a < length graph
