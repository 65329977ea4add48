-- What is told of the children of a state.
use Rattle.std.specs.Prelude.{List, Option, Some, None}
use Rattle.abs_cells.specs.AbstractStates.{AbstractState}
use Rattle.term_graph.specs.Graphs.{GraphChild}
use Rattle.filled_graphs.specs.Filling.{ChildRules}

-- a state has no children
abbrev pub HasNone : ChildRules → AbstractState → Type 0
HasNone rules state = (others : List GraphChild) → rules.HasChildren state others → ⊥

-- the children of a state, or that it has none
abbrev pub HasThemOrNone : ChildRules → AbstractState → Option (List GraphChild) → Type 0
HasThemOrNone rules state (Some children) = rules.HasChildren state children
HasThemOrNone rules state None = HasNone rules state
