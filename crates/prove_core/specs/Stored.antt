-- What every graph in memory keeps, whatever it says: numbers of places and classes are of their fields' widths, intervals have an int, and
-- pairs rise.
use Rattle.std.specs.Prelude.{◌≤◌, ◌≤ℤ◌, List, All}
use Rattle.abs_cells.specs.declared.cells.Cell.{Cell}
use Rattle.abs_cells.specs.declared.cells.Cell.TheVariants as cells
use Rattle.abs_cells.specs.AbstractStates.{AbstractFrame, AbstractState}
use Rattle.abs_cells.specs.PairLists.{IsRising}
use Rattle.term_graph.specs.Graphs.{GraphNode}

-- a cell in memory keeps this: an interval has an int, and the number of a class is of 32 bits
abbrev pub IsStoredCell : Cell → Type 0
IsStoredCell (cells.Int bounds) = bounds.lo ≤ℤ bounds.hi
IsStoredCell cells.Null = Unit {0}
IsStoredCell (cells.Obj class ids) = class ≤ 4294967295
IsStoredCell (cells.Nums kind len) = Unit {0}
IsStoredCell (cells.Refs element len shape) = Unit {0}
IsStoredCell (cells.Unk bound nullable shape) = Unit {0}

-- a frame in memory keeps this: the number of its method is of 32 bits, and its place of 16
pub record IsStoredFrame (frame : AbstractFrame) : Type 0 where
  pub method : frame.method ≤ 4294967295
  pub pc : frame.pc ≤ 65535

-- a state in memory keeps this: its frames and cells do, and its pairs of equal and of sharing ids rise
pub record IsStored (state : AbstractState) : Type 0 where
  pub frames : All IsStoredFrame state.frames
  pub cells : All (λ c. IsStoredCell c.1) state.cells
  pub eq : IsRising state.eq
  pub share : IsRising state.share

-- each state of a graph in memory keeps what states in memory keep
abbrev pub IsStoredGraph : List GraphNode → Type 0
IsStoredGraph nodes = All (λ node. IsStored node.state) nodes
