-- The patterns of sized ids, and what is kept of the stops of a path. Where a row needs a pattern, `encode` of `term_enc` is asked for it.
use Rattle.std.specs.Prelude.{◌≡◌, ℕ, zero, suc, ◌+◌, ◌≤◌, nat_lt, Bool, true, false, not, ◌&&◌, ◌||◌, if◌then◌else◌, List, [], ◌∷◌}
use Rattle.std.specs.Prelude.{Option, Some, None, slice_index_or, slice_set, replicate}
use Rattle.std.specs.List.{list_all}
use Rattle.list_views.specs.Lists.{open_count}
use Rattle.abs_cells.specs.declared.cells.Cell.{Cell}
use Rattle.abs_cells.specs.AbstractStates.{AbstractState}
use Rattle.abs_cells.specs.Cells.{is_reference, is_of_sort, ids_of, shape_of, may_have_cycle, cell_at}
use Rattle.abs_cells.specs.Patterns.{Pattern, count_in, pattern_within}
use Rattle.abs_cells.specs.Sound.{IsWellFormed}
use Rattle.term_graph.specs.Graphs.{GraphNode}
use Rattle.path_rules.specs.Rules.{variables}

-- a number above all ids of cells
abbrev pub above_ids : List (ℕ × Cell) → ℕ
above_ids [] = 0
above_ids (c ∷ cells) = suc c.0 + above_ids cells

-- an id of a reference that is not null
abbrev pub counts : AbstractState → ℕ → Bool
counts state id = is_of_sort is_reference (cell_at state id)

-- no cycle is in the region of a cell, where it is told of the references that it names
abbrev pub is_finite_cell : (ℕ → Bool) → (ℕ → Bool) → Option Cell → Bool
is_finite_cell reference finite None = true
is_finite_cell reference finite (Some cell) = not (may_have_cycle (shape_of cell)) && list_all
    (λ (id : ℕ). not (reference id) || finite id) (ids_of cell)

-- no cycle is in the region of an id, on the paths that go on from it when these ids were passed, of fewer than so many steps
abbrev pub is_finite_by : ℕ → AbstractState → List Bool → ℕ → Bool
is_finite_by zero state passed id = false
is_finite_by (suc depth) state passed id = not (slice_index_or passed id false) && is_finite_cell (counts state)
    (is_finite_by depth state (slice_set passed id true)) (cell_at state id)

-- marks of ids by which no id was passed yet
abbrev pub none_passed : AbstractState → List Bool
none_passed state = replicate (above_ids state.cells) false

-- no cycle is in the region of an id, on any path that goes on from it
unfoldable pub is_finite_id : AbstractState → ℕ → Bool
is_finite_id state id = is_finite_by (suc (open_count (none_passed state))) state (none_passed state) id

-- ---- patterns of sized ids

-- a pattern, if there is one and it has at most so many parts
abbrev pub small_pattern : ℕ → Option (Option Pattern) → Option Pattern
small_pattern most None = None
small_pattern most (Some None) = None
small_pattern most (Some (Some pattern)) = if nat_lt most (count_in pattern) then None else Some pattern

-- the pattern of an id whose region has no cycle, if there is one and it has at most so many parts
abbrev pub size_within : ℕ → AbstractState → ℕ → Option Pattern
size_within most state id = if is_finite_id state id then small_pattern most (pattern_within (suc most) state id) else None

-- the pattern of an id, if the id is sized: its region has no cycle, and the pattern has at most 4,096 parts
unfoldable pub size_at : AbstractState → ℕ → Option Pattern
size_at state id = size_within 4096 state id

-- a node at which a path stops, with the number of its first variable
pub record NumberedNode : Type 0 where
  pub node : GraphNode
  pub first : ℕ

-- ids, each with its number
abbrev pub numbered : ℕ → List ℕ → List (ℕ × ℕ)
numbered number [] = []
numbered number (id ∷ ids) = (id, number) ∷ numbered (suc number) ids

-- what is kept of a stop: the ids of its variables are numbered, its state is well-formed, and its first variable is among few
pub record IsKept (node : GraphNode) (first : ℕ) (numbers : List (ℕ × ℕ)) : Type 0 where
  pub numbers_are : numbers ≡ numbered 0 (variables node.state)
  pub good : IsWellFormed node.state
  pub low : first ≤ 65536
