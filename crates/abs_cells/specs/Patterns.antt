-- The pattern of an id: the term of its value as far as known cells tell it, and variables for the rest.
use Rattle.std.specs.Prelude.{◌≡◌, ℕ, zero, suc, ◌+◌, ◌≤◌, List, [], ◌∷◌, Option, Some, None}
use Rattle.std.specs.Option.{option_map, option_and_then}
use Rattle.abs_cells.specs.declared.cells.Cell.{Cell}
use Rattle.abs_cells.specs.declared.cells.Cell.TheVariants.{Int, Null, Obj, Nums, Refs, Unk}
use Rattle.abs_cells.specs.AbstractStates.{AbstractState}
use Rattle.abs_cells.specs.Cells.{cell_at}
use Rattle.abs_cells.specs.Closures.{IsFiniteId}

-- a pattern: null, a leaf for an array, a node for an instance of a class with the patterns of its reference fields, or a variable for
-- the term of an id's value
mutual
  pub data Pattern : Type 0 where
    null : Pattern
    leaf : Pattern
    node : ℕ → Patterns → Pattern
    variable : ℕ → Pattern

  -- a list of patterns
  pub data Patterns : Type 0 where
    none : Patterns
    more : Pattern → Patterns → Patterns

-- the patterns of an id and of further ids, from what is found of the id: an int's id adds none, and where the id has no
-- pattern there are none at all
abbrev pub with_first : Option (Option Pattern) → Option Patterns → Option Patterns
with_first None rest = None
with_first (Some None) rest = rest
with_first (Some (Some first)) rest = option_map (more first) rest

-- the patterns of some ids in order, where an id that is an int's adds none; nothing if one of the others has no pattern
abbrev pub patterns_by : (ℕ → Option (Option Pattern)) → List ℕ → Option Patterns
patterns_by pattern [] = Some none
patterns_by pattern (id ∷ ids) = with_first (pattern id) (patterns_by pattern ids)

-- the pattern that a cell tells of its id, where a function gives those of other ids: none of an int, null, a leaf for an
-- array, a node with the patterns of its fields for a known instance, and the id as a variable for an object below a bound
abbrev pub pattern_of_cell : (ℕ → Option (Option Pattern)) → ℕ → Cell → Option (Option Pattern)
pattern_of_cell pattern id (Int interval) = Some None
pattern_of_cell pattern id Null = Some (Some null)
pattern_of_cell pattern id (Obj class ids) = option_map (λ children. Some (node class children)) (patterns_by pattern ids)
pattern_of_cell pattern id (Nums kind len) = Some (Some leaf)
pattern_of_cell pattern id (Refs element len shape) = Some (Some leaf)
pattern_of_cell pattern id (Unk bound nullable shape) = Some (Some (variable id))

-- the pattern of an id of an abstract state, if it is at most so deep; none of an int's id
abbrev pub pattern_within : ℕ → AbstractState → ℕ → Option (Option Pattern)
pattern_within zero state id = None
pattern_within (suc depth) state id = option_and_then (pattern_of_cell (pattern_within depth state) id) (cell_at state id)

-- an id of an abstract state has a pattern, which is of some finite depth
pub record IsPattern (state : AbstractState) (id : ℕ) (pattern : Pattern) : Type 0 where
  pub depth : ℕ
  pub is : pattern_within depth state id ≡ Some (Some pattern)

-- the size of a pattern, and of a list of patterns: how many nulls, leaves, nodes and variables stand in it
abbrev mutual
  pub count_in : Pattern → ℕ
  count_in null = 1
  count_in leaf = 1
  count_in (node class children) = 1 + counts_in children
  count_in (variable id) = 1

  pub counts_in : Patterns → ℕ
  counts_in none = 0
  counts_in (more pattern rest) = count_in pattern + counts_in rest

-- an id has a size: its region is told to have no cycle, and its pattern has at most 4,096 parts
pub record IsSized (state : AbstractState) (id : ℕ) : Type 0 where
  pub finite : IsFiniteId state id
  pub pattern : Pattern
  pub is : IsPattern state id pattern
  pub small : count_in pattern ≤ 4096
