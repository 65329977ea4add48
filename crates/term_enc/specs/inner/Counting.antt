-- Words for this crate's own functions: patterns over cells alone, and what is left of a number of parts after one.
use Rattle.std.specs.Prelude.{◌≡◌, ◌≤◌, ℕ, zero, suc, List, [], ◌∷◌, Option, Some, None}
use Rattle.std.specs.Option.{option_map, option_and_then}
use Rattle.abs_cells.specs.declared.cells.Cell.{Cell}
use Rattle.abs_cells.specs.declared.cells.Cell.TheVariants.{Int, Null, Obj, Nums, Refs, Unk}
use Rattle.abs_cells.specs.Cells.{cell_in}
use Rattle.abs_cells.specs.Patterns.{Pattern, count_in, pattern_of_cell}
use Rattle.term_enc.specs.declared.terms.PatternTerm.{PatternTerm}
use Rattle.term_enc.specs.Encoding.{pattern_of}

-- the pattern of an id, by the cells alone, if it is at most so deep
abbrev pub pattern_in : ℕ → List (ℕ × Cell) → ℕ → Option (Option Pattern)
pattern_in zero cells id = None
pattern_in (suc depth) cells id = option_and_then (pattern_of_cell (pattern_in depth cells) id) (cell_in cells id)

-- one part less, if there is one left
abbrev pub one_less : ℕ → Option ℕ
one_less zero = None
one_less (suc left) = Some left

-- what is left of a number of parts after the patterns of some ids, one after another
abbrev pub left_after_all : (ℕ → ℕ → Option ℕ) → List ℕ → ℕ → Option ℕ
left_after_all after [] left = Some left
left_after_all after (id ∷ ids) left = option_and_then (left_after_all after ids) (after id left)

-- what is left of a number of parts after the pattern of an id with this cell: an int is no part; each null, array, instance and
-- variable is one
abbrev pub left_after_cell : (ℕ → ℕ → Option ℕ) → ℕ → Cell → Option ℕ
left_after_cell after left (Int interval) = Some left
left_after_cell after left Null = one_less left
left_after_cell after left (Obj class ids) = option_and_then (left_after_all after ids) (one_less left)
left_after_cell after left (Nums kind len) = one_less left
left_after_cell after left (Refs element len shape) = one_less left
left_after_cell after left (Unk bound nullable shape) = one_less left

-- what is left of a number of parts after the pattern of an id, if there are as many and it is at most so deep
abbrev pub left_after : ℕ → List (ℕ × Cell) → ℕ → ℕ → Option ℕ
left_after zero cells id left = None
left_after (suc depth) cells id left = option_and_then (left_after_cell (left_after depth cells) left) (cell_in cells id)

-- ---- parts

-- the number of parts that stand in an id's place: none for an int, else those of its pattern
abbrev pub count_given : Option Pattern → ℕ
count_given None = 0
count_given (Some pattern) = count_in pattern

-- what an id gives in its place: nothing for an int, else its pattern
pub record IsGiven (cells : List (ℕ × Cell)) (id : ℕ) (given : Option Pattern) : Type 0 where
  pub depth : ℕ
  pub is : pattern_in depth cells id ≡ Some given

-- an id's pattern has at most so many parts
pub record IsSmall (most : ℕ) (cells : List (ℕ × Cell)) (id : ℕ) : Type 0 where
  pub given : Option Pattern
  pub is : IsGiven cells id given
  pub small : count_given given ≤ most

-- ---- answers

-- an id's pattern is what is answered, where it is at most so deep
abbrev pub IsAnswer : ℕ → List (ℕ × Cell) → ℕ → Option PatternTerm → Type 0
IsAnswer depth cells id answer = (given : Option Pattern) → pattern_in depth cells id ≡ Some given → given ≡ option_map pattern_of answer

-- an id's pattern is what is answered, where it has at most so many parts
abbrev pub IsSmallAnswer : ℕ → List (ℕ × Cell) → ℕ → Option PatternTerm → Type 0
IsSmallAnswer most cells id answer = (given : Option Pattern) → IsGiven cells id given → count_given given ≤ most
    → given ≡ option_map pattern_of answer
