-- The widening of an abstract state by another one: a state of which both are instances. Its ids stand for pairs of ids of
-- the two, and are numbered as the pairs are met.
use Rattle.std.specs.Prelude.{◌≡◌, ◌≢◌, ◌↔◌, ◌⊎◌, ℕ, ◌≤◌, ◌&&◌, ◌||◌, ◌==◌, Bool, true, false, not, List, [], map, zip, length}
use Rattle.std.specs.Prelude.{Option, Some, None, slice_get}
use Rattle.std.specs.List.{list_any, AllZip, position_or_len}
use Rattle.std.specs.Option.{option_map}
use Rattle.jvm_values.specs.declared.types.Ty.{Ty}
use Rattle.jvm_values.specs.declared.shape.Shape.{Shape}
use Rattle.jvm_values.specs.Joins.{IsJoin}
use Rattle.jvm_values.specs.TypedHeaps.{WorldTypes}
use Rattle.lin_core.specs.declared.intervals.Interval.{Interval}
use Rattle.abs_cells.specs.declared.cells.Cell.{Cell}
use Rattle.abs_cells.specs.declared.cells.Cell.TheVariants.{Int, Null, Obj, Nums, Refs, Unk}
use Rattle.abs_cells.specs.AbstractStates.{AbstractFrame, AbstractState}
use Rattle.abs_cells.specs.PairLists.{is_same}
use Rattle.abs_cells.specs.Cells.{is_known, is_hazy, is_reference, type_of_cell, cell_at, HasCell, AreEqual, Share, can_be_null}
use Rattle.abs_cells.specs.Closures.{MayMeet, MayBeIn}
use Rattle.abs_cells.specs.Sound.{AreIdsRising}
use Rattle.abs_cells.specs.Limits.{most_ids}
use Rattle.abs_reach.specs.Reached.{IsDropped}
use Rattle.abs_reach.specs.Instances.{head_of, is_thrown, MayBeOne}
use Rattle.abs_widen.specs.Rows.{Row, ints, nulls, instances, numbers, arrays, unlike, gives_known, widened_lo, widened_hi, IsWorseShape}
use Rattle.abs_widen.specs.Visits.{are_alike, local_pair, thrown_pair, row_at, ArePairs}

-- ---- the states that are widened

-- entries of two stacks stand beside one another: ints beside ints, references beside references
abbrev pub AreStacksAlike : AbstractState → AbstractState → List ℕ → List ℕ → Type 0
AreStacksAlike a b stack other = AllZip (λ x y. are_alike a b x y ≡ true) stack other

-- two frames stand at one instruction of one method, have equally many locals, and operand stacks of one depth whose entries
-- stand beside one another
pub record AreFramesAlike (a b : AbstractState) (frame other : AbstractFrame) : Type 0 where
  pub heads : head_of frame ≡ head_of other
  pub locals : length frame.locals ≡ length other.locals
  pub stacks : AreStacksAlike a b frame.stack other.stack

-- two states stand alike: their frames have the same methods, places of instructions, numbers of locals and depths of stacks,
-- and an object is thrown in both, or in none
pub record AreAlike (a b : AbstractState) : Type 0 where
  pub frames : AllZip (AreFramesAlike a b) a.frames b.frames
  pub mode : is_thrown a.throwing ≡ is_thrown b.throwing

-- ---- positions

-- a pair's number: its place among the pairs
abbrev pub number_of : List (ℕ × ℕ) → ℕ × ℕ → ℕ
number_of pairs pair = position_or_len (is_same pair) pairs

-- the locals of two frames as one list: each has the number of its pair, or is unset where it has none
abbrev pub merged_locals : AbstractState → AbstractState → List (ℕ × ℕ) → List (Option ℕ) → List (Option ℕ) → List (Option ℕ)
merged_locals a b pairs locals others = map (λ both. option_map (number_of pairs) (local_pair a b both.0 both.1)) (zip locals others)

-- two frames as one: at the instruction of the one, with its locals and operand stack as numbers of pairs
abbrev pub merged_frame : AbstractState → AbstractState → List (ℕ × ℕ) → AbstractFrame → AbstractFrame → AbstractFrame
merged_frame a b pairs frame other = record {
  method = frame.method;
  pc = frame.pc;
  locals = merged_locals a b pairs frame.locals
      other.locals;
  stack = map (number_of pairs) (zip frame.stack other.stack);
}

-- the frames of two call stacks as those of one
abbrev pub merged_frames : AbstractState → AbstractState → List (ℕ × ℕ) → List AbstractFrame → List AbstractFrame → List AbstractFrame
merged_frames a b pairs frames others = map (λ both. merged_frame a b pairs both.0 both.1) (zip frames others)

-- ---- cells

-- the type of a merged cell is the join of the types that two cells tell; of one type alone where the other cell is null
abbrev pub IsTypeOver : WorldTypes → Option Ty → Option Ty → Ty → Type 0
IsTypeOver types None None bound = ⊥
IsTypeOver types None (Some t) bound = IsJoin types.sub types.erase t t bound
IsTypeOver types (Some s) None bound = IsJoin types.sub types.erase s s bound
IsTypeOver types (Some s) (Some t) bound = IsJoin types.sub types.erase s t bound

-- a merged cell is hazy: of its object the type and the shape are known, and whether it may be null
pub record IsHazed (types : WorldTypes) (a b : AbstractState) (pair : ℕ × ℕ) (p q cell : Cell) : Type 0 where
  pub bound : Ty
  pub shape : Shape
  pub type_is : IsTypeOver types (type_of_cell p) (type_of_cell q) bound
  pub shape_is : IsWorseShape a b pair shape
  pub is : cell ≡ Unk bound (can_be_null p || can_be_null q) shape

-- a merged cell is an array of references: its element type is the join of the two element types
pub record IsMergedArray (types : WorldTypes) (a b : AbstractState) (pairs : List (ℕ × ℕ)) (pair : ℕ × ℕ) (element other : Ty)
    (lengths : ℕ × ℕ) (cell : Cell) : Type 0 where
  pub join : Ty
  pub shape : Shape
  pub type_is : IsJoin types.sub types.erase element other join
  pub shape_is : IsWorseShape a b pair shape
  pub is : cell ≡ Refs join (number_of pairs lengths) shape

-- a merged cell is an int whose bounds are widened
pub record IsWidenedInt (i j : Interval) (cell : Cell) : Type 0 where
  pub interval : Interval
  pub lo : interval.lo ≡ widened_lo i.lo j.lo
  pub hi : interval.hi ≡ widened_hi i.hi j.hi
  pub is : cell ≡ Int interval

-- the cell that two cells become by their row
abbrev pub IsRowCell : WorldTypes → AbstractState → AbstractState → List (ℕ × ℕ) → ℕ × ℕ → Cell → Cell → Row → Cell → Type 0
IsRowCell types a b pairs pair p q (ints i j) cell = IsWidenedInt i j cell
IsRowCell types a b pairs pair p q nulls cell = cell ≡ Null
IsRowCell types a b pairs pair p q (instances class ids more) cell = cell ≡ Obj class (map (number_of pairs) (zip ids more))
IsRowCell types a b pairs pair p q (numbers kind len more) cell = cell ≡ Nums kind (number_of pairs (len, more))
IsRowCell types a b pairs pair p q (arrays element other len more) cell = IsMergedArray types a b pairs pair element other (len, more) cell
IsRowCell types a b pairs pair p q unlike cell = IsHazed types a b pair p q cell

-- a row is there, and two cells of it become one that is known
abbrev pub is_known_row : Option Row → Bool
is_known_row None = false
is_known_row (Some row) = gives_known row

-- the cells of a pair would become one that is known
abbrev pub is_known_pair : AbstractState → AbstractState → ℕ × ℕ → Bool
is_known_pair a b pair = is_known_row (row_at a b pair)

-- two different pairs have an id in common, and the cells of the other one would become one that is known
abbrev pub clashes_with : AbstractState → AbstractState → ℕ × ℕ → ℕ × ℕ → Bool
clashes_with a b pair other = is_known_pair a b other && (not (is_same pair other) && ((pair.0 == other.0) || (pair.1 == other.1)))

-- a pair clashes with another one: both would be known, and have an id in common, so that they may stand for one object. Then
-- neither of them is known
abbrev pub clashes : AbstractState → AbstractState → List (ℕ × ℕ) → ℕ × ℕ → Bool
clashes a b pairs pair = is_known_pair a b pair && list_any (clashes_with a b pair) pairs

-- the cell that two cells become: a hazy one where their pair clashes with another one, else that of their row
abbrev pub IsCellUnless : Bool → WorldTypes → AbstractState → AbstractState → List (ℕ × ℕ) → ℕ × ℕ → Cell → Cell → Row → Cell → Type 0
IsCellUnless true types a b pairs pair p q row cell = IsHazed types a b pair p q cell
IsCellUnless false types a b pairs pair p q row cell = IsRowCell types a b pairs pair p q row cell

-- the cell that a pair of ids becomes
pub record IsMergedCell (types : WorldTypes) (a b : AbstractState) (pairs : List (ℕ × ℕ)) (pair : ℕ × ℕ) (cell : Cell) : Type 0 where
  pub p : Cell
  pub q : Cell
  pub row : Row
  pub first : cell_at a pair.0 ≡ Some p
  pub second : cell_at b pair.1 ≡ Some q
  pub row_is : row_at a b pair ≡ Some row
  pub is : IsCellUnless (clashes a b pairs pair) types a b pairs pair p q row cell

-- a list has the cells of pairs in their order, each with its pair's number
abbrev pub AreMergedCells : WorldTypes → AbstractState → AbstractState → List (ℕ × ℕ) → List (ℕ × Cell) → Type 0
AreMergedCells types a b pairs cells = (n : ℕ) (pair : ℕ × ℕ) (entry : ℕ × Cell) → slice_get pairs n ≡ Some pair
    → slice_get cells n ≡ Some entry → (entry.0 ≡ n) × IsMergedCell types a b pairs pair entry.1

-- the state that the pairs of two states make, before it is said which of its ids are a pair
pub record IsMerged (types : WorldTypes) (a b : AbstractState) (pairs : List (ℕ × ℕ)) (merged : AbstractState) : Type 0 where
  pub frames : merged.frames ≡ merged_frames a b pairs a.frames b.frames
  pub throwing : merged.throwing ≡ option_map (number_of pairs) (thrown_pair a.throwing b.throwing)
  pub long : length merged.cells ≡ length pairs
  pub cells : AreMergedCells types a b pairs merged.cells
  pub eq : merged.eq ≡ []
  pub share : merged.share ≡ []

-- ---- pairs of ids of the result

-- two ids of a state may be a pair: they are different references that are not both known
pub record MayJoin (result : AbstractState) (m n : ℕ) : Type 0 where
  pub differ : m ≢ n
  pub first : HasCell is_reference result m
  pub second : HasCell is_reference result n
  pub not_both : HasCell is_known result m → HasCell is_known result n → ⊥

-- something holds of two ids of the one state, or of the two beside them
pub record OnOneSide (holds : AbstractState → ℕ → ℕ → Type 0) (a b : AbstractState) (pairs : List (ℕ × ℕ)) (m n : ℕ) : Type 0 where
  pub p : ℕ × ℕ
  pub q : ℕ × ℕ
  pub first : slice_get pairs m ≡ Some p
  pub second : slice_get pairs n ≡ Some q
  pub side : holds a p.0 q.0 ⊎ holds b p.1 q.1

-- two hazy ids of the widening may meet: those of one of the two states may
abbrev pub HazyMeet : AbstractState → AbstractState → List (ℕ × ℕ) → AbstractState → ℕ → ℕ → Type 0
HazyMeet a b pairs result m n = (HasCell is_hazy result m × HasCell is_hazy result n) × OnOneSide MayMeet a b pairs m n

-- a known id of the widening may be in the region of a hazy one: those of one of the two states may
abbrev pub KnownIsIn : AbstractState → AbstractState → List (ℕ × ℕ) → AbstractState → ℕ → ℕ → Type 0
KnownIsIn a b pairs result m n = (HasCell is_known result m × HasCell is_hazy result n) × OnOneSide MayBeIn a b pairs m n

-- two ids of the widening must share: they may be one object, may meet, or the one may be in the other's region
abbrev pub MustShare : AbstractState → AbstractState → List (ℕ × ℕ) → AbstractState → ℕ → ℕ → Type 0
MustShare a b pairs result m n = OnOneSide MayBeOne a b pairs m n
    ⊎ (HazyMeet a b pairs result m n ⊎ (KnownIsIn a b pairs result m n ⊎ KnownIsIn a b pairs result n m))

-- ---- the result

-- a state without its pairs
abbrev pub without_pairs : AbstractState → AbstractState
without_pairs state = record { frames = state.frames; throwing = state.throwing; cells = state.cells; eq = []; share = [] }

-- the widening by given pairs: their merged state without the ids that its positions don't reach, and with exactly those pairs
-- of ids that may join of which both may be one object, or must share
pub record IsWideningOf (types : WorldTypes) (a b : AbstractState) (pairs : List (ℕ × ℕ)) (result : AbstractState) : Type 0 where
  pub merged : AbstractState
  pub is_merged : IsMerged types a b pairs merged
  pub dropped : IsDropped merged (without_pairs result)
  pub rising : AreIdsRising 0 result.cells
  pub eq : (m n : ℕ) → AreEqual result m n ↔ (MayJoin result m n × OnOneSide MayBeOne a b pairs m n)
  pub share : (m n : ℕ) → Share result m n ↔ (MayJoin result m n × MustShare a b pairs result m n)

-- a state is the widening of one state by another one: that by the pairs of the two, of which there are at most `most_ids`
pub record IsWidening (types : WorldTypes) (a b result : AbstractState) : Type 0 where
  pub pairs : List (ℕ × ℕ)
  pub are_pairs : ArePairs a b pairs
  pub few : length pairs ≤ most_ids
  pub is : IsWideningOf types a b pairs result
