-- What two cells become as one, and which ids of theirs stand beside one another.
use Rattle.std.specs.Prelude.{◌≡◌, ℕ, ℤ, pos, negsuc, ◌==◌, Bool, true, false, if◌then◌else◌, List, [], ◌∷◌, zip, Option, Some}
use Rattle.std.specs.Prelude.{None, int_le}
use Rattle.std.specs.Option.{option_map_or}
use Rattle.lin_core.specs.declared.intervals.Interval.{Interval}
use Rattle.jvm_values.specs.declared.types.Kind.{Kind}
use Rattle.jvm_values.specs.Kinds.{kind_code}
use Rattle.jvm_values.specs.declared.types.Ty.{Ty}
use Rattle.jvm_values.specs.declared.shape.Shape.{Shape}
use Rattle.jvm_values.specs.declared.shape.Shape.TheVariants.{Tree, Dag, Any}
use Rattle.abs_cells.specs.declared.cells.Cell.{Cell}
use Rattle.abs_cells.specs.declared.cells.Cell.TheVariants.{Int, Null, Obj, Nums, Refs, Unk}
use Rattle.abs_cells.specs.AbstractStates.{AbstractState}
use Rattle.abs_cells.specs.Cells.{is_null}
use Rattle.abs_cells.specs.Closures.{IsFiniteId, IsTreeId}

-- ---- ints

-- The bounds that a widening gives: the least int and the one above it, 0, the greatest int and the one below it.

-- the greatest of these bounds that is at most an int
abbrev pub bound_below : ℤ → ℤ
bound_below n =
    if int_le (pos 2147483647) n then pos 2147483647
    else if int_le (pos 2147483646) n then pos 2147483646
    else if int_le (pos 0) n then pos 0
    else if int_le (negsuc 2147483646) n then negsuc 2147483646
    else negsuc 2147483647

-- the least of these bounds that is at least an int
abbrev pub bound_above : ℤ → ℤ
bound_above n =
    if int_le n (negsuc 2147483647) then negsuc 2147483647
    else if int_le n (negsuc 2147483646) then negsuc 2147483646
    else if int_le n (pos 0) then pos 0
    else if int_le n (pos 2147483646) then pos 2147483646
    else pos 2147483647

-- the widened lower bound: the old one where the new one is not below it, else the greatest of these bounds that is at most the
-- new one
abbrev pub widened_lo : ℤ → ℤ → ℤ
widened_lo old new = if int_le old new then old else bound_below new

-- the widened upper bound: the old one where the new one is not above it, else the least of these bounds that is at least the
-- new one
abbrev pub widened_hi : ℤ → ℤ → ℤ
widened_hi old new = if int_le new old then old else bound_above new

-- ---- rows

-- what two cells have in common: both are ints, both are null, both are instances of one class, with their ids, both are
-- arrays of numbers of one kind, with their lengths' ids, both are arrays of references, with their element types and lengths'
-- ids, or they are any other two
pub data Row : Type 0 where
  ints : Interval → Interval → Row
  nulls : Row
  instances : ℕ → List ℕ → List ℕ → Row
  numbers : Kind → ℕ → ℕ → Row
  arrays : Ty → Ty → ℕ → ℕ → Row
  unlike : Row

-- the interval of an int, if a cell is one
abbrev pub interval_in : Cell → Option Interval
interval_in (Int i) = Some i
interval_in Null = None
interval_in (Obj class ids) = None
interval_in (Nums kind len) = None
interval_in (Refs element len shape) = None
interval_in (Unk bound nullable shape) = None

-- the ids of the fields of an instance, if a cell is one of this class
abbrev pub fields_in : ℕ → Cell → Option (List ℕ)
fields_in class (Int i) = None
fields_in class Null = None
fields_in class (Obj other ids) = if class == other then Some ids else None
fields_in class (Nums kind len) = None
fields_in class (Refs element len shape) = None
fields_in class (Unk bound nullable shape) = None

-- the id of the length of an array of numbers, if a cell is one of this kind
abbrev pub length_in : Kind → Cell → Option ℕ
length_in kind (Int i) = None
length_in kind Null = None
length_in kind (Obj class ids) = None
length_in kind (Nums other len) = if kind_code kind == kind_code other then Some len else None
length_in kind (Refs element len shape) = None
length_in kind (Unk bound nullable shape) = None

-- the element type and the length's id of an array of references, if a cell is one
abbrev pub array_in : Cell → Option (Ty × ℕ)
array_in (Int i) = None
array_in Null = None
array_in (Obj class ids) = None
array_in (Nums kind len) = None
array_in (Refs element len shape) = Some (element, len)
array_in (Unk bound nullable shape) = None

-- what two cells have in common, as a row
abbrev pub row_of : Cell → Cell → Row
row_of (Int i) q = option_map_or (λ j. ints i j) (interval_in q) unlike
row_of Null q = if is_null q then nulls else unlike
row_of (Obj class ids) q = option_map_or (λ more. instances class ids more) (fields_in class q) unlike
row_of (Nums kind len) q = option_map_or (λ more. numbers kind len more) (length_in kind q) unlike
row_of (Refs element len shape) q = option_map_or (λ array. arrays element array.0 len array.1) (array_in q) unlike
row_of (Unk bound nullable shape) q = unlike

-- the ids that stand beside one another in two cells of a row
abbrev pub pairs_of : Row → List (ℕ × ℕ)
pairs_of (ints i j) = []
pairs_of nulls = []
pairs_of (instances class ids more) = zip ids more
pairs_of (numbers kind len more) = (len, more) ∷ []
pairs_of (arrays element other len more) = (len, more) ∷ []
pairs_of unlike = []

-- two cells of a row become one whose class or kind is known
abbrev pub gives_known : Row → Bool
gives_known (ints i j) = false
gives_known nulls = false
gives_known (instances class ids more) = true
gives_known (numbers kind len more) = true
gives_known (arrays element other len more) = false
gives_known unlike = false

-- ---- shapes

-- the shape of what an id's closure describes: the best of the three that holds
abbrev pub IsShapeOf : AbstractState → ℕ → Shape → Type 0
IsShapeOf state id Tree = IsTreeId state id
IsShapeOf state id Dag = (IsTreeId state id → ⊥) × IsFiniteId state id
IsShapeOf state id Any = (IsTreeId state id → ⊥) × (IsFiniteId state id → ⊥)

-- the worse of two shapes
abbrev pub worse : Shape → Shape → Shape
worse Tree shape = shape
worse Dag Tree = Dag
worse Dag Dag = Dag
worse Dag Any = Any
worse Any shape = Any

-- the worse of the shapes of an id of the one state and an id of the other
pub record IsWorseShape (a b : AbstractState) (pair : ℕ × ℕ) (shape : Shape) : Type 0 where
  pub first : Shape
  pub second : Shape
  pub first_is : IsShapeOf a pair.0 first
  pub second_is : IsShapeOf b pair.1 second
  pub is : shape ≡ worse first second
