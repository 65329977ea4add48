-- When an abstract state is an instance of another one, the target. A map says for each id of the target which id of the
-- state stands for it: a list of ids with their images.
use Rattle.std.specs.Prelude.{◌≡◌, ◌≢◌, ℕ, ◌<◌, ◌≤ℤ◌, ◌==◌, Bool, true, false, not, if◌then◌else◌, List, [], ◌∷◌, map, length}
use Rattle.std.specs.Prelude.{reverse, IsTrue, ◌⊎◌, Option, Some, None, slice_get}
use Rattle.std.specs.Option.{option_and_then}
use Rattle.jvm_values.specs.declared.shape.Shape.{Shape}
use Rattle.jvm_values.specs.declared.shape.Shape.TheVariants.{Tree, Dag, Any}
use Rattle.jvm_values.specs.declared.types.Ty.{Ty}
use Rattle.abs_cells.specs.declared.cells.Cell.{Cell}
use Rattle.abs_cells.specs.declared.cells.Cell.TheVariants.{Int, Null, Obj, Nums, Refs, Unk}
use Rattle.abs_cells.specs.AbstractStates.{AbstractFrame, AbstractState}
use Rattle.abs_cells.specs.Cells.{is_int, is_known, is_hazy, is_reference, can_be_null, type_of_cell, shape_of, cell_at, HasCell}
use Rattle.abs_cells.specs.Cells.{AreEqual, Share}
use Rattle.abs_cells.specs.Closures.{MayMeet, MayBeIn, IsFiniteId, IsTreeId}
use Rattle.abs_cells.specs.Sound.{AreIdsRising}

-- ---- maps

-- the image of an id of the target, if the map lists the id
abbrev pub image_in : List (ℕ × ℕ) → ℕ → Option ℕ
image_in [] id = None
image_in (entry ∷ entries) id = if entry.0 == id then Some entry.1 else image_in entries id

-- a map lists each id of the target once, and the ids rise
pub record ListsIds (target : AbstractState) (entries : List (ℕ × ℕ)) : Type 0 where
  pub each : map (λ entry. entry.0) entries ≡ map (λ c. c.0) target.cells
  pub rise : AreIdsRising 0 target.cells

-- ---- positions

-- a place of an abstract state: a local of a frame, or an entry of its operand stack. Frames and entries are numbered from
-- the bottom, from 0
pub data Place : Type 0 where
  local : ℕ → ℕ → Place
  entry : ℕ → ℕ → Place

-- the frame of an abstract state with a number, counted from the bottom
abbrev pub frame_at : AbstractState → ℕ → Option AbstractFrame
frame_at state n = slice_get (reverse state.frames) n

-- the id at a place of an abstract state, if there is such a place and it has an id
abbrev pub id_at : AbstractState → Place → Option ℕ
id_at state (local f n) = option_and_then (λ frame. option_and_then (λ id. id) (slice_get frame.locals n)) (frame_at state f)
id_at state (entry f n) = option_and_then (λ frame. slice_get (reverse frame.stack) n) (frame_at state f)

-- what two frames must agree in: the method, the place of the instruction, and the depth of the operand stack
pub record FrameHead : Type 0 where
  pub method : ℕ
  pub pc : ℕ
  pub depth : ℕ

-- the head of an abstract frame: its method, its place, and the depth of its operand stack
abbrev pub head_of : AbstractFrame → FrameHead
head_of frame = record { method = frame.method; pc = frame.pc; depth = length frame.stack }

-- an abstract state throws an object
abbrev pub is_thrown : Option ℕ → Bool
is_thrown None = false
is_thrown (Some id) = true

-- ---- cells

-- a cell is of an array of references whose element type is below a type, and whose length's id is the image of an id
pub record IsArrayUnder (sub : Ty → Ty → Bool) (entries : List (ℕ × ℕ)) (element : Ty) (len : ℕ) (cell : Cell) : Type 0 where
  pub item : Ty
  pub image : ℕ
  pub shape : Shape
  pub is : cell ≡ Refs item image shape
  pub below : IsTrue (sub item element)
  pub length_is : image_in entries len ≡ Some image

-- a cell stands for null alone, or for an object of a type below a bound
abbrev pub IsNullOrBelow : (Ty → Ty → Bool) → Ty → Cell → Type 0
IsNullOrBelow sub bound cell = (cell ≡ Null) ⊎ ((t : Ty) × ((type_of_cell cell ≡ Some t) × IsTrue (sub t bound)))

-- a cell of the target is over a cell of the state: whatever the state's cell describes it describes too, and the ids that
-- it names have as images the ids that the state's cell names. Shapes are not compared here
abbrev pub IsOver : (Ty → Ty → Bool) → List (ℕ × ℕ) → Cell → Cell → Type 0
IsOver sub entries (Int outer) cell = (inner : _) × ((cell ≡ Int inner) × ((outer.lo ≤ℤ inner.lo) × (inner.hi ≤ℤ outer.hi)))
IsOver sub entries Null cell = cell ≡ Null
IsOver sub entries (Obj class ids) cell = (images : List ℕ) × ((cell ≡ Obj class images) × (map (image_in entries) ids ≡ map Some images))
IsOver sub entries (Nums kind len) cell = (image : ℕ) × ((cell ≡ Nums kind image) × (image_in entries len ≡ Some image))
IsOver sub entries (Refs element len shape) cell = IsArrayUnder sub entries element len cell
IsOver sub entries (Unk bound nullable shape) cell = (can_be_null cell ≡ true → nullable ≡ true) × IsNullOrBelow sub bound cell

-- the image of an id is an id of the state whose cell is under a cell of the target
pub record HasImageUnder (sub : Ty → Ty → Bool) (state : AbstractState) (entries : List (ℕ × ℕ)) (id : ℕ) (cell : Cell) : Type 0 where
  pub image : ℕ
  pub below : Cell
  pub maps : image_in entries id ≡ Some image
  pub stands : cell_at state image ≡ Some below
  pub over : IsOver sub entries cell below

-- ---- pairs and shapes

-- two ids of an abstract state may stand for one object: they are one id of a reference, or a pair of ids that may be one
-- object
abbrev pub MayBeOne : AbstractState → ℕ → ℕ → Type 0
MayBeOne state a b = ((a ≡ b) × HasCell is_reference state a) ⊎ AreEqual state a b

-- a cell is of a reference, or is `Null`
abbrev pub is_no_int : Cell → Bool
is_no_int cell = not (is_int cell)

-- two different ids of the target have cells of two sorts, and have these images
pub record AreMapped (target : AbstractState) (entries : List (ℕ × ℕ)) (sort other_sort : Cell → Bool)
    (id other image other_image : ℕ) : Type 0 where
  pub differ : id ≢ other
  pub is : HasCell sort target id
  pub other_is : HasCell other_sort target other
  pub maps : image_in entries id ≡ Some image
  pub other_maps : image_in entries other ≡ Some other_image

-- an id of the target shares with all ids that its image's region asks for: a hazy id with each hazy one whose image its
-- own image may meet, and with each known one whose image may lie in the region of its own; a known id with each hazy one
-- in whose image's region its own image may lie
pub record SharesEnough (state target : AbstractState) (entries : List (ℕ × ℕ)) (id : ℕ) : Type 0 where
  pub meets : (other image other_image : ℕ) → AreMapped target entries is_hazy is_hazy id other image other_image
      → MayMeet state image other_image → Share target id other
  pub is_in : (other image other_image : ℕ) → AreMapped target entries is_known is_hazy id other image other_image
      → MayBeIn state image other_image → Share target id other
  pub holds : (other image other_image : ℕ) → AreMapped target entries is_hazy is_known id other image other_image
      → MayBeIn state other_image image → Share target id other

-- the region of an id of an abstract state is told to be of a shape
abbrev pub HasIdShape : Shape → AbstractState → ℕ → Type 0
HasIdShape Tree state id = IsTreeId state id
HasIdShape Dag state id = IsFiniteId state id
HasIdShape Any state id = Unit {0}

-- ---- the clauses

-- what makes a state an instance of a target, clause by clause: a map of all ids, positions, the mode, cells, ids of one
-- object, sharing ids, and shapes
pub data Clause : Type 0 where
  whole_map positions mode cells aliases sharing shapes : Clause

-- the number of a clause, from 0 on in their order
abbrev pub number_of : Clause → ℕ
number_of whole_map = 0
number_of positions = 1
number_of mode = 2
number_of cells = 3
number_of aliases = 4
number_of sharing = 5
number_of shapes = 6

-- what a clause asks of the two states as a whole: the map lists the target's ids; both have as many frames, with the same
-- methods, places and depths of stacks; in both an object is thrown, or in none. The other clauses ask nothing of that kind
abbrev pub Agrees : AbstractState → AbstractState → List (ℕ × ℕ) → Clause → Type 0
Agrees state target entries whole_map = ListsIds target entries
Agrees state target entries positions = map head_of state.frames ≡ map head_of target.frames
Agrees state target entries mode = is_thrown state.throwing ≡ is_thrown target.throwing
Agrees state target entries cells = Unit {0}
Agrees state target entries aliases = Unit {0}
Agrees state target entries sharing = Unit {0}
Agrees state target entries shapes = Unit {0}

-- what a clause asks of one id of the target: its image is an id of the state; the image stands at each place of the target
-- at which the id does; it is thrown where the id is; its cell is under the id's; the id is a pair with each other one
-- whose image may be one object with its own; it shares enough; its image is of its shape
abbrev pub Meets : (Ty → Ty → Bool) → AbstractState → AbstractState → List (ℕ × ℕ) → Clause → ℕ → Type 0
Meets sub state target entries whole_map id = (image : ℕ) → image_in entries id ≡ Some image → HasCell (λ _. true) state image
Meets sub state target entries positions id = (place : Place) → id_at target place ≡ Some id
    → (image : ℕ) × ((image_in entries id ≡ Some image) × (id_at state place ≡ Some image))
Meets sub state target entries mode id = target.throwing ≡ Some id
    → (image : ℕ) × ((image_in entries id ≡ Some image) × (state.throwing ≡ Some image))
Meets sub state target entries cells id = (cell : Cell) → cell_at target id ≡ Some cell → HasImageUnder sub state entries id cell
Meets sub state target entries aliases id = (other image other_image : ℕ)
    → AreMapped target entries is_no_int is_no_int id other image other_image → MayBeOne state image other_image → AreEqual target id other
Meets sub state target entries sharing id = SharesEnough state target entries id
Meets sub state target entries shapes id = (cell : Cell) (shape : Shape) (image : ℕ) → cell_at target id ≡ Some cell
    → shape_of cell ≡ Some shape → image_in entries id ≡ Some image → HasIdShape shape state image

-- a clause holds: as a whole, and of each id
abbrev pub HoldsClause : (Ty → Ty → Bool) → AbstractState → AbstractState → List (ℕ × ℕ) → Clause → Type 0
HoldsClause sub state target entries clause = Agrees state target entries clause × ((id : ℕ) → Meets sub state target entries clause id)

-- a state is an instance of a target by a map: every clause holds
abbrev pub InstanceOf : (Ty → Ty → Bool) → AbstractState → AbstractState → List (ℕ × ℕ) → Type 0
InstanceOf sub state target entries = (clause : Clause) → HoldsClause sub state target entries clause

-- ---- the first fault

-- an id is the least one of which a clause does not hold, where the clause holds as a whole
pub record IsLeastFailing (sub : Ty → Ty → Bool) (state target : AbstractState) (entries : List (ℕ × ℕ)) (clause : Clause)
    (id : ℕ) : Type 0 where
  pub agrees : Agrees state target entries clause
  pub fails : Meets sub state target entries clause id → ⊥
  pub least : (lower : ℕ) → lower < id → Meets sub state target entries clause lower

-- a clause fails at an id: at the least one of which it does not hold, or at 0 where it does not hold as a whole
abbrev pub FailsAt : (Ty → Ty → Bool) → AbstractState → AbstractState → List (ℕ × ℕ) → Clause → ℕ → Type 0
FailsAt sub state target entries clause id = ((Agrees state target entries clause → ⊥) × (id ≡ 0))
    ⊎ IsLeastFailing sub state target entries clause id

-- the first fault of a map for an instance: the number of the first clause that fails, and the id at which it fails
pub record IsFirstFault (sub : Ty → Ty → Bool) (state target : AbstractState) (entries : List (ℕ × ℕ)) (number id : ℕ) : Type 0 where
  pub clause : Clause
  pub is : number ≡ number_of clause
  pub earlier : (other : Clause) → number_of other < number_of clause → HoldsClause sub state target entries other
  pub fails : FailsAt sub state target entries clause id
