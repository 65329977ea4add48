-- Words for the call that looks for a map: pairs of an id of the target and the image that each map must give it.
use Rattle.std.specs.Prelude.{◌≡◌, ℕ, ◌<◌, ◌≤◌, ◌+◌, ◌==◌, ◌&&◌, ◌||◌, Bool, true, false, List, [], ◌∷◌, length, map, take, Option}
use Rattle.std.specs.Prelude.{Some, None, slice_get}
use Rattle.std.specs.List.{list_all, AllByRecursion}
use Rattle.jvm_values.specs.declared.types.Ty.{Ty}
use Rattle.abs_cells.specs.declared.cells.Cell.{Cell}
use Rattle.abs_cells.specs.declared.cells.Cell.TheVariants.{Int, Null, Obj, Nums, Refs, Unk}
use Rattle.abs_cells.specs.AbstractStates.{AbstractFrame, AbstractState}
use Rattle.abs_cells.specs.IdSets.{has_id}
use Rattle.abs_cells.specs.Cells.{ids_in}
use Rattle.abs_reach.specs.Instances.{image_in, IsOver, HoldsClause, InstanceOf, positions, mode}
use Rattle.abs_reach.specs.Reached as reached
use Rattle.abs_match.specs.inner.Matching.{PlacesMeet, FrameMeets, FramesMeet, FirstMeet, HasImage, local_at}

-- a map gives the first of two ids the second one as its image
abbrev pub Gives : List (ℕ × ℕ) → ℕ × ℕ → Type 0
Gives entries pair = image_in entries pair.0 ≡ Some pair.1

-- an id is the first of some pair
abbrev pub waits : List (ℕ × ℕ) → ℕ → Bool
waits [] id = false
waits (pair ∷ pairs) id = (pair.0 == id) || waits pairs id

-- pairs were added: each map that does what is asked gives them, and each of some ids is the first of one
pub record ArePut (asks : List (ℕ × ℕ) → Type 0) (ids : List ℕ) (old new : List (ℕ × ℕ)) : Type 0 where
  pub given : (entries : List (ℕ × ℕ)) → asks entries → AllByRecursion (Gives entries) old → AllByRecursion (Gives entries) new
  pub kept : (id : ℕ) → waits old id ≡ true → waits new id ≡ true
  pub wait : list_all (waits new) ids ≡ true

-- pairs were added of the first items of a list, each of which names ids: each map that does what is asked gives the pairs, and
-- each of these ids is the first of one
pub record AreFirstPut {X : Type 0} (asks : List (ℕ × ℕ) → Type 0) (names : X → List ℕ) (items : List X) (count : ℕ)
    (old new : List (ℕ × ℕ)) : Type 0 where
  pub given : (entries : List (ℕ × ℕ)) → asks entries → AllByRecursion (Gives entries) old → AllByRecursion (Gives entries) new
  pub kept : (id : ℕ) → waits old id ≡ true → waits new id ≡ true
  pub wait : list_all (λ item. list_all (waits new) (names item)) (take count items) ≡ true

-- no map does what is asked
abbrev pub NoneDoes : (List (ℕ × ℕ) → Type 0) → Type 0
NoneDoes asks = (entries : List (ℕ × ℕ)) → asks entries → ⊥

-- the pairs of the items of two lists, the last on top of what is there
abbrev pub stacked : List ℕ → List ℕ → List (ℕ × ℕ) → List (ℕ × ℕ)
stacked [] images done = done
stacked (id ∷ ids) [] done = done
stacked (id ∷ ids) (image ∷ images) done = stacked ids images ((id, image) ∷ done)

-- the ids of the fields of an instance
abbrev pub fields_of : Cell → Option (List ℕ)
fields_of (Int interval) = None
fields_of Null = None
fields_of (Obj class ids) = Some ids
fields_of (Nums kind len) = None
fields_of (Refs element len shape) = None
fields_of (Unk bound nullable shape) = None

-- the id of the length of an array of numbers
abbrev pub numbers_length : Cell → Option ℕ
numbers_length (Int interval) = None
numbers_length Null = None
numbers_length (Obj class ids) = None
numbers_length (Nums kind len) = Some len
numbers_length (Refs element len shape) = None
numbers_length (Unk bound nullable shape) = None

-- the id of the length of an array of references
abbrev pub array_length : Cell → Option ℕ
array_length (Int interval) = None
array_length Null = None
array_length (Obj class ids) = None
array_length (Nums kind len) = None
array_length (Refs element len shape) = Some len
array_length (Unk bound nullable shape) = None

-- how many ids a cell names
abbrev pub names_count : Cell → ℕ
names_count cell = length (ids_in cell)

-- what a place asks of a map: the target's id there, if it has one, is mapped to the state's id there
abbrev pub place_asks : Option ℕ → Option ℕ → List (ℕ × ℕ) → Type 0
place_asks theirs ours entries = (id : ℕ) → theirs ≡ Some id → HasImage entries id ours

-- what the locals of two frames ask of a map: each id of the target's locals is mapped to the state's id there
abbrev pub locals_ask : List (Option ℕ) → List (Option ℕ) → List (ℕ × ℕ) → Type 0
locals_ask theirs ours entries = (id : ℕ) → PlacesMeet entries (local_at theirs) (local_at ours) id

-- what the entries of two operand stacks ask of a map: each id of the target's stack is mapped to the state's id there
abbrev pub entries_ask : List ℕ → List ℕ → List (ℕ × ℕ) → Type 0
entries_ask theirs ours entries = (id : ℕ) → PlacesMeet entries (slice_get theirs) (slice_get ours) id

-- what two frames ask of a map: what their locals and their operand stacks ask
abbrev pub frame_asks : AbstractFrame → AbstractFrame → List (ℕ × ℕ) → Type 0
frame_asks theirs ours entries = (id : ℕ) → FrameMeets entries theirs ours id

-- what the frames of two call stacks ask of a map: what each two frames of one number ask
abbrev pub frames_ask : List AbstractFrame → List AbstractFrame → List (ℕ × ℕ) → Type 0
frames_ask theirs ours entries = (id : ℕ) → FirstMeet (FramesMeet entries theirs ours) (length theirs) id

-- what two states ask of a map before their cells are asked: their positions and their modes of running fit by it
abbrev pub state_asks : (Ty → Ty → Bool) → AbstractState → AbstractState → List (ℕ × ℕ) → Type 0
state_asks sub state target entries = HoldsClause sub state target entries positions × HoldsClause sub state target entries mode

-- what the fields of an instance ask of a map: their ids are mapped to the ids of the fields of the cell below, one by one
abbrev pub fields_ask : List ℕ → Cell → List (ℕ × ℕ) → Type 0
fields_ask ids below entries = (images : List ℕ) × ((fields_of below ≡ Some images) × (map (image_in entries) ids ≡ map Some images))

-- what a cell of the target asks of a map: it describes no less than the cell of the image
abbrev pub cell_asks : (Ty → Ty → Bool) → Cell → Cell → List (ℕ × ℕ) → Type 0
cell_asks sub cell below entries = IsOver sub entries cell below

-- where a search stands. Of each map that matches: it gives the pairs that wait, and the image of each id that was met is
-- the one that was noted. What the positions name, and what the cells of ids that were met name, was met or waits
pub record IsSearching (state target : AbstractState) (met : List ℕ) (entries todo : List (ℕ × ℕ)) : Type 0 where
  pub keys : map (λ entry. entry.0) entries ≡ map (λ c. c.0) target.cells
  pub given : (sub : Ty → Ty → Bool) (matching : List (ℕ × ℕ)) → InstanceOf sub state target matching
      → AllByRecursion (Gives matching) todo
  pub noted : (sub : Ty → Ty → Bool) (matching : List (ℕ × ℕ)) → InstanceOf sub state target matching → (id : ℕ)
      → has_id met id ≡ true → image_in matching id ≡ image_in entries id
  pub closed : (id n other : ℕ) → has_id met id ≡ true → reached.named_steps target id n ≡ Some other
      → (has_id met other || waits todo other) ≡ true
  pub starts : list_all (λ id. has_id met id || waits todo id) (reached.positions target) ≡ true

-- by no map is the state an instance of the target
abbrev pub NoneMatches : AbstractState → AbstractState → Type 0
NoneMatches state target = (sub : Ty → Ty → Bool) (entries : List (ℕ × ℕ)) → InstanceOf sub state target entries → ⊥

-- each map by which the state is an instance of the target is this one
abbrev pub IsOnlyMatch : AbstractState → AbstractState → List (ℕ × ℕ) → Type 0
IsOnlyMatch state target found = (sub : Ty → Ty → Bool) (entries : List (ℕ × ℕ)) → InstanceOf sub state target entries → entries ≡ found
