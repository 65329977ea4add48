-- Cells: `[id,"int",lo,hi]`, `[id,"null"]`, `[id,"obj",class,[ids]]`, `[id,"nums",kind,length]`,
-- `[id,"refs",type,length,shape]` and `[id,"unk",type,nullable,shape]`, rising by id.
--
-- Of each cell first its word and its length are tested, then its id, then that the id is above the one before, and then
-- the rest is read.
use Rattle.std.specs.Prelude.{ℕ, ℤ, pos, negsuc, ◌==◌, nat_lt, if◌then◌else◌, List, Option, Some, None, option_map, codes, Result, Ok, Err}
use Rattle.std.specs.Str.{bytes_eq}
use Rattle.json_view.specs.Located.{Located}
use Rattle.json_view.specs.Reading.{flag_of}
use Rattle.lin_core.specs.Intervals.{interval_of}
use Rattle.lin_core.specs.declared.intervals.Interval.{Interval as Bounds}
use Rattle.abs_cells.specs.declared.cells.Cell.{Cell}
use Rattle.abs_cells.specs.declared.cells.Cell.TheVariants as cells
use Rattle.cert_form.specs.declared.fault.CertFault.{CertFault}
use Rattle.cert_form.specs.declared.cells.CellWord.{CellWord}
use Rattle.cert_form.specs.declared.cells.CellWord.TheVariants.{Int, Null, Obj, Nums, Refs, Unk}
use Rattle.cert_form.specs.Answers.{Reader, json, out_of_range}
use Rattle.cert_form.specs.Fields.{◌>>=◌, entries_of, nth, of_length, longer_than, a_word, a_number, an_id, an_int, key_in}
use Rattle.cert_form.specs.Types.{type_in, shape_of, kind_of}

-- ---- words

-- the kind of a cell by its word
abbrev pub cell_word : List ℕ → Option CellWord
cell_word word =
    if bytes_eq word (codes "int") then Some Int
    else if bytes_eq word (codes "null") then Some Null
    else if bytes_eq word (codes "obj") then Some Obj
    else if bytes_eq word (codes "nums") then Some Nums
    else if bytes_eq word (codes "refs") then Some Refs
    else if bytes_eq word (codes "unk") then Some Unk
    else None

-- how many entries the list of a cell with this word has
abbrev pub cell_length : CellWord → ℕ
cell_length Int = 4
cell_length Null = 2
cell_length Obj = 4
cell_length Nums = 4
cell_length Refs = 5
cell_length Unk = 5

-- ---- what stands behind the word

-- an int cell with these bounds, which are out of range where they are none
abbrev pub bounds_or : Located → Option Bounds → Result Cell CertFault
bounds_or here (Some bounds) = Ok (cells.Int bounds)
bounds_or here None = out_of_range here

-- the int cell from `lo` to the number read here, which has to be an int that isn't below `lo`
unfoldable pub up_to : ℤ → Reader Cell
up_to lo here = an_int here >>= λ hi. bounds_or here (interval_of lo hi)

-- the cell `[id,"int",lo,hi]`: any int from `lo` to `hi`
unfoldable pub int_cell : Reader Cell
int_cell here = nth 2 an_int here >>= λ lo. nth 3 (up_to lo) here

-- a list of ids, in no order
unfoldable pub ids_of : Reader (List ℕ)
ids_of here = entries_of (λ _. an_id) here

-- the cell `[id,"obj",class,[ids]]`: an instance of exactly this class, whose fields have the values of these ids
unfoldable pub obj_cell : Reader Cell
obj_cell here = do
  class ← nth 2 a_number here
  ids ← nth 3 ids_of here
  Ok (cells.Obj class ids)

-- the cell `[id,"nums",kind,length]`: an array of numbers of this kind, whose length is the value of this id
unfoldable pub nums_cell : Reader Cell
nums_cell here = do
  kind ← nth 2 kind_of here
  length ← nth 3 an_id here
  Ok (cells.Nums kind length)

-- the cell `[id,"refs",type,length,shape]`: an array of references of this element type or one below it, whose length is the value
-- of this id, and whose region has this shape
unfoldable pub refs_cell : List (List ℕ) → Reader Cell
refs_cell names here = do
  element ← nth 2 (type_in names) here
  length ← nth 3 an_id here
  shape ← nth 4 shape_of here
  Ok (cells.Refs element length shape)

-- the cell `[id,"unk",type,nullable,shape]`: an object of this type or one below it, whose region has this shape; or null, where the
-- flag is set
unfoldable pub unk_cell : List (List ℕ) → Reader Cell
unk_cell names here = do
  bound ← nth 2 (type_in names) here
  nullable ← nth 3 (λ there. json (flag_of there)) here
  shape ← nth 4 shape_of here
  Ok (cells.Unk bound nullable shape)

-- a cell with this word, over the names of the world's classes
abbrev pub cell_of : List (List ℕ) → CellWord → Reader Cell
cell_of names Int here = int_cell here
cell_of names Null here = Ok cells.Null
cell_of names Obj here = obj_cell here
cell_of names Nums here = nums_cell here
cell_of names Refs here = refs_cell names here
cell_of names Unk here = unk_cell names here

-- ---- cells with their ids

-- a cell with its id, which is above the ids of `front`
unfoldable pub keyed_cell : List (List ℕ) → List (ℕ × Cell) → CellWord → Reader (ℕ × Cell)
keyed_cell names front word here = do
  id ← nth 0 an_id here
  order ← key_in front id here
  cell ← cell_of names word here
  Ok (id, cell)

-- a cell of a state, behind those of `front`: its word and its length are tested before its id and the rest
unfoldable pub cell_in : List (List ℕ) → List (ℕ × Cell) → Reader (ℕ × Cell)
cell_in names front here = longer_than 1 (nth 1 (a_word cell_word)) here >>= λ word. of_length (cell_length word)
    (keyed_cell names front word) here
