-- Graphs whose paths have rules.
use Rattle.std.specs.Prelude.{◌≡◌, ℕ, suc, ◌<◌, ◌≤◌, ◌^◌, ℤ, List, [], ◌∷◌, All, length, unsigned_abs, Some, slice_get}
use Rattle.std.specs.List.{AllZip}
use Rattle.abs_cells.specs.declared.cells.Cell.{Cell}
use Rattle.abs_cells.specs.declared.cells.Cell.TheVariants.{Int, Null, Obj, Nums, Refs, Unk}
use Rattle.abs_cells.specs.AbstractStates.{AbstractState}
use Rattle.abs_cells.specs.Cells.{is_int, HasCell}
use Rattle.abs_cells.specs.Sound.{IsWellFormed}
use Rattle.abs_reach.specs.Instances.{image_in, ListsIds, is_no_int}
use Rattle.term_graph.specs.declared.nodes.By.{By}
use Rattle.term_graph.specs.declared.nodes.By.TheVariants.{Expand, Instance, End, Todo}
use Rattle.term_graph.specs.declared.links.Side.{Side}
use Rattle.term_graph.specs.declared.links.Side.TheVariants.{Before, After}
use Rattle.term_graph.specs.declared.links.LinkRow.{LinkRow}
use Rattle.term_graph.specs.declared.links.Link.{Link}
use Rattle.term_graph.specs.Graphs.{GraphNode}

-- ---- links and maps

-- a term of a link is an int id of the state on its side, and its coefficient is at most 2^33 in size
abbrev pub IsTermBetween : AbstractState → AbstractState → Side × ℕ × ℤ → Type 0
IsTermBetween state child (Before, id, number) = HasCell is_int state id × (unsigned_abs number ≤ 2 ^ 33)
IsTermBetween state child (After, id, number) = HasCell is_int child id × (unsigned_abs number ≤ 2 ^ 33)

-- a row of a link has at most three terms, and its constant is at most 2^33 in size
pub record IsRowBetween (state child : AbstractState) (row : LinkRow) : Type 0 where
  pub short : length row.terms ≤ 3
  pub terms : All (IsTermBetween state child) row.terms
  pub constant : unsigned_abs row.constant ≤ 2 ^ 33

-- an id that both have is an int in both or in neither, an id that another one was merged into is a reference of the child where it
-- has it, and the link's rows are over the two
pub record IsLinkBetween (state child : AbstractState) (link : Link) : Type 0 where
  pub ints : (id : ℕ) → HasCell is_int state id → HasCell is_no_int child id → ⊥
  pub references : (id : ℕ) → HasCell is_no_int state id → HasCell is_int child id → ⊥
  pub merged : (goes stays : ℕ) → link.merged ≡ Some (goes, stays) → HasCell is_int child stays → ⊥
  pub rows : All (IsRowBetween state child) link.rows

-- a map has an entry for each id of the target, and gives ints for ints and references for references
pub record IsMapBetween (state target : AbstractState) (entries : List (ℕ × ℕ)) : Type 0 where
  pub lists : ListsIds target entries
  pub ints : (id : ℕ) → HasCell is_int target id → (image : ℕ) × ((image_in entries id ≡ Some image) × HasCell is_int state image)
  pub references : (id : ℕ) → HasCell is_no_int target id → (image : ℕ)
      × ((image_in entries id ≡ Some image) × HasCell is_no_int state image)

-- ---- states

-- the ends of an int's interval are at most 2^31 in size, as ints of 32 bits are
abbrev pub IsBounded : Cell → Type 0
IsBounded (Int interval) = (unsigned_abs interval.lo ≤ 2 ^ 31) × (unsigned_abs interval.hi ≤ 2 ^ 31)
IsBounded Null = Unit {0}
IsBounded (Obj class ids) = Unit {0}
IsBounded (Nums kind len) = Unit {0}
IsBounded (Refs element len shape) = Unit {0}
IsBounded (Unk bound nullable shape) = Unit {0}

-- the intervals of all int ids of a state have ends of at most 2^31 in size
abbrev pub AreBounded : AbstractState → Type 0
AreBounded state = All (λ (c : ℕ × Cell). IsBounded c.1) state.cells

-- ---- graphs

-- a child by its number, and the link to it
abbrev pub IsGoodChild : List GraphNode → AbstractState → ℕ → Link → Type 0
IsGoodChild graph state child link = (n : GraphNode) × ((slice_get graph child ≡ Some n) × IsLinkBetween state n.state link)

-- how a node is left, with the links of its children, of which there is one for each
abbrev pub IsGoodBy : List GraphNode → AbstractState → By → List Link → Type 0
IsGoodBy graph state (Expand children) links = AllZip (IsGoodChild graph state) children links
IsGoodBy graph state (Instance target entries) links = (n : GraphNode)
    × ((slice_get graph target ≡ Some n) × IsMapBetween state n.state entries)
IsGoodBy graph state End links = Unit {0}
IsGoodBy graph state Todo links = Unit {0}

-- a graph's nodes are left in good ways, and their states are well-formed
pub record AreGood (graph : List GraphNode) (links : List (List Link)) : Type 0 where
  pub states : All (λ (n : GraphNode). IsWellFormed n.state) graph
  pub nodes : AllZip (λ (n : GraphNode) (l : List Link). IsGoodBy graph n.state n.by l) graph links

-- cuts rise
abbrev pub CutsRise : ℕ → List ℕ → Type 0
CutsRise low [] = Unit {0}
CutsRise low (cut ∷ cuts) = (low ≤ cut) × CutsRise (suc cut) cuts

-- states are well-formed, children, targets, links and maps are good; cuts are nodes, rise, and begin with node 0
pub record IsReady (graph : List GraphNode) (links : List (List Link)) (cuts : List ℕ) : Type 0 where
  pub states : All (λ (n : GraphNode). IsWellFormed n.state) graph
  pub nodes : AllZip (λ (n : GraphNode) (l : List Link). IsGoodBy graph n.state n.by l) graph links
  pub first : slice_get cuts 0 ≡ Some 0
  pub rise : CutsRise 0 cuts
  pub cut_nodes : All (λ (cut : ℕ). cut < length graph) cuts
