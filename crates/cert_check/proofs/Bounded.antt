-- What the cells of a sound state say of ints is of 32 bits.
use Rattle.std.proofs.Common.{ℕ, ◌≤◌, ◌^◌, List, [], ◌∷◌, ℤ, pos, negsuc, arith}
use Rattle.std.specs.Prelude.{unsigned_abs}
use Rattle.std.specs.List.{AllByRecursion, AllZip}
use Rattle.std.proofs.lemmas.Int.{ints}
use Rattle.std.proofs.lemmas.List.Elements.{All-from_recursion, recursion_from_All}
use Rattle.jvm_values.specs.declared.types.Kind.TheVariants as kinds
use Rattle.jvm_values.specs.Kinds.{IsOfKind}
use Rattle.jvm_values.specs.TypedHeaps.{WorldTypes}
use Rattle.abs_cells.specs.declared.cells.Cell.{Cell}
use Rattle.abs_cells.specs.declared.cells.Cell.TheVariants.{Int, Null, Obj, Nums, Refs, Unk}
use Rattle.abs_cells.specs.AbstractStates.{AbstractState}
use Rattle.abs_cells.specs.Sound.{IsSoundCell, IsSound}
use Rattle.class_program.specs.class_world.WorldTypes.{types_of}
use Rattle.class_program.specs.Programs.{Program}
use Rattle.frame_types.specs.Tables.{CodeTypes}
use Rattle.term_graph.specs.declared.links.Link.{Link}
use Rattle.term_graph.specs.Graphs.{GraphNode}
use Rattle.path_rules.specs.Conditions.{IsBounded, AreBounded}
use Rattle.graph_check.specs.Good.{IsGoodNode}
use Rattle.graph_check.proofs.Excluding.{good_by}

int_small : (n : ℤ) → IsOfKind kinds.Int n → unsigned_abs n ≤ 2 ^ 31
int_small (pos n) h = omega (arith, ints, h.0, h.1)
int_small (negsuc n) h = omega (arith, ints, h.0, h.1)

cell_bounded : (types : WorldTypes) (state : AbstractState) (cell : Cell) → IsSoundCell types state cell → IsBounded cell
cell_bounded types state (Int interval) sound = (int_small interval.lo sound.0, int_small interval.hi sound.1)
cell_bounded types state Null sound = tt
cell_bounded types state (Obj class ids) sound = tt
cell_bounded types state (Nums kind len) sound = tt
cell_bounded types state (Refs element len shape) sound = tt
cell_bounded types state (Unk bound nullable shape) sound = tt

cells_bounded : (types : WorldTypes) (state : AbstractState) (cells : List (ℕ × Cell))
    → AllByRecursion (λ (c : ℕ × Cell). IsSoundCell types state c.1) cells → AllByRecursion (λ (c : ℕ × Cell). IsBounded c.1) cells
cells_bounded types state [] sound = tt
cells_bounded types state (c ∷ cells) sound = (cell_bounded types state c.1 sound.0, cells_bounded types state cells sound.1)

pub sound_bounded : (types : WorldTypes) (state : AbstractState) → IsSound types state → AreBounded state
sound_bounded types state sound = All-from_recursion (λ (c : ℕ × Cell). IsBounded c.1) state.cells
    (cells_bounded types state state.cells (recursion_from_All (λ (c : ℕ × Cell). IsSoundCell types state c.1) state.cells sound.cells))

-- so are those of a good graph's states
pub all_bounded : (p : Program) (typing : ℕ → CodeTypes) (nodes list : List GraphNode) (links : List (List Link))
    → AllZip (IsGoodNode p typing nodes) list links → AllByRecursion (λ (n : GraphNode). AreBounded n.state) list
all_bounded p typing nodes [] links each = tt
all_bounded p typing nodes (node ∷ list) [] each = absurd each
all_bounded p typing nodes (node ∷ list) (own ∷ links) each = (
  sound_bounded (types_of p.world) node.state (good_by p typing nodes node.state node.by own each.0).sound,
  all_bounded p typing nodes list links each.1,
)
