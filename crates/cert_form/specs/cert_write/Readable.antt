-- What a certificate keeps so that what is written of it is read again: the limits of its numbers and lists, and their orders.
use Rattle.std.specs.Prelude.{◌≡◌, ℕ, suc, ℤ, ◌<◌, ◌≤◌, ◌≤ℤ◌, Bool, true, false, IsTrue, List, [], ◌∷◌, ◌++◌, length, slice_get}
use Rattle.std.specs.Prelude.{Option, Some, None, unsigned_abs}
use Rattle.std.specs.List.{All, list_all}
use Rattle.class_base.specs.ClassNames.{is_class_name}
use Rattle.jvm_values.specs.Kinds.{IsOfKind}
use Rattle.jvm_values.specs.Subtyping.{IsReference}
use Rattle.jvm_values.specs.declared.types.Kind.TheVariants as kinds
use Rattle.lin_core.specs.Rows.{Rise}
use Rattle.lin_core.specs.Weights.{IsWeight}
use Rattle.abs_cells.specs.AbstractStates.{AbstractFrame, AbstractState}
use Rattle.abs_cells.specs.PairLists.{IsRising}
use Rattle.abs_cells.specs.Sound.{AreIdsRising}
use Rattle.abs_cells.specs.declared.cells.Cell.{Cell}
use Rattle.abs_cells.specs.declared.cells.Cell.TheVariants as cells
use Rattle.abs_cells.specs.Limits.{most_ids}
use Rattle.term_graph.specs.Graphs.{GraphNode, GraphPart}
use Rattle.term_graph.specs.declared.nodes.By.{By}
use Rattle.term_graph.specs.declared.nodes.By.TheVariants.{Expand, Instance, End, Todo}
use Rattle.term_graph.specs.Limits.{most_nodes}
use Rattle.descent.specs.declared.proof.CutForm.{CutForm}
use Rattle.descent.specs.declared.proof.RankRule.{RankRule}
use Rattle.descent.specs.declared.proof.RankRule.TheVariants.{Weak, Strict}
use Rattle.descent.specs.declared.proof.RankStep.{RankStep}
use Rattle.descent.specs.declared.proof.ProofStep.{ProofStep}
use Rattle.descent.specs.declared.proof.ProofStep.TheVariants.{Empty, Split, Rank, Dead}
use Rattle.cert_form.specs.Certificates.{CertContent, lacks_state}
use Rattle.cert_form.specs.Steps.{number_of}

-- ---- numbers and keys

-- a number of 32 bits without a sign, as a certificate has them for nodes, cuts, rules, rows, steps, methods and classes
abbrev pub IsNumber : ℕ → Type 0
IsNumber n = n ≤ 4294967295

-- an id of a state, which is below 2,048
abbrev pub IsId : ℕ → Type 0
IsId id = id < 2048

-- a number that may be missing is of this kind where it is there
abbrev pub IsMaybe : (ℕ → Type 0) → Option ℕ → Type 0
IsMaybe Is (Some n) = Is n
IsMaybe Is None = Unit {0}

-- the keys of a list rise: the first is not below `low`, each is above the one before, and all are below `end`
abbrev pub RisesBy : {A : Type 0} → (A → ℕ) → ℕ → ℕ → List A → Type 0
RisesBy key low end [] = Unit {0}
RisesBy key low end (x ∷ xs) = (low ≤ key x) × ((key x < end) × RisesBy key (suc (key x)) end xs)

-- ---- states

-- a cell can be read again, over the names of the world's classes: its bounds are ints in order, and its numbers, its ids and its
-- type are such
abbrev pub IsCell : List (List ℕ) → Cell → Type 0
IsCell names (cells.Int bounds) = (bounds.lo ≤ℤ bounds.hi) × (IsOfKind kinds.Int bounds.lo × IsOfKind kinds.Int bounds.hi)
IsCell names cells.Null = Unit {0}
IsCell names (cells.Obj class ids) = IsNumber class × All IsId ids
IsCell names (cells.Nums kind len) = IsId len
IsCell names (cells.Refs element len shape) = IsReference (length names) element × IsId len
IsCell names (cells.Unk bound nullable shape) = IsReference (length names) bound

-- a frame can be read again: its numbers have room, and its locals and its stack are ids
pub record IsFrame (frame : AbstractFrame) : Type 0 where
  pub method : IsNumber frame.method
  pub pc : frame.pc ≤ 65535
  pub locals : All (IsMaybe IsId) frame.locals
  pub stack : All IsId frame.stack

-- a state can be read again: it has at most as many cells as a state may have, its cells rise by id, its pairs rise, and its cells
-- and frames can be read again
pub record IsState (names : List (List ℕ)) (state : AbstractState) : Type 0 where
  pub few : length state.cells ≤ most_ids
  pub rise : AreIdsRising 0 state.cells
  pub cells : All (λ c. IsCell names c.1) state.cells
  pub eq : IsRising state.eq
  pub share : IsRising state.share
  pub frames : All IsFrame state.frames
  pub throwing : IsMaybe IsId state.throwing

-- ---- nodes

-- how a node is left can be read again: it is known, and its numbers and ids have room
abbrev pub IsWay : By → Type 0
IsWay (Expand children) = All IsNumber children
IsWay (Instance target map) = IsNumber target × All (λ p. IsId p.0 × IsId p.1) map
IsWay End = Unit {0}
IsWay Todo = ⊥

-- a node has a state exactly where it does not lack it, and the state can be read again
abbrev pub IsStated : List (List ℕ) → Bool → Option AbstractState → Type 0
IsStated names true (Some state) = ⊥
IsStated names true None = Unit {0}
IsStated names false (Some state) = IsState names state
IsStated names false None = ⊥

-- the nodes behind those of `front` can be read again: in form 1 each has its state, and in form 2 each lacks it exactly where one in
-- front of it names it as a child
abbrev pub AreParts : Bool → List (List ℕ) → List GraphPart → List GraphPart → Type 0
AreParts second names front [] = Unit {0}
AreParts second names front (part ∷ parts) = (IsWay part.by × IsStated names (lacks_state second front) part.state)
    × AreParts second names (front ++ part ∷ []) parts

-- ---- proofs

-- a row with its multiplier can be read again: the row's number and the size of the multiplier have room
abbrev pub IsMultiplier : ℕ × ℤ → Type 0
IsMultiplier entry = IsNumber entry.0 × (unsigned_abs entry.1 ≤ 2147483648)

-- a list of multipliers of rows can be read again: it has at most 65,536 entries, and each of them can
abbrev pub AreMultipliers : List (ℕ × ℤ) → Type 0
AreMultipliers entries = (length entries ≤ 65536) × All IsMultiplier entries

-- the multiples of ids in a form can be read again: the ids rise and have room, and so has the size of each multiple
abbrev pub AreMultiples : List (ℕ × ℤ) → Type 0
AreMultiples entries = Rise 2048 entries × All (λ e. unsigned_abs e.1 ≤ 2147483648) entries

-- a list that is filled only where sizes count is empty elsewhere
abbrev pub OnlyWith : {A : Type 0} → Bool → List A → Type 0
OnlyWith true entries = Unit {0}
OnlyWith false entries = length entries ≡ 0

-- the form of a cut can be read again: its numbers have room, and it has multiples of sizes only where sizes count
pub record IsForm (size : Bool) (form : CutForm) : Type 0 where
  pub constant : unsigned_abs form.constant ≤ 1099511627776
  pub ints : AreMultiples form.ints
  pub sizes : AreMultiples form.sizes
  pub sized : OnlyWith size form.sizes

-- a rule in a rank step can be read again: its multipliers can
abbrev pub IsRule : RankRule → Type 0
IsRule (Weak rule fall) = AreMultipliers fall
IsRule (Strict rule fall bound) = AreMultipliers fall × AreMultipliers bound

-- A rank step can be read again: its weights rise by class, its forms by cut and its rules by number, each of them can be read
-- again, and it has weights only where sizes count.
pub record IsRank (step : RankStep) : Type 0 where
  pub weights_rise : Rise 4294967296 step.weights
  pub weights : All IsWeight step.weights
  pub sized : OnlyWith step.size step.weights
  pub forms_rise : RisesBy (λ f. f.cut) 0 4294967296 step.forms
  pub forms : All (IsForm step.size) step.forms
  pub rules_rise : RisesBy number_of 0 4294967296 step.rules
  pub rules : All IsRule step.rules

-- a step of a proof can be read again: its numbers have room, and a split has as many steps as parts
abbrev pub IsStep : ProofStep → Type 0
IsStep Empty = Unit {0}
IsStep (Split parts steps) = (length steps ≡ length parts) × (All (All IsNumber) parts × All (IsMaybe IsNumber) steps)
IsStep (Rank step rest) = IsRank step × IsNumber rest
IsStep (Dead rule multipliers rest) = IsNumber rule × (AreMultipliers multipliers × IsNumber rest)

-- ---- the whole

-- no two of these names are the same
abbrev pub AreDistinct : List (List ℕ) → Type 0
AreDistinct names = (m n : ℕ) (name : List ℕ) → slice_get names m ≡ Some name → slice_get names n ≡ Some name → m ≡ n

-- A certificate that says this is read again as what it says: the names are distinct class names, its numbers have room, it has at
-- most as many nodes as a graph may have, and each of its nodes and steps can be read again.
pub record IsReadable (second : Bool) (names : List (List ℕ)) (content : CertContent) : Type 0 where
  pub named : IsTrue (list_all is_class_name names)
  pub distinct : AreDistinct names
  pub cuts : All IsNumber content.cuts
  pub few : length content.parts ≤ most_nodes
  pub parts : AreParts second names [] content.parts
  pub proof : All IsStep content.proof

-- a node of a graph can be read again: its state can, and how it is left
pub record IsNode (names : List (List ℕ)) (node : GraphNode) : Type 0 where
  pub state : IsState names node.state
  pub way : IsWay node.by

-- A certificate of this graph, these cuts and this proof is read again, in either form: the names are distinct class names, the
-- numbers have room, the graph has at most as many nodes as it may have, and each node and each step can be read again.
pub record IsReadableGraph (names : List (List ℕ)) (graph : List GraphNode) (cuts : List ℕ) (proof : List ProofStep) : Type 0 where
  pub named : IsTrue (list_all is_class_name names)
  pub distinct : AreDistinct names
  pub numbers : All IsNumber cuts
  pub few : length graph ≤ most_nodes
  pub nodes : All (IsNode names) graph
  pub steps : All IsStep proof
