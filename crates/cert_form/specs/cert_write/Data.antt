-- JSON values of certificates, in form 1 or, where `second`, in form 2.
--
-- In form 2 a node that an `expand` node with a lower number names as a child is written without its state.
use Rattle.std.specs.Prelude.{ℕ, ℤ, negsuc, Bool, true, ◌==◌, if◌then◌else◌, List, [], ◌∷◌, ◌++◌, length, map, reverse, replicate}
use Rattle.std.specs.Prelude.{slice_get, Option, Some, None, codes}
use Rattle.std.specs.Option.{unwrap_or}
use Rattle.serde_json.specs.Data.{Data, unsigned, null, boolean, number, string, array, object, Members, no_members, member}
use Rattle.serde_json.specs.Find.{of_integer}
use Rattle.serde_json.specs.View.{items_of}
use Rattle.jvm_values.specs.Kinds.{kind_code}
use Rattle.jvm_values.specs.declared.types.Base.{Base}
use Rattle.jvm_values.specs.declared.types.Base.TheVariants as bases
use Rattle.jvm_values.specs.declared.types.Kind.{Kind}
use Rattle.jvm_values.specs.declared.types.Kind.TheVariants as kinds
use Rattle.jvm_values.specs.declared.types.Ty.{Ty}
use Rattle.jvm_values.specs.declared.shape.Shape.{Shape}
use Rattle.jvm_values.specs.declared.shape.Shape.TheVariants.{Tree, Dag, Any}
use Rattle.abs_cells.specs.AbstractStates.{AbstractFrame, AbstractState}
use Rattle.abs_cells.specs.declared.cells.Cell.{Cell}
use Rattle.abs_cells.specs.declared.cells.Cell.TheVariants as cells
use Rattle.term_graph.specs.Graphs.{GraphNode, GraphPart}
use Rattle.term_graph.specs.declared.nodes.By.{By}
use Rattle.term_graph.specs.declared.nodes.By.TheVariants.{Expand, Instance, End, Todo}
use Rattle.descent.specs.declared.proof.CutForm.{CutForm}
use Rattle.descent.specs.declared.proof.RankRule.{RankRule}
use Rattle.descent.specs.declared.proof.RankRule.TheVariants.{Weak, Strict}
use Rattle.descent.specs.declared.proof.RankStep.{RankStep}
use Rattle.descent.specs.declared.proof.ProofStep.{ProofStep}
use Rattle.descent.specs.declared.proof.ProofStep.TheVariants.{Empty, Split, Rank, Dead}
use Rattle.cert_form.specs.Certificates.{CertContent, lacks_state}

-- ---- numbers, words and lists

-- a natural number as JSON
abbrev pub natural : ℕ → Data
natural n = number (unsigned n)

-- an integer as JSON
abbrev pub integer : ℤ → Data
integer n = number (of_integer n)

-- a number that may be missing as JSON, where -1 stands for none
abbrev pub maybe : Option ℕ → Data
maybe (Some n) = natural n
maybe None = integer (negsuc 0)

-- a list as JSON
abbrev pub list : List Data → Data
list items = array (items_of items)

-- a list of natural numbers as JSON
abbrev pub naturals : List ℕ → Data
naturals ns = list (map natural ns)

-- a pair of numbers as a list of two
abbrev pub pair : ℕ × ℕ → Data
pair p = list (natural p.0 ∷ natural p.1 ∷ [])

-- a list of pairs of numbers
abbrev pub pairs : List (ℕ × ℕ) → Data
pairs ps = list (map pair ps)

-- ---- types, kinds and shapes

-- the letter of a kind of numbers in descriptors (JVM specification, section 4.3.2)
abbrev pub kind_letter : Kind → ℕ
kind_letter kinds.Boolean = 90
kind_letter kinds.Char = 67
kind_letter kinds.Byte = 66
kind_letter kinds.Short = 83
kind_letter kinds.Int = 73

-- the name of a class by its number; it is empty for a number past the names
abbrev pub class_name : List (List ℕ) → ℕ → List ℕ
class_name names class = unwrap_or (slice_get names class) []

-- the element of an array type in its descriptor (JVM specification, section 4.3.2)
abbrev pub base_text : List (List ℕ) → Base → List ℕ
base_text names (bases.Num kind) = kind_letter kind ∷ []
base_text names (bases.Class class) = 76 ∷ class_name names class ++ 59 ∷ []

-- a type without dimensions: a class by its name, or the letter of a kind of numbers
abbrev pub named_base : List (List ℕ) → Base → List ℕ
named_base names (bases.Num kind) = kind_letter kind ∷ []
named_base names (bases.Class class) = class_name names class

-- the word of a type: a class by its name, an array type by its descriptor (JVM specification, section 4.3.2)
abbrev pub type_word : List (List ℕ) → Ty → List ℕ
type_word names t = if t.dims == 0 then named_base names t.base else replicate t.dims 91 ++ base_text names t.base

-- the word of a shape
abbrev pub shape_word : Shape → List ℕ
shape_word Tree = codes "tree"
shape_word Dag = codes "dag"
shape_word Any = codes "any"

-- ---- states

-- what a cell's list has behind the id: the cell's word, and what belongs to it
abbrev pub cell_items : List (List ℕ) → Cell → List Data
cell_items names (cells.Int bounds) = string (codes "int") ∷ integer bounds.lo ∷ integer bounds.hi ∷ []
cell_items names cells.Null = string (codes "null") ∷ []
cell_items names (cells.Obj class ids) = string (codes "obj") ∷ natural class ∷ naturals ids ∷ []
cell_items names (cells.Nums kind length) = string (codes "nums") ∷ natural (kind_code kind) ∷ natural length ∷ []
cell_items names (cells.Refs element length shape) = string (codes "refs") ∷ string (type_word names element) ∷ natural length
    ∷ string (shape_word shape) ∷ []
cell_items names (cells.Unk bound nullable shape) = string (codes "unk") ∷ string (type_word names bound) ∷ boolean nullable
    ∷ string (shape_word shape) ∷ []

-- a cell with its id
abbrev pub cell : List (List ℕ) → ℕ × Cell → Data
cell names c = list (natural c.0 ∷ cell_items names c.1)

-- a frame: its method, its place, its locals, and its stack, whose top is written last
abbrev pub frame : AbstractFrame → Data
frame f = list (natural f.method ∷ natural f.pc ∷ list (map maybe f.locals) ∷ naturals (reverse f.stack) ∷ [])

-- a state: its cells, its frames with the bottom one first, its pairs of ids, and what is thrown
abbrev pub state : List (List ℕ) → AbstractState → Data
state names s =
    object (member (codes "cells") (list (map (cell names) s.cells))
    (member (codes "eq") (pairs s.eq)
    (member (codes "frames") (list (map frame (reverse s.frames)))
    (member (codes "share") (pairs s.share)
    (member (codes "throw") (maybe s.throwing) no_members)))))

-- ---- nodes

-- how a node is left; a node of which that isn't known yet has no form, and null stands for it
abbrev pub by : By → Data
by (Expand children) = list (string (codes "expand") ∷ naturals children ∷ [])
by (Instance target map) = list (string (codes "instance") ∷ natural target ∷ pairs map ∷ [])
by End = list (string (codes "end") ∷ [])
by Todo = null

-- the field `state` of a node, where the node has a state of its own
abbrev pub state_member : List (List ℕ) → Option AbstractState → Members
state_member names (Some s) = member (codes "state") (state names s) no_members
state_member names None = no_members

-- a node: how it is left, and its state where it has one of its own
abbrev pub node : List (List ℕ) → GraphPart → Data
node names part = object (member (codes "by") (by part.by) (state_member names part.state))

-- ---- proofs

-- a number with an integer, as a list of two
abbrev pub entry : ℕ × ℤ → Data
entry e = list (natural e.0 ∷ integer e.1 ∷ [])

-- a list of numbers with integers: weights of classes, multiples of ids, or multipliers of rows
abbrev pub entries : List (ℕ × ℤ) → Data
entries es = list (map entry es)

-- the form of a cut: the cut, the constant, and the multiples of ints and of sizes
abbrev pub form : CutForm → Data
form f = list (natural f.cut ∷ integer f.constant ∷ entries f.ints ∷ entries f.sizes ∷ [])

-- a rule in a rank step: its number, its word, and the multipliers that show that the form never rises, or its fall and its bound
abbrev pub rule : RankRule → Data
rule (Weak n fall) = list (natural n ∷ string (codes "weak") ∷ entries fall ∷ [])
rule (Strict n fall bound) = list (natural n ∷ string (codes "strict") ∷ entries fall ∷ entries bound ∷ [])

-- the word of a rank step's order: whether sizes count
abbrev pub order_word : Bool → List ℕ
order_word size = if size then codes "size" else codes "linear"

-- a split: the numbers of the rules of each part, and for each part the step that takes it, if there is one
abbrev pub split : List (List ℕ) → List (Option ℕ) → Data
split parts steps = list (string (codes "split") ∷ list (map naturals parts) ∷ list (map maybe steps) ∷ [])

-- a rank step: its order, the weights of classes, the forms of cuts, the rules of its set, and the step that takes the weak ones
abbrev pub rank : RankStep → ℕ → Data
rank ranked rest = list (string (codes "rank") ∷ string (order_word ranked.size) ∷ entries ranked.weights ∷ list
    (map form ranked.forms) ∷ list (map rule ranked.rules) ∷ natural rest ∷ [])

-- a dead step: the number of a rule that can never be taken, the multipliers that show it, and the step that takes the other rules
abbrev pub dead : ℕ → List (ℕ × ℤ) → ℕ → Data
dead n multipliers rest = list (string (codes "dead") ∷ natural n ∷ entries multipliers ∷ natural rest ∷ [])

-- a step of a proof
abbrev pub step : ProofStep → Data
step Empty = list (string (codes "empty") ∷ [])
step (Split parts steps) = split parts steps
step (Rank ranked rest) = rank ranked rest
step (Dead n multipliers rest) = dead n multipliers rest

-- ---- the whole

-- what is written of a node: how it is left, and its state, unless it lacks that
abbrev pub part_of : Bool → GraphNode → GraphPart
part_of lacks n = record { state = if lacks then None else Some n.state; by = n.by }

-- what is written of the nodes behind those of `front`; in form 2 each lacks its state where one in front of it names it as a child
abbrev pub parts_from : Bool → List GraphPart → List GraphNode → List GraphPart
parts_from second front [] = front
parts_from second front (n ∷ rest) = parts_from second (front ++ part_of (lacks_state second front) n ∷ []) rest

-- what is written of a graph, its cuts and a proof, in form 2 or in form 1
abbrev pub content_in : Bool → List GraphNode → List ℕ → List ProofStep → CertContent
content_in second graph cuts proof = record { cuts = cuts; parts = parts_from second [] graph; proof = proof }

-- the number of the form: 2 or 1
abbrev pub form_number : Bool → ℕ
form_number second = if second then 2 else 1

-- a certificate with these cuts, with the JSON of its nodes, and with the steps of its proof
abbrev pub certificate_of : Bool → List ℕ → Data → List ProofStep → Data
certificate_of second cuts nodes proof =
    object (member (codes "cuts") (naturals cuts)
    (member (codes "form") (natural (form_number second))
    (member (codes "nodes") nodes
    (member (codes "proof") (list (map step proof)) no_members))))

-- a certificate that says this, in form 2 or in form 1
abbrev pub certificate_in : Bool → List (List ℕ) → CertContent → Data
certificate_in second names content = certificate_of second content.cuts (list (map (node names) content.parts)) content.proof

-- ---- in form 2, in which searches write theirs

-- what is written of a graph, its cuts and a proof in form 2
abbrev pub content_of : List GraphNode → List ℕ → List ProofStep → CertContent
content_of graph cuts proof = content_in true graph cuts proof

-- a certificate that says this, in form 2
abbrev pub certificate : List (List ℕ) → CertContent → Data
certificate names content = certificate_in true names content
