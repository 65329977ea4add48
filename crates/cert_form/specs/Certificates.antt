-- Certificates: objects with exactly the fields `cuts`, `form`, `nodes` and `proof`. The names of the fields are tested
-- first, and then `form`, `cuts`, `nodes` and `proof` are read in this order.
--
-- In form 1 each node is `{"by":B,"state":S}`. In form 2 a node that an `expand` node with a lower number names as a child
-- has no state, since it has the child's: it is `{"by":B}`.
use Rattle.std.specs.Prelude.{◌≡◌, ℕ, ℤ, pos, ◌==◌, ◌||◌, ◌&&◌, Bool, true, false, if◌then◌else◌, List, [], ◌∷◌, Option, Some, None}
use Rattle.std.specs.Prelude.{codes, length, take, slice_get, Result, Ok, Err}
use Rattle.std.specs.List.{list_any}
use Rattle.std.specs.Ordering.{int_eq}
use Rattle.json_view.specs.Answers.{Reads}
use Rattle.json_view.specs.Located.{root_of}
use Rattle.json_view.specs.Reading.{int_of, has_field}
use Rattle.json_view.specs.declared.fault.JsonFault.TheVariants as faults
use Rattle.serde_json.specs.Data.{Data}
use Rattle.abs_cells.specs.AbstractStates.{AbstractState}
use Rattle.term_graph.specs.Graphs.{GraphPart}
use Rattle.term_graph.specs.Limits.{most_nodes}
use Rattle.term_graph.specs.declared.nodes.By.{By}
use Rattle.term_graph.specs.declared.nodes.By.TheVariants.{Expand, Instance, End, Todo}
use Rattle.descent.specs.declared.proof.ProofStep.{ProofStep}
use Rattle.cert_form.specs.declared.fault.CertFault.{CertFault}
use Rattle.cert_form.specs.declared.fault.CertFault.TheVariants.{Json, Limit, Memory}
use Rattle.cert_form.specs.declared.certs.Kept.{Kept}
use Rattle.cert_form.specs.Answers.{Reader, json}
use Rattle.cert_form.specs.Fields.{◌>>=◌, only, field, entries_of, at_most, longer_than, nth}
use Rattle.cert_form.specs.States.{state_of}
use Rattle.cert_form.specs.Ways.{by_of, numbers_of}
use Rattle.cert_form.specs.Steps.{proof_of}

-- What a certificate says: the numbers of its cuts, what it says of each node, and the steps of its proof.
pub record CertContent : Type 0 where
  pub cuts : List ℕ
  pub parts : List GraphPart
  pub proof : List ProofStep

-- ---- nodes

-- a node that is left this way names node n as its child
abbrev pub names_child : ℕ → By → Bool
names_child n (Expand children) = list_any (λ child. child == n) children
names_child n (Instance target map) = false
names_child n End = false
names_child n Todo = false

-- one of these nodes names node n as its child
abbrev pub is_named : ℕ → List GraphPart → Bool
is_named n parts = list_any (λ part. names_child n part.by) parts

-- the node `{"by":B,"state":S}`
unfoldable pub whole_node : List (List ℕ) → Reader GraphPart
whole_node names here = do
  listed ← only (codes "by state") here
  by ← field (codes "by") by_of here
  state ← field (codes "state") (state_of names) here
  Ok (record { state = Some state; by = by })

-- the node `{"by":B}`, which has the state that another node gives it
unfoldable pub named_node : Reader GraphPart
named_node here = do
  listed ← only (codes "by") here
  by ← field (codes "by") by_of here
  Ok (record { state = None; by = by })

-- the node behind those of `front` has no state of its own: the certificate is in form 2, and one of these names it as a child
abbrev pub lacks_state : Bool → List GraphPart → Bool
lacks_state second front = second && is_named (length front) front

-- a node that lacks its state or has it
abbrev pub node_with : List (List ℕ) → Bool → Reader GraphPart
node_with names lacks here = if lacks then named_node here else whole_node names here

-- a node behind those of `front`, in form 2 or in form 1
unfoldable pub node_in : List (List ℕ) → Bool → List GraphPart → Reader GraphPart
node_in names second front here = node_with names (lacks_state second front) here

-- the nodes of a certificate, at most as many as a graph may have
unfoldable pub nodes_of : List (List ℕ) → Bool → Reader (List GraphPart)
nodes_of names second here = at_most most_nodes (entries_of (node_in names second)) here

-- ---- the whole

-- the form's number is 2
abbrev pub is_second : ℤ → Bool
is_second form = int_eq form (pos 2)

-- the form of a certificate, 1 or 2, as whether it is 2
unfoldable pub form_of : Reader Bool
form_of here = json (int_of (pos 1) (pos 2) here) >>= λ form. Ok (is_second form)

-- a certificate over the names of the world's classes
unfoldable pub cert_of : List (List ℕ) → Reader CertContent
cert_of names here = do
  listed ← only (codes "cuts form nodes proof") here
  second ← field (codes "form") form_of here
  cuts ← field (codes "cuts") numbers_of here
  parts ← field (codes "nodes") (nodes_of names second) here
  proof ← field (codes "proof") proof_of here
  Ok (record { cuts = cuts; parts = parts; proof = proof })

-- ---- nodes by number

-- a node's state, where it has one of its own
unfoldable pub maybe_state : List (List ℕ) → Reader (Option AbstractState)
maybe_state names here = if has_field (codes "state") here then
    (field (codes "state") (state_of names) here >>= λ state. Ok (Some state)) else Ok None

-- what a reader says of node n of a certificate
unfoldable pub of_node : {A : Type 0} → ℕ → Reader A → Reader A
of_node n reader here = field (codes "nodes") (longer_than n (nth n reader)) here

-- ---- what is kept

-- what is kept of a certificate besides its nodes: its cuts, its proof, and how many nodes it has
abbrev pub kept_of : CertContent → Kept
kept_of content = record { cuts = content.cuts; count = length content.parts; proof = content.proof }

-- what is kept of the certificate that is read, or the fault of reading it
abbrev pub kept : Result CertContent CertFault → Result Kept CertFault
kept (Ok content) = Ok (kept_of content)
kept (Err fault) = Err fault

-- the nodes of the certificate that is read; none where it is faulty
abbrev pub parts_or_none : Result CertContent CertFault → List GraphPart
parts_or_none (Ok content) = content.parts
parts_or_none (Err fault) = []

-- each node without a state is named as a child by an `expand` node with a lower number
abbrev pub LackingAreNamed : List GraphPart → Type 0
LackingAreNamed parts = (n : ℕ) (by : By) → slice_get parts n ≡ Some (record { state = None; by = by }) → is_named n (take n parts) ≡ true

-- `serde_json` reads a value of the bytes, of which the reader says this
abbrev pub SaysOf : {A : Type 0} → Reader A → List ℕ → Result A CertFault → Type 0
SaysOf reader bytes said = (value : Data) × (Reads bytes value × (reader (root_of value) ≡ said))

-- The answer for a whole text: `serde_json` reads a value of it of which the reader says the answer; or it reads none; or memory
-- ran out.
abbrev pub AnswersText : {A : Type 0} → Reader A → List ℕ → Result A CertFault → Type 0
AnswersText reader bytes (Ok content) = SaysOf reader bytes (Ok content)
AnswersText reader bytes (Err (Json faults.NotJson)) = (value : Data) → ¬ Reads bytes value
AnswersText reader bytes (Err (Json faults.Memory)) = ⊥
AnswersText reader bytes (Err (Json fault)) = SaysOf reader bytes (Err (Json fault))
AnswersText reader bytes (Err (Limit place)) = SaysOf reader bytes (Err (Limit place))
AnswersText reader bytes (Err Memory) = Unit {0}
