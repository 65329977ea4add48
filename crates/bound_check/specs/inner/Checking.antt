-- Words of the private calls that check a bound part by part.
use Rattle.std.specs.Prelude.{◌≡◌, ◌≢◌, ◌||◌, ℕ, nat_lt, Bool, List, Some, None, Result, Ok, Err}
use Rattle.json_view.specs.declared.fault.JsonFault.{JsonFault}
use Rattle.json_view.specs.declared.fault.JsonFault.TheVariants as json
use Rattle.input_text.specs.Answers.{SaysOf}
use Rattle.abs_cells.specs.AbstractStates.{AbstractState}
use Rattle.descent.specs.declared.proof.ProofStep.{ProofStep}
use Rattle.descent.specs.declared.rules.PathRule.{PathRule}
use Rattle.term_graph.specs.declared.links.Link.{Link}
use Rattle.term_graph.specs.Graphs.{GraphNode}
use Rattle.bound_text.specs.declared.texts.BoundEntry.{BoundEntry}
use Rattle.bound_text.specs.declared.texts.BoundText.{BoundText}
use Rattle.bound_text.specs.Texts.{bound_text_of}
use Rattle.bound_check.specs.declared.bound.Bound.{Bound}
use Rattle.bound_check.specs.declared.fault.BoundFault.{BoundFault}
use Rattle.bound_check.specs.declared.fault.BoundFault.TheVariants as faults
use Rattle.bound_check.specs.declared.refusal.BoundRefusal.{BoundRefusal}
use Rattle.bound_check.specs.declared.refusal.BoundRefusal.TheVariants.{NoText, Faulty}
use Rattle.bound_check.specs.Entries.{bound_fault}
use Rattle.bound_check.specs.Bounds.{IsBound}
use Rattle.bound_check.specs.Answers.{SaysNone}

-- rules, steps or entries are more than 32 bits count
abbrev pub are_many : ℕ → ℕ → ℕ → Bool
are_many rules steps entries = nat_lt 4294967295 rules || (nat_lt 4294967295 steps || nat_lt 4294967295 entries)

-- this is the first fault of the entries, beside the links and rules of a certificate; it is never want of memory
abbrev pub AreFaulty : List PathRule → List ProofStep → List BoundEntry → BoundFault → Type 0
AreFaulty rules steps entries faults.Memory = ⊥
AreFaulty rules steps entries fault = bound_fault rules steps entries ≡ Some fault

-- a fault of the entries is told, and it is no want of memory
abbrev pub IsFault : BoundFault → Result Bound BoundRefusal → Type 0
IsFault fault answer = (fault ≢ faults.Memory) × (answer ≡ Err (Faulty fault))

-- a fault of the text is told, and it is no want of memory
abbrev pub IsNoText : JsonFault → Result Bound BoundRefusal → Type 0
IsNoText fault answer = (fault ≢ json.Memory) × (answer ≡ Err (NoText fault))

-- what is told of entries, beside the links and rules of a certificate: the bound, where they have no fault, or their first fault
abbrev pub AreTold : List GraphNode → List (List Link) → List ℕ → AbstractState → List PathRule → List ProofStep → List BoundEntry
    → Result Bound BoundRefusal → Type 0
AreTold nodes links cuts root rules steps entries (Ok bound) = (bound_fault rules steps entries ≡ None)
    × IsBound nodes links cuts root steps entries bound
AreTold nodes links cuts root rules steps entries (Err (NoText fault)) = ⊥
AreTold nodes links cuts root rules steps entries (Err (Faulty fault)) = AreFaulty rules steps entries fault

-- the bytes of a bound say a text, of whose entries this is told
pub record SaysTold (nodes : List GraphNode) (links : List (List Link)) (cuts : List ℕ) (root : AbstractState) (rules : List PathRule)
    (steps : List ProofStep) (bytes : List ℕ) (answer : Result Bound BoundRefusal) : Type 0 where
  pub text : BoundText
  pub says : SaysOf bound_text_of bytes (Ok text)
  pub told : AreTold nodes links cuts root rules steps text.ranks answer

-- what is told of the bytes of a bound: they say no text, or this of its entries
abbrev pub IsTold : List GraphNode → List (List Link) → List ℕ → AbstractState → List PathRule → List ProofStep → List ℕ
    → Result Bound BoundRefusal → Type 0
IsTold nodes links cuts root rules steps bytes (Err (NoText fault)) = SaysNone bytes fault
IsTold nodes links cuts root rules steps bytes answer = SaysTold nodes links cuts root rules steps bytes answer
