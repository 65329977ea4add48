-- What `loop` answers for the bytes of a certificate, of a state, of a description and of class files.
use Rattle.std.specs.Prelude.{◌≡◌, ◌≢◌, ◌⊎◌, ℕ, List, Result, Ok, Err}
use Rattle.class_program.specs.Programs.{Program}
use Rattle.frame_types.specs.Tables.{CodeTypes}
use Rattle.input_desc.specs.declared.desc.Desc.{Desc}
use Rattle.input_desc.specs.declared.states.StateInput.{StateInput}
use Rattle.input_steps.specs.declared.refused.Refused.{Refused}
use Rattle.input_steps.specs.declared.refused.Refused.TheVariants.{At, Memory}
use Rattle.term_graph.specs.Graphs.{GraphNode}
use Rattle.graph_fill.specs.ChildrenOfStates.{IsFilledGraph}
use Rattle.cert_form.specs.Certificates.{CertContent}
use Rattle.loop_check.specs.declared.fault.LoopFault.{LoopFault}
use Rattle.loop_check.specs.declared.fault.LoopFault.TheVariants as faults
use Rattle.loop_check.specs.Fitting.{ChecksLoop}
use Rattle.check_call.specs.declared.outcome.Outcome.{Outcome}
use Rattle.check_call.specs.Answers.{OfText}
use Rattle.cert_calls.specs.loop_call.Lines.{never_ends, refused_for}
use Rattle.cert_calls.specs.loop_call.States.{OfState}

-- what `loop` says of a graph's nodes: they show that no run ends, and the state fits; or what is first in the way
abbrev pub OfNodes : Program → (ℕ → CodeTypes) → Desc → StateInput → List GraphNode → Result Outcome Refused → Type 0
OfNodes p typing desc input nodes (Ok outcome) =
    (ChecksLoop p typing desc nodes input (Ok tt) × (outcome ≡ never_ends))
    ⊎ ((fault : LoopFault) × ((fault ≢ faults.Memory)
    × (ChecksLoop p typing desc nodes input (Err fault) × (outcome ≡ refused_for fault))))
OfNodes p typing desc input nodes (Err (At place fault)) = ⊥
OfNodes p typing desc input nodes (Err Memory) = Unit {0}

-- what `loop` says of what a certificate says: its nodes get the states that are left out; its cuts and its proof
-- aren't looked at
abbrev pub OfContent : Program → (ℕ → CodeTypes) → Desc → StateInput → CertContent → Result Outcome Refused → Type 0
OfContent p typing desc input content (Ok outcome) = (nodes : List GraphNode) × (IsFilledGraph p typing content.parts nodes
    × OfNodes p typing desc input nodes (Ok outcome))
OfContent p typing desc input content (Err (At place fault)) = ⊥
OfContent p typing desc input content (Err Memory) = Unit {0}

-- what `loop` says of the bytes of a certificate; those that are none are answered as `check` answers them
abbrev pub OfCert : List ℕ → Program → (ℕ → CodeTypes) → Desc → StateInput → Result Outcome Refused → Type 0
OfCert cert p typing desc input = OfText (OfContent p typing desc input) p cert

-- what `loop` answers for the bytes of a certificate, of a state, of a description and of class files
abbrev pub Answers : List ℕ → List ℕ → List ℕ → List (List ℕ) → Result Outcome Refused → Type 0
Answers cert state desc files = OfState {X = Outcome} (OfCert cert) state desc files
