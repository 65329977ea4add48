-- What commands answer for the bytes of a certificate, of a description and of class files: the steps that they
-- share, and what `check` says.
use Rattle.std.specs.Prelude.{◌≡◌, ◌⊎◌, ℕ, List, Result, Ok, Err}
use Rattle.abs_cells.specs.AbstractStates.{AbstractState}
use Rattle.class_program.specs.Programs.{Program}
use Rattle.frame_types.specs.Tables.{CodeTypes}
use Rattle.input_desc.specs.declared.desc.Desc.{Desc}
use Rattle.input_desc.specs.Initial.{initial_of}
use Rattle.input_steps.specs.declared.refused.Refused.{Refused}
use Rattle.input_steps.specs.declared.refused.Refused.TheVariants.{At, Memory}
use Rattle.desc_steps.specs.Answers.{OfFiles, AnswersAs}
use Rattle.desc_steps.specs.Names.{names_of}
use Rattle.term_graph.specs.Graphs.{GraphNode}
use Rattle.graph_fill.specs.ChildrenOfStates.{IsFilledGraph}
use Rattle.cert_form.specs.declared.fault.CertFault.{CertFault}
use Rattle.cert_form.specs.declared.fault.CertFault.TheVariants as certs
use Rattle.cert_form.specs.Certificates.{CertContent, cert_of, SaysOf, AnswersText}
use Rattle.cert_form.specs.Faults.{fault_text}
use Rattle.cert_check.specs.declared.refusal.Cause.{Cause}
use Rattle.cert_check.specs.Valid.{Case, IsValid, IsFirstFault}
use Rattle.cert_check.specs.Parts.{case_of}
use Rattle.check_call.specs.declared.outcome.Outcome.{Outcome}
use Rattle.check_call.specs.Causes.{cause_text}
use Rattle.check_call.specs.Lines.{accepted, refused_at}

-- ---- certificates

-- the bytes of a certificate say this content, by the names of the program's classes
abbrev pub IsCertText : Program → List ℕ → CertContent → Type 0
IsCertText p cert content = SaysOf (cert_of (names_of p.world)) cert (Ok content)

-- the bytes are no certificate, and this is their first fault
abbrev pub IsCertFault : Program → List ℕ → CertFault → Type 0
IsCertFault p cert certs.Memory = ⊥
IsCertFault p cert fault = AnswersText (cert_of (names_of p.world)) cert (Err fault)

-- what is said of bytes that are no certificate, for this fault: status 2 and the line of item 0; for want of memory, that it is wanting
abbrev pub IsSaidOfText : CertFault → Result Outcome Refused → Type 0
IsSaidOfText certs.Memory result = result ≡ Err Memory
IsSaidOfText fault result = AnswersAs (refused_at 0 (fault_text fault)) result

-- what is said of the bytes of a certificate: something of what they say; or they say none, and their first fault is
-- that of item 0
abbrev pub OfText : (CertContent → Result Outcome Refused → Type 0) → Program → List ℕ → Result Outcome Refused → Type 0
OfText Says p cert (Ok outcome) =
    ((fault : CertFault) × (IsCertFault p cert fault × (outcome ≡ refused_at 0 (fault_text fault))))
    ⊎ ((content : CertContent) × (IsCertText p cert content × Says content (Ok outcome)))
OfText Says p cert (Err (At place fault)) = ⊥
OfText Says p cert (Err Memory) = Unit {0}

-- ---- certificates that are checked

-- what a command says of a valid case
abbrev pub SayingValid : Type 1
SayingValid = (case : Case) → IsValid case → Outcome → Type 0

-- what is said of a case: it is valid, and a command says something of it; or its first item fails
abbrev pub OfCase : SayingValid → Case → Result Outcome Refused → Type 0
OfCase Says case (Ok outcome) = ((valid : IsValid case) × Says case valid outcome)
    ⊎ ((item : ℕ) × ((cause : Cause) × (IsFirstFault case item cause × (outcome ≡ refused_at item (cause_text cause)))))
OfCase Says case (Err (At place fault)) = ⊥
OfCase Says case (Err Memory) = Unit {0}

-- what is said of what a certificate says: the nodes get the states that are left out, and then the case is checked
abbrev pub OfContent : SayingValid → Program → (ℕ → CodeTypes) → AbstractState → CertContent → Result Outcome Refused → Type 0
OfContent Says p typing root content (Ok outcome) = (nodes : List GraphNode) × (IsFilledGraph p typing content.parts nodes
    × OfCase Says (case_of p typing root nodes content.cuts content.proof) (Ok outcome))
OfContent Says p typing root content (Err (At place fault)) = ⊥
OfContent Says p typing root content (Err Memory) = Unit {0}

-- what is said of the bytes of a certificate, which is to begin with the description's initial state
abbrev pub OfCert : SayingValid → List ℕ → Program → (ℕ → CodeTypes) → Desc → Result Outcome Refused → Type 0
OfCert Says cert p typing desc = OfText (OfContent Says p typing (initial_of p desc)) p cert

-- what is answered for the bytes of a certificate, of a description and of class files: the steps to a program with
-- described inputs, in their order, and then the certificate
abbrev pub OfBytes : SayingValid → List ℕ → List ℕ → List (List ℕ) → Result Outcome Refused → Type 0
OfBytes Says cert desc files = OfFiles {X = Outcome} (OfCert Says cert) desc files

-- ---- `check`

-- what `check` says of a valid case: that its certificate is accepted
abbrev pub SaysAccepted : SayingValid
SaysAccepted case valid outcome = outcome ≡ accepted

-- what `check` says of a case: it is accepted, or its first item that fails is named
abbrev pub AnswersChecked : Case → Result Outcome Refused → Type 0
AnswersChecked = OfCase SaysAccepted

-- what `check` says of what a certificate says, whose left-out states are filled first
abbrev pub AnswersContent : Program → (ℕ → CodeTypes) → Desc → CertContent → Result Outcome Refused → Type 0
AnswersContent p typing desc = OfContent SaysAccepted p typing (initial_of p desc)

-- what `check` says of the bytes of a certificate
abbrev pub AnswersCert : List ℕ → Program → (ℕ → CodeTypes) → Desc → Result Outcome Refused → Type 0
AnswersCert = OfCert SaysAccepted

-- what `check` answers for the bytes of a certificate, of a description and of class files
abbrev pub Answers : List ℕ → List ℕ → List (List ℕ) → Result Outcome Refused → Type 0
Answers = OfBytes SaysAccepted
