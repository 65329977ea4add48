-- Words of the private calls that check nodes and what a certificate says.
use Rattle.std.specs.Prelude.{ℕ, List}
use Rattle.abs_cells.specs.AbstractStates.{AbstractState}
use Rattle.class_program.specs.Programs.{Program}
use Rattle.frame_types.specs.Tables.{CodeTypes}
use Rattle.descent.specs.declared.proof.ProofStep.{ProofStep}
use Rattle.term_graph.specs.Graphs.{GraphNode}
use Rattle.graph_fill.specs.ChildrenOfStates.{IsFilledGraph}
use Rattle.cert_form.specs.Certificates.{CertContent}
use Rattle.cert_check.specs.Certified.{IsCertified}
use Rattle.cert_check.specs.Valid.{IsValid, IsFirstFault}
use Rattle.cert_check.specs.Parts.{case_of}
use Rattle.cert_verdict.specs.declared.verdict.CertVerdict.{CertVerdict}
use Rattle.cert_verdict.specs.declared.verdict.CertVerdict.TheVariants.{Accepted, Refused, NoText}

-- the verdict on nodes with cuts and a proof: they are a valid certificate, or an item fails first
abbrev pub IsChecked : Program → (ℕ → CodeTypes) → AbstractState → List GraphNode → List ℕ → List ProofStep → CertVerdict → Type 0
IsChecked p typing root nodes cuts steps Accepted = IsValid (case_of p typing root nodes cuts steps) × IsCertified p typing nodes cuts root
IsChecked p typing root nodes cuts steps (Refused item cause) = IsFirstFault (case_of p typing root nodes cuts steps) item cause
IsChecked p typing root nodes cuts steps (NoText fault) = ⊥

-- the verdict on what a certificate says: its nodes are filled, and then it is checked
abbrev pub IsOfContent : Program → (ℕ → CodeTypes) → AbstractState → CertContent → CertVerdict → Type 0
IsOfContent p typing root content verdict = (nodes : List GraphNode) × (IsFilledGraph p typing content.parts nodes
    × IsChecked p typing root nodes content.cuts content.proof verdict)
