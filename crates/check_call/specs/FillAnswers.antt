-- What `fill` answers for the bytes of a certificate, of a description and of class files.
use Rattle.std.specs.Prelude.{◌≡◌, ℕ, List, Result, Ok, Err}
use Rattle.class_program.specs.Programs.{Program}
use Rattle.frame_types.specs.Tables.{CodeTypes}
use Rattle.input_steps.specs.declared.refused.Refused.{Refused}
use Rattle.input_steps.specs.declared.refused.Refused.TheVariants.{At, Memory}
use Rattle.desc_steps.specs.Answers.{OfFiles}
use Rattle.desc_steps.specs.Names.{names_of}
use Rattle.term_graph.specs.Graphs.{GraphNode}
use Rattle.graph_fill.specs.ChildrenOfStates.{IsFilledGraph}
use Rattle.cert_form.specs.Certificates.{CertContent}
use Rattle.check_call.specs.declared.outcome.Outcome.{Outcome}
use Rattle.check_call.specs.Answers.{OfText}
use Rattle.check_call.specs.FillTexts.{filled_text}

-- the outcome of `fill`: the text of a certificate with the states of all its nodes, and status 0
abbrev pub filled : Program → List GraphNode → CertContent → Outcome
filled p nodes content = record { status = 0; out = filled_text (names_of p.world) nodes content.cuts content.proof }

-- what `fill` says of what a certificate says: the filled graph with the certificate's cuts and proof
abbrev pub AnswersContent : Program → (ℕ → CodeTypes) → CertContent → Result Outcome Refused → Type 0
AnswersContent p typing content (Ok outcome) = (nodes : List GraphNode)
    × (IsFilledGraph p typing content.parts nodes × (outcome ≡ filled p nodes content))
AnswersContent p typing content (Err (At place fault)) = ⊥
AnswersContent p typing content (Err Memory) = Unit {0}

-- what `fill` says of the bytes of a certificate
abbrev pub AnswersCert : List ℕ → Program → (ℕ → CodeTypes) → Result Outcome Refused → Type 0
AnswersCert cert p typing = OfText (AnswersContent p typing) p cert

-- what `fill` answers for the bytes of a certificate, of a description and of class files: the steps to a program
-- with described inputs, in their order, and then the certificate; bytes that are none are answered as `check`
-- answers them
abbrev pub Answers : List ℕ → List ℕ → List (List ℕ) → Result Outcome Refused → Type 0
Answers cert desc files = OfFiles {X = Outcome} (λ p typing described. AnswersCert cert p typing) desc files
