-- What the output of `migrate` claims.
use Rattle.std.specs.Prelude.{◌≡◌, ℕ, List, ◌++◌, codes, Result, Ok, IfOk}
use Rattle.serde_json.specs.Written.{compact_text}
use Rattle.class_program.specs.Programs.{Program}
use Rattle.frame_types.specs.Tables.{CodeTypes}
use Rattle.code_verify.specs.Typings.{IsTypingOf}
use Rattle.input_desc.specs.declared.desc.Desc.{Desc}
use Rattle.input_steps.specs.declared.refused.Refused.{Refused}
use Rattle.desc_steps.specs.Headline.{NameProgram}
use Rattle.desc_steps.specs.Names.{names_of}
use Rattle.term_graph.specs.Graphs.{GraphNode}
use Rattle.graph_fill.specs.ChildrenOfStates.{IsFilledGraph}
use Rattle.cert_form.specs.Certificates.{CertContent}
use Rattle.cert_form.specs.cert_write.Data.{certificate}
use Rattle.check_call.specs.declared.outcome.Outcome.{Outcome}
use Rattle.check_call.specs.Answers.{IsCertText, Answers}
use Rattle.check_call.specs.Lines.{accepted}

-- Two certificates say one thing of a program: the same filled graph, cuts and proof; and the new one is of form 2.
pub record IsSaidByBoth (p : Program) (old new : List ℕ) : Type 0 where
  pub typing : ℕ → CodeTypes
  pub typed : IsTypingOf p typing
  pub was : CertContent
  pub is : CertContent
  pub says_was : IsCertText p old was
  pub says_is : IsCertText p new is
  pub nodes : List GraphNode
  pub filled_was : IsFilledGraph p typing was.parts nodes
  pub filled_is : IsFilledGraph p typing is.parts nodes
  pub cuts : is.cuts ≡ was.cuts
  pub proof : is.proof ≡ was.proof
  -- the new one is of form 2
  pub second : new ≡ compact_text (certificate (names_of p.world) is)

-- The output is a certificate and a newline. It says of the program that the files and the description name what the
-- old one says, in form 2; and `check` accepts both.
pub record IsMigrated (files : List (List ℕ)) (desc cert out : List ℕ) : Type 0 where
  pub new : List ℕ
  pub out_is : out ≡ new ++ codes "\n"
  pub program : Program
  pub described : Desc
  pub named : NameProgram files desc program described
  pub both : IsSaidByBoth program cert new
  pub old_accepted : Answers cert desc files (Ok accepted)
  pub new_accepted : Answers new desc files (Ok accepted)

-- The headline of `migrate`: where the status is 0, the output is the old certificate in form 2, and `check` accepts
-- both.
abbrev pub IsMigratedIfDone : List (List ℕ) → List ℕ → List ℕ → Result Outcome Refused → Type 0
IsMigratedIfDone files desc cert result = IfOk result (λ outcome. outcome.status ≡ 0 → IsMigrated files desc cert outcome.out)
