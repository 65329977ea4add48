-- What `prove` answers for the bytes of a description and of class files.
use Rattle.std.specs.Prelude.{◌≡◌, ◌⊎◌, ℕ, List, Some, None, Result, Ok, Err}
use Rattle.abs_cells.specs.declared.packed.PackedPairs.{PackedPairs}
use Rattle.class_program.specs.Programs.{Program}
use Rattle.frame_types.specs.Tables.{CodeTypes}
use Rattle.input_desc.specs.declared.desc.Desc.{Desc}
use Rattle.input_desc.specs.Initial.{initial_of}
use Rattle.input_steps.specs.declared.refused.Refused.{Refused}
use Rattle.input_steps.specs.declared.refused.Refused.TheVariants.{At, Memory}
use Rattle.desc_steps.specs.Answers.{OfFiles}
use Rattle.desc_steps.specs.Names.{names_of}
use Rattle.prove_core.specs.declared.found.Reason.{Reason}
use Rattle.prove_core.specs.Answers.{IsCertificate, HoldsReason}
use Rattle.prove_core.specs.Reasons.{Aim}
use Rattle.prove_call.specs.declared.answer.Answer.{Answer}
use Rattle.prove_call.specs.Lines.{yes_text, reason_text}

-- what is to be proved of a program: that it ends from the states on that its description's initial state stands for
abbrev pub aim_at : Program → (ℕ → CodeTypes) → Desc → Aim
aim_at p typing desc = record { program = p; typing = typing; root = initial_of p desc }

-- the answer yes, with these bytes of a certificate
abbrev pub yes_with : List ℕ → Answer
yes_with cert = record { status = 0; out = yes_text cert; reason = None }

-- the answer is yes: a valid certificate of the program, which names the world's classes, was found and is put
pub record IsYes (p : Program) (typing : ℕ → CodeTypes) (desc : Desc) (answer : Answer) : Type 0 where
  pub status : answer.status ≡ 0
  pub reason : answer.reason ≡ None
  pub cert : List ℕ
  pub is : IsCertificate (aim_at p typing desc) (names_of p.world) cert
  pub out : answer.out ≡ yes_text cert

-- the answer is maybe: no certificate was found, for a reason that holds for this limit of nodes and is kept
pub record IsMaybe (nodes : ℕ) (p : Program) (typing : ℕ → CodeTypes) (desc : Desc) (answer : Answer) : Type 0 where
  pub status : answer.status ≡ 1
  pub reason : Reason PackedPairs
  pub kept : answer.reason ≡ Some reason
  pub holds : HoldsReason (aim_at p typing desc) (names_of p.world) nodes reason
  pub out : answer.out ≡ reason_text p reason

-- what `prove` says of a program with its typing and described inputs: yes or maybe, or want of memory
abbrev pub SaysOf : ℕ → Program → (ℕ → CodeTypes) → Desc → Result Answer Refused → Type 0
SaysOf nodes p typing desc (Ok answer) = IsYes p typing desc answer ⊎ IsMaybe nodes p typing desc answer
SaysOf nodes p typing desc (Err (At place fault)) = ⊥
SaysOf nodes p typing desc (Err Memory) = Unit {0}

-- what `prove` answers for the bytes of a description and of class files: the steps from files and a description to a
-- program with described inputs, in their order, and then yes or maybe
abbrev pub Answers : ℕ → List ℕ → List (List ℕ) → Result Answer Refused → Type 0
Answers nodes desc files = OfFiles {X = Answer} (SaysOf nodes) desc files
