-- What the shared steps give: a program with its typing and described inputs.
use Rattle.std.specs.Prelude.{◌≡◌, ℕ, Result, Ok, Err}
use Rattle.class_program.specs.Programs.{Program}
use Rattle.class_program.specs.Views.{program_of}
use Rattle.frame_types.specs.Tables.{CodeTypes}
use Rattle.code_verify.specs.Typings.{IsTypingOf, typing_at}
use Rattle.input_desc.specs.declared.desc.Desc.{Desc}
use Rattle.input_desc.specs.Descs.{IsOwnDesc, IsGoodDesc}
use Rattle.input_steps.specs.declared.refused.Refused.{Refused}
use Rattle.input_steps.specs.declared.refused.Refused.TheVariants.{At, Memory}
use Rattle.desc_steps.specs.declared.given.DescribedProgram.{DescribedProgram}

-- a program, its typing and what is described of its inputs are those that the shared steps give, or memory is
-- wanting
abbrev pub IsGiven : Program → (ℕ → CodeTypes) → Desc → Result DescribedProgram Refused → Type 0
IsGiven p typing desc (Ok given) = (p ≡ program_of given.program) × ((typing ≡ typing_at given.typing) × (desc ≡ given.desc))
IsGiven p typing desc (Err (At place fault)) = ⊥
IsGiven p typing desc (Err Memory) = Unit {0}

-- a described program is such as checks and searches take: it is typed, and the description is one of its own inputs
pub record IsReady (given : DescribedProgram) : Type 0 where
  pub typing : IsTypingOf (program_of given.program) (typing_at given.typing)
  pub own : IsOwnDesc (program_of given.program) given.desc
  pub good : IsGoodDesc (program_of given.program) given.desc
