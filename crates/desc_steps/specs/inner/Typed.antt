-- What the first steps to a described program have given so far.
use Rattle.std.specs.Prelude.{Result}
use Rattle.class_world.specs.World.{World}
use Rattle.class_program.specs.Programs.{Program}
use Rattle.code_verify.specs.Typings.{IsTypingOf, typing_at}
use Rattle.input_text.specs.declared.texts.DescText.{DescText}
use Rattle.input_desc.specs.Descs.{IsOwnDesc, IsGoodDesc}
use Rattle.input_steps.specs.declared.refused.Refused.{Refused}
use Rattle.input_steps.specs.Programs.{IsAcyclic}
use Rattle.desc_steps.specs.declared.given.DescribedProgram.{DescribedProgram}
use Rattle.desc_steps.specs.declared.given.TypedDesc.{TypedDesc}
use Rattle.desc_steps.specs.Descriptions.{IsDesc}
use Rattle.desc_steps.specs.Given.{IsGiven}
use Rattle.desc_steps.specs.inner.Rest as rest

-- a described program is given where the description names a method of the world
abbrev pub OfWorld : DescText → World → Result DescribedProgram Refused → Type 0
OfWorld text world = rest.OfWorld IsGiven text world

-- the program's calls have no cycle, its places have these types, and its inputs are described so
pub record IsTyped (p : Program) (text : DescText) (typed : TypedDesc) : Type 0 where
  pub acyclic : IsAcyclic p
  pub typing : IsTypingOf p (typing_at typed.typing)
  pub described : IsDesc p text typed.desc
  pub own : IsOwnDesc p typed.desc
  pub good : IsGoodDesc p typed.desc
