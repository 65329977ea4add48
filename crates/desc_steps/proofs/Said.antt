-- The program of which a command says something, and what another command says of the same.
use Rattle.std.proofs.Common.{ℕ, List, Ok}
use Rattle.class_program.specs.Programs.{Program}
use Rattle.frame_types.specs.Tables.{CodeTypes}
use Rattle.input_desc.specs.declared.desc.Desc.{Desc}
use Rattle.desc_steps.specs.Answers.{Saying, OfFiles}

-- the program that files and a description have, with its typing and what is described, and what is said of it
pub record Given {X : Type 0} (Of : Saying X) (x : X) : Type 0 where
  pub program : Program
  pub typing : ℕ → CodeTypes
  pub described : Desc
  pub said : Of program typing described (Ok x)

abbrev pub given : {X : Type 0} (Of : Saying X) (desc : List ℕ) (files : List (List ℕ)) (x : X)
    → OfFiles {X = X} Of desc files (Ok x) → Given Of x
given Of desc files x a =
    let text = a.1.1 in
    let world = text.1.1 in
    let entry = world.1.1 in
    let program = entry.1.1 in
    let calls = program.1.1 in
    let typing = calls.1.1 in
    let described = typing.1.1 in
    record { program = program.0; typing = typing.0; described = described.0; said = described.1.1 }

-- what another command says of it, it says of the files and the description
pub said_of_files : {X Y : Type 0} (Of : Saying X) (Other : Saying Y) (desc : List ℕ) (files : List (List ℕ)) (x : X) (y : Y)
    (a : OfFiles {X = X} Of desc files (Ok x))
    → Other (given Of desc files x a).program (given Of desc files x a).typing (given Of desc files x a).described (Ok y)
    → OfFiles {X = Y} Other desc files (Ok y)
said_of_files Of Other desc files x y a other =
    let text = a.1.1 in
    let world = text.1.1 in
    let entry = world.1.1 in
    let program = entry.1.1 in
    let calls = program.1.1 in
    let typing = calls.1.1 in
    let described = typing.1.1 in (
      a.0,
      (
        a.1.0,
        (text.0, (text.1.0, (world.0, (world.1.0, (entry.0, (entry.1.0, (program.0, (program.1.0, (calls.0, (calls.1.0, (typing.0, (typing.1.0, (described.0, (described.1.0, other)))))))))))))),
      ),
    )
