-- That descriptions describe something, and that the headline speaks of one program.
use Rattle.std.specs.Prelude.{◌≡◌, ◌↔◌, ℕ, List, All}
use Rattle.jvm_values.specs.States.{MachineState}
use Rattle.class_program.specs.Programs.{Program}
use Rattle.input_desc.specs.declared.desc.Desc.{Desc}
use Rattle.input_desc.specs.Fitting.{FitsDescription}
use Rattle.input_steps.specs.Programs.{HasTypings}
use Rattle.desc_steps.specs.Givable.{CanBeGiven}
use Rattle.desc_steps.specs.Headline.{NameProgram}

-- Where the headline is said of something: of a program that has typings, some state fits a description exactly where each of its inputs
-- can be given. Nothing else is in the way: not `same` and `share`, since no two inputs have to be one object or to share.
abbrev pub SomeStateFits : Type 0
SomeStateFits =
    (desc : List ℕ) (files : List (List ℕ)) (program : Program) (described : Desc)
    → NameProgram files desc program described → HasTypings program
    → All (CanBeGiven program.world) described.inputs ↔ ((state : MachineState) × FitsDescription program described state)

-- Class files and a description name one program, and say one thing of its inputs: what the headline says is said of no other.
abbrev pub NamesOne : Type 0
NamesOne =
    (files : List (List ℕ)) (desc : List ℕ) (p q : Program) (d e : Desc)
    → NameProgram files desc p d → NameProgram files desc q e → (p ≡ q) × (d ≡ e)
