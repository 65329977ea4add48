use Rattle.std.proofs.Common.{List, Option, sym, ap, subst, ◌∙◌}
use Rattle.std.specs.Option.{option_map}
use Rattle.jvm_values.specs.declared.typing.FrameType.{FrameType}
use Rattle.jvm_values.specs.States.{types_of as seen}
use Rattle.jvm_values.proofs.Options.{some_is}
use Rattle.class_program.specs.class_world.Worlds.{classes_of}
use Rattle.class_program.specs.Views.{program_of}
use Rattle.frame_types.specs.Tables.{types_at}
use Rattle.code_verify.specs.inner.Solving.{IsPassed}
use Rattle.code_verify.proofs.WorldOf.{laws_at}
use Rattle.code_verify.proofs.Solved.{mid_table, mid_proper, nothing_there}
use Rattle.code_verify.proofs.Steps.{looked_is, looked_less, taken_less, ended}
use Rattle.code_verify.proofs.method.look_on.Goals as goal

pub returns-in_default-clause-answer : goal.returns-in_default-clause-answer
returns-in_default-clause-answer c =
    let h = rw c.in_default.is at c.take.ensures.taken in
    ended (program_of c.args.program.now) c.args.method.now c.requires.good c.requires.method (laws_at c.args.program.now.world)
    c.args.table.now c.take.new.self c.requires.solving h c.take.ensures.types

pub look-requires-clause-table : goal.look-requires-clause-table
look-requires-clause-table c =
    let h = rw c.in-Some.is at c.take.ensures.taken in
    mid_table (program_of c.args.program.now) c.args.method.now c.requires.good c.requires.method (laws_at c.args.program.now.world)
    c.args.table.now c.take.new.self c.requires.solving c.in-Some.place h.1 h.2

pub look-requires-clause-proper : goal.look-requires-clause-proper
look-requires-clause-proper c =
    let h = rw c.in-Some.is at c.take.ensures.taken in
    mid_proper (program_of c.args.program.now) c.args.method.now c.requires.good c.requires.method
    (laws_at c.args.program.now.world) c.args.table.now c.take.new.self c.requires.solving c.in-Some.place h.1 h.2
    (seen c.in-Some-found.frame) (sym c.in_ok-found.ensures ∙ ap (option_map seen) c.in-Some-found.is)

pub returns-in_ok-looked-in-Some-found-clause-answer : goal.returns-in_ok-looked-in-Some-found-clause-answer
returns-in_ok-looked-in-Some-found-clause-answer c =
    let h = rw c.in-Some.is at c.take.ensures.taken in
    looked_is (program_of c.args.program.now) c.args.method.now c.requires.good c.requires.method (laws_at c.args.program.now.world)
    c.args.table.now c.take.new.self c.requires.solving c.in-Some.place h.1 h.2 (seen c.in-Some-found.frame) c.look.new.table
    c.in_ok-looked-in-Some-found.looked (sym c.in_ok-found.ensures ∙ ap (option_map seen) c.in-Some-found.is)
    c.in_ok-looked-in-Some-found.ensures.looks

pub returns-in-None-clause-answer : goal.returns-in-None-clause-answer
returns-in-None-clause-answer c =
    let h = rw c.in-Some.is at c.take.ensures.taken in
    nothing_there (program_of c.args.program.now) c.args.method.now c.requires.good c.requires.method
    (laws_at c.args.program.now.world) c.args.table.now c.take.new.self c.requires.solving c.in-Some.place h.1 h.2
    (sym c.in_ok-found.ensures ∙ ap (option_map seen) c.in-None.is)

pub returns-in_ok-looked-in-Some-found-clause-less : goal.returns-in_ok-looked-in-Some-found-clause-less
returns-in_ok-looked-in-Some-found-clause-less c =
    let h = rw c.in-Some.is at c.take.ensures.taken in
    looked_less (program_of c.args.program.now) c.args.method.now c.requires.good c.requires.method
    (laws_at c.args.program.now.world) c.args.table.now c.take.new.self c.requires.solving c.in-Some.place h.1 h.2 h.0
    (seen c.in-Some-found.frame) c.look.new.table c.in_ok-looked-in-Some-found.looked c.in_ok-looked-in-Some-found.ensures.looks

pub returns-in-None-clause-less : goal.returns-in-None-clause-less
returns-in-None-clause-less c =
    let h = rw c.in-Some.is at c.take.ensures.taken in
    λ e. taken_less (program_of c.args.program.now) c.args.method.now c.requires.good c.requires.method
    (laws_at c.args.program.now.world) c.args.table.now c.take.new.self c.requires.solving c.in-Some.place h.1 h.2 h.0

pub look-requires-clause-passed : goal.look-requires-clause-passed
look-requires-clause-passed c = subst (λ (xs : List (Option FrameType)). IsPassed (classes_of c.args.program.now.world)
    c.args.method.now.table (types_at xs) c.args.passed.now) (sym c.take.ensures.types) c.requires.passed

pub returns-in-None-clause-passed : goal.returns-in-None-clause-passed
returns-in-None-clause-passed c = λ e. subst (λ (xs : List (Option FrameType)). IsPassed (classes_of c.args.program.now.world)
    c.args.method.now.table (types_at xs) c.args.passed.now) (sym c.take.ensures.types) c.requires.passed

pub returns-in_ok-looked-in-Some-found-clause-passed : goal.returns-in_ok-looked-in-Some-found-clause-passed
returns-in_ok-looked-in-Some-found-clause-passed c = λ e. c.in_ok-looked-in-Some-found.ensures.passed (some_is e)
