use Rattle.std.proofs.Common.{List, Option, Ok, subst}
use Rattle.class_program.specs.Views.{program_of}
use Rattle.code_verify.specs.Typings.{typing_at}
use Rattle.term_graph.specs.Graphs.{GraphChild}
use Rattle.abs_expand.specs.Answers.{Answers}
use Rattle.prove_core.proofs.Grown.{grows, never_bad, fails}
use Rattle.prove_core.proofs.grower.expanded.Goals as goal

pub fault_of-requires : goal.fault_of-requires
fault_of-requires g c = never_bad (program_of c.args.program.now) (typing_at c.args.typing.now) c.args.state.now c.requires
    c.in-Err.fault c.in-Err.ensures

pub returns-in-Ok-Some : goal.returns-in-Ok-Some
returns-in-Ok-Some g c =
    let p = program_of c.args.program.now in
    let typing = typing_at c.args.typing.now in
    let state = c.args.state.now in
    grows p typing state c.requires c.children_grow.ensures c.is_good.ensures.closed c.is_good.ensures.widths
    c.in-Ok-Some.children c.grown_of.result
    (subst (λ (o : Option (List GraphChild)). Answers p typing state (Ok o)) c.in-Ok-Some.field-0-is c.in-Ok-Some.ensures)
    c.grown_of.ensures

pub returns-in-Err : goal.returns-in-Err
returns-in-Err g c = fails (program_of c.args.program.now) (typing_at c.args.typing.now) c.args.state.now c.requires
    c.in-Err.fault c.fault_of.result c.in-Err.ensures c.fault_of.ensures
