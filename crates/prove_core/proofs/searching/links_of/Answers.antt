use Rattle.std.proofs.Common.{Err, subst}
use Rattle.class_program.specs.Views.{program_of}
use Rattle.code_verify.specs.Typings.{typing_at}
use Rattle.graph_check.specs.declared.fault.CheckFault.{CheckFault}
use Rattle.graph_check.specs.Good.{Tells}
use Rattle.prove_core.proofs.Readying.{never_faulty}
use Rattle.prove_core.proofs.searching.links_of.Goals as goal

pub unreachable-requires : goal.unreachable-requires
unreachable-requires g c =
    let p = program_of c.args.program.now in
    let typing = typing_at c.args.typing.now in
    let root = c.args.root.now in
    let graph = c.args.graph.now in
    let fails = subst (λ (f : CheckFault). Tells p typing graph root (Err f)) c.in-Err-At.field-0-is c.in-Err-At.ensures.tells in
    never_faulty p typing root graph c.requires.grown c.disciplined_graphs_are_good.ensures c.is_good.ensures.closed
    c.is_good.ensures.widths c.requires.first c.in-Err-At.field-0-0 c.in-Err-At.field-0-1 fails
