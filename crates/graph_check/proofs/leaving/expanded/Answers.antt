use Rattle.std.proofs.Common.{ℕ, List, Option, Ok, subst}
use Rattle.class_program.specs.Views.{program_of}
use Rattle.code_verify.specs.Typings.{typing_at}
use Rattle.term_graph.specs.Graphs.{GraphChild}
use Rattle.one_expansion.specs.abs_expand.Answers.{Answers}
use Rattle.graph_check.specs.inner.Checked.{LinksOr}
use Rattle.graph_check.proofs.Answering.{expanded_or}
use Rattle.graph_check.proofs.leaving.expanded.Goals as goal

pub returns-in-Ok-Some-clause-leaves : goal.returns-in-Ok-Some-clause-leaves
returns-in-Ok-Some-clause-leaves g c =
    expanded_or (program_of c.args.program.now) (typing_at c.args.typing.now) (g.S.NodeSource.graph c.args.source.now)
    c.args.state.now c.in-Ok-Some.children c.args.named.now c.named_links.result
    (subst (λ (o : Option (List GraphChild)). Answers (program_of c.args.program.now) (typing_at c.args.typing.now) c.args.state.now
    (Ok o)) c.in-Ok-Some.field-0-is c.in-Ok-Some.ensures)
    (subst (λ (ns : List ℕ). LinksOr (g.S.NodeSource.graph c.args.source.now) c.in-Ok-Some.children ns c.named_links.result)
    c.as_slice.ensures c.named_links.ensures.links)
