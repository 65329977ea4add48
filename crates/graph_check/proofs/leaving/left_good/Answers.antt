use Rattle.std.proofs.Common.{ℕ, List, sym, subst}
use Rattle.class_program.specs.Views.{program_of}
use Rattle.code_verify.specs.Typings.{typing_at}
use Rattle.term_graph.specs.declared.nodes.By.{By}
use Rattle.graph_check.specs.inner.Checked.{MatchesOr, LeavesOr}
use Rattle.graph_check.proofs.Answering.{matched_or}
use Rattle.graph_check.proofs.leaving.left_good.Goals as goal

pub returns-in-Instance-clause-leaves : goal.returns-in-Instance-clause-leaves
returns-in-Instance-clause-leaves g c =
    subst (λ (b : By). LeavesOr (program_of c.args.program.now) (typing_at c.args.typing.now)
    (g.S.NodeSource.graph c.args.source.now) c.args.state.now b c.matched.result) (sym c.in-Instance.is)
    (matched_or (program_of c.args.program.now) (typing_at c.args.typing.now) (g.S.NodeSource.graph c.args.source.now)
    c.args.state.now c.in-Instance.target c.in-Instance.map c.matched.result c.requires.good
    (subst (λ (ms : List (ℕ × ℕ)). MatchesOr (program_of c.args.program.now) (g.S.NodeSource.graph c.args.source.now)
    c.args.state.now c.in-Instance.target ms c.matched.result) c.as_slice.ensures c.matched.ensures.links))
