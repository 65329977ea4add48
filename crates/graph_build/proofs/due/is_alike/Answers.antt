use Rattle.std.proofs.Common.{◌∙◌, ap, sym, subst}
use Rattle.std.proofs.lemmas.Bool.{false≢true}
use Rattle.abs_cells.specs.AbstractStates.{AbstractState}
use Rattle.graph_build.specs.Rules.{HaveSamePositions}
use Rattle.graph_build.specs.Disciplined.{is_expanded}
use Rattle.graph_build.proofs.due.is_alike.Goals as goal

pub returns-then-not-is_expanded : goal.returns-then-not-is_expanded
returns-then-not-is_expanded g c = (
  λ t. absurd (false≢true t),
  λ h. absurd (false≢true (sym c.if-not-is_expanded.true ∙ c.is_expanded.ensures ∙ ap is_expanded c.by.ensures ∙ h.0)),
)

pub returns : goal.returns
returns g c = (
  λ t. (
    sym (c.is_expanded.ensures ∙ ap is_expanded c.by.ensures) ∙ c.if-not-is_expanded.false,
    subst (λ (s : AbstractState). HaveSamePositions c.args.state.now s) c.state.ensures (c.have_same_positions.ensures.0 t),
  ),
  λ h. c.have_same_positions.ensures.1 (subst (λ (s : AbstractState). HaveSamePositions c.args.state.now s) (sym c.state.ensures) h.1),
)
