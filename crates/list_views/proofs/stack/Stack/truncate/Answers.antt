use Rattle.std.proofs.Common.{ap}
use Rattle.list_views.proofs.Reversed.{lowest}
use Rattle.list_views.proofs.stack.Stack.truncate.Goals as goal

pub returns-clause-items : goal.returns-clause-items
returns-clause-items g c = lowest _ _ _ _ c.truncate.ensures.items (ap (λ p. p.0) c.self.view_is)
