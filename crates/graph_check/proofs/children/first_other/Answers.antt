use Rattle.graph_check.proofs.Naming.{all_named}
use Rattle.graph_check.proofs.children.first_other.Goals as goal

pub returns-clause-answer : goal.returns-clause-answer
returns-clause-answer g c = all_named _ _ _ c.loop-place.place c.requires c.loop-place-test.false c.loop-place.invariant.named
