use Rattle.json_view.specs.Located.{located}
use Rattle.input_text.proofs.Items.{Goes}
use Rattle.bound_text.proofs.lists.items.Given as goal

abbrev pub invariant-loop-n : goal.invariant-loop-n
invariant-loop-n g l = Goes g.T.Said.reader (located l.view) l.n l.items
