use Rattle.json_view.specs.Located.{located}
use Rattle.cert_form.proofs.Entries.{Goes}
use Rattle.cert_form.proofs.lists.entries.Given as goal

abbrev pub invariant-loop-n : goal.invariant-loop-n
invariant-loop-n g l = Goes (g.T.Said.reader l.context) (located l.view) l.n l.front
