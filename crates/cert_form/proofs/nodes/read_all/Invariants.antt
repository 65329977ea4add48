use Rattle.json_view.specs.Located.{located}
use Rattle.cert_form.proofs.ReadingNodes.{AreRead}
use Rattle.cert_form.proofs.nodes.read_all.Given as goal

-- the nodes so far were read, and the marks say which nodes they name
abbrev pub invariant-loop-n : goal.invariant-loop-n
invariant-loop-n l = AreRead l.names l.second (located l.view) l.n l.count l.named
