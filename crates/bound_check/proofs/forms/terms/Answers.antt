use Rattle.bound_check.specs.inner.Forms.{is_sized}
use Rattle.bound_check.proofs.Terms.{one_term}
use Rattle.bound_check.proofs.forms.terms.Goals as goal

pub loop-n-preserved : goal.loop-n-preserved
loop-n-preserved g c = one_term c.args.root.now (is_sized c.args.root.now) c.args.steps.now c.args.entries.now c.loop-n.n c.loop-n.terms
    c.put_term.new.terms _ c.loop-n-test.true c.in_ok-put_term.ensures c.loop-n.invariant
