use Rattle.std.proofs.Common.{ap, sym, ◌∙◌, length}
use Rattle.rank_forms.specs.rule_links.Ties.{last_of}
use Rattle.rank_forms.proofs.Traced.{more_trail}
use Rattle.rank_forms.proofs.rule_links.trails.trail.Goals as goal

pub loop-n-preserved : goal.loop-n-preserved
loop-n-preserved c = more_trail c.args.known.now c.loop-n.at c.loop-n._n (length c.args.known.now) c.in-Some.tie c.loop-n.ties _ _
    c.loop-n-test.true (ap last_of (sym c.known_of.ensures) ∙ sym c.last_of.ensures ∙ c.in-Some.is) c.in_ok-push.ensures.items
    c.loop-n.invariant
