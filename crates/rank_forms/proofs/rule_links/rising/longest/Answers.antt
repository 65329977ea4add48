use Rattle.std.proofs.lemmas.Option.{slice_get-get_or}
use Rattle.rank_forms.proofs.Raised.{raising_first, raising_more, raising_last}
use Rattle.rank_forms.proofs.rule_links.rising.longest.Goals as goal

pub loop-tie-init : goal.loop-tie-init
loop-tie-init c = raising_first c.args.ties.now c.args.first _ _ c.in_ok-known.ensures c.span.ensures.first c.span.ensures.ties

pub loop-tie-preserved : goal.loop-tie-preserved
loop-tie-preserved c = raising_more c.args.ties.now c.args.first c.loop-tie.tie-index c.loop-tie.known.items _ _ c.requires.order
    c.requires.rising (slice_get-get_or c.args.ties.now c.loop-tie.tie-index _ c.loop-tie-test.true) c.in_ok-raise.ensures
    c.loop-tie.invariant

pub returns : goal.returns
returns c = raising_last c.args.ties.now c.args.first c.loop-tie.tie-index c.loop-tie.known.items c.loop-tie-test.false
    c.loop-tie.invariant
