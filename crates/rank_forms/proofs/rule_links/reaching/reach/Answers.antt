use Rattle.rank_forms.proofs.Reached.{relaxing_first, relaxing_more, relaxing_less, relaxing_last, relaxing_done}
use Rattle.rank_forms.proofs.rule_links.reaching.reach.Goals as goal

pub loop-any-init : goal.loop-any-init
loop-any-init c = relaxing_first c.args.ties.now c.args.first _ _ c.in_ok-known.ensures c.span.ensures.value c.span.ensures.first
    c.span.ensures.ties

pub loop-any-preserved : goal.loop-any-preserved
loop-any-preserved c = relaxing_more c.args.ties.now c.args.first c.loop-any.any _ c.loop-any.known.items _ c.in_ok-any.ensures.0
    c.in_ok-any.ensures.1 c.loop-any.invariant

pub loop-any-smaller : goal.loop-any-smaller
loop-any-smaller c = relaxing_less c.args.ties.now c.loop-any.any _ c.loop-any.known.items _ c.loop-any-test.true
    c.in_ok-any.ensures.0 c.in_ok-any.ensures.1

pub returns-clause-complete : goal.returns-clause-complete
returns-clause-complete c variable by r = relaxing_last c.args.ties.now c.args.first c.loop-any.any c.loop-any.known.items variable
    by c.loop-any-test.false c.loop-any.invariant r

pub returns-clause-finished : goal.returns-clause-finished
returns-clause-finished c = relaxing_done c.args.ties.now c.args.first c.loop-any.any c.loop-any.known.items c.loop-any-test.false
    c.loop-any.invariant
