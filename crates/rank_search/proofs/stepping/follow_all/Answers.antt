use Rattle.std.proofs.Common.{None, [], pos, subst, sym}
use Rattle.descent.specs.Conditions.{IsRule}
use Rattle.rank_forms.specs.Following.{IsAlong, IsFew, made}
use Rattle.rank_forms.proofs.Told.{told_first, told_more}
use Rattle.rank_search.proofs.StepRanked.{few_at, follows_all, follows_none, follows_some, item_at}
use Rattle.rank_search.proofs.stepping.follow_all.Goals as goal

pub loop-rule-init : goal.loop-rule-init
loop-rule-init c = told_first (λ rule followed. IsAlong c.args.negative rule c.args.place.now followed) c.args.rules.now
    (made (pos 0) [] None) _ c.new-all.ensures

pub follow_steps-requires-clause-rule : goal.follow_steps-requires-clause-rule
follow_steps-requires-clause-rule c = subst IsRule (sym c.rule-item.is)
    (c.requires.limits c.loop-rule.rule-index c.rule-item.result c.loop-rule-test.true)

pub follow_steps-requires-clause-few : goal.follow_steps-requires-clause-few
follow_steps-requires-clause-few c = subst IsFew (sym c.rule-item.is)
    (few_at c.args.rules.now c.requires c.loop-rule.rule-index c.rule-item.result c.loop-rule-test.true)

pub loop-rule-preserved : goal.loop-rule-preserved
loop-rule-preserved c = told_more (λ rule followed. IsAlong c.args.negative rule c.args.place.now followed) c.args.rules.now
    (made (pos 0) [] None) c.loop-rule.all _ c.in-Some.followed c.rule-item.result c.loop-rule.rule-index
    c.in_ok-push-in-Some.ensures.items (item_at c.args.rules.now c.loop-rule.rule-index c.rule-item.result c.loop-rule-test.true
    c.rule-item.is) (follows_some c.args.negative c.rule-item.result c.args.place.now c.in_ok-followed.field-0 c.in-Some.followed
    c.in-Some.is c.in_ok-followed.ensures) c.loop-rule.invariant

pub returns-in-None : goal.returns-in-None
returns-in-None c = follows_none c.args.negative c.args.rules.now c.args.place.now c.loop-rule.rule-index c.rule-item.result
    c.in_ok-followed.field-0 (item_at c.args.rules.now c.loop-rule.rule-index c.rule-item.result c.loop-rule-test.true
    c.rule-item.is) c.in-None.is c.in_ok-followed.ensures

pub returns : goal.returns
returns c = follows_all c.args.negative c.args.rules.now c.args.place.now c.loop-rule.all c.loop-rule.rule-index
    c.loop-rule-test.false c.loop-rule.invariant
