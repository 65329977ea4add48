use Rattle.std.proofs.Common.{Some}
use Rattle.rank_forms.specs.Reasons.{TellsInts}
use Rattle.rank_search.proofs.PlainSteps.{each_followed, none_followed, nothing, some_followed}
use Rattle.rank_search.proofs.StepRanked.{item_at}
use Rattle.rank_forms.proofs.Told.{told_first, told_more}
use Rattle.rank_search.proofs.plain_steps.follow_all_ints.Goals as goal

pub loop-rule-init : goal.loop-rule-init
loop-rule-init c = told_first (λ rule followed. TellsInts c.args.form.now rule (Some followed)) c.args.rules.now nothing _
    c.new-all.ensures

pub loop-rule-preserved : goal.loop-rule-preserved
loop-rule-preserved c = told_more (λ rule followed. TellsInts c.args.form.now rule (Some followed)) c.args.rules.now nothing
    c.loop-rule.all _ c.in-Some.followed c.rule-item.result c.loop-rule.rule-index c.in_ok-push-in-Some.ensures.items
    (item_at c.args.rules.now c.loop-rule.rule-index c.rule-item.result c.loop-rule-test.true c.rule-item.is)
    (some_followed (TellsInts c.args.form.now) c.rule-item.result c.in_ok-followed.field-0 c.in-Some.followed c.in-Some.is
    c.in_ok-followed.ensures) c.loop-rule.invariant

pub returns-in-None : goal.returns-in-None
returns-in-None c = none_followed (TellsInts c.args.form.now) c.args.rules.now c.loop-rule.rule-index c.rule-item.result
    c.in_ok-followed.field-0 (item_at c.args.rules.now c.loop-rule.rule-index c.rule-item.result c.loop-rule-test.true
    c.rule-item.is) c.in-None.is c.in_ok-followed.ensures

pub returns : goal.returns
returns c = each_followed (TellsInts c.args.form.now) c.args.rules.now c.loop-rule.all c.loop-rule.rule-index c.loop-rule-test.false
    c.loop-rule.invariant
