use Rattle.std.proofs.Common.{refl, []}
use Rattle.std.proofs.lemmas.Option.{slice_get_read}
use Rattle.rank_forms.specs.rule_links.Falls.{TellAll}
use Rattle.rank_forms.specs.rule_links.Ties.{TellsChange}
use Rattle.rank_forms.proofs.Told.{told_first, told_more, told_all}
use Rattle.rank_forms.proofs.rule_links.falls.change_table.Goals as goal

pub loop-rule-init : goal.loop-rule-init
loop-rule-init c = told_first (λ rule. TellAll (TellsChange rule) c.args.places.now) c.args.rules.now [] _ c.new-table.ensures

pub loop-rule-preserved : goal.loop-rule-preserved
loop-rule-preserved c = told_more (λ rule. TellAll (TellsChange rule) c.args.places.now) c.args.rules.now [] c.loop-rule.table _
    c.in_ok-changes_of.field-0 _ c.loop-rule.rule-index c.in_ok-push.ensures.items
    (slice_get_read c.args.rules.now _ c.loop-rule.rule-index c.rule-item.result refl c.loop-rule-test.true c.rule-item.is)
    c.in_ok-changes_of.ensures c.loop-rule.invariant

pub returns : goal.returns
returns c = told_all (λ rule. TellAll (TellsChange rule) c.args.places.now) c.args.rules.now [] c.loop-rule.table
    c.loop-rule.rule-index c.loop-rule-test.false c.loop-rule.invariant
