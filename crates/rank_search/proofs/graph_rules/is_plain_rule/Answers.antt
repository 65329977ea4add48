use Rattle.rank_search.proofs.PlainChecked.{plain_rule_by}
use Rattle.rank_search.proofs.graph_rules.is_plain_rule.Goals as goal
use Rattle.rank_forms.proofs.Shown.{is_true}

pub returns : goal.returns
returns c t = plain_rule_by c.args.rule.now c.as_slice-rows.result.now c.as_slice-slots.result.now c.as_slice-rows.ensures
    c.as_slice-slots.ensures (c.are_close_ints.ensures (is_true c.are_close_ints.result c.if-not-are_close_ints.false))
    (c.are_short_rows.ensures (is_true c.are_short_rows.result c.if-not-are_short_rows.false))
    (c.are_size_slots.ensures (is_true c.are_size_slots.result c.if-not-are_size_slots.false)) (c.are_one_kind.ensures t)
