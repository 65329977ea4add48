use Rattle.std.proofs.Common.{◌∙◌}
use Rattle.rank_forms.proofs.Fallen.{falls_rise, falls_sound, falls_complete}
use Rattle.rank_forms.proofs.FallRows.{falls_in_rows}
use Rattle.rank_forms.proofs.rule_links.steps_down.fall_ties.Goals as goal

pub returns-clause-rising : goal.returns-clause-rising
returns-clause-rising c = falls_rise c.args.negative c.args.rows.now _ _ c.sort_ties.ensures.same
    (c.into_vec-ties.ensures ∙ c.in_ok-all_falls.ensures)

pub returns-clause-sound : goal.returns-clause-sound
returns-clause-sound c = falls_sound c.args.negative c.args.rows.now _ _ c.sort_ties.ensures.same
    (c.into_vec-ties.ensures ∙ c.in_ok-all_falls.ensures)

pub returns-clause-complete : goal.returns-clause-complete
returns-clause-complete c = falls_complete c.args.negative c.args.rows.now _ _ c.sort_ties.ensures.same
    (c.into_vec-ties.ensures ∙ c.in_ok-all_falls.ensures)

pub returns-clause-rows : goal.returns-clause-rows
returns-clause-rows c = falls_in_rows c.args.negative c.args.rows.now _ _ c.sort_ties.ensures.same
    (c.into_vec-ties.ensures ∙ c.in_ok-all_falls.ensures)
