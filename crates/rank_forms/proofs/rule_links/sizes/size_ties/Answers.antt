use Rattle.std.proofs.Common.{◌∙◌}
use Rattle.rank_forms.proofs.Sized.{sizes_rise, sizes_sound, sizes_complete}
use Rattle.rank_forms.proofs.SizeRows.{sizes_in_rows}
use Rattle.rank_forms.proofs.rule_links.sizes.size_ties.Goals as goal

pub returns-clause-rising : goal.returns-clause-rising
returns-clause-rising c = sizes_rise c.args.rows.now _ _ c.sort_ties.ensures.same (c.into_vec-ties.ensures ∙ c.in_ok-all_sizes.ensures)

pub returns-clause-sound : goal.returns-clause-sound
returns-clause-sound c = sizes_sound c.args.vars c.args.rows.now _ _ c.requires c.sort_ties.ensures.same
    (c.into_vec-ties.ensures ∙ c.in_ok-all_sizes.ensures)

pub returns-clause-complete : goal.returns-clause-complete
returns-clause-complete c = sizes_complete c.args.vars c.args.rows.now _ _ c.requires c.sort_ties.ensures.same
    (c.into_vec-ties.ensures ∙ c.in_ok-all_sizes.ensures)

pub returns-clause-rows : goal.returns-clause-rows
returns-clause-rows c = sizes_in_rows c.args.vars c.args.rows.now _ _ c.requires c.sort_ties.ensures.same
    (c.into_vec-ties.ensures ∙ c.in_ok-all_sizes.ensures)
