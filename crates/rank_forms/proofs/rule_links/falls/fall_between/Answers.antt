use Rattle.rank_forms.proofs.Falling.{fall_is}
use Rattle.rank_forms.proofs.rule_links.falls.fall_between.Goals as goal

pub returns : goal.returns
returns c = fall_is c.args.ties.now c.args.start c.args.finish c.in_ok-known.known.items c.as_slice.result.now c.known_of.result
    c.more_of.result c.in_ok-known.ensures c.as_slice.ensures.value c.known_of.ensures c.more_of.ensures
