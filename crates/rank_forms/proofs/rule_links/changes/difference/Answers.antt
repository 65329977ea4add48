use Rattle.rank_forms.proofs.Changed.{difference_is}
use Rattle.rank_forms.proofs.rule_links.changes.difference.Goals as goal

pub returns : goal.returns
returns c = difference_is c.args.ties.now c.args.start c.args.finish c.in_ok-known.known.items c.as_slice.result.now
    c.known_of.result c.more_of.result c.in_ok-known.ensures.sound c.in_ok-known.ensures.complete c.in_ok-known.ensures.finished
    c.as_slice.ensures.value c.known_of.ensures c.more_of.ensures
