use Rattle.std.proofs.Common.{None}
use Rattle.std.proofs.lemmas.Option.{slice_get-get_or}
use Rattle.rank_forms.specs.rule_links.inner.Rising.{TellsWays}
use Rattle.rank_forms.proofs.Told.{told_first, told_more, told_all}
use Rattle.rank_forms.proofs.rule_links.falls.falls_at.Goals as goal

pub loop-place-init : goal.loop-place-init
loop-place-init c = told_first (TellsWays c.args.size c.args.ties.now c.args.rule.now) c.args.places.now None _ c.new-falls.ensures

pub loop-place-preserved : goal.loop-place-preserved
loop-place-preserved c = told_more (TellsWays c.args.size c.args.ties.now c.args.rule.now) c.args.places.now None c.loop-place.falls
    _ c.in_ok-fall_at.field-0 _ c.loop-place.place-index c.in_ok-push.ensures.items
    (slice_get-get_or c.args.places.now c.loop-place.place-index _ c.loop-place-test.true) c.in_ok-fall_at.ensures c.loop-place.invariant

pub returns : goal.returns
returns c = told_all (TellsWays c.args.size c.args.ties.now c.args.rule.now) c.args.places.now None c.loop-place.falls
    c.loop-place.place-index c.loop-place-test.false c.loop-place.invariant
