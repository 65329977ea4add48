use Rattle.std.proofs.Common.{None}
use Rattle.std.proofs.lemmas.Option.{slice_get-get_or}
use Rattle.rank_forms.specs.rule_links.Ties.{TellsChange}
use Rattle.rank_forms.proofs.Told.{told_first, told_more, told_all}
use Rattle.rank_forms.proofs.rule_links.changes.changes_at.Goals as goal

pub loop-place-init : goal.loop-place-init
loop-place-init c = told_first (TellsChange c.args.rule.now) c.args.places.now None _ c.new-changes.ensures

pub loop-place-preserved : goal.loop-place-preserved
loop-place-preserved c = told_more (TellsChange c.args.rule.now) c.args.places.now None c.loop-place.changes _
    c.in_ok-change_at.field-0 _ c.loop-place.place-index c.in_ok-push.ensures.items
    (slice_get-get_or c.args.places.now c.loop-place.place-index _ c.loop-place-test.true) c.in_ok-change_at.ensures c.loop-place.invariant

pub returns : goal.returns
returns c = told_all (TellsChange c.args.rule.now) c.args.places.now None c.loop-place.changes c.loop-place.place-index
    c.loop-place-test.false c.loop-place.invariant
