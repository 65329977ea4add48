use Rattle.abs_heap.specs.Names.{name_in}
use Rattle.abs_heap.proofs.After.{set_next, set_all}
use Rattle.abs_heap.proofs.rewriting.set_ids.Goals as goal

pub loop-place-preserved : goal.loop-place-preserved
loop-place-preserved c = set_next (name_in c.args.names.now) c.args.ids.now c.args.field c.args.w c.loop-place.place _ _ _
    c.loop-place.named _ c.loop-place-test.true c.id_at.ensures c.name_of.ensures c.loop-place.invariant c.in_ok-push.ensures.ok

pub returns : goal.returns
returns c = set_all (name_in c.args.names.now) c.args.ids.now c.args.field c.args.w c.loop-place.place c.loop-place.named
    c.loop-place-test.false c.loop-place.invariant
