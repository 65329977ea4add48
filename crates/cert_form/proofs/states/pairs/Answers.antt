use Rattle.std.proofs.Common.{◌≡◌, ◌∙◌}
use Rattle.cert_form.proofs.RisingPairs.{rising_at, add_next, differ, low_first}
use Rattle.cert_form.proofs.states.pairs.Goals as goal

pub add-requires : goal.add-requires
add-requires g c =
    let b = rising_at c.args.rising.now c.loop-pair.pair-index (0, 0) c.requires c.loop-pair-test.true in
    record { differ = differ _ _ b.0; low = (low_first _ _ b.0 b.1, b.1) }

pub loop-pair-preserved : goal.loop-pair-preserved
loop-pair-preserved g c = c.in_ok-add.ensures.ok ∙ add_next c.args.rising.now (g.P.Pairs.pairs c.loop-pair.set)
    c.loop-pair.pair-index (0, 0) c.requires c.loop-pair-test.true c.loop-pair.invariant
