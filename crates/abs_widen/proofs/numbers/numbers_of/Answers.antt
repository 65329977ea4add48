use Rattle.std.proofs.Common.{◌++◌, List, ℕ, map, zip, drop, ◌+◌, ap, ◌∙◌, arith}
use Rattle.abs_widen.specs.Widening.{number_of}
use Rattle.abs_widen.proofs.Zips.{made_more}
use Rattle.abs_widen.proofs.numbers.numbers_of.Goals as goal

pub loop-n-preserved : goal.loop-n-preserved
loop-n-preserved c =
    ap (λ (done : List ℕ). done ++ map (number_of c.args.pairs.now)
    (zip (drop (c.loop-n.n + 1) c.args.ids.now) (drop (c.loop-n.n + 1) c.args.others.now))) c.in_ok-push.ensures.items
    ∙ made_more (number_of c.args.pairs.now) c.loop-n.numbers.items
    (map (number_of c.args.pairs.now) (zip c.args.ids.now c.args.others.now)) c.args.ids.now c.args.others.now c.loop-n.n 0 0
    c.number_of.result
    c.loop-n-test.true (omega (arith, c.loop-n-test.true, c.requires.long)) c.number_of.ensures c.loop-n.invariant
