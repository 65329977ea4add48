use Rattle.std.proofs.Common.{sym, ◌∙◌}
use Rattle.std.proofs.lemmas.Bool.{false≢true}
use Rattle.abs_heap.proofs.PairGains.{gain_one, gain_no, pair_low}
use Rattle.abs_heap.proofs.gaining.put_pair.Goals as goal

pub add-requires-clause-low : goal.add-requires-clause-low
add-requires-clause-low g c = pair_low c.args.cells.now c.args.a c.args.b c.requires (c.may_be_pair.ensures.0 c.if-may_be_pair.true).1

pub returns-in_ok-add : goal.returns-in_ok-add
returns-in_ok-add g c = let h = c.may_be_pair.ensures.0 c.if-may_be_pair.true in gain_one c.args.cells.now c.args.a c.args.b
    (g.P.Pairs.pairs c.args.pairs.now) (g.P.Pairs.pairs c.add.new.self) h.0 h.1 c.in_ok-add.ensures.ok

pub returns-else-may_be_pair : goal.returns-else-may_be_pair
returns-else-may_be_pair g c = gain_no c.args.cells.now c.args.a c.args.b (g.P.Pairs.pairs c.args.pairs.now)
    (λ n j. false≢true (sym c.if-may_be_pair.false ∙ c.may_be_pair.ensures.1 (n, j)))
