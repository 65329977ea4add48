use Rattle.std.proofs.Common.{sym, ◌∙◌, arith}
use Rattle.class_pool.proofs.Names.{first_is, none_is}
use Rattle.class_pool.proofs.entries.Entries.first_bad_index.Goals as goal

pub returns-then-names_badly : goal.returns-then-names_badly
returns-then-names_badly c =
    sym (first_is c.args.self.now c.loop-i.i (omega (arith, c.loop-i-test.true, c.count-i-end.ensures)) c.loop-i.invariant
    (sym c.names_badly.ensures ∙ c.if-names_badly.true))

pub returns : goal.returns
returns c =
    sym (none_is c.args.self.now (λ k lt. c.loop-i.invariant k (omega (arith, lt, c.loop-i-test.false, c.count-i-end.ensures))))
