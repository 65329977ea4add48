use Rattle.std.proofs.Common.{length, refl}
use Rattle.std.proofs.lemmas.Option.{slice_get_read}
use Rattle.class_calls.proofs.Pairs.{listed_at}
use Rattle.class_calls.proofs.describe.whole.next.Goals as goal

pub returns-then-pair-j : goal.returns-then-pair-j
returns-then-pair-j c = λ wanted.
    listed_at c.args.i c.args.j c.args.place c.args.pairs.now c.in-Some.pair.now
    (slice_get_read c.args.pairs.now (length c.args.pairs.now) c.args.place c.in-Some.pair.now refl c.in-Some.ensures.lookup.3.0
    c.in-Some.ensures.lookup.1)
    c.if-pair-i.true c.if-pair-j.true
