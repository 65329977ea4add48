use Rattle.std.proofs.Common.{ℕ, List, subst, arith}
use Rattle.abs_widen.specs.inner.Visiting.{IsNext}
use Rattle.abs_widen.proofs.Visiting.{left_goes, too_many}
use Rattle.abs_widen.proofs.visits.visit_all.Goals as goal

pub returns-then-len-ge-MOST_IDS-clause-err : goal.returns-then-len-ge-MOST_IDS-clause-err
returns-then-len-ge-MOST_IDS-clause-err g c = λ e.
    too_many c.args.a.now c.args.b.now c.loop-pair.met.items c.loop-pair.todo.0 c.next_new.new.todo.0 c.in-Some.pair
    (subst (λ (m : List (ℕ × ℕ)). IsNext m c.loop-pair.todo.0 c.next_new.new.todo.0 c.in-Some.pair) c.deref.ensures.value
    c.in-Some.ensures)
    c.loop-pair.invariant.few c.loop-pair.invariant.paired (omega (arith, c.if-len-ge-MOST_IDS.true, c.len.ensures))

pub loop-pair-preserved : goal.loop-pair-preserved
loop-pair-preserved g c =
    left_goes c.args.a.now c.args.b.now c.args.met.now.items c.args.todo.now.0 c.loop-pair.met.items c.loop-pair.todo.0
    c.next_new.new.todo.0 c.push.new.self.items c.push_below.new.todo.0 c.in-Some.pair
    c.loop-pair.invariant (subst (λ (m : List (ℕ × ℕ)). IsNext m c.loop-pair.todo.0 c.next_new.new.todo.0 c.in-Some.pair)
    c.deref.ensures.value c.in-Some.ensures)
    (omega (arith, c.if-len-ge-MOST_IDS.false, c.len.ensures)) c.in_ok-push.ensures.items c.in_ok-push_below.ensures
