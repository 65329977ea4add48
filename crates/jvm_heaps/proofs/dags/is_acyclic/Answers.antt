use Rattle.std.proofs.Common.{rules, ◌≡◌, replicate, false}
use Rattle.std.proofs.lemmas.Bool.{false≢true}
use Rattle.jvm_heaps.proofs.DagTurns.{begun_search, placed, going_on, found}
use Rattle.jvm_heaps.proofs.dags.is_acyclic.Goals as goal

pub loop-next-init : goal.loop-next-init
loop-next-init c =
    let entered : c.in_ok-entered.entered.items ≡ replicate c.len.result false = search rules in
    let left : c.in_ok-left.left.items ≡ replicate c.len.result false = search rules in
    begun_search c.args.heap.now c.args.start c.len.result _ _ c.new-todo.result.0 _ c.len.ensures entered left c.new-todo.ensures
    c.in_ok-push.ensures.items

pub take_turn-requires-clause-place : goal.take_turn-requires-clause-place
take_turn-requires-clause-place c = placed c.args.heap.now c.args.start c.loop-next.entered.items c.loop-next.left.items
    c.loop-next.todo.0 c.pop.new.self.0 c.in-Some.next c.requires.closed c.requires.in_heap c.in-Some.ensures.items c.loop-next.invariant

pub returns-then-not-branch : goal.returns-then-not-branch
returns-then-not-branch c = (
  λ e. absurd (false≢true e),
  λ dag. absurd (found c.args.heap.now c.args.start c.loop-next.entered.items c.loop-next.left.items
      c.loop-next.todo.0 c.pop.new.self.0 c.in-Some.next c.requires.closed c.requires.in_heap c.in-Some.ensures.items
      c.loop-next.invariant c.in_ok-take_turn.field-0 _ c.if-not-branch.true c.in_ok-take_turn.ensures dag),
)

pub loop-next-smaller : goal.loop-next-smaller
loop-next-smaller c = (going_on c.args.heap.now c.args.start c.loop-next.entered.items c.loop-next.left.items c.loop-next.todo.0
    c.pop.new.self.0 c.in-Some.next c.requires.closed c.requires.in_heap c.in-Some.ensures.items c.loop-next.invariant
    c.in_ok-take_turn.field-0 _ c.if-not-branch.false c.in_ok-take_turn.ensures).less

pub loop-next-preserved : goal.loop-next-preserved
loop-next-preserved c = (going_on c.args.heap.now c.args.start c.loop-next.entered.items c.loop-next.left.items c.loop-next.todo.0
    c.pop.new.self.0 c.in-Some.next c.requires.closed c.requires.in_heap c.in-Some.ensures.items c.loop-next.invariant
    c.in_ok-take_turn.field-0 _ c.if-not-branch.false c.in_ok-take_turn.ensures).search
