use Rattle.std.proofs.Common.{rules, ◌≡◌, sym, ◌∙◌, replicate, false}
use Rattle.jvm_heaps.proofs.MarkTurns.{begun_with, last_object, held, turned, lessened, finished}
use Rattle.jvm_heaps.proofs.marking.marked.Goals as goal

pub loop-a-init : goal.loop-a-init
loop-a-init c =
    let fresh : c.in_ok-marks.marks.items ≡ replicate c.len.result false = search rules in
    begun_with c.args.heap.now c.args.value c.len.result c.in_ok-marks.marks.items _ c.new-todo.result.items _ c.requires.in_heap
    c.len.ensures fresh c.new-todo.ensures.items c.in_ok-mark.ensures.marks c.in_ok-mark.ensures.todo

pub at-requires : goal.at-requires
at-requires c = last_object c.args.heap.now c.args.value c.loop-a.marks.items c.loop-a.todo.items c.pop.new.self.items c.in-Some.a
    c.in-Some.ensures.items c.loop-a.invariant

pub mark_all-requires : goal.mark_all-requires
mark_all-requires c = held c.args.heap.now c.in-Some.a _ c.at.result.now c.values.result.now c.requires.closed
    (last_object c.args.heap.now c.args.value c.loop-a.marks.items c.loop-a.todo.items c.pop.new.self.items c.in-Some.a
    c.in-Some.ensures.items c.loop-a.invariant) c.at.ensures c.values.ensures c.loop-a.invariant.size

pub loop-a-smaller : goal.loop-a-smaller
loop-a-smaller c = lessened c.args.heap.now c.args.value c.loop-a.marks.items c.loop-a.todo.items c.pop.new.self.items c.in-Some.a
    c.at.result.now c.values.result.now c.mark_all.new.marks.items c.mark_all.new.todo.items c.requires.closed c.loop-a.invariant
    (record {
      popped = c.in-Some.ensures.items;
      object_is = c.at.ensures;
      values_are = c.values.ensures;
      marks_are =
          c.in_ok-mark_all.ensures.marks;
      todo_is = c.in_ok-mark_all.ensures.todo;
    })

pub loop-a-preserved : goal.loop-a-preserved
loop-a-preserved c = turned c.args.heap.now c.args.value c.loop-a.marks.items c.loop-a.todo.items c.pop.new.self.items c.in-Some.a
    c.at.result.now c.values.result.now c.mark_all.new.marks.items c.mark_all.new.todo.items c.requires.closed c.loop-a.invariant
    (record {
      popped = c.in-Some.ensures.items;
      object_is = c.at.ensures;
      values_are = c.values.ensures;
      marks_are =
          c.in_ok-mark_all.ensures.marks;
      todo_is = c.in_ok-mark_all.ensures.todo;
    })

pub returns-clause-exact : goal.returns-clause-exact
returns-clause-exact c = finished c.args.heap.now c.args.value c.loop-a.marks.items c.loop-a.todo.items
    (sym c.loop-a.todo.ok.0 ∙ c.in_default.ensures.cases.0) c.loop-a.invariant

pub returns-clause-size : goal.returns-clause-size
returns-clause-size c = c.loop-a.invariant.size
