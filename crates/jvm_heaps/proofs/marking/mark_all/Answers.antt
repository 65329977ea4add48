use Rattle.std.proofs.Common.{refl, sym, ◌∙◌, ◌+◌, ℕ, pos, Bool, List, ap, subst, drop, length, get_or}
use Rattle.jvm_values.specs.declared.heap.Value.{Value}
use Rattle.jvm_values.specs.declared.heap.Value.TheVariants.{Int}
use Rattle.jvm_values.specs.Heaps.{IsInHeap}
use Rattle.jvm_heaps.specs.Marks.{all_marks, all_todo}
use Rattle.jvm_heaps.proofs.MarkLaws.{length_one}
use Rattle.jvm_heaps.proofs.MarkTurns.{next_marks, next_todo, last_marks, last_todo}
use Rattle.jvm_heaps.proofs.marking.mark_all.Goals as goal

pub loop-value-init : goal.loop-value-init
loop-value-init c = record { marks = refl; todo = refl; size = refl }

pub mark-requires : goal.mark-requires
mark-requires c =
    let value : Value = get_or c.args.values.now c.loop-value.value-index (Int (pos 0)) in
    subst (λ (n : ℕ). IsInHeap n value) (sym c.loop-value.invariant.size)
    (c.requires c.loop-value.value-index (Int (pos 0)) c.loop-value-test.true)

pub loop-value-preserved : goal.loop-value-preserved
loop-value-preserved c =
    record {
      marks = ap (λ (ms : List Bool). all_marks (drop (c.loop-value.value-index + 1) c.args.values.now) ms)
          c.in_ok-mark.ensures.marks
          ∙ sym (next_marks c.args.values.now c.loop-value.value-index (Int (pos 0)) c.loop-value.marks.items
          c.loop-value-test.true) ∙ c.loop-value.invariant.marks;
      todo = ap (λ (ms : List Bool). all_todo (drop (c.loop-value.value-index + 1) c.args.values.now) ms c.mark.new.todo.items)
          c.in_ok-mark.ensures.marks ∙ ap (all_todo (drop (c.loop-value.value-index + 1) c.args.values.now) _)
          c.in_ok-mark.ensures.todo
          ∙ sym (next_todo c.args.values.now c.loop-value.value-index (Int (pos 0)) c.loop-value.marks.items c.loop-value.todo.items
          c.loop-value-test.true) ∙ c.loop-value.invariant.todo;
      size = ap length c.in_ok-mark.ensures.marks ∙ length_one (get_or c.args.values.now c.loop-value.value-index (Int (pos 0)))
          c.loop-value.marks.items ∙ c.loop-value.invariant.size;
    }

pub returns-clause-marks : goal.returns-clause-marks
returns-clause-marks c = sym
    (last_marks c.args.values.now c.loop-value.value-index c.loop-value.marks.items c.loop-value-test.false) ∙ c.loop-value.invariant.marks

pub returns-clause-todo : goal.returns-clause-todo
returns-clause-todo c = sym (last_todo c.args.values.now c.loop-value.value-index c.loop-value.marks.items c.loop-value.todo.items
    c.loop-value-test.false) ∙ c.loop-value.invariant.todo
