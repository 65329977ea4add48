use Rattle.std.proofs.Common.{refl, sym, ◌∙◌, ◌+◌, ℕ, pos, Bool, List, ap, subst, drop, length, get_or}
use Rattle.jvm_values.specs.declared.heap.Value.{Value}
use Rattle.jvm_values.specs.declared.heap.Value.TheVariants.{Int}
use Rattle.jvm_values.specs.Heaps.{IsInHeap}
use Rattle.jvm_heaps.specs.Marks.{all_marks}
use Rattle.jvm_heaps.specs.Trees.{all_new}
use Rattle.jvm_heaps.proofs.MarkLaws.{length_one}
use Rattle.jvm_heaps.proofs.MarkTurns.{next_marks, last_marks}
use Rattle.jvm_heaps.proofs.Ways.{next_new, last_new}
use Rattle.jvm_heaps.proofs.trees.mark_all_new.Goals as goal

pub loop-value-init : goal.loop-value-init
loop-value-init c = record { marks = refl; new = refl; size = refl }

pub mark_new-new-requires : goal.mark_new-new-requires
mark_new-new-requires c =
    let value : Value = get_or c.args.values.now c.loop-value.value-index (Int (pos 0)) in
    subst (λ (n : ℕ). IsInHeap n value) (sym c.loop-value.invariant.size)
    (c.requires c.loop-value.value-index (Int (pos 0)) c.loop-value-test.true)

pub loop-value-preserved : goal.loop-value-preserved
loop-value-preserved c =
    record {
      marks = ap (λ (ms : List Bool). all_marks (drop (c.loop-value.value-index + 1) c.args.values.now) ms)
          c.mark_new-new.ensures.marks
          ∙ sym (next_marks c.args.values.now c.loop-value.value-index (Int (pos 0)) c.loop-value.named.items
          c.loop-value-test.true) ∙ c.loop-value.invariant.marks;
      new = ap (λ (ms : List Bool). all_new (drop (c.loop-value.value-index + 1) c.args.values.now) ms c.mark_new-new.result)
          c.mark_new-new.ensures.marks ∙ ap (all_new (drop (c.loop-value.value-index + 1) c.args.values.now) _)
          c.mark_new-new.ensures.new
          ∙ sym (next_new c.args.values.now c.loop-value.value-index (Int (pos 0)) c.loop-value.named.items c.loop-value.new
          c.loop-value-test.true) ∙ c.loop-value.invariant.new;
      size = ap length c.mark_new-new.ensures.marks ∙ length_one (get_or c.args.values.now c.loop-value.value-index (Int (pos 0)))
          c.loop-value.named.items ∙ c.loop-value.invariant.size;
    }

pub returns-clause-marks : goal.returns-clause-marks
returns-clause-marks c = sym
    (last_marks c.args.values.now c.loop-value.value-index c.loop-value.named.items c.loop-value-test.false) ∙ c.loop-value.invariant.marks

pub returns-clause-new : goal.returns-clause-new
returns-clause-new c = sym (last_new c.args.values.now c.loop-value.value-index c.loop-value.named.items c.loop-value.new
    c.loop-value-test.false) ∙ c.loop-value.invariant.new
