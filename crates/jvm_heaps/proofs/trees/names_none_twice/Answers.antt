use Rattle.std.proofs.Common.{ℕ, refl, sym, ◌∙◌, ap, subst, arith, length, get_or, false}
use Rattle.jvm_values.specs.Heaps.{IsInHeap}
use Rattle.jvm_heaps.specs.Trees.{values_if}
use Rattle.jvm_heaps.proofs.MarkLaws.{length_all}
use Rattle.jvm_heaps.proofs.MarkTurns.{held}
use Rattle.jvm_heaps.proofs.Ways.{fresh_length, begun_turn, begun_length, turned_once, last_turn}
use Rattle.jvm_heaps.proofs.trees.names_none_twice.Goals as goal

pub mark_new-new-requires : goal.mark_new-new-requires
mark_new-new-requires c = subst (λ (n : ℕ). IsInHeap n c.args.value) (sym (fresh_length _ c.args.named.now.items c.requires.fresh))
    c.requires.in_heap

pub loop-a-init : goal.loop-a-init
loop-a-init c = record {
  size = begun_length c.args.value (length c.args.heap.now.objects) c.args.named.now.items c.mark_new-new.new.named.items
      c.requires.fresh c.mark_new-new.ensures.marks;
  turn = begun_turn c.args.heap.now c.args.value c.args.region.now c.args.named.now.items c.mark_new-new.new.named.items
      c.mark_new-new.result c.requires.in_heap c.requires.fresh c.mark_new-new.ensures.marks c.mark_new-new.ensures.new;
}

pub at-requires : goal.at-requires
at-requires c = omega (arith, c.loop-a-test.true, c.requires.size)

pub mark_held-new-requires : goal.mark_held-new-requires
mark_held-new-requires c = held c.args.heap.now c.loop-a.a (length c.loop-a.named.items) c.at.result.now _ c.requires.closed
    (omega (arith, c.loop-a-test.true, c.requires.size)) c.at.ensures refl c.loop-a.invariant.size

pub loop-a-preserved : goal.loop-a-preserved
loop-a-preserved c = record {
  size = ap length c.mark_held-new.ensures.marks
      ∙ length_all (values_if (get_or c.args.region.now c.loop-a.a false) c.at.result.now) c.loop-a.named.items ∙ c.loop-a.invariant.size;
  turn = turned_once c.args.heap.now c.args.value c.args.region.now c.loop-a.named.items c.loop-a.a c.loop-a.new c.at.result.now
      c.requires.closed (λ b. (c.requires.exact b).0) c.loop-a.invariant.size c.at.ensures
      (omega (arith, c.loop-a-test.true, c.requires.size)) c.loop-a.invariant.turn c.mark_held-new.new.named.items
      c.mark_held-new.result c.mark_held-new.ensures.marks c.mark_held-new.ensures.new;
}

pub returns : goal.returns
returns c = last_turn c.args.heap.now c.args.value c.args.region.now c.loop-a.named.items c.loop-a.a c.loop-a.new
    c.loop-a-test.false c.requires.exact c.loop-a.invariant.turn
