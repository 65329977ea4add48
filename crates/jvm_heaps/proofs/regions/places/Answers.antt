use Rattle.std.proofs.Common.{◌≡◌, ◌++◌, ◌+◌, ℕ, List, sym, subst, drop, ◌∙◌}
use Rattle.jvm_heaps.specs.Regions.{marked_from}
use Rattle.jvm_heaps.proofs.Places.{no_more, taken, left}
use Rattle.jvm_heaps.proofs.regions.places.Goals as goal
use Rattle.jvm_heaps.proofs.regions.places.Goals.{then-is_marked+in_ok-push, else-is_marked}

pub loop-a-preserved : goal.loop-a-preserved
loop-a-preserved c = elim c.if-is_marked.branch [
  | then-is_marked+in_ok-push w ↦ taken c.args.marks.now c.loop-a.a c.loop-a.numbers c.if-is_marked.numbers c.loop-a-test.true
      w.if-is_marked.true (w.numbers-is ∙ w.in_ok-push.ensures.items) c.loop-a.invariant
  | else-is_marked w ↦ subst (λ (xs : List ℕ). xs ++ marked_from (c.loop-a.a + 1) (drop (c.loop-a.a + 1) c.args.marks.now)
      ≡ marked_from 0 c.args.marks.now) (sym w.numbers-is)
      (left c.args.marks.now c.loop-a.a c.loop-a.numbers c.loop-a-test.true w.if-is_marked.false c.loop-a.invariant)
]

pub returns : goal.returns
returns c = no_more c.args.marks.now c.loop-a.a c.loop-a.numbers c.loop-a-test.false c.loop-a.invariant
