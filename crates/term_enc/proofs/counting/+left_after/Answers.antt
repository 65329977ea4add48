use Rattle.std.proofs.Common.{◌≡◌, Some, sym, ap, ◌∙◌}
use Rattle.term_enc.specs.inner.Counting.{one_less}
use Rattle.term_enc.proofs.Counted.{all_left, none_left}
use Rattle.term_enc.proofs.counting.+left_after.Goals as goal

pub returns-in_err-left-in-Obj-2 : goal.returns-in_err-left-in-Obj-2
returns-in_err-left-in-Obj-2 t c =
    let one : one_less c.args.left ≡ Some c.in_ok-left-in-Obj.left = sym c.in_ok-left-in-Obj.ensures in
    c.from_residual-in_err-left-in-Obj-2.ensures
    ∙ none_left c.args.depth c.args.cells.now c.args.id c.args.left c.in-Obj.field-0 c.in-Obj.ids c.as_slice-child-items.result.now
    c.in_ok-left-in-Obj.left
    c.loop-child.child-index c.loop-child.left 0 c.if-depth-eq0.false (c.in-Some.ensures ∙ ap Some c.in-Obj.is)
    c.as_slice-child-items.ensures one
    c.loop-child.invariant c.loop-child-test.true (sym c.in_err-left-in-Obj-2.ensures)

pub returns-after-loop-child : goal.returns-after-loop-child
returns-after-loop-child t c =
    let one : one_less c.args.left ≡ Some c.in_ok-left-in-Obj.left = sym c.in_ok-left-in-Obj.ensures in
    all_left c.args.depth c.args.cells.now c.args.id c.args.left c.in-Obj.field-0 c.in-Obj.ids c.as_slice-child-items.result.now
    c.in_ok-left-in-Obj.left
    c.loop-child.child-index c.loop-child.left c.if-depth-eq0.false (c.in-Some.ensures ∙ ap Some c.in-Obj.is)
    c.as_slice-child-items.ensures one
    c.loop-child.invariant c.loop-child-test.false
