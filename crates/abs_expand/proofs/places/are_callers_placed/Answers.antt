use Rattle.std.proofs.Common.{◌≡◌, ◌∙◌, ◌+◌, ◌-◌, ◌&&◌, Bool, ℕ, List, take, reverse, sym, ap, arith}
use Rattle.class_program.specs.Views.{program_of}
use Rattle.abs_plans.specs.abs_turns.code_verify.Typings.{typing_at}
use Rattle.abs_expand.specs.inner.PlaceTests.{caller_test, callers_test}
use Rattle.class_program.specs.declared.program.StaticField.{StaticField}
use Rattle.abs_expand.proofs.Placed.{callers_more}
use Rattle.abs_expand.proofs.places.are_callers_placed.Goals as goal

pub returns-then-not-is_caller_placed : goal.returns-then-not-is_caller_placed
returns-then-not-is_caller_placed g c =
    let p = program_of c.args.program.now in
    let typing = typing_at c.args.typing.now in
    let cells = c.args.state.now.cells in
    let n = c.loop-n.n - 1 in
    let up : n + 1 ≡ c.loop-n.n = omega arith in
    sym (sym c.loop-n.invariant.rest ∙ ap (λ (k : ℕ). callers_test p typing cells (reverse (take k c.args.frames.now))) (sym up)
    ∙ callers_more p typing cells c.args.frames.now n c.index-frames-n.result (omega (arith, c.loop-n.invariant.within))
    c.index-frames-n.is
    ∙ ap (λ (b : Bool). b && callers_test p typing cells (reverse (take n c.args.frames.now)))
    (ap (λ (statics : List StaticField). caller_test p typing cells statics c.index-frames-n.result) (sym c.fields_under.ensures)
    ∙ sym c.is_caller_placed.ensures ∙ c.if-not-is_caller_placed.true))
