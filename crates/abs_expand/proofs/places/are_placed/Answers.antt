use Rattle.std.proofs.Common.{◌∙◌, ◌&&◌, Bool, List, sym, ap, arith}
use Rattle.class_program.specs.Views.{program_of}
use Rattle.abs_plans.specs.abs_turns.code_verify.Typings.{typing_at}
use Rattle.class_program.specs.declared.program.StaticField.{StaticField}
use Rattle.abs_expand.specs.inner.PlaceTests.{running_test}
use Rattle.abs_expand.proofs.Placed.{all_tested}
use Rattle.abs_expand.proofs.places.are_placed.Goals as goal

pub returns : goal.returns
returns g c =
    sym (all_tested (program_of c.args.program.now) (typing_at c.args.typing.now) c.args.state.now c.args.state.now.frames
    c.frames-frames.result.now c.index-frames-below.result c.is_running_placed.result c.are_callers_placed.result
    c.frames-frames.ensures (omega arith) c.index-frames-below.is (c.is_running_placed.ensures
    ∙ ap (λ (statics : List StaticField). running_test (program_of c.args.program.now) (typing_at c.args.typing.now)
    c.args.state.now.cells c.args.state.now.throwing statics c.index-frames-below.result) c.fields_under.ensures)
    c.are_callers_placed.ensures
    ∙ ap (λ (b : Bool). b && c.are_callers_placed.result) c.if-not-is_running_placed.false)
