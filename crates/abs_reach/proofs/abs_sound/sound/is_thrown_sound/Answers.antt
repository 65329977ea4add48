use Rattle.std.proofs.Common.{◌∙◌, IsTrue, sym}
use Rattle.abs_cells.specs.Cells.{HasCell}
use Rattle.abs_cells.specs.Sound.{is_object}
use Rattle.abs_reach.proofs.Thrown.{of_thrown}
use Rattle.abs_reach.proofs.abs_sound.sound.is_thrown_sound.Goals as goal

pub returns-in-Some : goal.returns-in-Some
returns-in-Some g c = of_thrown (HasCell is_object c.args.state.now) (IsTrue c.has_object.result) c.args.state.now.throwing
    c.in-Some.id (sym c.throwing.ensures ∙ c.in-Some.is) c.has_object.ensures
