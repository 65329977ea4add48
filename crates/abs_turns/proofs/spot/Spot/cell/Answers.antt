use Rattle.std.specs.Prelude.{◌≡◌, None, Some}
use Rattle.std.specs.Option.{MatchOption}
use Rattle.std.proofs.Common.{subst, ap, ◌∙◌}
use Rattle.abs_cells.specs.Cells.{cell_in}
use Rattle.abs_cells.specs.Sound.{IsSound}
use Rattle.jvm_step.specs.class_world.WorldTypes.{types_of}
use Rattle.abs_turns.specs.Turns.{Here}
use Rattle.abs_turns.proofs.SoundCells.{found_sound}
use Rattle.abs_turns.proofs.spot.Spot.cell.Goals as goal

pub returns-clause-sound : goal.returns-clause-sound
returns-clause-sound g c =
    let sound = subst (λ (here : Here). IsSound (types_of here.program.world) here.state) c.self.view_is c.self.invariant in
    let cells = c.cells.ensures ∙ ap (λ (here : Here). here.state.cells) c.self.view_is in
    let found = subst (λ listed. MatchOption c.cell_of.result (cell_in listed c.args.id ≡ None)
    (λ cell. cell_in listed c.args.id ≡ Some cell.now)) cells c.cell_of.ensures in
    found_sound (types_of c.args.self.now.program.world) c.args.self.now.state (λ cell. cell.now) c.args.id c.cell_of.result sound found
