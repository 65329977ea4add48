use Rattle.std.proofs.Common.{◌∙◌, ap, [], ◌∷◌, Option, ℕ}
use Rattle.std.specs.List.{list_all}
use Rattle.abs_cells.specs.IdSets.{has_id}
use Rattle.abs_cells.specs.Sound.{given_ids}
use Rattle.abs_cells.proofs.Checking.{in_places, not_in_places, in_frames}
use Rattle.abs_cells.proofs.checks.has_places.Goals as goal

pub returns-then-has_frames : goal.returns-then-has_frames
returns-then-has_frames g c = in_places c.args.set.now c.args.state.now c.has_frames.result c.has_locals.result c.if-has_frames.true
    (c.has_frames.ensures ∙ ap (in_frames c.args.set.now) c.frames.ensures)
    (c.has_locals.ensures ∙ ap (λ (t : Option ℕ). list_all (has_id c.args.set.now) (given_ids (t ∷ []))) c.throwing.ensures)

pub returns-else-has_frames : goal.returns-else-has_frames
returns-else-has_frames g c = not_in_places c.args.set.now c.args.state.now c.has_frames.result c.if-has_frames.false
    (c.has_frames.ensures ∙ ap (in_frames c.args.set.now) c.frames.ensures)
