use Rattle.std.proofs.Common.{ℕ, ◌==◌, ◌||◌, ◌∷◌, [], ◌∙◌, ap, List, Option}
use Rattle.std.specs.List.{list_any}
use Rattle.abs_cells.specs.AbstractStates.{AbstractFrame}
use Rattle.abs_cells.specs.IdSets.{has_id}
use Rattle.abs_cells.specs.Sound.{given_ids}
use Rattle.abs_reach.proofs.Dropped.{state_in, frame_has}
use Rattle.abs_reach.proofs.dropping.positions.Goals as goal

pub returns : goal.returns
returns g c n l = state_in n c.args.state.now (has_id c.new-set.result n) (has_id c.put_frames.new.set n)
    (has_id c.put_local.new.set n) (c.new-set.ensures n)
    (c.put_frames.ensures n l ∙ ap (λ (fs : List AbstractFrame). has_id c.new-set.result n || list_any (frame_has n) fs) c.frames.ensures)
    (c.put_local.ensures n l ∙ ap (λ (o : Option ℕ). has_id c.put_frames.new.set n || list_any (λ x. x == n) (given_ids (o ∷ [])))
    c.throwing.ensures)
