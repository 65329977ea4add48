use Rattle.std.proofs.Common.{ℕ, ◌==◌, ◌||◌, ◌∙◌, ap, Bool, List, Option}
use Rattle.std.specs.List.{list_any}
use Rattle.abs_cells.specs.IdSets.{has_id}
use Rattle.abs_cells.specs.Sound.{given_ids}
use Rattle.abs_reach.proofs.Dropped.{frame_in}
use Rattle.abs_reach.proofs.dropping.put_frame.Goals as goal

pub returns : goal.returns
returns c n l = frame_in n c.args.frame.now (has_id c.args.set.now n) (has_id c.put_locals.new.set n) (has_id c.put_ids.new.set n)
    (c.put_locals.ensures n l ∙ ap (λ (xs : List (Option ℕ)). has_id c.args.set.now n || list_any (λ x. x == n) (given_ids xs))
    c.locals.ensures)
    (c.put_ids.ensures n l ∙ ap (λ (xs : List ℕ). has_id c.put_locals.new.set n || list_any (λ x. x == n) xs) c.stack.ensures)
