use Rattle.std.proofs.Common.{◌∙◌, ap}
use Rattle.std.specs.List.{list_all}
use Rattle.abs_cells.specs.IdSets.{has_id}
use Rattle.abs_cells.specs.Sound.{given_ids}
use Rattle.abs_cells.proofs.Checking.{in_frame}
use Rattle.abs_cells.proofs.checks.has_frame.Goals as goal

pub returns-then-has_locals : goal.returns-then-has_locals
returns-then-has_locals c = in_frame c.args.set.now c.args.frame.now c.has_locals.result c.has_all.result c.if-has_locals.true
    (c.has_locals.ensures ∙ ap (λ ids. list_all (has_id c.args.set.now) (given_ids ids)) c.locals.ensures)
    (c.has_all.ensures ∙ ap (list_all (has_id c.args.set.now)) c.stack.ensures)
