use Rattle.std.proofs.Common.{cond, Some, ap, ◌∙◌}
use Rattle.std.specs.Map.{lookup}
use Rattle.class_program.specs.Reached.{same_method}
use Rattle.class_program.specs.inner.Rows.{Rows}
use Rattle.class_program.proofs.selections.Selections.put.Goals as goal

pub returns : goal.returns
returns c = λ other. c.in_ok-insert.ensures.updates.0 other
    ∙ ap (λ (rows : Rows). cond (same_method c.args.method other) (Some c.args.row) (lookup (same_method other) rows)) c.self.view_is
