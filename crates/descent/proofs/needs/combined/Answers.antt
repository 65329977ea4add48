use Rattle.descent.proofs.Adding.{rows_wider}
use Rattle.descent.proofs.needs.combined.Goals as goal

pub combine-requires-clause-rows : goal.combine-requires-clause-rows
combine-requires-clause-rows c = rw c.as_slice.ensures (rows_wider _ _ c.args.rule.now.rows c.requires.vars c.requires.rule.rows)
