use Rattle.jterm.proofs.Endings.{reasons_kept}
use Rattle.jterm.proofs.laws.reasons_are_kept.Goals as goal

pub returns : goal.returns
returns c = reasons_kept
