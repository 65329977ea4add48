use Rattle.abs_cells.proofs.PatternLaws.{one_pattern}
use Rattle.abs_cells.proofs.laws.patterns_are_one.Goals as goal

pub returns : goal.returns
returns c = one_pattern
