use Rattle.term_enc.proofs.Described.{sizes_are, sizes_weigh}
use Rattle.term_enc.proofs.laws.sizes_are_of_patterns.Goals as goal

pub returns-clause-patterns : goal.returns-clause-patterns
returns-clause-patterns c = sizes_are

pub returns-clause-weights : goal.returns-clause-weights
returns-clause-weights c = sizes_weigh
