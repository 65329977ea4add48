use Rattle.abs_cells.proofs.Fitting.{known_apart}
use Rattle.abs_cells.proofs.laws.known_ids_are_apart.Goals as goal

pub returns : goal.returns
returns c = known_apart
