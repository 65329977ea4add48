use Rattle.term_enc.proofs.Described.{edge_rows, instance_rows}
use Rattle.term_enc.proofs.laws.sizes_are_rows.Goals as goal

pub returns-clause-children : goal.returns-clause-children
returns-clause-children c = edge_rows

pub returns-clause-instances : goal.returns-clause-instances
returns-clause-instances c = instance_rows
