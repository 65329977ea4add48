use Rattle.code_forms.proofs.Boundaries.{without_fault, passes_good}
use Rattle.code_forms.proofs.table.table_is_good.Goals as goal

pub returns-clause-found : goal.returns-clause-found
returns-clause-found c = λ begins length table none. without_fault begins length table none

pub returns-clause-only : goal.returns-clause-only
returns-clause-only c = λ begins length table good. passes_good begins length table good
