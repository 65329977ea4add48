use Rattle.place_sorts.proofs.JvmRunTypedRuns.{known}
use Rattle.grow_laws.proofs.Plans.{children_grow}
use Rattle.grow_laws.proofs.laws.children_grow.Goals as goal

pub returns : goal.returns
returns c = λ p typing state children closed widths typed growing expanded.
    children_grow c.results_stay_ints.ensures c.branches_stay_ints.ensures p typing (known p typing closed widths typed) state
    growing c.dropped_states_reach_all.ensures children expanded
