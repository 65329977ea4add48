use Rattle.place_sorts.proofs.IntCases.{branches_stay}
use Rattle.place_sorts.proofs.laws.branches_stay_ints.Goals as goal

pub returns : goal.returns
returns c = branches_stay
