use Rattle.place_sorts.proofs.IntCases.{results_stay}
use Rattle.place_sorts.proofs.laws.results_stay_ints.Goals as goal

pub returns : goal.returns
returns c = results_stay
