use Rattle.abs_match.proofs.Carrying.{carries}
use Rattle.abs_match.proofs.laws.matches_carry_fitting.Goals as goal

pub returns : goal.returns
returns c = carries
