use Rattle.lin_core.proofs.Matching.{shown_target_holds}
use Rattle.lin_core.proofs.laws.shown_targets_hold.Goals as goal

pub returns : goal.returns
returns c = shown_target_holds
