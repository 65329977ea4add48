use Rattle.abs_reach.proofs.Sound.{may_meet}
use Rattle.abs_reach.proofs.laws.meeting_regions_may_meet.Goals as goal

pub returns : goal.returns
returns c = may_meet
