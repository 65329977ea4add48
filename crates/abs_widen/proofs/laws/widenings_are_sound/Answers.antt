use Rattle.abs_widen.proofs.Soundness.{sound}
use Rattle.abs_widen.proofs.laws.widenings_are_sound.Goals as goal

pub returns : goal.returns
returns c = sound
