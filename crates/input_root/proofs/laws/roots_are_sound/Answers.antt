use Rattle.input_root.proofs.SoundRoots.{sound}
use Rattle.input_root.proofs.laws.roots_are_sound.Goals as goal

pub returns : goal.returns
returns c = sound
