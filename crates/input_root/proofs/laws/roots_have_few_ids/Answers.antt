use Rattle.input_root.proofs.SoundRoots.{few}
use Rattle.input_root.proofs.laws.roots_have_few_ids.Goals as goal

pub returns : goal.returns
returns c = few
