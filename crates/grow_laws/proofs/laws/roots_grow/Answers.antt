use Rattle.grow_laws.proofs.Roots.{root_grows}
use Rattle.grow_laws.proofs.laws.roots_grow.Goals as goal

pub returns : goal.returns
returns c = λ p typing desc closed typed own. root_grows p typing desc closed typed own (c.roots_are_sound.ensures p desc closed own)
