use Rattle.class_world.proofs.BuiltInLaws.{built_ins_known}
use Rattle.class_world.proofs.laws.built_ins_are_known.Goals as goal

pub returns : goal.returns
returns c = built_ins_known
