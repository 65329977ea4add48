use Rattle.class_world.proofs.ArrayNames.{no_array_class}
use Rattle.class_world.proofs.laws.no_class_is_of_arrays.Goals as goal

pub returns : goal.returns
returns c = no_array_class
