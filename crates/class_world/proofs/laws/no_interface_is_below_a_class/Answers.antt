use Rattle.class_world.proofs.NoInterfaces.{no_interfaces_below}
use Rattle.class_world.proofs.laws.no_interface_is_below_a_class.Goals as goal

pub returns : goal.returns
returns c = no_interfaces_below
