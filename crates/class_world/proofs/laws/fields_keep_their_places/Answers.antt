use Rattle.class_world.proofs.Prefixes.{fields_in_order}
use Rattle.class_world.proofs.laws.fields_keep_their_places.Goals as goal

pub returns : goal.returns
returns c = λ world known. fields_in_order world known.linked
