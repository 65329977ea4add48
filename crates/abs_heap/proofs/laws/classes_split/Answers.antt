use Rattle.abs_heap.proofs.Classes.{classes_split}
use Rattle.abs_heap.proofs.laws.classes_split.Goals as goal

pub returns : goal.returns
returns c = classes_split
