use Rattle.class_read.proofs.ClassLaws.{class_one}
use Rattle.class_read.proofs.reading.one_class.Goals as goal

pub returns : goal.returns
returns c = class_one
