use Rattle.class_read.proofs.WritingLaws.{has_text}
use Rattle.class_read.proofs.writing.class_has_text.Goals as goal

pub returns : goal.returns
returns c = has_text
