use Rattle.std.proofs.Common.{refl}
use Rattle.class_read.proofs.writing.written_is_spelled.Goals as goal

pub returns : goal.returns
returns c = λ text rules major. record { text = text; rules = rules; major = major; bytes_are = refl; content = refl }
