use Rattle.code_decode.proofs.Laws.{read_once}
use Rattle.code_decode.proofs.one_way.one_reading.Goals as goal

pub returns : goal.returns
returns c = λ code insns others this that. read_once code insns others this that
