use Rattle.code_decode.proofs.Laws.{reads, reads_again}
use Rattle.code_decode.proofs.one_way.read_is_spelled.Goals as goal

pub returns-clause-found : goal.returns-clause-found
returns-clause-found c = λ code insns fits short read. reads code insns fits short read

pub returns-clause-only : goal.returns-clause-only
returns-clause-only c = λ code insns reading. reads_again code insns reading
