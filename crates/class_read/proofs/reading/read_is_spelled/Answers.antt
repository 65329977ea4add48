use Rattle.class_read.proofs.ClassLaws.{class_found, class_again}
use Rattle.class_read.proofs.reading.read_is_spelled.Goals as goal

pub returns-clause-found : goal.returns-clause-found
returns-clause-found c = λ bytes class fits given. class_found bytes class fits given

pub returns-clause-only : goal.returns-clause-only
returns-clause-only c = λ bytes class spelled. class_again bytes class spelled
