use Rattle.term_enc.proofs.Described.{terms_fill}
use Rattle.term_enc.proofs.laws.terms_fill_patterns.Goals as goal

pub returns : goal.returns
returns c = terms_fill
