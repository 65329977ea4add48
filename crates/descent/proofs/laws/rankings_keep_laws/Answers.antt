use Rattle.descent.specs.lemmas.RankingLaws.{ranking_laws}
use Rattle.descent.proofs.laws.rankings_keep_laws.Goals as goal

pub returns : goal.returns
returns c = ranking_laws
