use Rattle.plan_links.proofs.Links.{links_fit}
use Rattle.plan_links.proofs.laws.links_fit.Goals as goal

pub returns : goal.returns
returns c = links_fit
