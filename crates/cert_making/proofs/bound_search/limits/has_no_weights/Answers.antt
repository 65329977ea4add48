use Rattle.cert_making.proofs.Weightless.{no_weights}
use Rattle.cert_making.proofs.bound_search.limits.has_no_weights.Goals as goal

pub returns : goal.returns
returns c = λ t. no_weights c.args.weights.now c.is_empty.result c.is_empty.ensures t
