use Rattle.graph_fill.proofs.Lacking.{can_be_filled}
use Rattle.cert_making.proofs.bound_search.call.of_text.Goals as goal

pub filled-requires : goal.filled-requires
filled-requires g c = record { named = can_be_filled c.args.text.now.parts c.requires.named }
