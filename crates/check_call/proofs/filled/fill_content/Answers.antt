use Rattle.graph_fill.proofs.Lacking.{can_be_filled}
use Rattle.check_call.proofs.filled.fill_content.Goals as goal

pub filled-requires : goal.filled-requires
filled-requires c = record { named = can_be_filled c.args.cert.now.parts c.requires.named }
