use Rattle.graph_fill.proofs.Lacking.{can_be_filled}
use Rattle.cert_calls.proofs.throws_call.certs.of_text.Goals as goal

pub filled-requires : goal.filled-requires
filled-requires c = record { named = can_be_filled c.args.text.now.parts c.requires.named }
