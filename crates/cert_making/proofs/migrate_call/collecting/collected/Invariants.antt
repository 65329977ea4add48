use Rattle.std.proofs.Common.{◌≡◌, take}
use Rattle.cert_making.proofs.migrate_call.collecting.collected.Given as goal

abbrev pub invariant-loop-n : goal.invariant-loop-n
invariant-loop-n g l = record {
  same : g.S.NodeSource.graph l.source ≡ g.S.NodeSource.graph l.initial.source;
  made : l.graph ≡ take l.n (g.S.NodeSource.graph l.initial.source);
}
