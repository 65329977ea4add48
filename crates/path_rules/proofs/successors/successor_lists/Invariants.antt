use Rattle.std.proofs.Common.{◌≡◌, take}
use Rattle.path_rules.specs.Successors.{lists_of}
use Rattle.path_rules.proofs.successors.successor_lists.Given as goal

abbrev pub invariant-loop-n : goal.invariant-loop-n
invariant-loop-n g l = record {
  same : g.S.NodeSource.graph l.source ≡ g.S.NodeSource.graph l.initial.source;
  made : l.lists ≡ lists_of (take l.n (g.S.NodeSource.graph l.initial.source));
}
