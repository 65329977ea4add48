use Rattle.std.proofs.Common.{◌≡◌, take}
use Rattle.std.specs.List.{AllZip}
use Rattle.class_program.specs.Views.{program_of}
use Rattle.code_verify.specs.Typings.{typing_at}
use Rattle.graph_check.specs.Good.{IsGoodNode}
use Rattle.graph_check.proofs.checking.all_links.Given as goal

abbrev pub invariant-loop-number : goal.invariant-loop-number
invariant-loop-number g l = record {
  same : g.S.NodeSource.graph l.source ≡ g.S.NodeSource.graph l.initial.source;
  good : AllZip (IsGoodNode (program_of l.program) (typing_at l.typing) (g.S.NodeSource.graph l.initial.source))
      (take l.number (g.S.NodeSource.graph l.initial.source)) l.links;
}
