use Rattle.std.proofs.Common.{◌≤◌, ℕ, List, length, Err, sym, subst}
use Rattle.class_program.specs.Views.{program_of}
use Rattle.code_verify.specs.Typings.{typing_at}
use Rattle.path_rules.specs.Answers.{Answers as PathAnswers}
use Rattle.path_rules.specs.declared.fault.PathFault.{PathFault}
use Rattle.rank_forms.specs.Graphs.{ArePlainRules}
use Rattle.term_graph.specs.Graphs.{GraphNode}
use Rattle.prove_core.specs.Cuts.{AreTargets}
use Rattle.prove_core.specs.Reasons.{HasLongPaths}
use Rattle.prove_core.specs.Reasons.{aim_of}
use Rattle.prove_core.proofs.Readying.{never_uncut, ready, plain, whole, moved, long_paths, long_rows}
use Rattle.prove_core.proofs.searching.of_links.Goals as goal

pub paths-requires-clause-ready : goal.paths-requires-clause-ready
paths-requires-clause-ready g c =
    let cuts = c.as_slice.result.now in
    let targets = subst (λ (cs : List ℕ). AreTargets c.args.graph cs) (sym c.as_slice.ensures) c.in_ok-cuts.ensures in
    ready c.links_fit.ensures (program_of c.args.program.now) (typing_at c.args.typing.now) c.args.graph c.args.root.now
    c.args.links.now.nodes cuts c.is_good.ensures.widths c.requires.typing c.requires.good targets

pub of_rules-requires-clause-paths : goal.of_rules-requires-clause-paths
of_rules-requires-clause-paths g c =
    moved c.args.graph c.paths.new.source c.args.links.now.nodes c.as_slice.result.now c.in_ok-cuts.cuts c.in-Ok.rules
    c.as_slice-rules.result.now c.paths.ensures.same c.as_slice.ensures c.as_slice-rules.ensures c.in-Ok.ensures.answers

pub of_rules-requires-clause-plain : goal.of_rules-requires-clause-plain
of_rules-requires-clause-plain g c =
    let cuts = c.as_slice.result.now in
    let targets = subst (λ (cs : List ℕ). AreTargets c.args.graph cs) (sym c.as_slice.ensures) c.in_ok-cuts.ensures in
    subst ArePlainRules (sym c.as_slice-rules.ensures)
    (plain c.good_graph_rules_are_plain.ensures c.links_fit.ensures (program_of c.args.program.now) (typing_at c.args.typing.now)
    c.args.graph c.args.root.now c.args.links.now.nodes cuts c.in-Ok.rules c.is_good.ensures.widths c.requires.typing
    c.requires.good targets c.in-Ok.ensures.answers)

pub returns-in-Ok : goal.returns-in-Ok
returns-in-Ok g c = λ limit few. c.of_rules.ensures limit
    (subst (λ (nodes : List GraphNode). length nodes ≤ limit) (sym c.paths.ensures.same) few)

pub returns-in-Err-TooManyPaths : goal.returns-in-Err-TooManyPaths
returns-in-Err-TooManyPaths g c =
    let p = program_of c.args.program.now in
    let typing = typing_at c.args.typing.now in
    let root = c.args.root.now in
    let graph = c.args.graph in
    let links = c.args.links.now.nodes in
    let cuts = c.as_slice.result.now in
    let targets = subst (λ (cs : List ℕ). AreTargets graph cs) (sym c.as_slice.ensures) c.in_ok-cuts.ensures in
    let fails = subst (λ (f : PathFault). PathAnswers graph links cuts (Err f)) c.in-Err-TooManyPaths.field-0-is
    c.in-Err-TooManyPaths.ensures.answers in
    λ limit few. subst (λ (nodes : List GraphNode). HasLongPaths (aim_of p typing root) limit nodes) (sym c.paths.ensures.same)
    (long_paths (aim_of p typing root) graph links cuts
    (whole p typing root graph links cuts c.requires.grown c.requires.good targets) fails limit few)

pub returns-in-Err-TooManyRows : goal.returns-in-Err-TooManyRows
returns-in-Err-TooManyRows g c =
    let p = program_of c.args.program.now in
    let typing = typing_at c.args.typing.now in
    let root = c.args.root.now in
    let graph = c.args.graph in
    let links = c.args.links.now.nodes in
    let cuts = c.as_slice.result.now in
    let targets = subst (λ (cs : List ℕ). AreTargets graph cs) (sym c.as_slice.ensures) c.in_ok-cuts.ensures in
    let fails = subst (λ (f : PathFault). PathAnswers graph links cuts (Err f)) c.in-Err-TooManyRows.field-0-is
    c.in-Err-TooManyRows.ensures.answers in
    λ limit few. subst (λ (nodes : List GraphNode). HasLongPaths (aim_of p typing root) limit nodes) (sym c.paths.ensures.same)
    (long_rows (aim_of p typing root) graph links cuts c.in-Err-TooManyRows.field-0-0
    (whole p typing root graph links cuts c.requires.grown c.requires.good targets) fails limit few)

pub unreachable-requires : goal.unreachable-requires
unreachable-requires g c =
    let graph = c.args.graph in
    let links = c.args.links.now.nodes in
    let cuts = c.as_slice.result.now in
    let targets = subst (λ (cs : List ℕ). AreTargets graph cs) (sym c.as_slice.ensures) c.in_ok-cuts.ensures in
    never_uncut (program_of c.args.program.now) (typing_at c.args.typing.now) c.args.root.now graph c.requires.grown
    c.trees_are_cut.ensures links cuts c.in-Err-Uncut.field-0-0 targets
    (subst (λ (f : PathFault). PathAnswers graph links cuts (Err f)) c.in-Err-Uncut.field-0-is c.in-Err-Uncut.ensures.answers)
