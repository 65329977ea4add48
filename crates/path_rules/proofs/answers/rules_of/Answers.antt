use Rattle.std.proofs.Common.{◌∙◌, ◌+◌, ℕ, List, Option, Some, None, subst, sym, arith}
use Rattle.descent.specs.declared.rules.PathRule.{PathRule}
use Rattle.term_graph.specs.Graphs.{GraphNode}
use Rattle.path_rules.specs.inner.Ways.{paths_of}
use Rattle.path_rules.specs.inner.Building.{IsRuleOfNumber}
use Rattle.path_rules.specs.inner.Sizing.{sized_graph}
use Rattle.path_rules.proofs.Ruling.{AreSoFar, one_more, one_too_long, all_too_long}
use Rattle.path_rules.proofs.answers.rules_of.Goals as goal

pub returns-in_default-clause-rules : goal.returns-in_default-clause-rules
returns-in_default-clause-rules g c =
    let low = c.loop-path-test.true in
    let all = c.requires.all in
    let few = c.requires.few in
    one_too_long (g.S.NodeSource.graph c.args.source.now) c.args.links.now.nodes c.args.cuts.now c.args.ways.now c.loop-path.rules
    c.loop-path.path c.loop-path.rows c.requires.ready c.requires.mapped c.loop-path.invariant.so (omega (arith, low, all))
    (omega (arith, all, few))
    (subst (λ (graph : List GraphNode). IsRuleOfNumber (sized_graph graph c.args.links.now.nodes) c.args.cuts.now
    (paths_of c.args.ways.now c.args.cuts.now) c.loop-path.path None) c.loop-path.invariant.same
    (subst (λ (rule : Option PathRule). IsRuleOfNumber
    (sized_graph (g.S.NodeSource.graph c.loop-path.source) c.args.links.now.nodes) c.args.cuts.now
    (paths_of c.args.ways.now c.args.cuts.now) c.loop-path.path rule) c.in_default.is c.in_ok-rule.ensures.rule))

pub returns-then-rows-gt-MOST_ROWS-clause-rules : goal.returns-then-rows-gt-MOST_ROWS-clause-rules
returns-then-rows-gt-MOST_ROWS-clause-rules g c =
    let low = c.loop-path-test.true in
    let all = c.requires.all in
    let few = c.requires.few in
    let past = c.if-rows-gt-MOST_ROWS.true in
    let long = c.len.ensures in
    all_too_long (g.S.NodeSource.graph c.args.source.now) c.args.links.now.nodes c.args.cuts.now c.args.ways.now c.loop-path.rules
    c.loop-path.path c.loop-path.rows c.in-Some.rule c.requires.ready c.requires.mapped c.loop-path.invariant.so
    (omega (arith, low, all)) (omega (arith, all, few))
    (subst (λ (graph : List GraphNode). IsRuleOfNumber (sized_graph graph c.args.links.now.nodes) c.args.cuts.now
    (paths_of c.args.ways.now c.args.cuts.now) c.loop-path.path (Some c.in-Some.rule)) c.loop-path.invariant.same
    (subst (λ (rule : Option PathRule). IsRuleOfNumber
    (sized_graph (g.S.NodeSource.graph c.loop-path.source) c.args.links.now.nodes) c.args.cuts.now
    (paths_of c.args.ways.now c.args.cuts.now) c.loop-path.path rule) c.in-Some.is c.in_ok-rule.ensures.rule))
    (omega (arith, past, long))

pub loop-path-preserved : goal.loop-path-preserved
loop-path-preserved g c =
    let low = c.loop-path-test.true in
    let all = c.requires.all in
    let few = c.if-rows-gt-MOST_ROWS.false in
    let long = c.len.ensures in
    record {
      same = c.in_ok-rule.ensures.same ∙ c.loop-path.invariant.same;
      so =
          subst (λ (n : ℕ). AreSoFar (g.S.NodeSource.graph c.args.source.now) c.args.links.now.nodes c.args.cuts.now
          (paths_of c.args.ways.now c.args.cuts.now) c.push.new.self (c.loop-path.path + 1) (c.loop-path.rows + n))
          (sym c.len.ensures)
          (one_more (g.S.NodeSource.graph c.args.source.now) c.args.links.now.nodes c.args.cuts.now
          (paths_of c.args.ways.now c.args.cuts.now) c.loop-path.rules c.push.new.self c.loop-path.path c.loop-path.rows
          c.in-Some.rule c.loop-path.invariant.so (omega (arith, low, all))
          (subst (λ (graph : List GraphNode). IsRuleOfNumber (sized_graph graph c.args.links.now.nodes) c.args.cuts.now
          (paths_of c.args.ways.now c.args.cuts.now) c.loop-path.path (Some c.in-Some.rule)) c.loop-path.invariant.same
          (subst (λ (rule : Option PathRule). IsRuleOfNumber
          (sized_graph (g.S.NodeSource.graph c.loop-path.source) c.args.links.now.nodes) c.args.cuts.now
          (paths_of c.args.ways.now c.args.cuts.now) c.loop-path.path rule) c.in-Some.is c.in_ok-rule.ensures.rule))
          c.in_ok-push.ensures.items (omega (arith, few, long)));
    }
