use Rattle.std.proofs.Common.{rules, ◌∙◌, ℕ, get_or, ap, subst, sym, refl}
use Rattle.path_rules.specs.Rules.{slots_of}
use Rattle.path_rules.specs.inner.Sizing.{sized}
use Rattle.path_rules.proofs.Riding.{IsOnPath, moved, path_begins, path_steps_by, gone_moved, path_done, too_long}
use Rattle.path_rules.proofs.walks.rule_along.Goals as goal

pub loop-place-init : goal.loop-place-init
loop-place-init g c = record {
  same = refl;
  on =
      moved (sym c.in_ok-walk.ensures.same)
      (subst (λ (n : ℕ). IsOnPath (g.S.NodeSource.graph c.args.source.now) c.args.links.now.nodes c.args.from c.args.way.now.places
      c.args.way.now.places n c.in_ok-walk.walk.stop.node c.in_ok-walk.walk.stop.first c.in_ok-walk.walk.rows)
      (sym c.in_ok-walk.ensures.begun.0)
      (path_begins (g.S.NodeSource.graph c.args.source.now) c.args.links.now.nodes c.args.from c.args.way.now.places
      c.in_ok-walk.walk.stop.node c.in_ok-walk.walk.stop.first c.in_ok-walk.walk.rows c.in_ok-walk.ensures.begun.1));
}

pub returns-then-len-gt-MOST_RULE_ROWS-clause-rule : goal.returns-then-len-gt-MOST_RULE_ROWS-clause-rule
returns-then-len-gt-MOST_RULE_ROWS-clause-rule g c = too_long (g.S.NodeSource.graph c.args.source.now) c.args.links.now.nodes
    c.args.from c.args.way.now.to c.args.way.now.places _ c.loop-place.walk.at c.loop-place.walk.stop.node
    c.loop-place.walk.stop.first c.loop-place.walk.rows (moved c.in_ok-walk.ensures.same c.loop-place.invariant.on) (search rules)

pub loop-place-preserved : goal.loop-place-preserved
loop-place-preserved g c = record {
  same = c.in_ok-walk-2.ensures.same ∙ c.loop-place.invariant.same;
  on =
      moved (sym c.in_ok-walk.ensures.same)
      (path_steps_by (g.S.NodeSource.graph c.args.source.now) c.args.links.now.nodes c.args.from c.as_slice-place-items.result.now
      c.args.way.now.places c.loop-place.place-index (get_or c.as_slice-place-items.result.now c.loop-place.place-index 0) 0
      c.loop-place.walk.at c.in_ok-walk-2.walk.at c.loop-place.walk.stop.node c.in_ok-walk-2.walk.stop.node
      c.loop-place.walk.stop.first c.in_ok-walk-2.walk.stop.first c.loop-place.walk.rows c.in_ok-walk-2.walk.rows
      c.as_slice-place-items.ensures c.loop-place-test.true refl c.requires.goes
      (gone_moved (g.S.NodeSource.graph c.loop-place.source) (g.S.NodeSource.graph c.args.source.now) c.args.links.now.nodes
      c.loop-place.walk.at (get_or c.as_slice-place-items.result.now c.loop-place.place-index 0) c.loop-place.walk.stop.node
      c.loop-place.walk.stop.first c.loop-place.walk.rows c.in_ok-walk-2.walk.at c.in_ok-walk-2.walk.stop.node
      c.in_ok-walk-2.walk.stop.first c.in_ok-walk-2.walk.rows (c.loop-place.invariant.same ∙ c.in_ok-walk.ensures.same)
      c.in_ok-walk-2.ensures.gone)
      (moved c.in_ok-walk.ensures.same c.loop-place.invariant.on));
}

pub returns-then-len-gt-MOST_RULE_ROWS-2-clause-rule : goal.returns-then-len-gt-MOST_RULE_ROWS-2-clause-rule
returns-then-len-gt-MOST_RULE_ROWS-2-clause-rule g c = too_long (g.S.NodeSource.graph c.args.source.now) c.args.links.now.nodes
    c.args.from c.args.way.now.to c.args.way.now.places _ c.loop-place.walk.at c.loop-place.walk.stop.node
    c.loop-place.walk.stop.first c.loop-place.walk.rows (moved c.in_ok-walk.ensures.same c.loop-place.invariant.on) (search rules)

pub returns-clause-rule : goal.returns-clause-rule
returns-clause-rule g c =
    path_done (g.S.NodeSource.graph c.args.source.now) c.args.links.now.nodes c.args.from c.args.way.now.to c.args.way.now.places
    c.loop-place.place-index c.in_ok-walk.walk.stop.node c.loop-place.walk.at c.loop-place.walk.stop.node
    c.loop-place.walk.stop.first c.loop-place.walk.rows c.in_ok-first.first
    (slots_of c.loop-place.walk.stop.first (sized c.loop-place.walk.stop.node.state)) c.in_ok-rule.rule (search rules)
    c.in_ok-walk.ensures.begun.1.there
    (c.in_ok-first.ensures ∙ ap (λ (n : ℕ). slots_of n (sized c.in_ok-walk.walk.stop.node.state))
    c.in_ok-walk.ensures.begun.1.first_is) (moved c.in_ok-walk.ensures.same c.loop-place.invariant.on) (search rules) refl
    c.in_ok-rule.ensures
