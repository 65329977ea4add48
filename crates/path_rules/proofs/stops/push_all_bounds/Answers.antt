use Rattle.std.proofs.Common.{◌∙◌, ◌++◌, ℕ, ap}
use Rattle.abs_cells.specs.declared.cells.Cell.{Cell}
use Rattle.abs_cells.specs.AbstractStates.{AbstractState}
use Rattle.path_rules.specs.Rules.{bounds_of, variable_of}
use Rattle.path_rules.proofs.Bounding.{one_bounded, all_bounded, one_pushed}
use Rattle.path_rules.proofs.stops.push_all_bounds.Goals as goal

pub loop-id-preserved : goal.loop-id-preserved
loop-id-preserved g c =
    let same = c.cells-id-items.ensures ∙ ap (λ (s : AbstractState). s.cells) c.state.ensures in
    record {
      rows =
          one_pushed (λ (d : ℕ × Cell). bounds_of (variable_of c.args.stop.now.first c.args.stop.now.node.state d.0) d.1)
          c.cells-id-items.result.now c.args.stop.now.node.state.cells c.loop-id.id-index c.loop-id-item.result
          c.loop-id.rows c.push_bounds.new.rows c.args.rows.now same c.loop-id-test.true c.loop-id-item.is
          (c.in_ok-push_bounds.ensures.rows ∙ ap (λ (v : ℕ). c.loop-id.rows ++ bounds_of v c.loop-id-item.result.1)
          c.variable.ensures) c.loop-id.invariant.rows;
      bounded =
          one_bounded c.cells-id-items.result.now c.args.stop.now.node.state.cells c.loop-id.id-index c.loop-id-item.result same
          c.loop-id.invariant.bounded c.loop-id-test.true c.loop-id-item.is
          c.in_ok-push_bounds.ensures.bounded;
    }

pub returns-clause-bounded : goal.returns-clause-bounded
returns-clause-bounded g c =
    let same = c.cells-id-items.ensures ∙ ap (λ (s : AbstractState). s.cells) c.state.ensures in
    all_bounded c.cells-id-items.result.now c.args.stop.now.node.state.cells c.loop-id.id-index same c.loop-id.invariant.bounded
    c.loop-id-test.false
