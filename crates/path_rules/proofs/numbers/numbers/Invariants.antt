use Rattle.std.proofs.Common.{◌≡◌, ◌≤◌, ◌++◌, drop}
use Rattle.path_rules.specs.Rules.{is_variable}
use Rattle.path_rules.specs.Sizing.{numbered}
use Rattle.path_rules.proofs.Finding.{ids_in_cells}
use Rattle.path_rules.proofs.numbers.numbers.Given as goal

abbrev pub invariant-loop-id : goal.invariant-loop-id
invariant-loop-id g l = record {
  few : l.number ≤ l.id-index;
  done : l.numbers ++ numbered l.number (ids_in_cells is_variable (drop l.id-index l.state.cells)) ≡ numbered 0
      (ids_in_cells is_variable l.state.cells);
}
