use Rattle.std.proofs.Common.{◌≡◌, ℕ, length, drop}
use Rattle.std.specs.Prelude.{◌||◌}
use Rattle.path_rules.specs.Paths.{is_cut}
use Rattle.path_rules.specs.Successors.{has_mark}
use Rattle.path_rules.proofs.successors.cut_marks.Given as goal

abbrev pub invariant-loop-cut : goal.invariant-loop-cut
invariant-loop-cut l = record {
  long : length l.marks.items ≡ l.count;
  are : (node : ℕ) → (has_mark l.marks.items node || is_cut (drop l.cut-index l.cuts) node) ≡ is_cut l.cuts node;
}
