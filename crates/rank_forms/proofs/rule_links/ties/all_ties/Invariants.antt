use Rattle.std.proofs.Common.{◌≡◌, ◌++◌, drop}
use Rattle.rank_forms.specs.rule_links.Ties.{ties_from}
use Rattle.rank_forms.proofs.rule_links.ties.all_ties.Given as goal

abbrev pub invariant-loop-n : goal.invariant-loop-n
invariant-loop-n l = l.ties ++ ties_from l.rows l.n (drop l.n l.rows) ≡ ties_from l.rows 0 l.rows
