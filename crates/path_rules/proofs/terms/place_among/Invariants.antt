use Rattle.std.proofs.Common.{◌≡◌, ◌≤◌, ◌-◌, ◌++◌, ℤ, length, take, drop}
use Rattle.term_enc.specs.Sizes.{with_term}
use Rattle.path_rules.proofs.terms.place_among.Given as goal

abbrev pub invariant-loop-place : goal.invariant-loop-place
invariant-loop-place l = record {
  few : l.place ≤ length l.terms;
  split : (number : ℤ) → with_term (l.variable, number) l.terms ≡ take l.place l.terms ++ with_term (l.variable, number)
      (drop l.place l.terms);
}

abbrev pub decreases-loop-place : goal.decreases-loop-place
decreases-loop-place l = length l.terms - l.place
