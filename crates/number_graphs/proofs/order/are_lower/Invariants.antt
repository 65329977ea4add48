use Rattle.std.proofs.Common.{◌≡◌, drop, get_or}
use Rattle.std.specs.Prelude.{nat_lt}
use Rattle.std.specs.List.{list_all}
use Rattle.number_graphs.proofs.order.are_lower.Given as goal

abbrev pub invariant-loop-number : goal.invariant-loop-number
invariant-loop-number l = list_all (λ b. nat_lt (get_or l.ranks b 0) l.rank) (drop l.number-index l.row) ≡ list_all
    (λ b. nat_lt (get_or l.ranks b 0) l.rank) l.row
