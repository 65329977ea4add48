-- How large a termination graph may be.
use Rattle.std.specs.Prelude.{ℕ}

-- the largest number of nodes that a termination graph may have
abbrev pub most_nodes : ℕ
most_nodes = 20000
