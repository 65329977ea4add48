-- How many paths there may be, and how long their rules.
use Rattle.std.specs.Prelude.{ℕ}

-- the paths from cut to cut
abbrev pub most_paths : ℕ
most_paths = 4096

-- the rows of a path's rule
abbrev pub most_rule_rows : ℕ
most_rule_rows = 65536

-- the rows of all rules together
abbrev pub most_rows : ℕ
most_rows = 16777216
