-- How large an abstract state may be.
use Rattle.std.specs.Prelude.{ℕ}

-- the largest number of ids that an abstract state may have
abbrev pub most_ids : ℕ
most_ids = 512
