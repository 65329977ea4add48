use Rattle.std.proofs.Common.{◌≤◌, ◌+◌, ◌-◌, vec_len}
use Rattle.std.specs.Io.KnownBytes.{Consumes}
use Rattle.io_ports.proofs.real_files.read_all.Given as goal

-- the reader gave the content so far
abbrev pub invariant-loop-piece : goal.invariant-loop-piece
invariant-loop-piece g l = record {
  within : vec_len l.content ≤ l.limit + 1;
  given : Consumes (g.R.Read.remaining l.initial.reader) (g.R.Read.remaining l.reader) l.content.items;
}

abbrev pub decreases-loop-piece : goal.decreases-loop-piece
decreases-loop-piece g l = l.limit + 1 - vec_len l.content
