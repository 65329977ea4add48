-- A sink in memory.
use Rattle.std.specs.Prelude.{ℕ, Bool, List, ◌++◌, ◌-◌, ◌==◌, ◌&&◌, not, nat_le, length, take, if◌then◌else◌}
use Rattle.std.specs.List.{list_any}
use Rattle.io_ports.specs.Count.{counted}

-- the bytes that were taken, of at most so many, and which calls fail, how many there were and how many failed
pub record Spool : Type 0 where
  pub taken : List ℕ
  pub room : ℕ
  pub failing : List ℕ
  pub calls : ℕ
  pub faults : ℕ

-- the next call is one of those that fail
abbrev pub is_failing : Spool → Bool
is_failing s = list_any (λ call. call == s.calls) s.failing

-- the next call takes all of these bytes
abbrev pub takes_all : Spool → List ℕ → Bool
takes_all s bytes = not (is_failing s) && nat_le (length bytes) (s.room - length s.taken)

-- the bytes that it takes: none where it is one of those that fail, else those that there is room for
abbrev pub taken_of : Spool → List ℕ → List ℕ
taken_of s bytes = if is_failing s then take 0 bytes else take (s.room - length s.taken) bytes

-- the sink after a call
abbrev pub after_put : Spool → List ℕ → Spool
after_put s bytes = record {
  taken = s.taken ++ taken_of s bytes;
  room = s.room;
  failing = s.failing;
  calls = counted s.calls;
  faults = if takes_all s bytes then s.faults else counted s.faults;
}
