-- Files in memory.
use Rattle.std.specs.Prelude.{ℕ, Bool, List, [], ◌∷◌, ◌==◌, if◌then◌else◌}
use Rattle.std.specs.List.{list_any}
use Rattle.std.specs.Str.{bytes_eq}
use Rattle.io_ports.specs.Count.{counted}
use Rattle.io_ports.specs.Told.{Told}
use Rattle.io_ports.specs.Told.Told.{Absent, Content}

-- the names and contents that are held, which calls fail, how many there were and how many failed
pub record Shelf : Type 0 where
  pub files : List (List ℕ × List ℕ)
  pub failing : List ℕ
  pub calls : ℕ
  pub faults : ℕ

-- what is held under a name: the content of the first file that has it
abbrev pub content_of : List (List ℕ × List ℕ) → List ℕ → Told
content_of [] name = Absent
content_of (file ∷ files) name = if bytes_eq file.0 name then Content file.1 else content_of files name

-- the next call is one of those that fail
abbrev pub is_failing : Shelf → Bool
is_failing s = list_any (λ call. call == s.calls) s.failing

-- the files after a call
abbrev pub after_read : Shelf → Shelf
after_read s = record {
  files = s.files;
  failing = s.failing;
  calls = counted s.calls;
  faults = if is_failing s then counted s.faults else s.faults;
}
