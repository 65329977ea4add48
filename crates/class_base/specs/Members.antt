-- Members by their names and descriptors (JVM specification, sections 4.5 and 4.6).
use Rattle.std.specs.Prelude.{ℕ, ◌&&◌, Bool, List}
use Rattle.std.specs.Str.{bytes_eq}

-- a key of a field or method: its name and its descriptor, which tell it from the other members of its class
abbrev pub Key : Type 0
Key = List ℕ × List ℕ

-- two keys agree in name and descriptor, byte by byte
abbrev pub same_key : Key → Key → Bool
same_key a b = bytes_eq a.0 b.0 && bytes_eq a.1 b.1
