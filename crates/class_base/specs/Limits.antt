-- How much the program takes: limits of its own, below those of the format.
use Rattle.std.specs.Prelude.{ℕ}

-- the bytes of a file that is no certificate: a class file, a listing of one, a description or a state. 1 MiB
abbrev pub most_file_bytes : ℕ
most_file_bytes = 1048576

-- the class files of one program; the classes that are built in aren't counted
abbrev pub most_classes : ℕ
most_classes = 256
