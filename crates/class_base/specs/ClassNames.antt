-- Names of classes (JVM specification, SE 8, section 4.2.1).
use Rattle.std.specs.Prelude.{◌&&◌, ◌||◌, ◌==◌, not, ℕ, Bool, List, length, nat_lt}
use Rattle.std.specs.List.{list_all}
use Rattle.std.specs.Str.{is_utf8}

-- `.`, `;` and `[` stand in no class name.
abbrev pub is_name_byte : ℕ → Bool
is_name_byte b = not ((b == 46) || (b == 59) || (b == 91))

-- a class name has at least one byte, none of the bytes `.`, `;` and `[`, and is UTF-8
abbrev pub is_class_name : List ℕ → Bool
is_class_name name = nat_lt 0 (length name) && list_all is_name_byte name && is_utf8 name
