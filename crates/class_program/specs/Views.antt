-- A program of the code, seen as the definitions' program.
use Rattle.class_world.specs.Worlds.{classes_of}
use Rattle.class_program.specs.declared.program.Program.{Program as Closed}
use Rattle.class_program.specs.Programs.{Program}

-- the program of the definitions that the code's program is
abbrev pub program_of : Closed → Program
program_of p = record { world = classes_of p.world; entry = p.entry; methods = p.methods; statics = p.statics }
