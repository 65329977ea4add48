use Rattle.std.proofs.Common.{◌≡◌, map, string_bytes, drop}
use Rattle.io_ports.specs.MemoryFiles.{content_of}
use Rattle.io_ports.proofs.memory_files.find.Given as goal

-- the files passed have other names
abbrev pub invariant-loop-file : goal.invariant-loop-file
invariant-loop-file l =
    content_of (map (λ file. (string_bytes file.0, file.1.items)) (drop l.file-index l.files)) l.name
    ≡ content_of (map (λ file. (string_bytes file.0, file.1.items)) l.files) l.name
