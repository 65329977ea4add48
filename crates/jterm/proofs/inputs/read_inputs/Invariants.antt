use Rattle.std.proofs.Common.{◌≡◌, vec_len, map, take, string_bytes}
use Rattle.jterm.specs.Outside.{AreContents, AreRead, limit_at}
use Rattle.jterm.proofs.inputs.read_inputs.Given as goal

-- the first files were read
abbrev pub invariant-loop-word : goal.invariant-loop-word
invariant-loop-word g l =
    let files = g.F.Files in
    let names = map string_bytes l.command.files.now in
    record {
      contents : AreContents (limit_at l.certificate l.other l.command.request) (files.held l.initial.files)
          (take l.word-index names) (map (λ file. file.items) l.inputs.items);
      count : vec_len l.inputs ≡ l.word-index;
      held : files.held l.files ≡ files.held l.initial.files;
      still : files.faults l.files ≡ files.faults l.initial.files;
      reads : AreRead files.leaves (take l.word-index names) l.initial.files l.files;
    }
