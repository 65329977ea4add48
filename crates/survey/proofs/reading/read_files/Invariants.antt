use Rattle.std.proofs.Common.{◌≡◌, ◌≤◌, length, map, take, string_bytes}
use Rattle.survey.specs.Claims.{Surveyed}
use Rattle.survey.specs.Outside.{AreSome, Tells}
use Rattle.survey.proofs.reading.read_files.Given as goal

-- the files so far were read or refused
abbrev pub invariant-loop-place : goal.invariant-loop-place
invariant-loop-place g l =
    let files = g.F.Files in
    record {
      told : (s : Surveyed) → Tells g.O.Sink.taken s l.fn.out l.out;
      some : AreSome (files.held l.fn.files) (take l.place (map string_bytes l.words)) (map (λ file. file.items) l.kept.files.items);
      held : files.held l.files ≡ files.held l.fn.files;
      few : length l.kept.files.items ≤ l.place;
    }
