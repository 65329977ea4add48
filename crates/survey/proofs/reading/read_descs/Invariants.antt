use Rattle.std.proofs.Common.{◌≡◌, map, take}
use Rattle.survey.specs.Outside.{AreSome}
use Rattle.survey.proofs.reading.read_descs.Given as goal

-- the descriptions so far were read
abbrev pub invariant-loop-place : goal.invariant-loop-place
invariant-loop-place g l =
    let files = g.F.Files in
    record {
      some : AreSome (files.held l.fn.files) (take l.place (map (λ name. name.now) l.words)) (map (λ desc. desc.items) l.descs.items);
      held : files.held l.files ≡ files.held l.fn.files;
    }
