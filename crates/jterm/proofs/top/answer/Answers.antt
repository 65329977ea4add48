use Rattle.std.proofs.Common.{map, ap}
use Rattle.jterm.proofs.Answering.{is_answered, is_broken, takes_read}
use Rattle.jterm.proofs.top.answer.Goals as goal

pub returns-in-Ok-clause-answered : goal.returns-in-Ok-clause-answered
returns-in-Ok-clause-answered g c =
    is_answered _ _ _ _ _ _ _ (ap (map (λ file. file.items)) c.deref.ensures.value) c.in_ok-inputs.ensures.contents
    c.in-Ok.ensures.answer c.in-Ok.ensures.headline

pub returns-in-Err-At-clause-cause : goal.returns-in-Err-At-clause-cause
returns-in-Err-At-clause-cause g c =
    is_broken g.F.Files.held g.F.Files.faults g.F.Files.leaves _ _ _ c.args.files.now c.args.files.now _ _ _ _
    (ap (map (λ file. file.items)) c.deref.ensures.value) c.in_ok-inputs.ensures.contents
    (rw c.in-Err-At.field-0-is at c.in-Err-At.ensures.answer)

pub decide-requires : goal.decide-requires
decide-requires g c =
    takes_read (λ file. file.items) _ _ _ _ _ _ (ap (map (λ file. file.items)) c.deref.ensures.value) c.requires.command
    c.in_ok-inputs.ensures.contents
