use Rattle.std.proofs.Common.{map, string_bytes}
use Rattle.survey.specs.inner.Wording.{surveyed}
use Rattle.survey.proofs.Telling.{told_on, begun_on}
use Rattle.survey.proofs.Ending.{nothing, ends_early, breaks, ends, same_count}
use Rattle.survey.proofs.top.survey_described.Goals as goal

pub returns-in-Ok-survey_kept-clause-told : goal.returns-in-Ok-survey_kept-clause-told
returns-in-Ok-survey_kept-clause-told g c =
    let s = surveyed c.leave_out.new.kept.files.items c.args.descs.now in
    let taken = g.O.Sink.taken in
    let held = g.F.Files.held c.args.files.now in
    let names = map string_bytes c.args.asked.now.classes.now in
    let front = told_on taken s c.args.out.now c.read_files.new.out c.leave_out.new.out (c.in-Ok.ensures.told s)
    (c.in-Ok-leave_out.ensures.told s) in
    ends held taken names (map (λ name. name.now) c.args.asked.now.descs.items) s c.args.out.now c.survey_kept.new.out
    c.in-Ok-survey_kept.status (c.in-Ok-leave_out.ensures.stay held names c.in-Ok.ensures.some) c.requires.descs
    (told_on taken s c.args.out.now c.leave_out.new.out c.survey_kept.new.out front c.in-Ok-survey_kept.ensures.told)
    c.in-Ok-survey_kept.ensures.all
    (λ done. same_count (λ file. file.items) string_bytes c.leave_out.new.kept.files.items c.args.asked.now.classes.now
    (c.in-Ok-survey_kept.ensures.whole done))

pub returns-in-Ok-leave_out-clause-begun : goal.returns-in-Ok-leave_out-clause-begun
returns-in-Ok-leave_out-clause-begun g c = λ status broken.
    let s = surveyed c.leave_out.new.kept.files.items c.args.descs.now in
    let taken = g.O.Sink.taken in
    let held = g.F.Files.held c.args.files.now in
    let names = map string_bytes c.args.asked.now.classes.now in
    let front = told_on taken s c.args.out.now c.read_files.new.out c.leave_out.new.out (c.in-Ok.ensures.told s)
    (c.in-Ok-leave_out.ensures.told s) in
    breaks held taken names (map (λ name. name.now) c.args.asked.now.descs.items) s c.args.out.now c.survey_kept.new.out status
    (c.in-Ok-leave_out.ensures.stay held names c.in-Ok.ensures.some) c.requires.descs broken
    (begun_on taken s c.args.out.now c.leave_out.new.out c.survey_kept.new.out front c.in-Err-survey_kept.ensures.begun)

pub returns-clause-begun : goal.returns-clause-begun
returns-clause-begun g c = λ status broken.
    ends_early (g.F.Files.held c.args.files.now) g.O.Sink.taken (map string_bytes c.args.asked.now.classes.now)
    (map (λ name. name.now) c.args.asked.now.descs.items) c.args.out.now c.leave_out.new.out status broken
    (begun_on g.O.Sink.taken nothing c.args.out.now c.read_files.new.out c.leave_out.new.out (c.in-Ok.ensures.told nothing)
    (c.in-Err-leave_out.ensures.begun nothing))
