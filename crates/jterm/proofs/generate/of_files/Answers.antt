use Rattle.std.proofs.Common.{map}
use Rattle.jterm.proofs.GenerateSaying.{files_answered, files_end}
use Rattle.jterm.proofs.generate.of_files.Goals as goal

pub returns-clause-answers : goal.returns-clause-answers
returns-clause-answers c =
    files_answered c.args.n (map (λ file. file.items) c.args.files.now) c.description.result.now c.in_ok-answer.answer
    c.in_ok-is_accepted.is_accepted c.told.result
    c.description.ensures c.in_ok-answer.ensures.answers c.in_ok-is_accepted.ensures c.told.ensures

pub returns-clause-headline : goal.returns-clause-headline
returns-clause-headline c =
    files_end c.args.n (map (λ file. file.items) c.args.files.now) c.description.result.now c.in_ok-answer.answer
    c.in_ok-is_accepted.is_accepted c.told.result
    c.description.ensures c.in_ok-answer.ensures.answers c.in_ok-answer.ensures.headline c.in_ok-is_accepted.ensures c.told.ensures
