use Rattle.std.proofs.Common.{map}
use Rattle.class_program.specs.Views.{program_of}
use Rattle.desc_steps.proofs.Answering.{given_goes, given_refused, all_end}
use Rattle.prove_call.specs.Answers.{SaysOf}
use Rattle.prove_call.proofs.call.prove_line.Goals as goal

pub returns-in-Ok-clause-answers : goal.returns-in-Ok-clause-answers
returns-in-Ok-clause-answers c = given_goes (SaysOf c.args.nodes) c.args.desc.now (map (λ file. file.items) c.args.files.now)
    c.in-Ok.given c.prove_given.result c.in-Ok.ensures.answers c.prove_given.ensures.says

pub returns-in-Ok-clause-headline : goal.returns-in-Ok-clause-headline
returns-in-Ok-clause-headline c = λ proved. all_end c.args.desc.now (map (λ file. file.items) c.args.files.now)
    (program_of c.in-Ok.given.program) c.in-Ok.given.desc c.in-Ok.ensures.named (c.prove_given.ensures.ends proved)

pub returns-in-Err-clause-answers : goal.returns-in-Err-clause-answers
returns-in-Err-clause-answers c = given_refused (SaysOf c.args.nodes) c.args.desc.now (map (λ file. file.items) c.args.files.now)
    c.in-Err.refused c.in-Err.ensures.answers
