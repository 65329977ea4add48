use Rattle.std.proofs.Common.{map}
use Rattle.class_calls.specs.declared.command_rows.table.Request.TheVariants.{Throws}
use Rattle.jterm.proofs.CertCommands.{least_taken, throws_answer, throws_claim}
use Rattle.jterm.proofs.Deciding.{inputs_are_two}
use Rattle.jterm.proofs.certs.reported.Goals as goal

pub returns-clause-headline : goal.returns-clause-headline
returns-clause-headline c =
    let some = least_taken (λ file. file.items) c.args.inputs.now Throws c.requires in
    let split = inputs_are_two (λ file. file.items) c.args.inputs.now c.index-inputs-0.result c.index-inputs-1.result
    c.as_slice.result.now c.as_slice-2.result.now some c.index-inputs-0.is c.as_slice.ensures.value c.index-inputs-1.is
    c.as_slice-2.ensures.value in
    throws_claim (map (λ file. file.items) c.args.inputs.now) c.as_slice.result.now c.as_slice-2.result.now _ c.throws_line.result
    c.judged.result split c.judged.ensures c.throws_line.ensures.headline

pub returns-clause-answer : goal.returns-clause-answer
returns-clause-answer c =
    let some = least_taken (λ file. file.items) c.args.inputs.now Throws c.requires in
    let split = inputs_are_two (λ file. file.items) c.args.inputs.now c.index-inputs-0.result c.index-inputs-1.result
    c.as_slice.result.now c.as_slice-2.result.now some c.index-inputs-0.is c.as_slice.ensures.value c.index-inputs-1.is
    c.as_slice-2.ensures.value in
    throws_answer (map (λ file. file.items) c.args.inputs.now) c.as_slice.result.now c.as_slice-2.result.now _ c.throws_line.result
    c.judged.result split c.judged.ensures c.throws_line.ensures.answers
