use Rattle.std.proofs.Common.{map}
use Rattle.class_calls.specs.declared.command_rows.table.Request.TheVariants.{Bound}
use Rattle.jterm.proofs.CertCommands.{least_taken, inputs_are_three, bound_answer, bound_claim}
use Rattle.jterm.proofs.certs.bounded.Goals as goal

pub returns-clause-headline : goal.returns-clause-headline
returns-clause-headline c =
    let some = least_taken (λ file. file.items) c.args.inputs.now Bound c.requires in
    let split = inputs_are_three (λ file. file.items) c.args.inputs.now c.index-inputs-0.result c.index-inputs-1.result
    c.index-inputs-2.result c.as_slice.result.now c.as_slice-2.result.now c.as_slice-3.result.now some c.index-inputs-0.is
    c.as_slice.ensures.value c.index-inputs-1.is c.as_slice-2.ensures.value c.index-inputs-2.is c.as_slice-3.ensures.value in
    bound_claim (map (λ file. file.items) c.args.inputs.now) c.as_slice.result.now c.as_slice-2.result.now c.as_slice-3.result.now _
    c.bound_line.result c.judged.result split c.judged.ensures c.bound_line.ensures.headline

pub returns-clause-answer : goal.returns-clause-answer
returns-clause-answer c =
    let some = least_taken (λ file. file.items) c.args.inputs.now Bound c.requires in
    let split = inputs_are_three (λ file. file.items) c.args.inputs.now c.index-inputs-0.result c.index-inputs-1.result
    c.index-inputs-2.result c.as_slice.result.now c.as_slice-2.result.now c.as_slice-3.result.now some c.index-inputs-0.is
    c.as_slice.ensures.value c.index-inputs-1.is c.as_slice-2.ensures.value c.index-inputs-2.is c.as_slice-3.ensures.value in
    bound_answer (map (λ file. file.items) c.args.inputs.now) c.as_slice.result.now c.as_slice-2.result.now c.as_slice-3.result.now _
    c.bound_line.result c.judged.result split c.judged.ensures c.bound_line.ensures.answers
