use Rattle.std.proofs.Common.{map}
use Rattle.class_calls.specs.declared.command_rows.table.Request.TheVariants.{Migrate}
use Rattle.jterm.proofs.CertCommands.{least_taken, migrate_answer, migrate_claim}
use Rattle.jterm.proofs.Deciding.{inputs_are_two}
use Rattle.jterm.proofs.certs.migrated.Goals as goal

pub returns-clause-headline : goal.returns-clause-headline
returns-clause-headline c =
    let some = least_taken (λ file. file.items) c.args.inputs.now Migrate c.requires in
    let split = inputs_are_two (λ file. file.items) c.args.inputs.now c.index-inputs-0.result c.index-inputs-1.result
    c.as_slice.result.now c.as_slice-2.result.now some c.index-inputs-0.is c.as_slice.ensures.value c.index-inputs-1.is
    c.as_slice-2.ensures.value in
    migrate_claim (map (λ file. file.items) c.args.inputs.now) c.as_slice.result.now c.as_slice-2.result.now _ c.migrate_line.result
    c.judged.result split c.judged.ensures c.migrate_line.ensures.headline

pub returns-clause-answer : goal.returns-clause-answer
returns-clause-answer c =
    let some = least_taken (λ file. file.items) c.args.inputs.now Migrate c.requires in
    let split = inputs_are_two (λ file. file.items) c.args.inputs.now c.index-inputs-0.result c.index-inputs-1.result
    c.as_slice.result.now c.as_slice-2.result.now some c.index-inputs-0.is c.as_slice.ensures.value c.index-inputs-1.is
    c.as_slice-2.ensures.value in
    migrate_answer (map (λ file. file.items) c.args.inputs.now) c.as_slice.result.now c.as_slice-2.result.now _ c.migrate_line.result
    c.judged.result split c.judged.ensures c.migrate_line.ensures.answers
