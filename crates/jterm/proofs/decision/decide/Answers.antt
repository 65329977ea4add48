use Rattle.std.proofs.Common.{map, sym, ap}
use Rattle.jterm.proofs.Proving.{verdict_of_prove}
use Rattle.jterm.proofs.Deciding.{least_inputs, no_inputs, one_input, inputs_are, inputs_are_two, prove_answer, prove_claim}
use Rattle.jterm.proofs.Deciding.{check_answer, check_claim, run_answer, run_claim, asm_claim, its_answer, its_claim}
use Rattle.class_calls.specs.declared.command_rows.table.Request.TheVariants.{Migrate, Bound, Loop, Throws}
use Rattle.jterm.proofs.CertCommands.{asked_takes, asked_answer, asked_claim}
use Rattle.jterm.proofs.Making.{made_answer, made_claim}
use Rattle.jterm.proofs.decision.decide.Goals as goal

pub returns-in-Ok-clause-headline : goal.returns-in-Ok-clause-headline
returns-in-Ok-clause-headline c =
    let some = least_inputs (λ file. file.items) c.args.inputs.now c.args.request.now _ c.in-Prove.is c.requires in
    let split = inputs_are (λ file. file.items) c.args.inputs.now c.index-inputs-0.result c.as_slice.result.now some
    c.index-inputs-0.is c.as_slice.ensures.value in
    prove_claim c.args.request.now _ (map (λ file. file.items) c.args.inputs.now) c.as_slice.result.now _ c.prove_line.result _
    c.in-Prove.is split (sym (ap verdict_of_prove c.in-Ok.is)) c.prove_line.ensures.answers c.prove_line.ensures.headline

pub returns-in-Ok-clause-answer : goal.returns-in-Ok-clause-answer
returns-in-Ok-clause-answer c =
    let some = least_inputs (λ file. file.items) c.args.inputs.now c.args.request.now _ c.in-Prove.is c.requires in
    let split = inputs_are (λ file. file.items) c.args.inputs.now c.index-inputs-0.result c.as_slice.result.now some
    c.index-inputs-0.is c.as_slice.ensures.value in
    prove_answer c.args.request.now _ (map (λ file. file.items) c.args.inputs.now) c.as_slice.result.now _ c.prove_line.result _
    c.in-Prove.is split (sym (ap verdict_of_prove c.in-Ok.is)) c.prove_line.ensures.answers

pub returns-in-Err-clause-answer : goal.returns-in-Err-clause-answer
returns-in-Err-clause-answer c =
    let some = least_inputs (λ file. file.items) c.args.inputs.now c.args.request.now _ c.in-Prove.is c.requires in
    let split = inputs_are (λ file. file.items) c.args.inputs.now c.index-inputs-0.result c.as_slice.result.now some
    c.index-inputs-0.is c.as_slice.ensures.value in
    prove_answer c.args.request.now _ (map (λ file. file.items) c.args.inputs.now) c.as_slice.result.now _ c.prove_line.result _
    c.in-Prove.is split (sym (ap verdict_of_prove c.in-Err.is)) c.prove_line.ensures.answers

pub returns-in-Check-clause-headline : goal.returns-in-Check-clause-headline
returns-in-Check-clause-headline c =
    let some = least_inputs (λ file. file.items) c.args.inputs.now c.args.request.now _ c.in-Check.is c.requires in
    let split = inputs_are_two (λ file. file.items) c.args.inputs.now c.index-inputs-0-in-Check.result c.index-inputs-1.result
    c.as_slice-in-Check.result.now c.as_slice-in-Check-2.result.now some c.index-inputs-0-in-Check.is
    c.as_slice-in-Check.ensures.value c.index-inputs-1.is c.as_slice-in-Check-2.ensures.value in
    check_claim c.args.request.now (map (λ file. file.items) c.args.inputs.now) c.as_slice-in-Check.result.now
    c.as_slice-in-Check-2.result.now _ c.check_line.result c.judged.result c.in-Check.is split c.judged.ensures
    c.check_line.ensures.answers c.check_line.ensures.headline

pub returns-in-Check-clause-answer : goal.returns-in-Check-clause-answer
returns-in-Check-clause-answer c =
    let some = least_inputs (λ file. file.items) c.args.inputs.now c.args.request.now _ c.in-Check.is c.requires in
    let split = inputs_are_two (λ file. file.items) c.args.inputs.now c.index-inputs-0-in-Check.result c.index-inputs-1.result
    c.as_slice-in-Check.result.now c.as_slice-in-Check-2.result.now some c.index-inputs-0-in-Check.is
    c.as_slice-in-Check.ensures.value c.index-inputs-1.is c.as_slice-in-Check-2.ensures.value in
    check_answer c.args.request.now (map (λ file. file.items) c.args.inputs.now) c.as_slice-in-Check.result.now
    c.as_slice-in-Check-2.result.now _ c.check_line.result c.judged.result c.in-Check.is split c.judged.ensures
    c.check_line.ensures.answers

pub returns-in-Run-clause-headline : goal.returns-in-Run-clause-headline
returns-in-Run-clause-headline c =
    run_claim c.args.request.now _ (map (λ file. file.items) c.args.inputs.now) c.done.result c.in-Run.is

pub returns-in-Run-clause-answer : goal.returns-in-Run-clause-answer
returns-in-Run-clause-answer c =
    let some = least_inputs (λ file. file.items) c.args.inputs.now c.args.request.now _ c.in-Run.is c.requires in
    let split = inputs_are (λ file. file.items) c.args.inputs.now c.index-inputs-0-in-Run.result c.as_slice-in-Run.result.now some
    c.index-inputs-0-in-Run.is c.as_slice-in-Run.ensures.value in
    run_answer c.args.request.now _ (map (λ file. file.items) c.args.inputs.now) c.as_slice-in-Run.result.now _ c.run_line.result
    c.done.result c.in-Run.is split c.done.ensures c.run_line.ensures

pub returns-in-Asm-clause-headline : goal.returns-in-Asm-clause-headline
returns-in-Asm-clause-headline c = asm_claim c.args.request.now (map (λ file. file.items) c.args.inputs.now) c.done-in-Asm.result c.in-Asm.is

pub returns-in-Its-clause-headline : goal.returns-in-Its-clause-headline
returns-in-Its-clause-headline c =
    let one = one_input (λ file. file.items) c.args.inputs.now c.args.request.now c.index-inputs-0-in-Its.result
    c.as_slice-in-Its.result.now c.in-Its.is c.requires c.index-inputs-0-in-Its.is c.as_slice-in-Its.ensures.value in
    its_claim c.args.request.now (map (λ file. file.items) c.args.inputs.now) c.as_slice-in-Its.result.now c.rules_verdict.result
    c.in-Its.is one c.rules_verdict.ensures.headline

pub returns-in-Its-clause-answer : goal.returns-in-Its-clause-answer
returns-in-Its-clause-answer c =
    let one = one_input (λ file. file.items) c.args.inputs.now c.args.request.now c.index-inputs-0-in-Its.result
    c.as_slice-in-Its.result.now c.in-Its.is c.requires c.index-inputs-0-in-Its.is c.as_slice-in-Its.ensures.value in
    its_answer c.args.request.now (map (λ file. file.items) c.args.inputs.now) c.as_slice-in-Its.result.now c.rules_verdict.result
    c.in-Its.is one c.rules_verdict.ensures.answer

pub returns-in-Generate-clause-headline : goal.returns-in-Generate-clause-headline
returns-in-Generate-clause-headline c =
    let none = no_inputs (λ file. file.items) c.args.inputs.now c.args.request.now _ c.in-Generate.is c.requires in
    made_claim c.args.request.now _ (map (λ file. file.items) c.args.inputs.now) c.generate_line.result c.made.result
    c.in-Generate.is none c.made.ensures c.generate_line.ensures.headline

pub returns-in-Generate-clause-answer : goal.returns-in-Generate-clause-answer
returns-in-Generate-clause-answer c =
    let none = no_inputs (λ file. file.items) c.args.inputs.now c.args.request.now _ c.in-Generate.is c.requires in
    made_answer c.args.request.now _ (map (λ file. file.items) c.args.inputs.now) c.generate_line.result c.made.result
    c.in-Generate.is none c.made.ensures c.generate_line.ensures.answers

pub migrated-requires : goal.migrated-requires
migrated-requires c = asked_takes c.args.request.now Migrate _ c.in-Migrate.is c.requires

pub returns-in-Migrate-clause-headline : goal.returns-in-Migrate-clause-headline
returns-in-Migrate-clause-headline c = asked_claim c.args.request.now Migrate (map (λ file. file.items) c.args.inputs.now) c.migrated.result
    c.in-Migrate.is c.migrated.ensures.headline

pub returns-in-Migrate-clause-answer : goal.returns-in-Migrate-clause-answer
returns-in-Migrate-clause-answer c = asked_answer c.args.request.now Migrate (map (λ file. file.items) c.args.inputs.now) c.migrated.result
    c.in-Migrate.is c.migrated.ensures.answer

pub bounded-requires : goal.bounded-requires
bounded-requires c = asked_takes c.args.request.now Bound _ c.in-Bound.is c.requires

pub returns-in-Bound-clause-headline : goal.returns-in-Bound-clause-headline
returns-in-Bound-clause-headline c = asked_claim c.args.request.now Bound (map (λ file. file.items) c.args.inputs.now) c.bounded.result
    c.in-Bound.is c.bounded.ensures.headline

pub returns-in-Bound-clause-answer : goal.returns-in-Bound-clause-answer
returns-in-Bound-clause-answer c = asked_answer c.args.request.now Bound (map (λ file. file.items) c.args.inputs.now) c.bounded.result
    c.in-Bound.is c.bounded.ensures.answer

pub looped-requires : goal.looped-requires
looped-requires c = asked_takes c.args.request.now Loop _ c.in-Loop.is c.requires

pub returns-in-Loop-clause-headline : goal.returns-in-Loop-clause-headline
returns-in-Loop-clause-headline c = asked_claim c.args.request.now Loop (map (λ file. file.items) c.args.inputs.now) c.looped.result
    c.in-Loop.is c.looped.ensures.headline

pub returns-in-Loop-clause-answer : goal.returns-in-Loop-clause-answer
returns-in-Loop-clause-answer c = asked_answer c.args.request.now Loop (map (λ file. file.items) c.args.inputs.now) c.looped.result
    c.in-Loop.is c.looped.ensures.answer

pub reported-requires : goal.reported-requires
reported-requires c = asked_takes c.args.request.now Throws _ c.in-Throws.is c.requires

pub returns-in-Throws-clause-headline : goal.returns-in-Throws-clause-headline
returns-in-Throws-clause-headline c = asked_claim c.args.request.now Throws (map (λ file. file.items) c.args.inputs.now) c.reported.result
    c.in-Throws.is c.reported.ensures.headline

pub returns-in-Throws-clause-answer : goal.returns-in-Throws-clause-answer
returns-in-Throws-clause-answer c = asked_answer c.args.request.now Throws (map (λ file. file.items) c.args.inputs.now) c.reported.result
    c.in-Throws.is c.reported.ensures.answer
