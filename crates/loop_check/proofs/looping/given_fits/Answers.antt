use Rattle.std.proofs.Common.{◌∙◌, sym}
use Rattle.std.proofs.lemmas.Bool.{false≢true}
use Rattle.class_program.specs.Views.{program_of}
use Rattle.loop_check.proofs.Answering.{given_typed, given_told}
use Rattle.loop_check.proofs.looping.given_fits.Goals as goal

pub fits-requires : goal.fits-requires
fits-requires c = given_typed (program_of c.args.program.now) c.args.input.now c.as_slice-args.result.now c.as_slice-statics.result.now
    c.as_slice-args.ensures c.as_slice-statics.ensures c.requires.typed

pub returns-then-fitting : goal.returns-then-fitting
returns-then-fitting c = (given_told (program_of c.args.program.now) c.args.desc.now c.args.input.now c.as_slice-args.result.now
    c.as_slice-statics.result.now c.in_ok-fitting.fitting c.as_slice-args.ensures c.as_slice-statics.ensures
    c.in_ok-fitting.ensures).0 c.if-fitting.true

pub returns-else-fitting : goal.returns-else-fitting
returns-else-fitting c = λ h. false≢true (sym c.if-fitting.false
    ∙ (given_told (program_of c.args.program.now) c.args.desc.now c.args.input.now c.as_slice-args.result.now
    c.as_slice-statics.result.now c.in_ok-fitting.fitting c.as_slice-args.ensures c.as_slice-statics.ensures
    c.in_ok-fitting.ensures).1 h)
