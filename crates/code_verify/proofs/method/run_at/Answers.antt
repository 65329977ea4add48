use Rattle.std.proofs.Common.{sym, ap, ◌∙◌}
use Rattle.std.specs.Option.{option_map}
use Rattle.class_program.specs.Instructions.{at_seen}
use Rattle.class_program.specs.Views.{program_of}
use Rattle.op_forms.specs.Forms.{form_seen}
use Rattle.code_verify.proofs.GoodForms.{form_good}
use Rattle.code_verify.proofs.method.run_at.Goals as goal

pub types_after-requires : goal.types_after-requires
types_after-requires c =
    form_good (program_of c.args.program.now) c.requires.good c.args.method.now c.requires.method c.args.place c.in-Some.op.now
    c.in-Some.next (form_seen c.in-Some-form_of.form)
    (sym c.at.ensures ∙ ap (option_map at_seen) c.in-Some.is)
    (sym c.form_of.ensures ∙ ap (option_map form_seen) c.in-Some-form_of.is)
