use Rattle.std.proofs.Common.{◌≡◌, ◌∙◌, ap, sym, subst, Option, Some}
use Rattle.std.specs.Prelude.{slice_get, IfSome}
use Rattle.class_program.specs.class_read.Content.{ClassContent}
use Rattle.class_program.specs.Views.{program_of}
use Rattle.call_graph.proofs.Rows.{class_within, named}
use Rattle.call_graph.proofs.check.method_name.Goals as goal

pub name_of-requires : goal.name_of-requires
name_of-requires c = class_within (program_of c.args.program.now) c.args.number c.at-method.result.now c.is_good.ensures.good
    c.requires c.at-method.ensures

pub returns : goal.returns
returns c =
    let within = class_within (program_of c.args.program.now) c.args.number c.at-method.result.now c.is_good.ensures.good c.requires
    c.at-method.ensures in
    named (program_of c.args.program.now) c.args.number c.at-method.result.now _ c.requires c.at-method.ensures within
    (λ (k : ClassContent) e. c.in_ok-class.ensures
    ∙ subst (λ (o : Option ClassContent). IfSome o (λ x. c.name_of.result.now ≡ x.name)) e c.name_of.ensures)
    (c.in_ok-name.ensures ∙ c.as_slice.ensures)
    (c.in_ok-desc.ensures ∙ c.as_slice-2.ensures)
