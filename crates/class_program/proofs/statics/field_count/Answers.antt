use Rattle.std.proofs.Common.{ap, sym, ◌∙◌, length, arith}
use Rattle.std.proofs.lemmas.List.{length-map}
use Rattle.class_world.specs.class_read.Content.{ClassContent}
use Rattle.class_world.specs.class_read.View.{field_content}
use Rattle.class_world.specs.Worlds.{classes_of}
use Rattle.class_program.proofs.FewFields.{few_there, count_past}
use Rattle.class_program.proofs.statics.field_count.Goals as goal

pub returns-then-class-len-clause-few : goal.returns-then-class-len-clause-few
returns-then-class-len-clause-few c =
    few_there (classes_of c.args.world.now) c.args.class c.len-then-class-len.result c.view-view.result.now c.args.world.now.few
    c.view-view.ensures
    (c.len-then-class-len.ensures ∙ sym (length-map c.view.inside.fields field_content)
    ∙ ap (λ (x : ClassContent). length x.fields) c.view.view_is)

pub returns-else-class-len-clause-count : goal.returns-else-class-len-clause-count
returns-else-class-len-clause-count c = sym
    (count_past (classes_of c.args.world.now) c.args.class (omega (arith, c.len.ensures, c.if-class-len.false)))
