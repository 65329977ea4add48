use Rattle.std.proofs.Common.{◌&&◌, ap, sym, ◌∙◌}
use Rattle.list_views.proofs.Truths.{and_false}
use Rattle.class_world.specs.class_read.View.{method_content}
use Rattle.class_world.specs.Worlds.{classes_of}
use Rattle.class_world.specs.Select.{is_selectable, receivers}
use Rattle.class_program.specs.JvmDiffers.{loses_method}
use Rattle.class_program.proofs.Differing.{none_lost}
use Rattle.class_program.proofs.jvm_differs.loses_method.Goals as goal

pub returns : goal.returns
unfolding loses_method
returns c =
    let world = classes_of c.args.world.now in
    let m = method_content c.args.named.now in
    sym (ap (λ b. is_selectable m && b) (none_lost world m.name m.desc (sym c.is_inherited.ensures ∙ c.if-is_inherited.false)
    (receivers world c.args.class)) ∙ and_false (is_selectable m))
