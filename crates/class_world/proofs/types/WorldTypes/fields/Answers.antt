use Rattle.std.proofs.Common.{length, get_or, ap, ◌∙◌, arith}
use Rattle.class_world.specs.Fields.{fields_of}
use Rattle.class_world.proofs.Tables.{length-values, get_or-values}
use Rattle.class_world.proofs.types.WorldTypes.fields.Goals as goal

pub at-requires : goal.at-requires
at-requires c =
    let world = c.args.self.now.roster.classes in
    omega (arith, c.requires, ap length c.args.self.now.laid_out ∙ length-values (fields_of world) (length world))

pub returns : goal.returns
returns c =
    let world = c.args.self.now.roster.classes in
    c.as_slice.ensures ∙ c.at.ensures ∙ ap (λ t. get_or t c.args.class c.at.result.now) c.args.self.now.laid_out
    ∙ get_or-values (fields_of world) (length world) c.args.class c.at.result.now c.requires
