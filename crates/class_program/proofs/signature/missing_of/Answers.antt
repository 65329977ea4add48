use Rattle.class_world.specs.Worlds.{classes_of}
use Rattle.class_program.proofs.TypeLists.{missing_param, missing_result}
use Rattle.class_program.proofs.signature.missing_of.Goals as goal

pub returns-in-Some : goal.returns-in-Some
returns-in-Some c = missing_param (classes_of c.args.world.now) _ _ c.args.text.now.returned _ c.in-Some.ensures c.as_slice.ensures

pub returns-in-Some-returned : goal.returns-in-Some-returned
returns-in-Some-returned c = missing_result (classes_of c.args.world.now) _ _ c.args.text.now.returned _ _ c.in-None.ensures
    c.as_slice.ensures c.in-Some-returned.is c.missing_class.ensures
