use Rattle.class_program.specs.class_world.lemmas.WorldLaws.{world_laws}
use Rattle.code_verify.proofs.LeastTypings.{least_exists, least_is_one}
use Rattle.code_verify.proofs.least.least_typings_exist.Goals as goal

pub returns-clause-exist : goal.returns-clause-exist
returns-clause-exist c = λ p m linked good g has. least_exists p m good g (world_laws p.world linked) has.0 has.1

pub returns-clause-one : goal.returns-clause-one
returns-clause-one c = λ p m linked. least_is_one p m (world_laws p.world linked)
