use Rattle.std.proofs.Common.{ℕ, Option, ap}
use Rattle.std.specs.Option.{option_to_list}
use Rattle.jvm_values.specs.States.{types_of as seen}
use Rattle.code_verify.specs.Flows.{onward}
use Rattle.code_verify.proofs.WorldOf.{laws_at}
use Rattle.code_verify.proofs.FlowLaws.{none_come}
use Rattle.code_verify.proofs.flows.enter_one.Goals as goal

pub returns-in-None : goal.returns-in-None
returns-in-None c = none_come _ (laws_at c.args.world.now) _ _
    (ap (λ (x : Option ℕ). onward (seen c.args.frame.now) (option_to_list x)) c.in-None.is) c.requires.table
