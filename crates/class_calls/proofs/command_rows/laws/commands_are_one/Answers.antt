use Rattle.class_calls.proofs.OneCommand.{commands_one}
use Rattle.class_calls.proofs.command_rows.laws.commands_are_one.Goals as goal

pub returns : goal.returns
returns c = commands_one
