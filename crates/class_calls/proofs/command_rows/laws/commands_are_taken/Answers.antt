use Rattle.class_calls.proofs.OneCommand.{commands_taken}
use Rattle.class_calls.proofs.command_rows.laws.commands_are_taken.Goals as goal

pub returns : goal.returns
returns c = commands_taken
