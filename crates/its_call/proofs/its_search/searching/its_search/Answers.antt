use Rattle.its_call.proofs.Asked.{are_rules}
use Rattle.its_call.proofs.its_search.searching.its_search.Goals as goal

-- src/searching.rt:51:33
pub checked-requires-clause-rules : goal.checked-requires-clause-rules
checked-requires-clause-rules c = are_rules c.args.rules.now c.requires
