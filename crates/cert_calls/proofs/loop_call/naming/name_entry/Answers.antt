use Rattle.cert_calls.proofs.Named.{other}
use Rattle.cert_calls.proofs.loop_call.naming.name_entry.Goals as goal

pub returns-else-is_same_entry-clause-refused : goal.returns-else-is_same_entry-clause-refused
returns-else-is_same_entry-clause-refused c = other c.args.text.now c.args.given.now c.is_same_entry.result c.refuse_desc.result c.is_same_entry.ensures
    c.if-is_same_entry.false c.refuse_desc.ensures
