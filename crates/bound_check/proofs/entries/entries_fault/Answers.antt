use Rattle.std.proofs.Common.{sym, subst}
use Rattle.bound_text.specs.declared.texts.BoundEntry.{BoundEntry}
use Rattle.bound_text.specs.Limits.{IsLimitedEntry}
use Rattle.bound_check.proofs.entries.entries_fault.Goals as goal

pub entry_fault-requires-clause-entry : goal.entry_fault-requires-clause-entry
entry_fault-requires-clause-entry c = subst (λ (e : BoundEntry). IsLimitedEntry e) (sym c.index-entries-n.is)
    (c.requires.entries c.loop-n.n c.index-entries-n.result c.loop-n-test.true)
