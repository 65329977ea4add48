use Rattle.std.proofs.Common.{◌≡◌, drop}
use Rattle.bound_check.specs.Entries.{rise_after, rises, keys}
use Rattle.bound_check.proofs.lists.keys_rise.Given as goal

abbrev pub invariant-loop-id : goal.invariant-loop-id
invariant-loop-id l = rise_after l.before (keys (drop l.id-index l.entries)) ≡ rises (keys l.entries)
