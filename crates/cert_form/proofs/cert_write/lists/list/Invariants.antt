use Rattle.std.proofs.Common.{◌≡◌, map, take}
use Rattle.serde_json.specs.View.{view}
use Rattle.cert_form.proofs.cert_write.lists.list.Given as goal

-- the values so far are those of the entries so far
abbrev pub invariant-loop-entry : goal.invariant-loop-entry
invariant-loop-entry g l = map view l.values.items ≡ map (g.T.Written.written l.context) (take l.entry-index l.entries)
