use Rattle.std.proofs.Common.{◌≡◌, map, take}
use Rattle.serde_json.specs.View.{view}
use Rattle.cert_form.specs.cert_write.Data.{node}
use Rattle.cert_form.proofs.cert_write.certs.all_parts.Given as goal

-- the nodes so far were written
abbrev pub invariant-loop-n : goal.invariant-loop-n
invariant-loop-n g l = map view l.values.items ≡ map (node l.words.names.now) (take l.n (g.S.PartSource.parts l.source))
