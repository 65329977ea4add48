use Rattle.std.proofs.Common.{◌≡◌, drop}
use Rattle.cert_form.specs.Marks.{all_marked}
use Rattle.cert_form.proofs.marks.mark_all.Given as goal

-- the marks of the nodes that are left, over those so far, are the marks of all
abbrev pub invariant-loop-node : goal.invariant-loop-node
invariant-loop-node l = all_marked l.marks (drop l.node-index l.nodes) ≡ all_marked l.fn.marks l.nodes
