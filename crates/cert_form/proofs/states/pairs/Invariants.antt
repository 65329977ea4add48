use Rattle.std.proofs.Common.{◌≡◌, take}
use Rattle.cert_form.proofs.states.pairs.Given as goal

-- the set has the pairs so far
abbrev pub invariant-loop-pair : goal.invariant-loop-pair
invariant-loop-pair g l = g.P.Pairs.pairs l.set ≡ take l.pair-index l.rising
