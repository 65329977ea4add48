use Rattle.std.proofs.Common.{◌≡◌, ◌∷◌, take, map}
use Rattle.code_decode.proofs.flow.case_targets.Given as goal

abbrev pub invariant-loop-case : goal.invariant-loop-case
invariant-loop-case l = l.found ≡ l.default ∷ map (λ c. c.target) (take l.case-index l.cases)
