use Rattle.std.proofs.Common.{◌≡◌, drop}
use Rattle.jvm_step.specs.Effects.{target_of}
use Rattle.jvm_step.proofs.frames.target_of.Given as goal

-- the target is among those that are left
abbrev pub invariant-loop-case : goal.invariant-loop-case
invariant-loop-case l = target_of l.default (drop l.case-index l.cases) l.key ≡ target_of l.default l.cases l.key
