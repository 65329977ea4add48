use Rattle.std.proofs.Common.{◌≡◌, ◌≤◌}
use Rattle.generate_text.specs.Listings.{blocks}
use Rattle.generate_text.proofs.blocks.blocks.Given as goal

-- the blocks so far
abbrev pub invariant-loop-k : goal.invariant-loop-k
invariant-loop-k l = l.text ≡ blocks l.k
