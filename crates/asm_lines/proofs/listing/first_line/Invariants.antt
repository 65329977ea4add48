use Rattle.std.proofs.Common.{◌≡◌, ◌+◌, ℕ, List, drop, map, Bor}
use Rattle.asm_lines.specs.Listings.{first_line}
use Rattle.asm_lines.proofs.listing.first_line.Given as goal

abbrev pub invariant-loop-text : goal.invariant-loop-text
invariant-loop-text l =
    (first_line l.line (map (λ (t : Bor (List ℕ)). t.now) (drop l.text-index l.texts)) ≡ first_line 1
    (map (λ (t : Bor (List ℕ)). t.now) l.texts))
    × (l.line ≡ l.text-index + 1)
