use Rattle.std.proofs.Common.{◌≡◌, ◌+◌, ℕ, List, drop, map, Bor}
use Rattle.asm_lines.specs.Listings.{with_lines}
use Rattle.asm_lines.proofs.listing.with_lines.Given as goal

abbrev pub invariant-loop-text : goal.invariant-loop-text
invariant-loop-text l =
    (with_lines l.names l.line (map (λ (t : Bor (List ℕ)). t.now) (drop l.text-index l.texts)) l.listing ≡ with_lines l.names
    l.fn.line (map (λ (t : Bor (List ℕ)). t.now) l.texts) l.initial.listing)
    × (l.line ≡ l.fn.line + l.text-index)
