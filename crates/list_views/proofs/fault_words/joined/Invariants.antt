use Rattle.std.proofs.Common.{◌≡◌, ◌++◌, drop, map}
use Rattle.list_views.specs.FaultWords.{joined}
use Rattle.list_views.proofs.fault_words.joined.Given as goal

abbrev pub invariant-loop-piece : goal.invariant-loop-piece
invariant-loop-piece l = joined (map (λ piece. piece.now) l.pieces) ≡ l.text ++ joined
    (map (λ piece. piece.now) (drop l.piece-index l.pieces))
