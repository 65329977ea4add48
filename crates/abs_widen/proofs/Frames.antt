-- The frames of a widening, from the code's lists, which have a stack's bottom and the bottom frame first.
use Rattle.std.proofs.Common.{◌≡◌, ◌∙◌, ℕ, List, map, zip, reverse, Option, ap}
use Rattle.abs_cells.specs.AbstractStates.{AbstractFrame, AbstractState}
use Rattle.abs_widen.specs.inner.Visiting.{AreAsLong}
use Rattle.abs_widen.specs.Widening.{number_of, merged_locals, merged_frame}
use Rattle.abs_widen.proofs.Zips.{mapped_reversed}

pub frame_is : (a b : AbstractState) (pairs : List (ℕ × ℕ)) (frame other : AbstractFrame) (locals : List (Option ℕ))
    (stack : List ℕ) → AreAsLong frame other
    → locals ≡ merged_locals a b pairs frame.locals other.locals
    → stack ≡ map (number_of pairs) (zip (reverse frame.stack) (reverse other.stack))
    → (made : AbstractFrame) → made ≡ record { method = frame.method; pc = frame.pc; locals = locals; stack = reverse stack }
    → made ≡ merged_frame a b pairs frame other
frame_is a b pairs frame other locals stack long e f made is =
    is
    ∙ ap (λ (l : List (Option ℕ)). record { method = frame.method; pc = frame.pc; locals = l; stack = reverse stack }) e
    ∙ ap (λ (s : List ℕ). record {
      method = frame.method;
      pc = frame.pc;
      locals = merged_locals a b pairs frame.locals other.locals;
      stack = s;
    })
    (ap reverse f ∙ mapped_reversed (number_of pairs) frame.stack other.stack long.stacks)
