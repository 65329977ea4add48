-- Tables with more places.
use Rattle.std.proofs.Common.{◌≡◌, ℕ, zero, suc, ◌<◌, ◌≤◌, ◌+◌, Bool, false, List, [], ◌∷◌, ◌++◌, length, Option, None, refl, sym}
use Rattle.std.proofs.Common.{ap, ◌∙◌, arith, length-append}
use Rattle.jvm_values.specs.declared.typing.FrameType.{FrameType}
use Rattle.frame_types.specs.declared.table.Table.{Table}
use Rattle.frame_types.specs.Tables.{types_at}
use Rattle.frame_types.specs.Growth.{IsRoomier, waits}
use Rattle.frame_types.proofs.Lists.{same_default}

-- a place without types more
none_more : (xs : List (Option FrameType)) (place : ℕ) → types_at (xs ++ None ∷ []) place ≡ types_at xs place
none_more [] zero = refl
none_more [] (suc k) = refl
none_more (x ∷ xs) zero = refl
none_more (x ∷ xs) (suc k) = none_more xs k

pub one_more : (old new : Table) → length old.waiting ≡ length old.types → length old.types < 65536
    → new ≡ record old { types = old.types ++ None ∷ []; waiting = old.waiting ++ false ∷ [] } → IsRoomier old new
one_more old new even small e =
    let t : new.types ≡ old.types ++ None ∷ [] = ap (λ (x : Table). x.types) e in
    let w : new.waiting ≡ old.waiting ++ false ∷ [] = ap (λ (x : Table). x.waiting) e in
    let count : length new.types ≡ length old.types + 1 = ap length t ∙ length-append old.types (None ∷ []) in
    record {
      even = ap length w ∙ length-append old.waiting (false ∷ []) ∙ ap (λ (n : ℕ). n + 1) even ∙ sym count;
      small = omega (arith, count);
      same = λ place. ap (λ (xs : List (Option FrameType)). types_at xs place) t ∙ none_more old.types place;
      marks = λ place. ap (λ (xs : List Bool). waits xs place) w ∙ same_default old.waiting false place;
      low = ap (λ (x : Table). x.low) e;
      max_locals = ap (λ (x : Table). x.max_locals) e;
      max_stack = ap (λ (x : Table). x.max_stack) e;
    }

pub roomier : (a b c : Table) → IsRoomier a b → IsRoomier b c → IsRoomier a c
roomier a b c p q = record {
  even = q.even;
  small = q.small;
  same = λ place. q.same place ∙ p.same place;
  marks = λ place. q.marks place ∙ p.marks place;
  low = q.low ∙ p.low;
  max_locals = q.max_locals ∙ p.max_locals;
  max_stack = q.max_stack ∙ p.max_stack;
}
