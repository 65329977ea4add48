-- Frames whose stacks have room.
use Rattle.std.proofs.Common.{◌≡◌, Option, Some, None, ℕ, zero, suc, ◌<◌, ◌≤◌, List, [], ◌∷◌, length, get_or, set, ◌⊎◌, inl, inr}
use Rattle.std.proofs.Common.{refl, sym, ap, subst, ◌∙◌, arith}
use Rattle.std.specs.Prelude.{All, MatchOption, slice_get, slice_set}
use Rattle.std.proofs.Math.ListN.{length-set}
use Rattle.std.proofs.lemmas.List.{get_or-set_same, get_or-set_other}
use Rattle.std.proofs.lemmas.Bool.{cases_eq}
use Rattle.jvm_values.specs.declared.state.Frame.{Frame}
use Rattle.class_program.specs.declared.program.Method.{Method}
use Rattle.jvm_step.specs.Steps.{HasRoom}

pub room_kept : (methods : List Method) (old new : Frame) → new.method ≡ old.method → old.stack.1 ≤ new.stack.1
    → HasRoom methods old → HasRoom methods new
room_kept methods old new e l h m s = omega (arith, l, h m (subst (λ (k : ℕ). slice_get methods k ≡ Some m) e s))

-- another frame in the place of one
pub rooms_with : (methods : List Method) (frames : List Frame) (i : ℕ) (new : Frame) → All (HasRoom methods) frames
    → HasRoom methods new → All (HasRoom methods) (slice_set frames i new)
rooms_with methods frames i new h k j d l = elim (cases_eq j i) [
  | inl s ↦ subst (HasRoom methods)
      (sym (ap (λ (n : ℕ). get_or (set frames i new) n d) s
      ∙ get_or-set_same frames i new d (subst (λ (n : ℕ). n < length frames) s (omega (arith, l, length-set frames i new))))) k
  | inr o ↦ subst (HasRoom methods) (sym (get_or-set_other frames i j new d o)) (h j d (omega (arith, l, length-set frames i new)))
]

-- one frame more, and one less
pub rooms_more : (methods : List Method) (frame : Frame) (frames : List Frame) → HasRoom methods frame
    → All (HasRoom methods) frames → All (HasRoom methods) (frame ∷ frames)
rooms_more methods frame frames r h zero d l = r
rooms_more methods frame frames r h (suc k) d l = h k d (omega (arith, l))

pub rooms_below : (methods : List Method) (frame : Frame) (frames : List Frame) → All (HasRoom methods) (frame ∷ frames)
    → All (HasRoom methods) frames
rooms_below methods frame frames h k d l = h (suc k) d (omega (arith, l))

pub rooms_popped : (methods : List Method) (popped : Option Frame) (old new : List Frame)
    → MatchOption popped ((old ≡ []) × (new ≡ [])) (λ frame. old ≡ frame ∷ new) → All (HasRoom methods) old → All (HasRoom methods) new
rooms_popped methods (Some frame) old new e h = rooms_below methods frame new (subst (All (HasRoom methods)) e h)
rooms_popped methods None old new e h = subst (All (HasRoom methods)) (e.0 ∙ sym e.1) h
