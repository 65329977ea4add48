-- What fitting gives.
use Rattle.std.proofs.Common.{◌≡◌, ℕ, suc, ◌<◌, ◌≤◌, List, [], ◌∷◌, length, inl, inr, refl, sym, ap, ◌∙◌, arith}
use Rattle.std.proofs.lemmas.Bool.{cases_lt}
use Rattle.std.proofs.lemmas.Slice.Zip.{AllZip-long}
use Rattle.jvm_values.specs.declared.heap.Value.{Value}
use Rattle.jvm_values.specs.States.{MachineFrame}
use Rattle.abs_cells.specs.Cells.{Share}
use Rattle.abs_cells.specs.Fits.{FitsFrame, with_statics}
use Rattle.abs_cells.proofs.PairLaws.{has_swapped}
use Rattle.abs_cells.specs.Laws.{FittingFramesAgree, KnownIdsAreApart}

length-with_statics : (statics : List Value) (frames : List MachineFrame) → length (with_statics statics frames) ≡ length frames
length-with_statics statics [] = refl
length-with_statics statics (frame ∷ []) = refl
length-with_statics statics (frame ∷ below ∷ rest) = ap suc (length-with_statics statics (below ∷ rest))

pub frames_agree : FittingFramesAgree
frames_agree types state machine meaning h =
    sym (AllZip-long (FitsFrame meaning) state.frames (with_statics machine.statics machine.frames) h.positions)
    ∙ length-with_statics machine.statics machine.frames

below_of : {a b : ℕ} → b ≤ a → (b ≡ a → ⊥) → b < a
below_of {a} {b} l d = elim (cases_lt b a) [ inl m ↦ m | inr m ↦ absurd (d (omega (arith, l, m))) ]

pub known_apart : KnownIdsAreApart
known_apart types state machine meaning good h a b o ka kb apart ta tb =
    let share : Share state a b = good.shared a b
    (h.aliases a b o (record { cell = ka.cell; is = ka.is; sort_is = refl })
    (record { cell = kb.cell; is = kb.is; sort_is = refl }) apart ta tb) in
    elim (cases_lt a b) [
      | inl l ↦ good.not_both_known a b l share ka kb
      | inr l ↦
          let m : b < a = below_of l (λ e. apart (sym e)) in
          good.not_both_known b a m (has_swapped a b state.share ∙ share) kb ka
    ]
