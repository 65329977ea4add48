-- What a state in memory keeps, from what its parts keep.
use Rattle.std.proofs.Common.{◌≡◌, List, [], ◌∷◌, reverse, sym, subst}
use Rattle.std.specs.Prelude.{All}
use Rattle.std.specs.List.{AllByRecursion}
use Rattle.std.proofs.lemmas.List.{reverse-append, reverse-reverse}
use Rattle.std.proofs.lemmas.List.Elements.{All-from_recursion, recursion_from_All}
use Rattle.list_views.proofs.Quantified.{all_joined}
use Rattle.abs_cells.specs.AbstractStates.{AbstractFrame}
use Rattle.prove_core.specs.Stored.{IsStoredFrame}

turned : {A : Type 0} (P : A → Type 0) (xs : List A) → AllByRecursion P xs → AllByRecursion P (reverse xs)
turned P [] all = tt
turned P (x ∷ xs) all = subst (AllByRecursion P) (sym (reverse-append (x ∷ []) xs))
    (all_joined P (reverse xs) (x ∷ []) (turned P xs all.1) (all.0, tt))

-- frames that are seen the other way round
pub frames_turned : (shown frames : List AbstractFrame) → shown ≡ reverse frames → All IsStoredFrame shown → All IsStoredFrame frames
frames_turned shown frames is all =
    let back = turned IsStoredFrame (reverse frames)
    (recursion_from_All IsStoredFrame (reverse frames) (subst (All IsStoredFrame) is all)) in
    All-from_recursion IsStoredFrame frames (subst (AllByRecursion IsStoredFrame) (reverse-reverse frames) back)
