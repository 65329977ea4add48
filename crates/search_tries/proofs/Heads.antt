-- Frames that are seen from the other end.
use Rattle.std.proofs.Common.{◌≡◌, List, [], ◌∷◌, ◌++◌, map, reverse, refl, sym, ap, ◌∙◌}
use Rattle.std.proofs.lemmas.List.{map-append, reverse-append, reverse-reverse}
use Rattle.abs_cells.specs.AbstractStates.{AbstractFrame, AbstractState}
use Rattle.abs_reach.specs.Instances.{head_of, is_thrown}
use Rattle.graph_build.specs.Rules.{HaveSamePositions}

turned_values : {A X : Type 0} (f : A → X) (xs : List A) → map f (reverse xs) ≡ reverse (map f xs)
turned_values f [] = refl
turned_values {X = X} f (x ∷ xs) =
    ap (map f) (reverse-append (x ∷ []) xs) ∙ map-append f (reverse xs) (x ∷ [])
    ∙ ap (λ (zs : List X). zs ++ f x ∷ []) (turned_values f xs) ∙ sym (reverse-append (f x ∷ []) (map f xs))

module _ (a b : AbstractState) (those others : List AbstractFrame) (those_are : those ≡ reverse a.frames)
    (others_are : others ≡ reverse b.frames) where
  there : map head_of those ≡ reverse (map head_of a.frames)
  there = ap (map head_of) those_are ∙ turned_values head_of a.frames

  here : map head_of others ≡ reverse (map head_of b.frames)
  here = ap (map head_of) others_are ∙ turned_values head_of b.frames

  pub have_same : is_thrown a.throwing ≡ is_thrown b.throwing → map head_of those ≡ map head_of others → HaveSamePositions a b
  have_same thrown same = record {
    frames = sym (reverse-reverse (map head_of a.frames)) ∙ ap reverse (sym there ∙ same ∙ here) ∙ reverse-reverse (map head_of b.frames);
    thrown = thrown;
  }

  pub same_heads : HaveSamePositions a b → map head_of those ≡ map head_of others
  same_heads h = there ∙ ap reverse h.frames ∙ sym here
