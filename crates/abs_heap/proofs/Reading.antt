-- The child in which an item of an array is read.
use Rattle.std.proofs.Common.{◌≡◌, ℕ, Bool, true, List, [], ◌∷◌, map, Option, Some, None, ◌⊎◌, inl, inr, refl, sym, ap, subst, ◌∙◌}
use Rattle.std.specs.Prelude.{◌↔◌}
use Rattle.std.specs.Option.{option_map}
use Rattle.std.proofs.lemmas.Bool.{false≢true}
use Rattle.jvm_values.specs.declared.types.Ty.{Ty}
use Rattle.jvm_values.specs.declared.shape.Shape.{Shape}
use Rattle.jvm_values.specs.declared.shape.Shape.TheVariants.{Any}
use Rattle.abs_cells.specs.declared.cells.Cell.{Cell}
use Rattle.abs_cells.specs.declared.cells.Cell.TheVariants as cells
use Rattle.abs_cells.specs.AbstractStates.{AbstractState}
use Rattle.abs_cells.specs.Cells.{cell_in, AreEqual, Share, are_compatible}
use Rattle.abs_cells.specs.IdSets.{has_id}
use Rattle.abs_cells.specs.PairLists.{has}
use Rattle.abs_cells.specs.Sound.{AreIdsRising}
use Rattle.abs_heap.specs.Given.{MayBeOne}
use Rattle.abs_heap.specs.Names.{name_in, frame_named, IsImage}
use Rattle.abs_heap.specs.Writing.{JoinsItem}
use Rattle.abs_heap.specs.inner.Building.{Gains, IsOver, IsThis, IsGivenItem, may_be_one}
use Rattle.abs_heap.proofs.PairGains.{gain_both, gain_as, gains_on}
use Rattle.abs_heap.proofs.Giving.{image_unnamed, pairs_given, over_state, state_of, frames_unnamed, given_unnamed}

pub one_cells : (sub : Ty → Ty → Bool) (x y : Option Cell) → may_be_one sub x y ≡ true
    → (c : Cell) × ((x ≡ Some c) × ((d : Cell) × ((y ≡ Some d) × (are_compatible sub c d ≡ true))))
one_cells sub None y e = absurd (false≢true e)
one_cells sub (Some c) None e = absurd (false≢true e)
one_cells sub (Some c) (Some d) e = (c, (refl, (d, (refl, e))))

pub cells_one : (sub : Ty → Ty → Bool) (x y : Option Cell) (c d : Cell) → x ≡ Some c → y ≡ Some d → are_compatible sub c d ≡ true
    → may_be_one sub x y ≡ true
cells_one sub x y c d e f h = ap (λ (o : Option Cell). may_be_one sub o y) e ∙ ap (may_be_one sub (Some c)) f ∙ h

module _ (sub : Ty → Ty → Bool) (state : AbstractState) (k item : ℕ) (element : Ty) (shape : Shape)
    (start some whole list all : List (ℕ × Cell)) (others : List ℕ) (old_eq old_share eq0 eq1 sh0 sh1 sh2 : List (ℕ × ℕ))
    (empty : start ≡ []) (put : IsOver start ((item, cells.Unk element true shape) ∷ []) some)
    (over : IsOver some state.cells whole) (made : all ≡ whole) (listed : list ≡ all)
    (eq_is : old_eq ≡ state.eq) (share_is : old_share ≡ state.share)
    (named_eq : Gains list (IsImage (name_in []) (λ x y. has x y old_eq ≡ true)) [] eq0)
    (named_share : Gains list (IsImage (name_in []) (λ x y. has x y old_share ≡ true)) [] sh0)
    (others_are : (n : ℕ) → (has_id others n ≡ true) ↔ (Share state k n ⊎ ((shape ≡ Any) × (n ≡ k))))
    (more_eq : Gains list
    (λ c d. (c ≡ item) × ((has_id others d ≡ true) × (may_be_one sub (cell_in list item) (cell_in list d) ≡ true))) eq0 eq1)
    (more_share : Gains list (λ c d. (c ≡ item) × (has_id others d ≡ true)) sh0 sh1)
    (last : Gains list (IsThis item k) sh1 sh2) where
  abbrev one : ℕ → ℕ → Type 0
  one a b = AreEqual state a b ⊎ MayBeOne sub (JoinsItem state k item shape) all a b

  abbrev shares : ℕ → ℕ → Type 0
  shares a b = Share state a b ⊎ (JoinsItem state k item shape a b ⊎ ((a ≡ item) × (b ≡ k)))

  was : (old wish : List (ℕ × ℕ)) (a b : ℕ) → old ≡ wish → IsImage (name_in []) (λ x y. has x y old ≡ true) a b → has a b wish ≡ true
  was old wish a b e i = ap (has a b) (sym e) ∙ image_unnamed (λ x y. has x y old ≡ true) a b i

  is_image : (old wish : List (ℕ × ℕ)) (a b : ℕ) → old ≡ wish → has a b wish ≡ true → IsImage (name_in []) (λ x y. has x y old ≡ true) a b
  is_image old wish a b e h = record { x = a; y = b; were = ap (has a b) e ∙ h; left = refl; right = refl }

  joins : (a b : ℕ) → a ≡ item → has_id others b ≡ true → JoinsItem state k item shape a b
  joins a b e h = record { is_item = e; why = (others_are b).0 h }

  eqs : Gains all one [] eq1
  eqs = gain_as all (λ a b. IsImage (name_in []) (λ x y. has x y old_eq ≡ true) a b
      ⊎ ((a ≡ item) × ((has_id others b ≡ true) × (may_be_one sub (cell_in all item) (cell_in all b) ≡ true)))) one [] eq1
      (λ a b j w. elim w [
        | inl i ↦ inl (inl (was old_eq state.eq a b eq_is i))
        | inr v ↦
            let c = one_cells sub (cell_in all item) (cell_in all b) v.1.1 in
            inl (inr (record {
              joins = joins a b v.0 v.1.0;
              left = c.0;
              left_is = ap (cell_in all) v.0 ∙ c.1.0;
              right = c.1.1.0;
              right_is = c.1.1.1.0;
              compatible = c.1.1.1.1;
            }))
      ])
      (λ a b j w. elim w [
        | inl h ↦ inl (inl (is_image old_eq state.eq a b eq_is h))
        | inr v ↦ inl (inr (
          v.joins.is_item,
          (
            (others_are b).1 v.joins.why,
            cells_one sub (cell_in all item) (cell_in all b) v.left
                v.right (ap (cell_in all) (sym v.joins.is_item) ∙ v.left_is) v.right_is v.compatible,
          ),
        ))
      ])
      (gain_both all (IsImage (name_in []) (λ x y. has x y old_eq ≡ true))
      (λ c d. (c ≡ item) × ((has_id others d ≡ true) × (may_be_one sub (cell_in all item) (cell_in all d) ≡ true))) [] eq0 eq1
      (gains_on list all (λ _. IsImage (name_in []) (λ x y. has x y old_eq ≡ true)) [] eq0 listed named_eq)
      (gains_on list all (λ xs c d. (c ≡ item)
      × ((has_id others d ≡ true) × (may_be_one sub (cell_in xs item) (cell_in xs d) ≡ true))) eq0 eq1 listed more_eq))

  shared : Gains all shares [] sh2
  shared = gain_as all (λ a b. (IsImage (name_in []) (λ x y. has x y old_share ≡ true) a b
      ⊎ ((a ≡ item) × (has_id others b ≡ true))) ⊎ IsThis item k a b) shares [] sh2
      (λ a b j w. elim w [
        | inl v ↦ elim v [
          | inl i ↦ inl (inl (was old_share state.share a b share_is i))
          | inr u ↦ inl (inr (inl (joins a b u.0 u.1)))
        ]
        | inr t ↦ inl (inr (inr t))
      ])
      (λ a b j w. elim w [
        | inl h ↦ inl (inl (inl (is_image old_share state.share a b share_is h)))
        | inr v ↦ elim v [
          | inl u ↦ inl (inl (inr (u.is_item, (others_are b).1 u.why)))
          | inr t ↦ inl (inr t)
        ]
      ])
      (gain_both all (λ a b. IsImage (name_in []) (λ x y. has x y old_share ≡ true) a b ⊎ ((a ≡ item) × (has_id others b ≡ true)))
      (IsThis item k) [] sh1 sh2
      (gain_both all (IsImage (name_in []) (λ x y. has x y old_share ≡ true)) (λ c d. (c ≡ item) × (has_id others d ≡ true)) [] sh0 sh1
      (gains_on list all (λ _. IsImage (name_in []) (λ x y. has x y old_share ≡ true)) [] sh0 listed named_share)
      (gains_on list all (λ _ c d. (c ≡ item) × (has_id others d ≡ true)) sh0 sh1 listed more_share))
      (gains_on list all (λ _. IsThis item k) sh1 sh2 listed last))

  item_here : IsGivenItem sub state k element shape item
      (state_of (map (frame_named (name_in [])) state.frames) (option_map (name_in []) state.throwing) all eq1 sh2)
  item_here = record {
    frames_are = frames_unnamed state.frames;
    throwing_is = given_unnamed state.throwing;
    rising = subst (λ (xs : List (ℕ × Cell)). AreIdsRising 0 xs) (sym made) over.rising;
    cells = λ id. over_state state start ((item, cells.Unk element true shape) ∷ []) some whole all empty put over made id;
    eq = λ a b. pairs_given all one eq1 eqs a b;
    share = λ a b. pairs_given all shares sh2 shared a b;
  }

  pub item_given : (child : AbstractState)
      → child ≡ state_of (map (frame_named (name_in [])) state.frames) (option_map (name_in []) state.throwing) all eq1 sh2
      → IsGivenItem sub state k element shape item child
  item_given child e = subst (λ (c : AbstractState). IsGivenItem sub state k element shape item c) (sym e) item_here
