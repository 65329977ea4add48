-- The ids of an instance's reference fields, and the pairs that they join.
use Rattle.std.proofs.Common.{◌≡◌, ◌≢◌, ℕ, ◌+◌, ◌<◌, ◌≤◌, ◌==◌, ◌&&◌, ◌||◌, Bool, true, false, List, [], ◌∷◌, map, zip, length}
use Rattle.std.proofs.Common.{get_or, Some, ◌⊎◌, inl, inr, refl, sym, ap, subst, ◌∙◌, arith, eq-eqb}
use Rattle.std.specs.Prelude.{◌↔◌, slice_get}
use Rattle.std.specs.Option.{option_map}
use Rattle.std.proofs.lemmas.Bool.{false≢true, eqb-true, and_parts, and_from, or_cases, or_left, or_right, cases_eq}
use Rattle.std.proofs.lemmas.Option.{slice_get-get_or, slice_get_within}
use Rattle.jvm_values.specs.declared.types.Ty.{Ty}
use Rattle.jvm_values.specs.declared.types.Slot.{Slot}
use Rattle.jvm_values.specs.declared.types.Slot.TheVariants as slots
use Rattle.jvm_values.specs.declared.shape.Shape.{Shape}
use Rattle.jvm_values.specs.declared.shape.Shape.TheVariants.{Tree, Any}
use Rattle.jvm_values.specs.TypedHeaps.{WorldTypes}
use Rattle.jvm_values.proofs.Options.{some_is}
use Rattle.abs_cells.specs.declared.cells.Cell.{Cell}
use Rattle.abs_cells.specs.declared.cells.Cell.TheVariants as cells
use Rattle.abs_cells.specs.AbstractStates.{AbstractState}
use Rattle.abs_cells.specs.Cells.{cell_in, AreEqual, Share}
use Rattle.abs_cells.specs.IdSets.{has_id}
use Rattle.abs_cells.specs.PairLists.{has}
use Rattle.abs_cells.specs.Sound.{AreIdsRising}
use Rattle.abs_heap.specs.Given.{IsGiven, MayBeOne, with_cells}
use Rattle.abs_heap.specs.Names.{name_in, frame_named, IsImage}
use Rattle.abs_heap.specs.Refining.{cell_of_slot, IsReferenceField, JoinsFields}
use Rattle.abs_heap.specs.inner.Building.{Gains, IsOver}
use Rattle.jvm_values.specs.Slots.{is_reference_slot}
use Rattle.abs_heap.specs.inner.Splitting.{IsFieldBefore, IsGivenInstance, WantsOne}
use Rattle.abs_heap.proofs.PairGains.{gain_both, gain_as, gains_on}
use Rattle.abs_heap.proofs.Placing.{over_more, over_cell}
use Rattle.abs_heap.proofs.Giving.{image_unnamed, pairs_given, over_state, state_of, frames_unnamed, given_unnamed}
use Rattle.abs_heap.proofs.Reading.{one_cells, cells_one}

-- ---- the ids of reference fields

abbrev IsMember : Bool → Bool → Type 0 → Type 0
IsMember now start new = (now ≡ true) ↔ ((start ≡ true) ⊎ new)

reference_type : (s : Slot) → is_reference_slot s ≡ true → (t : Ty) × (s ≡ slots.Ref t)
reference_type (slots.Num kind) e = absurd (false≢true e)
reference_type (slots.Ref t) e = (t, refl)

pub references_none : (fields : List Slot) (ids : List ℕ) (n : ℕ) (start : Bool) → IsMember start start (IsFieldBefore fields ids 0 n)
references_none fields ids n start = (λ h. inl h, λ h. elim h [ inl k ↦ k | inr f ↦ let l = f.before in absurd (omega (arith, l)) ])

pub references_next : (fields : List Slot) (ids : List ℕ) (i : ℕ) (s : Slot) (d : ℕ) (n : ℕ) (wanted start old new : Bool)
    → i < length fields → length ids ≡ length fields → wanted ≡ is_reference_slot (get_or fields i s)
    → new ≡ ((wanted && (n == get_or ids i d)) || old) → IsMember old start (IsFieldBefore fields ids i n)
    → IsMember new start (IsFieldBefore fields ids (i + 1) n)
references_next fields ids i s d n wanted start old new l e w f was = (to, from)
  where
    low : i < length ids
    low = omega (arith, l, e)

    slot_here : slice_get fields i ≡ Some (get_or fields i s)
    slot_here = slice_get-get_or fields i s l

    id_here : slice_get ids i ≡ Some (get_or ids i d)
    id_here = slice_get-get_or ids i d low

    to : new ≡ true → (start ≡ true) ⊎ IsFieldBefore fields ids (i + 1) n
    to h = elim (or_cases (wanted && (n == get_or ids i d)) old (sym f ∙ h)) [
      | inl k ↦
          let p = and_parts wanted (n == get_or ids i d) k in
          let t = reference_type (get_or fields i s) (sym w ∙ p.0) in
          inr (record {
            place = i;
            before = omega arith;
            t = t.0;
            slot_is = slot_here ∙ ap Some t.1;
            id_is = id_here
                ∙ ap Some (sym (eqb-true n (get_or ids i d) p.1));
          })
      | inr k ↦ elim (was.0 k) [
        | inl b ↦ inl b
        | inr r ↦ inr (record {
          place = r.place;
          before = let b = r.before in omega (arith, b);
          t = r.t;
          slot_is = r.slot_is;
          id_is
              = r.id_is;
        })
      ]
    ]

    here : (r : IsFieldBefore fields ids (i + 1) n) → r.place ≡ i → new ≡ true
    here r p =
        let slot : get_or fields i s ≡ slots.Ref r.t = some_is (sym slot_here ∙ ap (slice_get fields) (sym p) ∙ r.slot_is) in
        let id : get_or ids i d ≡ n = some_is (sym id_here ∙ ap (slice_get ids) (sym p) ∙ r.id_is) in
        f ∙ or_left (wanted && (n == get_or ids i d)) old
        (and_from wanted (n == get_or ids i d) (w ∙ ap is_reference_slot slot) (eq-eqb n (get_or ids i d) (sym id)))

    from : (start ≡ true) ⊎ IsFieldBefore fields ids (i + 1) n → new ≡ true
    from (inl b) = f ∙ or_right (wanted && (n == get_or ids i d)) old (was.1 (inl b))
    from (inr r) = elim (cases_eq r.place i) [
      | inl p ↦ here r p
      | inr p ↦ f ∙ or_right (wanted && (n == get_or ids i d)) old
          (was.1 (inr (record {
            place = r.place;
            before = let b = r.before in omega (arith, b, p);
            t = r.t;
            slot_is = r.slot_is;
            id_is = r.id_is;
          })))
    ]

pub references_all : (fields : List Slot) (ids : List ℕ) (i n : ℕ) (start new : Bool) → length fields ≤ i
    → IsMember new start (IsFieldBefore fields ids i n) → IsMember new start (IsReferenceField fields ids n)
references_all fields ids i n start new l was = (
  λ h. elim (was.0 h) [
    | inl b ↦ inl b
    | inr r ↦ inr (record { place = r.place; t = r.t; slot_is = r.slot_is; id_is = r.id_is })
  ],
  λ h. elim h [
    | inl b ↦ was.1 (inl b)
    | inr r ↦ was.1 (inr (record {
      place = r.place;
      before = let k = slice_get_within fields r.place (slots.Ref r.t) r.slot_is in
          omega (arith, k, l);
      t = r.t;
      slot_is = r.slot_is;
      id_is = r.id_is;
    }))
  ],
)

pub references_are : (fields : List Slot) (ids start new : List ℕ) → ((n : ℕ) → has_id start n ≡ false)
    → ((n : ℕ) → IsMember (has_id new n) (has_id start n) (IsReferenceField fields ids n)) → (n : ℕ)
    → (has_id new n ≡ true) ↔ IsReferenceField fields ids n
references_are fields ids start new none was n = (
  λ h. elim ((was n).0 h) [ inl b ↦ absurd (false≢true (sym (none n) ∙ b)) | inr r ↦ r ],
  λ r. (was n).1 (inr r),
)

-- ---- what they join

abbrev JoinsId : List Slot → List ℕ → AbstractState → ℕ → Shape → ℕ → Type 0
JoinsId fields ids state x shape n = Share state x n ⊎ (((shape ≢ Tree) × IsReferenceField fields ids n) ⊎ ((shape ≡ Any) × (n ≡ x)))

-- ---- the child

module _ (types : WorldTypes) (state : AbstractState) (x : ℕ) (shape : Shape) (class : ℕ) (ids copied : List ℕ) (fields : List Slot)
    (start some held whole list all : List (ℕ × Cell)) (refs others : List ℕ) (old_eq old_share eq0 eq1 sh0 sh1 : List (ℕ × ℕ))
    (empty : start ≡ []) (same : copied ≡ ids) (put : IsOver start ((x, cells.Obj class copied) ∷ []) some)
    (put_fields : IsOver some (zip ids (map (cell_of_slot types.erase shape) fields)) held)
    (over : IsOver held state.cells whole) (made : all ≡ whole) (listed : list ≡ all) (eq_is : old_eq ≡ state.eq)
    (share_is : old_share ≡ state.share)
    (named_eq : Gains list (IsImage (name_in []) (λ a b. has a b old_eq ≡ true)) [] eq0)
    (named_share : Gains list (IsImage (name_in []) (λ a b. has a b old_share ≡ true)) [] sh0)
    (refs_are : (n : ℕ) → (has_id refs n ≡ true) ↔ IsReferenceField fields ids n)
    (others_are : (n : ℕ) → (has_id others n ≡ true) ↔ JoinsId fields ids state x shape n)
    (more_eq : Gains list (WantsOne types.sub list refs others) eq0 eq1)
    (more_share : Gains list (λ c d. (has_id refs c ≡ true) × (has_id others d ≡ true)) sh0 sh1) where
  abbrev joins : ℕ → ℕ → Type 0
  joins a b = JoinsFields fields ids state x shape a b

  abbrev one : ℕ → ℕ → Type 0
  one a b = AreEqual state a b ⊎ MayBeOne types.sub joins all a b

  abbrev shares : ℕ → ℕ → Type 0
  shares a b = Share state a b ⊎ joins a b

  was : (old wish : List (ℕ × ℕ)) (a b : ℕ) → old ≡ wish → IsImage (name_in []) (λ c d. has c d old ≡ true) a b → has a b wish ≡ true
  was old wish a b e i = ap (has a b) (sym e) ∙ image_unnamed (λ c d. has c d old ≡ true) a b i

  is_image : (old wish : List (ℕ × ℕ)) (a b : ℕ) → old ≡ wish → has a b wish ≡ true → IsImage (name_in []) (λ c d. has c d old ≡ true) a b
  is_image old wish a b e h = record { x = a; y = b; were = ap (has a b) e ∙ h; left = refl; right = refl }

  joined : (a b : ℕ) → has_id refs a ≡ true → has_id others b ≡ true → joins a b
  joined a b r o = record { is_field = (refs_are a).0 r; why = (others_are b).0 o }

  eqs : Gains all one [] eq1
  eqs = gain_as all (λ a b. IsImage (name_in []) (λ c d. has c d old_eq ≡ true) a b ⊎ WantsOne types.sub all refs others a b) one [] eq1
      (λ a b j w. elim w [
        | inl i ↦ inl (inl (was old_eq state.eq a b eq_is i))
        | inr v ↦
            let c = one_cells types.sub (cell_in all a) (cell_in all b) v.1.1 in
            inl (inr (record {
              joins = joined a b v.0 v.1.0;
              left = c.0;
              left_is = c.1.0;
              right = c.1.1.0;
              right_is = c.1.1.1.0;
              compatible = c.1.1.1.1;
            }))
      ])
      (λ a b j w. elim w [
        | inl h ↦ inl (inl (is_image old_eq state.eq a b eq_is h))
        | inr v ↦ inl (inr (
          (refs_are a).1 v.joins.is_field,
          (
            (others_are b).1 v.joins.why,
            cells_one types.sub (cell_in all a) (cell_in all b) v.left v.right v.left_is
                v.right_is v.compatible,
          ),
        ))
      ])
      (gain_both all (IsImage (name_in []) (λ c d. has c d old_eq ≡ true)) (WantsOne types.sub all refs others) [] eq0 eq1
      (gains_on list all (λ _. IsImage (name_in []) (λ c d. has c d old_eq ≡ true)) [] eq0 listed named_eq)
      (gains_on list all (λ xs. WantsOne types.sub xs refs others) eq0 eq1 listed more_eq))

  shared : Gains all shares [] sh1
  shared = gain_as all (λ a b. IsImage (name_in []) (λ c d. has c d old_share ≡ true) a b
      ⊎ ((has_id refs a ≡ true) × (has_id others b ≡ true))) shares [] sh1
      (λ a b j w. elim w [
        | inl i ↦ inl (inl (was old_share state.share a b share_is i))
        | inr v ↦ inl (inr (joined a b v.0 v.1))
      ])
      (λ a b j w. elim w [
        | inl h ↦ inl (inl (is_image old_share state.share a b share_is h))
        | inr v ↦ inl (inr ((refs_are a).1 v.is_field, (others_are b).1 v.why))
      ])
      (gain_both all (IsImage (name_in []) (λ c d. has c d old_share ≡ true)) (λ c d. (has_id refs c ≡ true)
      × (has_id others d ≡ true)) [] sh0 sh1
      (gains_on list all (λ _. IsImage (name_in []) (λ c d. has c d old_share ≡ true)) [] sh0 listed named_share)
      (gains_on list all (λ _ c d. (has_id refs c ≡ true) × (has_id others d ≡ true)) sh0 sh1 listed more_share))

  abbrev given_with : List Slot → AbstractState → Type 0
  given_with own child = IsGiven state.frames state.throwing
      (with_cells ((x, cells.Obj class ids) ∷ zip ids (map (cell_of_slot types.erase shape) own)) state)
      (λ a b. AreEqual state a b ⊎ MayBeOne types.sub (JoinsFields own ids state x shape) child.cells a b)
      (λ a b. Share state a b ⊎ JoinsFields own ids state x shape a b)
      child

  here : given_with fields (state_of (map (frame_named (name_in [])) state.frames) (option_map (name_in []) state.throwing) all eq1 sh1)
  here = record {
    frames_are = frames_unnamed state.frames;
    throwing_is = given_unnamed state.throwing;
    rising = subst (λ (xs : List (ℕ × Cell)). AreIdsRising 0 xs) (sym made) over.rising;
    cells = λ id. over_state state start ((x, cells.Obj class ids) ∷ zip ids (map (cell_of_slot types.erase shape) fields)) held
        whole all empty
        (over_more start ((x, cells.Obj class ids) ∷ []) (zip ids (map (cell_of_slot types.erase shape) fields)) some held
        (over_cell start some x (cells.Obj class copied) (cells.Obj class ids) (ap (cells.Obj class) same) put) put_fields)
        over made id;
    eq = λ a b. pairs_given all one eq1 eqs a b;
    share = λ a b. pairs_given all shares sh1 shared a b;
  }

  pub instance_given : (child : AbstractState) → fields ≡ types.fields class
      → child ≡ state_of (map (frame_named (name_in [])) state.frames) (option_map (name_in []) state.throwing) all eq1 sh1
      → IsGivenInstance types state x shape class ids child
  instance_given child f e = subst (λ (ss : List Slot). given_with ss child) f
      (subst (λ (c : AbstractState). given_with fields c) (sym e) here)
