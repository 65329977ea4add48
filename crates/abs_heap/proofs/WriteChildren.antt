-- The child of a write.
use Rattle.std.proofs.Common.{◌≡◌, ℕ, ◌||◌, Bool, true, false, not, List, [], ◌∷◌, map, Some, ◌⊎◌, inl, inr, refl, sym, ap, subst, ◌∙◌}
use Rattle.std.specs.Prelude.{◌↔◌, slice_get}
use Rattle.std.specs.Option.{option_map}
use Rattle.std.specs.List.{list_any}
use Rattle.std.proofs.lemmas.Bool.{false≢true, or_cases, or_left, or_right, cases_Bool, cases_eq}
use Rattle.std.proofs.lemmas.Option.{none-some}
use Rattle.list_views.proofs.Options.{then_some}
use Rattle.jvm_values.specs.Paths.{follow}
use Rattle.jvm_values.proofs.Options.{some_is}
use Rattle.abs_cells.specs.declared.cells.Cell.{Cell}
use Rattle.abs_cells.specs.declared.cells.Cell.TheVariants as cells
use Rattle.abs_cells.specs.AbstractStates.{AbstractState}
use Rattle.abs_cells.specs.Cells.{ids_of, ids_in, cell_in, cell_at, HasCell, AreEqual, Share}
use Rattle.abs_cells.specs.Closures.{cell_steps, KnownFrom, MayBeIn, IsFiniteId}
use Rattle.abs_cells.specs.IdSets.{has_id}
use Rattle.abs_cells.specs.PairLists.{has}
use Rattle.abs_cells.specs.Sound.{IsWellFormed}
use Rattle.abs_reach.proofs.Answering.{share_counts}
use Rattle.abs_reach.proofs.Walks.{named_has_cell, some_cell}
use Rattle.abs_heap.specs.Names.{name_in, frame_named, IsImage}
use Rattle.abs_heap.specs.inner.Building.{Gains, IsOver}
use Rattle.abs_heap.specs.inner.Renaming.{IsBeside, is_named, AreNamesOf, IsWritten}
use Rattle.abs_heap.specs.Writing.{Write, IsAffected, IsMet, IsNullId, MakesNoCycle, shape_after, cell_after, GainsPair, IsWriteChild}
use Rattle.abs_heap.proofs.Affected.{affected_there}
use Rattle.abs_heap.proofs.After.{any_named, named_any}
use Rattle.abs_heap.proofs.PairGains.{gain_both, gain_as, gains_on}
use Rattle.abs_heap.proofs.Giving.{pairs_given, state_of}

-- what known cells lead to has cells
known_there : (state : AbstractState) → IsWellFormed state → (path : List ℕ) (x z : ℕ) → HasCell (λ _. true) state x
    → follow (cell_steps state) path x ≡ Some z → HasCell (λ _. true) state z
known_there state good [] x z h e = subst (λ (i : ℕ). HasCell (λ _. true) state i) (some_is e) h
known_there state good (i ∷ path) x z h e =
    let q = then_some (follow (cell_steps state) path) (cell_steps state x i) z e in
    let c = then_some (λ (cell : Cell). slice_get (ids_of cell) i) (cell_at state x) q.0 q.1.0 in
    known_there state good path q.0 z (named_has_cell state good x i q.0 c.0 c.1.0 (named_too c.0 i q.0 c.1.1)) q.1.1
  where
    named_too : (cell : Cell) (i y : ℕ) → slice_get (ids_of cell) i ≡ Some y → slice_get (ids_in cell) i ≡ Some y
    named_too (cells.Int interval) i y f = f
    named_too cells.Null i y f = f
    named_too (cells.Obj class ids) i y f = f
    named_too (cells.Nums kind len) i y f = f
    named_too (cells.Refs element len shape) i y f = absurd (none-some y f)
    named_too (cells.Unk bound nullable shape) i y f = absurd (none-some y f)

pub no_cycle_is : (state : AbstractState) (k w : ℕ) (inside : Bool) → IsFiniteId state w → (inside ≡ true) ↔ MayBeIn state k w
    → (not inside ≡ true) ↔ MakesNoCycle state k w
no_cycle_is state k w true finite is = (λ t. absurd (false≢true t), λ h. absurd (h.apart (is.0 refl)))
no_cycle_is state k w false finite is = (λ t. record { finite = finite; apart = λ m. false≢true (is.1 m) }, λ h. refl)

module _ (state : AbstractState) (write : Write) (ns names : List (ℕ × ℕ)) (null no_cycle : Bool)
    (start made list all more ids_from met_from : List (ℕ × Cell)) (set marks known beside ids met : List ℕ)
    (old_eq old_share from_pairs eq sh0 sh1 : List (ℕ × ℕ))
    (good : IsWellFormed state) (value : HasCell (λ _. true) state write.value)
    (null_is : (null ≡ true) ↔ IsNullId state write.value) (set_is : (n : ℕ) → (has_id set n ≡ true) ↔ IsAffected state write.object n)
    (empty : start ≡ []) (more_is : more ≡ state.cells)
    (put : IsOver start (map (cell_after names (shape_after null no_cycle) write) more) made) (all_is : all ≡ made)
    (listed : list ≡ all)
    (eq_is : old_eq ≡ state.eq) (share_is : old_share ≡ state.share)
    (named : ns ≡ names)
    (eqs_named : Gains list (IsImage (name_in ns) (λ x y. has x y old_eq ≡ true)) [] eq)
    (shares_named : Gains list (IsImage (name_in ns) (λ x y. has x y old_share ≡ true)) [] sh0)
    (marks_are : known ≡ marks) (known_is : (id : ℕ) → (has_id marks id ≡ true) ↔ KnownFrom state write.value id)
    (pairs_are : from_pairs ≡ state.share) (besides : (n : ℕ) → (has_id beside n ≡ true) ↔ IsBeside from_pairs known n)
    (ids_from_is : ids_from ≡ state.cells) (ids_are : (n : ℕ) → has_id ids n ≡ list_any (is_named ns set set n) ids_from)
    (met_from_is : met_from ≡ state.cells) (met_are : (n : ℕ) → has_id met n ≡ list_any (is_named ns known beside n) met_from)
    (gained : Gains list (λ c d. (null ≡ false) × ((has_id ids c ≡ true) × (has_id met d ≡ true))) sh0 sh1) where
  abbrev wants : ℕ → ℕ → Type 0
  wants a b = IsImage (name_in names) (Share state) a b ⊎ GainsPair state names write a b

  named_eq : Gains list (IsImage (name_in names) (λ x y. has x y old_eq ≡ true)) [] eq
  named_eq = subst (λ (xs : List (ℕ × ℕ)). Gains list (IsImage (name_in xs) (λ x y. has x y old_eq ≡ true)) [] eq) named eqs_named

  named_share : Gains list (IsImage (name_in names) (λ x y. has x y old_share ≡ true)) [] sh0
  named_share = subst (λ (xs : List (ℕ × ℕ)). Gains list (IsImage (name_in xs) (λ x y. has x y old_share ≡ true)) [] sh0) named
      shares_named

  known_here : (id : ℕ) → (has_id known id ≡ true) ↔ KnownFrom state write.value id
  known_here id = subst (λ (xs : List ℕ). (has_id xs id ≡ true) ↔ KnownFrom state write.value id) (sym marks_are) (known_is id)

  beside_here : (n : ℕ) → (has_id beside n ≡ true) ↔ IsBeside state.share known n
  beside_here n = subst (λ (ps : List (ℕ × ℕ)). (has_id beside n ≡ true) ↔ IsBeside ps known n) pairs_are (besides n)

  ids_here : (n : ℕ) → has_id ids n ≡ list_any (is_named names set set n) ids_from
  ids_here n = ids_are n ∙ ap (λ (xs : List (ℕ × ℕ)). list_any (is_named xs set set n) ids_from) named

  met_here : (n : ℕ) → has_id met n ≡ list_any (is_named names known beside n) met_from
  met_here n = met_are n ∙ ap (λ (xs : List (ℕ × ℕ)). list_any (is_named xs known beside n) met_from) named

  either : (a : Bool) → (a || a) ≡ true → a ≡ true
  either true e = refl
  either false e = e

  -- the ids of both sets
  id_from : (a : ℕ) → has_id ids a ≡ true → (x : ℕ) × (IsAffected state write.object x × (name_in names x ≡ a))
  id_from a h = let q = any_named names set set a ids_from (sym (ids_here a) ∙ h) in
      (q.0, ((set_is q.0).0 (either (has_id set q.0) q.1.0), sym q.1.1))

  id_to : (x a : ℕ) → IsAffected state write.object x → name_in names x ≡ a → has_id ids a ≡ true
  id_to x a h e =
      let t = affected_there state write.object x h in
      ids_here a ∙ named_any names set set a x t.cell ids_from (ap (λ (cs : List (ℕ × Cell)). cell_in cs x) ids_from_is ∙ t.is)
      (or_left (has_id set x) (has_id set x) ((set_is x).1 h)) (sym e)

  met_of : (z : ℕ) → (has_id known z || has_id beside z) ≡ true → IsMet state write.value z
  met_of z h = elim (or_cases (has_id known z) (has_id beside z) h) [
    | inl k ↦ record { from = z; known = (known_here z).0 k; meets = inl refl }
    | inr b ↦ let t = (beside_here z).0 b in record { from = t.from; known = (known_here t.from).0 t.is_in; meets = inr t.paired }
  ]

  met_from_set : (b : ℕ) → has_id met b ≡ true → (z : ℕ) × (IsMet state write.value z × (name_in names z ≡ b))
  met_from_set b h = let q = any_named names known beside b met_from (sym (met_here b) ∙ h) in (q.0, (met_of q.0 q.1.0, sym q.1.1))

  met_there : (z : ℕ) → IsMet state write.value z → HasCell (λ _. true) state z
  met_there z h =
      let from = known_there state good h.known.path write.value h.from value h.known.leads in
      elim h.meets [
        | inl e ↦ subst (λ (i : ℕ). HasCell (λ _. true) state i) (sym e) from
        | inr s ↦ elim (cases_eq h.from z) [
          | inl e ↦ subst (λ (i : ℕ). HasCell (λ _. true) state i) e from
          | inr e ↦ some_cell state z (share_counts state good h.from z e s).1
        ]
      ]

  met_in : (z : ℕ) → IsMet state write.value z → (has_id known z || has_id beside z) ≡ true
  met_in z h = elim h.meets [
    | inl e ↦ or_left (has_id known z) (has_id beside z) ((known_here z).1 (subst (KnownFrom state write.value) (sym e) h.known))
    | inr s ↦ or_right (has_id known z) (has_id beside z)
        ((beside_here z).1 (record { from = h.from; is_in = (known_here h.from).1 h.known; paired = s }))
  ]

  met_to : (z b : ℕ) → IsMet state write.value z → name_in names z ≡ b → has_id met b ≡ true
  met_to z b h e =
      let t = met_there z h in
      met_here b ∙ named_any names known beside b z t.cell met_from (ap (λ (cs : List (ℕ × Cell)). cell_in cs z) met_from_is ∙ t.is)
      (met_in z h) (sym e)

  -- the pairs
  shared : Gains all wants [] sh1
  shared = gain_as all (λ a b. IsImage (name_in names) (λ x y. has x y old_share ≡ true) a b
      ⊎ ((null ≡ false) × ((has_id ids a ≡ true) × (has_id met b ≡ true)))) wants [] sh1
      (λ a b j w. elim w [
        | inl i ↦ inl (inl (subst (λ (ps : List (ℕ × ℕ)). IsImage (name_in names) (λ x y. has x y ps ≡ true) a b) share_is i))
        | inr v ↦
            let x = id_from a v.1.0 in
            let z = met_from_set b v.1.1 in
            inl (inr (record {
              x = x.0;
              z = z.0;
              affected = x.1.0;
              met = z.1.0;
              written = λ n. false≢true (sym v.0 ∙ null_is.1 n);
              left = x.1.1;
              right = z.1.1;
            }))
      ])
      (λ a b j w. elim w [
        | inl i ↦ inl (inl (subst (λ (ps : List (ℕ × ℕ)). IsImage (name_in names) (λ x y. has x y ps ≡ true) a b) (sym share_is) i))
        | inr g ↦ inl (inr (not_null g.written, (id_to g.x a g.affected g.left, met_to g.z b g.met g.right)))
      ])
      (gain_both all (IsImage (name_in names) (λ x y. has x y old_share ≡ true))
      (λ c d. (null ≡ false) × ((has_id ids c ≡ true) × (has_id met d ≡ true))) [] sh0 sh1
      (gains_on list all (λ _. IsImage (name_in names) (λ x y. has x y old_share ≡ true)) [] sh0 listed named_share)
      (gains_on list all (λ _ c d. (null ≡ false) × ((has_id ids c ≡ true) × (has_id met d ≡ true))) sh0 sh1 listed gained))
    where
      not_null : (IsNullId state write.value → ⊥) → null ≡ false
      not_null n = elim (cases_Bool null) [ inl t ↦ absurd (n (null_is.0 t)) | inr f ↦ f ]

  equals : Gains all (IsImage (name_in names) (AreEqual state)) [] eq
  equals = subst (λ (ps : List (ℕ × ℕ)). Gains all (IsImage (name_in names) (λ x y. has x y ps ≡ true)) [] eq) eq_is
      (gains_on list all (λ _. IsImage (name_in names) (λ x y. has x y old_eq ≡ true)) [] eq listed named_eq)

  over : IsOver [] (map (cell_after names (shape_after null no_cycle) write) state.cells) all
  over = subst (λ (xs : List (ℕ × Cell)). IsOver [] (map (cell_after names (shape_after null no_cycle) write) state.cells) xs) (sym all_is)
      (subst (λ (xs : List (ℕ × Cell)). IsOver [] (map (cell_after names (shape_after null no_cycle) write) xs) made) more_is
      (subst (λ (xs : List (ℕ × Cell)). IsOver xs (map (cell_after names (shape_after null no_cycle) write) more) made) empty put))

  written_here : IsWritten state write names null no_cycle
      (state_of (map (frame_named (name_in names)) state.frames) (option_map (name_in names) state.throwing) all eq sh1)
  written_here = record {
    frames_are = refl;
    throwing_is = refl;
    rising = over.rising;
    cells = over.is;
    eq = λ a b. pairs_given all (IsImage (name_in names) (AreEqual state)) eq equals a b;
    share = λ a b. pairs_given all wants sh1 shared a b;
  }

  pub child_written : (child : AbstractState)
      → child ≡ state_of (map (frame_named (name_in ns)) state.frames) (option_map (name_in ns) state.throwing) all eq sh1
      → IsWritten state write names null no_cycle child
  child_written child e = subst (IsWritten state write names null no_cycle)
      (sym (e ∙ ap (λ (xs : List (ℕ × ℕ)). state_of (map (frame_named (name_in xs)) state.frames)
      (option_map (name_in xs) state.throwing) all eq sh1) named)) written_here

pub write_child : (state : AbstractState) (write : Write) (names : List (ℕ × ℕ)) (null no_cycle : Bool) (set : List ℕ)
    (child : AbstractState)
    → ((n : ℕ) → (has_id set n ≡ true) ↔ IsAffected state write.object n) → AreNamesOf state set names
    → (null ≡ true) ↔ IsNullId state write.value → (no_cycle ≡ true) ↔ MakesNoCycle state write.object write.value
    → IsWritten state write names null no_cycle child → IsWriteChild state write child
write_child state write names null no_cycle set child set_is named null_is no_cycle_is is = record {
  names = names;
  renamed = record {
    old_rise = named.old_rise;
    affected = λ x. (λ c. (set_is x).0 ((named.listed x).0 c), λ a. (named.listed x).1 ((set_is x).1 a));
    fresh = named.fresh;
  };
  null = null;
  null_is = null_is;
  no_cycle = no_cycle;
  no_cycle_is = no_cycle_is;
  is = is;
}
