-- Two ids that become one.
use Rattle.std.proofs.Common.{◌≡◌, ◌≢◌, ℕ, ◌==◌, ◌&&◌, ◌||◌, Bool, true, false, not, eqb, if◌then◌else◌, ◌<◌, All, List, [], ◌∷◌}
use Rattle.std.proofs.Common.{◌++◌, map, get_or, Option, Some, None, ◌⊎◌, inl, inr, refl, sym, ap, subst, ◌∙◌, eq-eqb, ne_eqb}
use Rattle.std.specs.Prelude.{◌↔◌, nat_lt, slice_get, is_some}
use Rattle.std.specs.Option.{option_map}
use Rattle.std.proofs.lemmas.Bool.{false≢true, and_parts, and_from, or_cases, or_left, or_right, cases_Bool, cases_order, lt-ltb}
use Rattle.std.proofs.lemmas.Bool.{cond-true, cond-false, cases_eq}
use Rattle.abs_cells.specs.declared.cells.Cell.{Cell}
use Rattle.abs_cells.specs.declared.cells.Cell.TheVariants as cells
use Rattle.abs_cells.specs.AbstractStates.{AbstractFrame, AbstractState}
use Rattle.abs_cells.specs.Cells.{cell_in, cell_at, HasCell, AreEqual, Share, is_reference, is_of_sort, are_compatible}
use Rattle.abs_cells.specs.PairLists.{pair_of, is_same, IsRising, has, removed}
use Rattle.abs_cells.specs.Sound.{AreIdsRising, IsWellFormed}
use Rattle.abs_cells.proofs.PairLaws.{has_swapped}
use Rattle.abs_cells.proofs.PackedLaws.{has_without}
use Rattle.abs_cells.proofs.Checking.{id_is_low}
use Rattle.abs_reach.proofs.Room.{has_cell_low}
use Rattle.abs_heap.specs.Given.{IsPair, first_cell}
use Rattle.abs_heap.specs.Names.{one_name, name_in, frame_named, cell_named, IsImage, IsPairOf}
use Rattle.term_graph.specs.declared.links.Link.{Link}
use Rattle.term_graph.specs.Graphs.{GraphChild}
use Rattle.abs_heap.specs.Answers.{IsMergedAnswer, IsApartAnswer, AreEqualAnswers}
use Rattle.abs_heap.specs.Laws.{plain_link}
use Rattle.abs_heap.specs.inner.Building.{Gains, IsOver, IsThis, named_entry}
use Rattle.abs_heap.specs.Refining.{merged_cell, rank_of, stays_before, IsMergedChild, IsApartChild, IsEqualChild, both, alone}
use Rattle.jvm_values.specs.declared.types.Ty.{Ty}
use Rattle.abs_heap.proofs.PairGains.{pair_as, same_pair, pair_same, gains_on}
use Rattle.abs_heap.proofs.Giving.{pairs_given, same_pairs, state_of, frames_unnamed, given_unnamed}
use Rattle.abs_heap.proofs.Placing.{cell_here, cell_later}

-- ---- one name for another

ids_same : (f g : ℕ → ℕ) → ((n : ℕ) → f n ≡ g n) → (ids : List ℕ) → map f ids ≡ map g ids
ids_same f g h [] = refl
ids_same f g h (id ∷ ids) = ap (λ (x : ℕ). x ∷ map f ids) (h id) ∙ ap (λ (xs : List ℕ). g id ∷ xs) (ids_same f g h ids)

pub given_same : (f g : ℕ → ℕ) → ((n : ℕ) → f n ≡ g n) → (o : Option ℕ) → option_map f o ≡ option_map g o
given_same f g h None = refl
given_same f g h (Some id) = ap Some (h id)

locals_same : (f g : ℕ → ℕ) → ((n : ℕ) → f n ≡ g n) → (ids : List (Option ℕ)) → map (option_map f) ids ≡ map (option_map g) ids
locals_same f g h [] = refl
locals_same f g h (o ∷ ids) = ap (λ (x : Option ℕ). x ∷ map (option_map f) ids) (given_same f g h o)
    ∙ ap (λ (xs : List (Option ℕ)). option_map g o ∷ xs) (locals_same f g h ids)

frame_same : (f g : ℕ → ℕ) → ((n : ℕ) → f n ≡ g n) → (frame : AbstractFrame) → frame_named f frame ≡ frame_named g frame
frame_same f g h frame =
    ap (λ (xs : List (Option ℕ)). record frame { locals = xs; stack = map f frame.stack }) (locals_same f g h frame.locals)
    ∙ ap (λ (xs : List ℕ). record frame { locals = map (option_map g) frame.locals; stack = xs }) (ids_same f g h frame.stack)

pub frames_same : (f g : ℕ → ℕ) → ((n : ℕ) → f n ≡ g n) → (frames : List AbstractFrame)
    → map (frame_named f) frames ≡ map (frame_named g) frames
frames_same f g h [] = refl
frames_same f g h (x ∷ xs) = ap (λ (y : AbstractFrame). y ∷ map (frame_named f) xs) (frame_same f g h x)
    ∙ ap (λ (ys : List AbstractFrame). frame_named g x ∷ ys) (frames_same f g h xs)

pub cell_same : (f g : ℕ → ℕ) → ((n : ℕ) → f n ≡ g n) → (c : Cell) → cell_named f c ≡ cell_named g c
cell_same f g h (cells.Int interval) = refl
cell_same f g h cells.Null = refl
cell_same f g h (cells.Obj class ids) = ap (cells.Obj class) (ids_same f g h ids)
cell_same f g h (cells.Nums kind len) = ap (cells.Nums kind) (h len)
cell_same f g h (cells.Refs element len shape) = ap (λ (n : ℕ). cells.Refs element n shape) (h len)
cell_same f g h (cells.Unk bound nullable shape) = refl

pub one_is : (old new n : ℕ) → name_in ((old, new) ∷ []) n ≡ one_name old new n
one_is old new n = elim (cases_eq old n) [
  | inl e ↦ cond-true (eqb old n) new n (eq-eqb old n e) ∙ sym (cond-true (eqb n old) new n (eq-eqb n old (sym e)))
  | inr e ↦ cond-false (eqb old n) new n (ne_eqb old n e) ∙ sym (cond-false (eqb n old) new n (ne_eqb n old (λ s. e (sym s))))
]

pub one_moves : (old new n : ℕ) → n ≡ old → one_name old new n ≡ new
one_moves old new n e = cond-true (eqb n old) new n (eq-eqb n old e)

pub one_stays : (old new n : ℕ) → (n ≡ old → ⊥) → one_name old new n ≡ n
one_stays old new n e = cond-false (eqb n old) new n (ne_eqb n old e)

-- ---- the cells

-- of a state whose id `goes` is under the name of `stays`, each other id has its cell under the names
named_is : (goes stays : ℕ) (list : List (ℕ × Cell)) (id : ℕ) → (id ≡ stays → ⊥)
    → cell_in (map (named_entry ((goes, stays) ∷ [])) list) id
    ≡ (if id == goes then None else option_map (cell_named (one_name goes stays)) (cell_in list id))
named_is goes stays [] id n = elim (cases_eq id goes) [
  | inl e ↦ sym (cond-true (eqb id goes) None None (eq-eqb id goes e))
  | inr e ↦ sym (cond-false (eqb id goes) None None (ne_eqb id goes e))
]
named_is goes stays (c ∷ list) id n =
    let names : List (ℕ × ℕ) = (goes, stays) ∷ [] in
    let first : ℕ × Cell = (name_in ((goes, stays) ∷ []) c.0, cell_named (name_in ((goes, stays) ∷ [])) c.1) in
    elim (cases_eq c.0 goes) [
      | inl e ↦
          let moved : name_in ((goes, stays) ∷ []) c.0 ≡ stays = one_is goes stays c.0 ∙ one_moves goes stays c.0 e in
          cell_later first (map (named_entry ((goes, stays) ∷ [])) list) id (λ s. n (sym s ∙ moved))
          ∙ named_is goes stays list id n
          ∙ elim (cases_eq id goes) [
            | inl f ↦ cond-true (eqb id goes) None _ (eq-eqb id goes f) ∙ sym (cond-true (eqb id goes) None _ (eq-eqb id goes f))
            | inr f ↦ ap (λ (o : Option Cell). if id == goes then None else option_map (cell_named (one_name goes stays)) o)
                (sym (cell_later c list id (λ s. f (sym s ∙ e))))
          ]
      | inr e ↦
          let kept : name_in ((goes, stays) ∷ []) c.0 ≡ c.0 = one_is goes stays c.0 ∙ one_stays goes stays c.0 e in
          elim (cases_eq c.0 id) [
            | inl f ↦
                let other : id ≡ goes → ⊥ = λ s. e (f ∙ s) in
                cell_here first (map (named_entry ((goes, stays) ∷ [])) list) id (kept ∙ f)
                ∙ ap Some (cell_same (name_in ((goes, stays) ∷ [])) (one_name goes stays) (one_is goes stays) c.1)
                ∙ ap (option_map (cell_named (one_name goes stays))) (sym (cell_here c list id f))
                ∙ sym (cond-false (eqb id goes) None _ (ne_eqb id goes other))
            | inr f ↦
                cell_later first (map (named_entry ((goes, stays) ∷ [])) list) id (λ s. f (sym kept ∙ s))
                ∙ named_is goes stays list id n
                ∙ ap (λ (o : Option Cell). if id == goes then None else option_map (cell_named (one_name goes stays)) o)
                (sym (cell_later c list id f))
          ]
    ]

pub merged_cells : (stays goes : ℕ) (merged : Cell) (list some all : List (ℕ × Cell)) → stays ≢ goes
    → IsOver [] ((stays, cell_named (name_in ((goes, stays) ∷ [])) merged) ∷ []) some
    → IsOver some (map (named_entry ((goes, stays) ∷ [])) list) all
    → (id : ℕ) → cell_in all id
    ≡ (if id == goes then None else option_map (cell_named (one_name goes stays)) (cell_in ((stays, merged) ∷ list) id))
merged_cells stays goes merged list some all differ h k id =
    let named : Cell = cell_named (name_in ((goes, stays) ∷ [])) merged in
    k.is id ∙ ap (λ (o : Option Cell). first_cell o (cell_in (map (named_entry ((goes, stays) ∷ [])) list) id)) (h.is id)
    ∙ elim (cases_eq stays id) [
      | inl e ↦
          ap (λ (o : Option Cell). first_cell o (cell_in (map (named_entry ((goes, stays) ∷ [])) list) id))
          (cell_here (stays, named) [] id e)
          ∙ ap Some (cell_same (name_in ((goes, stays) ∷ [])) (one_name goes stays) (one_is goes stays) merged)
          ∙ ap (option_map (cell_named (one_name goes stays))) (sym (cell_here (stays, merged) list id e))
          ∙ sym (cond-false (eqb id goes) None _ (ne_eqb id goes (λ s. differ (e ∙ s))))
      | inr e ↦
          ap (λ (o : Option Cell). first_cell o (cell_in (map (named_entry ((goes, stays) ∷ [])) list) id))
          (cell_later (stays, named) [] id e)
          ∙ named_is goes stays list id (λ s. e (sym s))
          ∙ ap (λ (o : Option Cell). if id == goes then None else option_map (cell_named (one_name goes stays)) o)
          (sym (cell_later (stays, merged) list id e))
    ]

-- ---- the pairs

image_as : (f g : ℕ → ℕ) → ((n : ℕ) → f n ≡ g n) → (pairs : ℕ → ℕ → Type 0) (a b : ℕ) → IsImage f pairs a b → IsImage g pairs a b
image_as f g h pairs a b i = record { x = i.x; y = i.y; were = i.were; left = sym (h i.x) ∙ i.left; right = sym (h i.y) ∙ i.right }

own_named : (cells_now : List (ℕ × Cell)) (f g : ℕ → ℕ) → ((n : ℕ) → f n ≡ g n) → (old new : List (ℕ × ℕ))
    → Gains cells_now (IsImage f (λ x y. has x y old ≡ true)) [] new → (a b : ℕ)
    → (has a b new ≡ true) ↔ IsPair (IsImage g (λ x y. has x y old ≡ true)) cells_now a b
own_named cells_now f g h old new gains a b =
    let p = pairs_given cells_now (IsImage f (λ x y. has x y old ≡ true)) new gains a b in (
      λ k. pair_as cells_now (IsImage f (λ x y. has x y old ≡ true)) (IsImage g (λ x y. has x y old ≡ true))
          (λ x y j i. inl (image_as f g h (λ v w. has v w old ≡ true) x y i)) a b (p.0 k),
      λ k. p.1 (pair_as cells_now (IsImage g (λ x y. has x y old ≡ true)) (IsImage f (λ x y. has x y old ≡ true))
          (λ x y j i. inl (image_as g f (λ n. sym (h n)) (λ v w. has v w old ≡ true) x y i)) a b k),
    )

pub named_pairs_are : (cells_now : List (ℕ × Cell)) (f g : ℕ → ℕ) → ((n : ℕ) → f n ≡ g n) → (old wish new : List (ℕ × ℕ))
    → old ≡ wish → Gains cells_now (IsImage f (λ x y. has x y old ≡ true)) [] new → (a b : ℕ)
    → (has a b new ≡ true) ↔ IsPair (IsImage g (λ x y. has x y wish ≡ true)) cells_now a b
named_pairs_are cells_now f g h old wish new e gains a b = subst
    (λ (ps : List (ℕ × ℕ)). (has a b new ≡ true) ↔ IsPair (IsImage g (λ x y. has x y ps ≡ true)) cells_now a b) e
    (own_named cells_now f g h old new gains a b)

-- a pair that was taken away
pub pair_removed : (x y : ℕ) (pairs : List (ℕ × ℕ)) → IsRising pairs → (a b : ℕ)
    → (has a b (removed x y pairs) ≡ true) ↔ ((has a b pairs ≡ true) × (IsPairOf x y a b → ⊥))
pair_removed x y pairs r a b =
    let w = has_without (pair_of a b) (pair_of x y) pairs r in (
      λ h. let k = and_parts _ _ (sym w ∙ h) in (k.1, λ p. false≢true (sym (ap not (pair_same a b x y (turned p))) ∙ k.0)),
      λ h. w ∙ and_from _ _ (other h.1) h.0,
    )
  where
    turned : IsPairOf x y a b → IsThis x y a b ⊎ IsThis x y b a
    turned (inl p) = inl p
    turned (inr p) = inr (p.1, p.0)

    back : IsThis x y a b ⊎ IsThis x y b a → IsPairOf x y a b
    back (inl p) = inl p
    back (inr p) = inr (p.1, p.0)

    other : (IsPairOf x y a b → ⊥) → not (is_same (pair_of a b) (pair_of x y)) ≡ true
    other n = elim (cases_Bool (is_same (pair_of a b) (pair_of x y))) [
      | inl s ↦ absurd (n (back (same_pair a b x y s)))
      | inr s ↦ ap not s
    ]

pub pair_taken : (x y : ℕ) (old new : List (ℕ × ℕ)) → IsRising old → new ≡ removed x y old → (a b : ℕ)
    → (has a b new ≡ true) ↔ ((has a b old ≡ true) × (IsPairOf x y a b → ⊥))
pair_taken x y old new r e a b = subst
    (λ (ps : List (ℕ × ℕ)). (has a b ps ≡ true) ↔ ((has a b old ≡ true) × (IsPairOf x y a b → ⊥))) (sym e) (pair_removed x y old r a b)

pub no_pair_taken : (x y : ℕ) (old : List (ℕ × ℕ)) (first : Option (ℕ × ℕ)) → first ≡ slice_get old 0 → is_some first ≡ false
    → (a b : ℕ) → (has a b old ≡ true) ↔ ((has a b old ≡ true) × (IsPairOf x y a b → ⊥))
no_pair_taken x y [] first e f a b = (λ h. absurd (false≢true h), λ h. h.0)
no_pair_taken x y (p ∷ old) first e f a b = absurd (false≢true (sym f ∙ ap is_some e))

-- ---- the children

pub merged_given : (sub : Ty → Ty → Bool) (state : AbstractState) (stays goes : ℕ) (left right merged named : Cell)
    (start some more whole list all : List (ℕ × Cell)) (old_eq old_share eq share : List (ℕ × ℕ)) (child : AbstractState) → stays ≢ goes
    → cell_at state stays ≡ Some left → cell_at state goes ≡ Some right → merged ≡ merged_cell sub left right
    → named ≡ cell_named (name_in ((goes, stays) ∷ [])) merged
    → start ≡ [] → IsOver start ((stays, named) ∷ []) some → more ≡ state.cells
    → IsOver some (map (named_entry ((goes, stays) ∷ [])) more) whole → all ≡ whole → list ≡ all
    → old_eq ≡ state.eq → old_share ≡ state.share
    → Gains list (IsImage (name_in ((goes, stays) ∷ [])) (λ x y. has x y old_eq ≡ true)) [] eq
    → Gains list (IsImage (name_in ((goes, stays) ∷ [])) (λ x y. has x y old_share ≡ true)) [] share
    → child ≡ state_of (map (frame_named (name_in ((goes, stays) ∷ []))) state.frames)
    (option_map (name_in ((goes, stays) ∷ [])) state.throwing) all eq share
    → IsMergedChild sub state stays goes child
merged_given sub state stays goes left right merged named start some more whole list all old_eq old_share eq share child differ
    left_is right_is m n empty put given over made listed e s ge gs is =
    subst (λ (c : AbstractState). IsMergedChild sub state stays goes c) (sym is) (record {
      left = left;
      left_is = left_is;
      right = right;
      right_is = right_is;
      is = record {
        frames_are = frames_same (name_in ((goes, stays) ∷ [])) (one_name goes stays) (one_is goes stays) state.frames;
        throwing_is = given_same (name_in ((goes, stays) ∷ [])) (one_name goes stays) (one_is goes stays) state.throwing;
        rising = subst (λ (xs : List (ℕ × Cell)). AreIdsRising 0 xs) (sym made) over.rising;
        cells = λ id. ap (λ (xs : List (ℕ × Cell)). cell_in xs id) made ∙ merged_cells stays goes (merged_cell sub left right)
            state.cells some whole differ first
            (subst (λ (cs : List (ℕ × Cell)). IsOver some (map (named_entry ((goes, stays) ∷ [])) cs) whole) given over) id;
        eq = λ a b. named_pairs_are all (name_in ((goes, stays) ∷ [])) (one_name goes stays) (one_is goes stays) old_eq state.eq eq
            e (gains_on list all (λ _. IsImage (name_in ((goes, stays) ∷ [])) (λ x y. has x y old_eq ≡ true)) [] eq listed ge) a b;
        share = λ a b. named_pairs_are all (name_in ((goes, stays) ∷ [])) (one_name goes stays) (one_is goes stays) old_share
            state.share share s (gains_on list all (λ _. IsImage (name_in ((goes, stays) ∷ [])) (λ x y. has x y old_share ≡ true))
            [] share listed gs) a b;
      };
    })
  where
    first : IsOver [] ((stays, cell_named (name_in ((goes, stays) ∷ [])) (merged_cell sub left right)) ∷ []) some
    first = subst (λ (xs : List (ℕ × Cell)). IsOver xs
        ((stays, cell_named (name_in ((goes, stays) ∷ [])) (merged_cell sub left right)) ∷ []) some) empty
        (subst (λ (c : Cell). IsOver start ((stays, c) ∷ []) some) (n ∙ ap (cell_named (name_in ((goes, stays) ∷ []))) m) put)

turned_pair : (x y a b : ℕ) → IsPairOf x y a b → IsPairOf x y b a
turned_pair x y a b (inl p) = inr (p.1, p.0)
turned_pair x y a b (inr p) = inl (p.1, p.0)

pub apart_given : (state child : AbstractState) (x y : ℕ) (start whole list all : List (ℕ × Cell))
    (old_eq old_share eq0 eq1 share : List (ℕ × ℕ)) → start ≡ [] → IsOver start state.cells whole → all ≡ whole → list ≡ all
    → old_eq ≡ state.eq → old_share ≡ state.share
    → Gains list (IsImage (name_in []) (λ v w. has v w old_eq ≡ true)) [] eq0
    → ((c d : ℕ) → (has c d eq1 ≡ true) ↔ ((has c d eq0 ≡ true) × (IsPairOf x y c d → ⊥)))
    → Gains list (IsImage (name_in []) (λ v w. has v w old_share ≡ true)) [] share
    → child ≡ state_of (map (frame_named (name_in [])) state.frames) (option_map (name_in []) state.throwing) all eq1 share
    → IsApartChild state x y child
apart_given state child x y start whole list all old_eq old_share eq0 eq1 share empty over made listed e s ge less gs is =
    subst (λ (c : AbstractState). IsApartChild state x y c) (sym is) (record {
      frames_are = frames_unnamed state.frames;
      throwing_is = given_unnamed state.throwing;
      rising = subst (λ (xs : List (ℕ × Cell)). AreIdsRising 0 xs) (sym made) over.rising;
      cells = λ id. ap (λ (xs : List (ℕ × Cell)). cell_in xs id) made ∙ over.is id
          ∙ ap (λ (xs : List (ℕ × Cell)). first_cell (cell_in xs id) (cell_at state id)) empty;
      eq = λ a b.
          let same = same_pairs all (AreEqual state) old_eq eq0
          (gains_on list all (λ _. IsImage (name_in []) (λ v w. has v w old_eq ≡ true)) [] eq0 listed ge) state.eq e a b in (
            λ h. let k = (less a b).0 h in fewer a b (same.0 k.0) k.1,
            λ p. (less a b).1 (same.1 (more a b p), apart a b p),
          );
      share = λ a b. same_pairs all (Share state) old_share share
          (gains_on list all (λ _. IsImage (name_in []) (λ v w. has v w old_share ≡ true)) [] share listed gs) state.share s a b;
    })
  where
    fewer : (a b : ℕ) → IsPair (AreEqual state) all a b → (IsPairOf x y a b → ⊥)
        → IsPair (λ v w. AreEqual state v w × (IsPairOf x y v w → ⊥)) all a b
    fewer a b (n, (j, inl w)) t = (n, (j, inl (w, t)))
    fewer a b (n, (j, inr w)) t = (n, (j, inr (w, λ p. t (turned_pair x y b a p))))

    more : (a b : ℕ) → IsPair (λ v w. AreEqual state v w × (IsPairOf x y v w → ⊥)) all a b → IsPair (AreEqual state) all a b
    more a b (n, (j, inl w)) = (n, (j, inl w.0))
    more a b (n, (j, inr w)) = (n, (j, inr w.0))

    apart : (a b : ℕ) → IsPair (λ v w. AreEqual state v w × (IsPairOf x y v w → ⊥)) all a b → IsPairOf x y a b → ⊥
    apart a b (n, (j, inl w)) p = w.1 p
    apart a b (n, (j, inr w)) p = w.1 (turned_pair x y a b p)

pub apart_answer : (state apart : AbstractState) (x y : ℕ) (link : Link) (child : GraphChild)
    → child ≡ record { state = apart; link = link } → link ≡ plain_link false None → IsApartChild state x y apart
    → IsApartAnswer state x y child
apart_answer state apart x y link child e l is = subst (λ (c : GraphChild). IsApartAnswer state x y c) (sym e)
    (record { is = is; link = l })

-- of two ids one stays
pub other_stays : (r x s y : ℕ) → x ≢ y → stays_before r x s y ≡ false → stays_before s y r x ≡ true
other_stays r x s y differ e = elim (cases_order r s) [
  | inl same ↦ elim (cases_order x y) [
    | inl t ↦ absurd (differ t)
    | inr t ↦ elim t [
      | inl l ↦ absurd (false≢true (sym e ∙ or_right (nat_lt r s) _ (and_from _ _ (eq-eqb r s same) (lt-ltb x y l))))
      | inr l ↦ or_right (nat_lt s r) _ (and_from _ _ (eq-eqb s r (sym same)) (lt-ltb y x l))
    ]
  ]
  | inr t ↦ elim t [
    | inl l ↦ absurd (false≢true (sym e ∙ or_left (nat_lt r s) _ (lt-ltb r s l)))
    | inr l ↦ or_left (nat_lt s r) _ (lt-ltb s r l)
  ]
]

-- ---- the answers

pub id_low : (list : List (ℕ × Cell)) (id : ℕ) (cell : Cell) → AreIdsRising 0 list → cell_in list id ≡ Some cell → id < 2048
id_low list id cell r e = has_cell_low list id r (ap (is_of_sort (λ _. true)) e)

pub named_low : (goes stays : ℕ) (list : List (ℕ × Cell)) → AreIdsRising 0 list → stays < 2048
    → All (λ c. name_in ((goes, stays) ∷ []) c.0 < 2048) list
named_low goes stays list r l = λ k d h. elim (cases_eq (get_or list k d).0 goes) [
  | inl e ↦ subst (λ (n : ℕ). n < 2048) (sym (one_is goes stays (get_or list k d).0 ∙ one_moves goes stays (get_or list k d).0 e)) l
  | inr e ↦ subst (λ (n : ℕ). n < 2048) (sym (one_is goes stays (get_or list k d).0 ∙ one_stays goes stays (get_or list k d).0 e))
      (id_is_low 0 list k d r h)
]

pub turned_answer : (sub : Ty → Ty → Bool) (state : AbstractState) (x y : ℕ) (left right : Cell) (r s : ℕ) (b : Bool)
    (merged : AbstractState) (link : Link) (child : GraphChild) → x ≢ y → cell_at state x ≡ Some left → cell_at state y ≡ Some right
    → r ≡ rank_of left → s ≡ rank_of right → b ≡ stays_before r x s y → b ≡ false → IsMergedChild sub state y x merged
    → link ≡ plain_link false (Some (x, y)) → child ≡ record { state = merged; link = link } → IsMergedAnswer sub state x y child
turned_answer sub state x y left right r s b merged link child differ left_is right_is r_is s_is b_is f m l e = subst
    (λ (c : GraphChild). IsMergedAnswer sub state x y c) (sym e) (record {
      stays = y;
      goes = x;
      pair = inr (refl, refl);
      stay = record {
        left = right;
        left_is = right_is;
        right = left;
        right_is = left_is;
        before = other_stays (rank_of left) x (rank_of right) y differ (ap (λ (n : ℕ). stays_before n x (rank_of right) y) (sym r_is)
            ∙ ap (λ (n : ℕ). stays_before r x n y) (sym s_is) ∙ sym b_is ∙ f);
      };
      is = m;
      link = l;
    })

child_of_parts : (child : GraphChild) (link : Link) → child.link ≡ link → child ≡ record { state = child.state; link = link }
child_of_parts child link e = ap (λ (l : Link). record { state = child.state; link = l }) e

pub both_answers : (sub : Ty → Ty → Bool) (state : AbstractState) (x y : ℕ) (left right : Cell) (start one two : List GraphChild)
    (merged apart : GraphChild) (b : Bool) → cell_at state x ≡ Some left → cell_at state y ≡ Some right
    → b ≡ are_compatible sub left right → b ≡ true → start ≡ [] → one ≡ start ++ merged ∷ [] → two ≡ one ++ apart ∷ []
    → IsMergedAnswer sub state x y merged → IsApartAnswer state x y apart → AreEqualAnswers sub state x y two
both_answers sub state x y left right start one two merged apart b left_is right_is b_is t empty first second m a = record {
  pairs = (Some (m.goes, m.stays), merged.state) ∷ (None, apart.state) ∷ [];
  are = record {
    left = left;
    left_is = left_is;
    right = right;
    right_is = right_is;
    are = subst (λ (c : Bool). IsEqualChild sub state x y c ((Some (m.goes, m.stays), merged.state) ∷ (None, apart.state) ∷ []))
        (sym t ∙ b_is) (both m.stays m.goes merged.state apart.state m.pair m.stay m.is a.is);
  };
  is = second
      ∙ ap (λ (cs : List GraphChild). cs ++ apart ∷ []) first
      ∙ ap (λ (cs : List GraphChild). (cs ++ merged ∷ []) ++ apart ∷ []) empty
      ∙ ap (λ (c : GraphChild). c ∷ apart ∷ []) (child_of_parts merged (plain_link false (Some (m.goes, m.stays))) m.link)
      ∙ ap (λ (c : GraphChild). record { state = merged.state; link = plain_link false (Some (m.goes, m.stays)) } ∷ c ∷ [])
      (child_of_parts apart (plain_link false None) a.link);
}

pub apart_alone : (sub : Ty → Ty → Bool) (state : AbstractState) (x y : ℕ) (left right : Cell) (start one : List GraphChild)
    (apart : GraphChild) (b : Bool) → cell_at state x ≡ Some left → cell_at state y ≡ Some right
    → b ≡ are_compatible sub left right → b ≡ false → start ≡ [] → one ≡ start ++ apart ∷ [] → IsApartAnswer state x y apart
    → AreEqualAnswers sub state x y one
apart_alone sub state x y left right start one apart b left_is right_is b_is f empty first a = record {
  pairs = (None, apart.state) ∷ [];
  are = record {
    left = left;
    left_is = left_is;
    right = right;
    right_is = right_is;
    are = subst (λ (c : Bool). IsEqualChild sub state x y c ((None, apart.state) ∷ [])) (sym f ∙ b_is) (alone apart.state a.is);
  };
  is = first
      ∙ ap (λ (cs : List GraphChild). cs ++ apart ∷ []) empty
      ∙ ap (λ (c : GraphChild). c ∷ []) (child_of_parts apart (plain_link false None) a.link);
}

-- both of a pair have cells
pub pair_there : (state : AbstractState) (a b : ℕ) → IsWellFormed state → AreEqual state a b → a ≢ b → HasCell is_reference state a
    × HasCell is_reference state b
pair_there state a b good e differ = elim (cases_order a b) [
  | inl s ↦ absurd (differ s)
  | inr t ↦ elim t [
    | inl l ↦ (good.left a b l (good.shared a b e), good.right a b l (good.shared a b e))
    | inr l ↦
        let s : Share state b a = has_swapped a b state.share ∙ good.shared a b e in
        (good.right b a l s, good.left b a l s)
  ]
]
