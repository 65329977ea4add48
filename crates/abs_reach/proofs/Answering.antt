-- What walks and pairs answer, in the terms of states.
use Rattle.std.proofs.Common.{◌≡◌, ◌≢◌, ℕ, suc, ◌<◌, ◌≤◌, ◌&&◌, ◌||◌, ◌==◌, min, max, eqb, Bool, true, false, List, [], ◌∷◌, Option}
use Rattle.std.proofs.Common.{Some, None, ◌⊎◌, inl, inr, refl, sym, ap, subst, ◌∙◌, arith, eq-eqb, ne_eqb, if◌then◌else◌}
use Rattle.std.specs.Prelude.{◌↔◌, slice_get}
use Rattle.std.specs.List.{list_any}
use Rattle.std.proofs.lemmas.Bool.{false≢true, cases_eq, cases_lt, cases_Bool, and_parts, and_from, or_cases, or_left, or_right, eqb-true}
use Rattle.std.proofs.lemmas.Option.{none-some}
use Rattle.abs_cells.proofs.list_views.Options.{then_some}
use Rattle.jvm_values.specs.declared.shape.Shape.{Shape}
use Rattle.jvm_values.specs.declared.shape.Shape.TheVariants.{Tree, Dag, Any}
use Rattle.jvm_values.specs.Paths.{follow, Reaches, IsDagFrom, IsTreeFrom}
use Rattle.abs_cells.specs.declared.cells.Cell.{Cell}
use Rattle.abs_cells.specs.declared.cells.Cell.TheVariants as cells
use Rattle.abs_cells.specs.AbstractStates.{AbstractState}
use Rattle.abs_cells.specs.PairLists.{pair_of, is_same, IsRising, has_pair, has}
use Rattle.abs_cells.specs.IdSets.{has_id, joins, are_touched}
use Rattle.abs_cells.specs.Cells.{is_hazy, is_reference, ids_of, ids_in, shape_of, may_have_cycle, may_be_no_tree, is_of_sort}
use Rattle.abs_cells.specs.Cells.{cell_in, cell_at, HasCell, Share}
use Rattle.abs_cells.specs.Closures.{cell_steps, counted_steps, KnownFrom, MayMeet, SharesThere, MayBeIn, IsFiniteId, IsTreeId}
use Rattle.abs_cells.specs.Sound.{AreIdsRising, IsWellFormed}
use Rattle.abs_cells.proofs.PairLaws.{has_swapped, same_is, is_same_from}
use Rattle.abs_cells.proofs.Checking.{low_pair, is_here, sort_is, has_cell_from, has_cell_to}
use Rattle.abs_reach.specs.declared.find.Names.TheVariants.{Known, All}
use Rattle.abs_reach.specs.inner.Steps.{steps_in, counted_steps_in, AreNamedThere, IsIn, IsReachedInside}
use Rattle.abs_reach.specs.Known.{IsKnownFromSome}
use Rattle.abs_reach.proofs.Walks.{named_has_cell, counted_is_known}
use Rattle.abs_reach.proofs.Walked.{counted_path}

-- ---- well-formed states

names_in : (cell : Cell) (i c : ℕ) → slice_get (ids_of cell) i ≡ Some c → slice_get (ids_in cell) i ≡ Some c
names_in (cells.Int interval) i c e = e
names_in cells.Null i c e = e
names_in (cells.Obj class ids) i c e = e
names_in (cells.Nums kind len) i c e = e
names_in (cells.Refs element len shape) i c e = absurd (none-some c e)
names_in (cells.Unk bound nullable shape) i c e = e

named_there : (state : AbstractState) → IsWellFormed state → AreNamedThere Known state.cells
named_there state good a i c e =
    let cell = then_some (λ (cell : Cell). slice_get (ids_of cell) i) (cell_in state.cells a) c e in
    has_cell_to (λ _. true) state c (named_has_cell state good a i c cell.0 cell.1.0 (names_in cell.0 i c cell.1.1))

pub all_named_there : (state : AbstractState) → IsWellFormed state → AreNamedThere All state.cells
all_named_there state good a i c e =
    let cell = then_some (λ (cell : Cell). slice_get (ids_in cell) i) (cell_in state.cells a) c e in
    has_cell_to (λ _. true) state c (named_has_cell state good a i c cell.0 cell.1.0 cell.1.1)

module _ (state : AbstractState) (good : IsWellFormed state) (list : List (ℕ × Cell)) (is : list ≡ state.cells) where
  pub rising_of : AreIdsRising 0 list
  rising_of = subst (λ (cs : List (ℕ × Cell)). AreIdsRising 0 cs) (sym is) good.rising

  pub named_of : AreNamedThere Known list
  named_of = subst (λ (cs : List (ℕ × Cell)). AreNamedThere Known cs) (sym is) (named_there state good)

  pub all_named_of : AreNamedThere All list
  all_named_of = subst (λ (cs : List (ℕ × Cell)). AreNamedThere All cs) (sym is) (all_named_there state good)

  pub there_of : (x : ℕ) → HasCell (λ _. true) state x → is_of_sort (λ _. true) (cell_in list x) ≡ true
  there_of x h = subst (λ (cs : List (ℕ × Cell)). is_of_sort (λ _. true) (cell_in cs x) ≡ true) (sym is)
      (has_cell_to (λ _. true) state x h)

pub met_of : (state : AbstractState) (list : List (ℕ × Cell)) (x id : ℕ) (b : Bool) → list ≡ state.cells
    → (b ≡ true) ↔ Reaches (steps_in Known list) x id → (b ≡ true) ↔ KnownFrom state x id
met_of state list x id b e h = subst (λ (cs : List (ℕ × Cell)). (b ≡ true) ↔ Reaches (steps_in Known cs) x id) e h

pub cyclic_of : (state : AbstractState) (list : List (ℕ × Cell)) (x : ℕ) (b : Bool) → list ≡ state.cells
    → (b ≡ false) ↔ IsDagFrom (steps_in Known list) x → (b ≡ false) ↔ IsDagFrom (cell_steps state) x
cyclic_of state list x b e h = subst (λ (cs : List (ℕ × Cell)). (b ≡ false) ↔ IsDagFrom (steps_in Known cs) x) e h

pub twice_of : (state : AbstractState) (list : List (ℕ × Cell)) (x : ℕ) (b : Bool) → list ≡ state.cells
    → (b ≡ false) ↔ IsTreeFrom (counted_steps_in Known list) x → (b ≡ false) ↔ IsTreeFrom (counted_steps state) x
twice_of state list x b e h = subst (λ (cs : List (ℕ × Cell)). (b ≡ false) ↔ IsTreeFrom (counted_steps_in Known cs) x) e h

pub some_of : (state : AbstractState) (list : List (ℕ × Cell)) (set : List ℕ) (id : ℕ) (b : Bool) → list ≡ state.cells
    → (b ≡ true) ↔ IsReachedInside Known list set id → (b ≡ true) ↔ IsKnownFromSome state set id
some_of state list set id b e h =
    let k = subst (λ (cs : List (ℕ × Cell)). (b ≡ true) ↔ IsReachedInside Known cs set id) e h in (
      λ t. let r = k.0 t in record {
        x = r.from;
        is_in = r.starts;
        there = has_cell_from (λ _. true) state r.from r.there;
        from_x =
            r.reaches;
      },
      λ r. k.1 (record { from = r.x; starts = r.is_in; there = has_cell_to (λ _. true) state r.x r.there; reaches = r.from_x }),
    )

-- ---- cells of ids in two sets

abbrev pub in_both : (Cell → Bool) → List ℕ → List ℕ → ℕ × Cell → Bool
in_both test first second c = (has_id first c.0 && has_id second c.0) && test c.1

pub record IsInBoth (test : Cell → Bool) (list : List (ℕ × Cell)) (first second : List ℕ) : Type 0 where
  pub id : ℕ
  pub in_first : IsIn first id
  pub in_second : IsIn second id
  pub is : is_of_sort test (cell_in list id) ≡ true

-- an id that has a cell further on is none of the first
later_apart : (low id : ℕ) (list : List (ℕ × Cell)) → AreIdsRising low list → is_of_sort (λ _. true) (cell_in list id) ≡ true → low ≤ id
later_apart low id [] r h = absurd (false≢true h)
later_apart low id (c ∷ list) r h = elim (cases_eq c.0 id) [
  | inl e ↦ omega (arith, e, r.0)
  | inr d ↦
      let t : eqb c.0 id ≡ false = ne_eqb c.0 id d in
      let k = later_apart (suc c.0) id list r.1.1
      (sym (ap (λ (b : Bool). is_of_sort (λ _. true) (if b then Some c.1 else cell_in list id)) t) ∙ h) in
      omega (arith, k, r.0)
]

pub any_sort : (test : Cell → Bool) (o : Option Cell) → is_of_sort test o ≡ true → is_of_sort (λ _. true) o ≡ true
any_sort test None h = h
any_sort test (Some cell) h = refl

pub both_there : (test : Cell → Bool) (low : ℕ) (list : List (ℕ × Cell)) (first second : List ℕ) → AreIdsRising low list
    → list_any (in_both test first second) list ≡ true → IsInBoth test list first second
both_there test low [] first second r h = absurd (false≢true h)
both_there test low (c ∷ list) first second r h = elim
    (or_cases (in_both test first second c) (list_any (in_both test first second) list) h) [
      | inl t ↦
          let p = and_parts (has_id first c.0 && has_id second c.0) (test c.1) t in
          let q = and_parts (has_id first c.0) (has_id second c.0) p.0 in
          record {
            id = c.0;
            in_first = q.0;
            in_second = q.1;
            is = ap (λ (b : Bool). is_of_sort test (if b then Some c.1 else cell_in list c.0)) (eq-eqb c.0 c.0 refl) ∙ p.1;
          }
      | inr t ↦
          let k = both_there test (suc c.0) list first second r.1.1 t in
          let l = later_apart (suc c.0) k.id list r.1.1 (any_sort test (cell_in list k.id) k.is) in
          let d : eqb c.0 k.id ≡ false = ne_eqb c.0 k.id (λ (e : c.0 ≡ k.id). omega (arith, e, l)) in
          record {
            id = k.id;
            in_first = k.in_first;
            in_second = k.in_second;
            is = ap (λ (b : Bool). is_of_sort test (if b then Some c.1 else cell_in list k.id)) d ∙ k.is;
          }
    ]

pub both_from : (test : Cell → Bool) (list : List (ℕ × Cell)) (first second : List ℕ) (id : ℕ) → IsIn first id → IsIn second id
    → is_of_sort test (cell_in list id) ≡ true → list_any (in_both test first second) list ≡ true
both_from test [] first second id f s h = absurd (false≢true h)
both_from test (c ∷ list) first second id f s h = elim (cases_eq c.0 id) [
  | inl e ↦
      let t : test c.1 ≡ true = sym (ap (λ (b : Bool). is_of_sort test (if b then Some c.1 else cell_in list id)) (eq-eqb c.0 id e)) ∙ h in
      or_left (in_both test first second c) (list_any (in_both test first second) list)
      (and_from (has_id first c.0 && has_id second c.0) (test c.1)
      (and_from (has_id first c.0) (has_id second c.0) (ap (has_id first) e ∙ f) (ap (has_id second) e ∙ s)) t)
  | inr d ↦ or_right (in_both test first second c) (list_any (in_both test first second) list)
      (both_from test list first second id f s
      (sym (ap (λ (b : Bool). is_of_sort test (if b then Some c.1 else cell_in list id)) (ne_eqb c.0 id d)) ∙ h))
]

-- ---- pairs that two sets touch

pub record Touch (x y : List ℕ) (pairs : List (ℕ × ℕ)) : Type 0 where
  pub a : ℕ
  pub b : ℕ
  pub in_x : IsIn x a
  pub in_y : IsIn y b
  pub differ : a ≢ b
  pub pair : has a b pairs ≡ true

more_pairs : (x y : List ℕ) (p : ℕ × ℕ) (pairs : List (ℕ × ℕ)) → Touch x y pairs → Touch x y (p ∷ pairs)
more_pairs x y p pairs t = record {
  a = t.a;
  b = t.b;
  in_x = t.in_x;
  in_y = t.in_y;
  differ = t.differ;
  pair = or_right
      (is_same (pair_of t.a t.b) p) (has_pair (pair_of t.a t.b) pairs) t.pair;
}

first_is : (p : ℕ × ℕ) (pairs : List (ℕ × ℕ)) → p.0 < p.1 → has p.0 p.1 (p ∷ pairs) ≡ true
first_is p pairs l = or_left (is_same (pair_of p.0 p.1) p) (has_pair (pair_of p.0 p.1) pairs)
    (is_same_from (pair_of p.0 p.1) p (low_pair p l))

pub touch_there : (x y : List ℕ) (pairs : List (ℕ × ℕ)) → IsRising pairs → are_touched x y pairs ≡ true → Touch x y pairs
touch_there x y [] r h = absurd (false≢true h)
touch_there x y (p ∷ pairs) r h = elim (or_cases (joins x y p) (list_any (joins x y) pairs) h) [
  | inl t ↦ elim (or_cases (has_id x p.0 && has_id y p.1) (has_id x p.1 && has_id y p.0) t) [
    | inl u ↦
        let q = and_parts (has_id x p.0) (has_id y p.1) u in
        record {
          a = p.0;
          b = p.1;
          in_x = q.0;
          in_y = q.1;
          differ = λ (e : p.0 ≡ p.1). omega (arith, e, r.0.0);
          pair = first_is p
              pairs r.0.0;
        }
    | inr u ↦
        let q = and_parts (has_id x p.1) (has_id y p.0) u in
        record {
          a = p.1;
          b = p.0;
          in_x = q.0;
          in_y = q.1;
          differ = λ (e : p.1 ≡ p.0). omega (arith, e, r.0.0);
          pair = has_swapped
              p.0 p.1 (p ∷ pairs) ∙ first_is p pairs r.0.0;
        }
  ]
  | inr t ↦ more_pairs x y p pairs (touch_there x y pairs r.1.1 t)
]

both_ways_join : (x y : List ℕ) (a b : ℕ) → IsIn x a → IsIn y b → joins x y (pair_of a b) ≡ true
both_ways_join x y a b f s = elim (cases_lt a b) [
  | inl l ↦
      let p : pair_of a b ≡ (a, b) = low_pair (a, b) l in
      ap (joins x y) p ∙ or_left (has_id x a && has_id y b) (has_id x b && has_id y a) (and_from (has_id x a) (has_id y b) f s)
  | inr l ↦
      let m : min a b ≡ b = omega (arith, l) in
      let n : max a b ≡ a = omega (arith, l) in
      let at : (c d : ℕ) → c ≡ b → d ≡ a → joins x y (c, d) ≡ true = λ c d e g. or_right (has_id x c && has_id y d)
      (has_id x d && has_id y c) (and_from (has_id x d) (has_id y c) (ap (has_id x) g ∙ f) (ap (has_id y) e ∙ s)) in
      at (min a b) (max a b) m n
]

touched_by : (test : ℕ × ℕ → Bool) (p : ℕ × ℕ) (pairs : List (ℕ × ℕ)) → test p ≡ true → has_pair p pairs ≡ true
    → list_any test pairs ≡ true
touched_by test p [] t h = absurd (false≢true h)
touched_by test p (q ∷ pairs) t h = elim (or_cases (is_same p q) (has_pair p pairs) h) [
  | inl s ↦ or_left (test q) (list_any test pairs) (ap test (sym (same_is p q s)) ∙ t)
  | inr s ↦ or_right (test q) (list_any test pairs) (touched_by test p pairs t s)
]

pub touch_from : (x y : List ℕ) (pairs : List (ℕ × ℕ)) (a b : ℕ) → IsIn x a → IsIn y b → has a b pairs ≡ true
    → are_touched x y pairs ≡ true
touch_from x y pairs a b f s h = touched_by (joins x y) (pair_of a b) pairs (both_ways_join x y a b f s) h

-- ---- the hazy ids of a set

abbrev pub is_hazy_here : List ℕ → ℕ → ℕ × Cell → Bool
is_hazy_here set n c = (c.0 == n) && (has_id set c.0 && is_hazy c.1)

pub none_hazy : (h : Bool) → false ≡ (h && false)
none_hazy true = refl
none_hazy false = refl

and_over_or : (h a b : Bool) → ((h && a) || (h && b)) ≡ (h && (a || b))
and_over_or true a b = refl
and_over_or false a b = refl

hazy_here : (set : List ℕ) (n : ℕ) (list : List (ℕ × Cell))
    → list_any (is_hazy_here set n) list ≡ (has_id set n && list_any (is_here is_hazy n) list)
hazy_here set n [] = none_hazy (has_id set n)
hazy_here set n (c ∷ list) = elim (cases_eq c.0 n) [
  | inl e ↦
      let t : eqb c.0 n ≡ true = eq-eqb c.0 n e in
      ap (λ (b : Bool). (b && (has_id set c.0 && is_hazy c.1)) || list_any (is_hazy_here set n) list) t
      ∙ ap (λ (y : ℕ). (has_id set y && is_hazy c.1) || list_any (is_hazy_here set n) list) e
      ∙ ap (λ (b : Bool). (has_id set n && is_hazy c.1) || b) (hazy_here set n list)
      ∙ and_over_or (has_id set n) (is_hazy c.1) (list_any (is_here is_hazy n) list)
      ∙ sym (ap (λ (b : Bool). has_id set n && ((b && is_hazy c.1) || list_any (is_here is_hazy n) list)) t)
  | inr d ↦
      let t : eqb c.0 n ≡ false = ne_eqb c.0 n d in
      ap (λ (b : Bool). (b && (has_id set c.0 && is_hazy c.1)) || list_any (is_hazy_here set n) list) t
      ∙ hazy_here set n list
      ∙ sym (ap (λ (b : Bool). has_id set n && ((b && is_hazy c.1) || list_any (is_here is_hazy n) list)) t)
]

pub hazy_are : (set : List ℕ) (n : ℕ) (list : List (ℕ × Cell)) → AreIdsRising 0 list
    → list_any (is_hazy_here set n) list ≡ (has_id set n && is_of_sort is_hazy (cell_in list n))
hazy_are set n list r = hazy_here set n list ∙ ap (λ (b : Bool). has_id set n && b) (sort_is is_hazy 0 n list r)

-- ---- the four tests

module _ (state : AbstractState) (good : IsWellFormed state) where
  -- ids that share are references
  pub share_counts : (a b : ℕ) → a ≢ b → Share state a b → HasCell is_reference state a × HasCell is_reference state b
  share_counts a b d s = elim (cases_lt a b) [
    | inl l ↦ (good.left a b l s, good.right a b l s)
    | inr l ↦
        let t : Share state b a = has_swapped a b state.share ∙ s in
        let m : b < a = omega (arith, l, d) in
        (good.right b a m t, good.left b a m t)
  ]

  module _ (x : ℕ) (first : List ℕ) (met : (id : ℕ) → (has_id first id ≡ true) ↔ KnownFrom state x id) where
    module _ (y : ℕ) (second : List ℕ) (met_too : (id : ℕ) → (has_id second id ≡ true) ↔ KnownFrom state y id) where
      pub one_common : IsInBoth is_reference state.cells first second → MayMeet state x y
      one_common h =
          let counts = has_cell_from is_reference state h.id h.is in
          record {
            p = h.id;
            q = h.id;
            from_x = (met h.id).0 h.in_first;
            from_y = (met_too h.id).0 h.in_second;
            p_counts = counts;
            q_counts = counts;
            meet = inl refl;
          }

      pub two_share : Touch first second state.share → MayMeet state x y
      two_share t =
          let counts = share_counts t.a t.b t.differ t.pair in
          record {
            p = t.a;
            q = t.b;
            from_x = (met t.a).0 t.in_x;
            from_y = (met_too t.b).0 t.in_y;
            p_counts = counts.0;
            q_counts =
                counts.1;
            meet = inr t.pair;
          }

      -- without one in common two share
      pub must_share : list_any (in_both is_reference first second) state.cells ≡ false → MayMeet state x y
          → are_touched first second state.share ≡ true
      must_share none m = elim m.meet [
        | inl e ↦
            let there : IsIn second m.p = subst (λ (z : ℕ). IsIn second z) (sym e) ((met_too m.q).1 m.from_y) in
            absurd (false≢true (sym none ∙ both_from is_reference state.cells first second m.p ((met m.p).1 m.from_x) there
            (has_cell_to is_reference state m.p m.p_counts)))
        | inr s ↦ touch_from first second state.share m.p m.q ((met m.p).1 m.from_x) ((met_too m.q).1 m.from_y) s
      ]

    -- ---- in a region

    module _ (k : ℕ) (one hazy : List ℕ) (one_is : (n : ℕ) → has_id one n ≡ (n == k)) (hazy_is : (n : ℕ)
        → has_id hazy n ≡ (has_id first n && is_of_sort is_hazy (cell_at state n))) where
      pub shares_there : Touch one hazy state.share → SharesThere state k x
      shares_there t =
          let is : t.a ≡ k = eqb-true t.a k (sym (one_is t.a) ∙ t.in_x) in
          let p = and_parts (has_id first t.b) (is_of_sort is_hazy (cell_at state t.b)) (sym (hazy_is t.b) ∙ t.in_y) in
          record {
            q = t.b;
            from_x = (met t.b).0 p.0;
            hazy = has_cell_from is_hazy state t.b p.1;
            share = subst
                (λ (z : ℕ). Share state z t.b) is t.pair;
          }

      pub must_touch : has_id first k ≡ false → MayBeIn state k x → are_touched one hazy state.share ≡ true
      must_touch none m = elim m.there [
        | inl r ↦ absurd (false≢true (sym none ∙ (met k).1 r))
        | inr s ↦ touch_from one hazy state.share k s.q (one_is k ∙ eq-eqb k k refl)
            (hazy_is s.q ∙ and_from (has_id first s.q) (is_of_sort is_hazy (cell_at state s.q)) ((met s.q).1 s.from_x)
            (has_cell_to is_hazy state s.q s.hazy)) s.share
      ]

    -- ---- shapes

    pub no_cycles : (cyclic : Bool) → (cyclic ≡ false) ↔ IsDagFrom (cell_steps state) x → cyclic ≡ false
        → list_any (in_both (λ cell. may_have_cycle (shape_of cell)) first first) state.cells ≡ false → IsFiniteId state x
    no_cycles cyclic c e none = record {
      acyclic = λ p b h q k. c.0 e p b (counted_is_known state p x b h) q (counted_is_known state q b b k);
      hazy = λ q cell r at shape. false≢true (sym none ∙ both_from (λ cell. may_have_cycle (shape_of cell)) state.cells first first
          q ((met q).1 r) ((met q).1 r) (ap (is_of_sort (λ cell. may_have_cycle (shape_of cell))) at ∙ ap may_have_cycle shape));
    }

    dag_of : IsDagFrom (counted_steps state) x → IsDagFrom (cell_steps state) x
    dag_of d p b h [] k = refl
    dag_of d p b h (i ∷ q) k =
        let step = then_some (follow (cell_steps state) q) (cell_steps state b i) b k in
        d p b (counted_path Known state.cells p x b i step.0 h step.1.0) (i ∷ q)
        (counted_path Known state.cells (i ∷ q) b b i step.0 k step.1.0)

    pub has_cycle : (cyclic : Bool) → (cyclic ≡ false) ↔ IsDagFrom (cell_steps state) x → cyclic ≡ true → IsFiniteId state x → ⊥
    has_cycle cyclic c e f = false≢true (sym (c.1 (dag_of f.acyclic)) ∙ e)

    any_shape : (o : Option Shape) → may_have_cycle o ≡ true → o ≡ Some Any
    any_shape None e = absurd (false≢true e)
    any_shape (Some Tree) e = absurd (false≢true e)
    any_shape (Some Dag) e = absurd (false≢true e)
    any_shape (Some Any) e = refl

    pub has_wild : IsInBoth (λ cell. may_have_cycle (shape_of cell)) state.cells first first → IsFiniteId state x → ⊥
    has_wild h f =
        let k = has_cell_from (λ cell. may_have_cycle (shape_of cell)) state h.id h.is in
        f.hazy h.id k.cell ((met h.id).0 h.in_first) k.is (any_shape (shape_of k.cell) k.sort_is)

    tree_shape : (shape : Shape) → may_be_no_tree (Some shape) ≡ false → shape ≡ Tree
    tree_shape Tree e = refl
    tree_shape Dag e = absurd (false≢true (sym e))
    tree_shape Any e = absurd (false≢true (sym e))

    no_tree_shape : (o : Option Shape) → may_be_no_tree o ≡ true → (shape : Shape) × ((o ≡ Some shape) × (shape ≡ Tree → ⊥))
    no_tree_shape None e = absurd (false≢true e)
    no_tree_shape (Some Tree) e = absurd (false≢true e)
    no_tree_shape (Some Dag) e = (Dag, (refl, λ (f : Dag ≡ Tree). cc))
    no_tree_shape (Some Any) e = (Any, (refl, λ (f : Any ≡ Tree). cc))

    pub trees : (twice : Bool) → (twice ≡ false) ↔ IsTreeFrom (counted_steps state) x → twice ≡ false
        → list_any (in_both (λ cell. may_be_no_tree (shape_of cell)) first first) state.cells ≡ false
        → are_touched first first state.share ≡ false → IsTreeId state x
    trees twice t e none untouched = record {
      one_path = t.0 e;
      hazy = λ q cell shape r at is. tree_shape shape (no_such q cell shape r at is (cases_Bool (may_be_no_tree (Some shape))));
      apart = λ p q r s d share. false≢true (sym untouched ∙ touch_from first first state.share p q ((met p).1 r) ((met q).1 s) share);
    }
      where
        no_such : (q : ℕ) (cell : Cell) (shape : Shape) → KnownFrom state x q → cell_at state q ≡ Some cell
            → shape_of cell ≡ Some shape → (may_be_no_tree (Some shape) ≡ true) ⊎ (may_be_no_tree (Some shape) ≡ false)
            → may_be_no_tree (Some shape) ≡ false
        no_such q cell shape r at is (inr f) = f
        no_such q cell shape r at is (inl f) = absurd
            (false≢true (sym none ∙ both_from (λ cell. may_be_no_tree (shape_of cell)) state.cells first first q ((met q).1 r)
            ((met q).1 r) (ap (is_of_sort (λ cell. may_be_no_tree (shape_of cell))) at ∙ ap may_be_no_tree is ∙ f)))

    pub two_ways : (twice : Bool) → (twice ≡ false) ↔ IsTreeFrom (counted_steps state) x → twice ≡ true → IsTreeId state x → ⊥
    two_ways twice t e h = false≢true (sym (t.1 h.one_path) ∙ e)

    pub has_no_tree : IsInBoth (λ cell. may_be_no_tree (shape_of cell)) state.cells first first → IsTreeId state x → ⊥
    has_no_tree h t =
        let k = has_cell_from (λ cell. may_be_no_tree (shape_of cell)) state h.id h.is in
        let s = no_tree_shape (shape_of k.cell) k.sort_is in
        s.1.1 (t.hazy h.id k.cell s.0 ((met h.id).0 h.in_first) k.is s.1.0)

    pub sharing : Touch first first state.share → IsTreeId state x → ⊥
    sharing h t = t.apart h.a h.b ((met h.a).0 h.in_x) ((met h.b).0 h.in_y) h.differ h.pair

-- ---- the same, with what the code knows

pub touch_of : (x y : List ℕ) (held pairs : List (ℕ × ℕ)) (r : Bool) → held ≡ pairs → IsRising held → r ≡ are_touched x y held
    → r ≡ true → Touch x y pairs
touch_of x y held pairs r e rising v t = subst (λ (ps : List (ℕ × ℕ)). Touch x y ps) e (touch_there x y held rising (sym v ∙ t))

pub touched_of : (x y : List ℕ) (held pairs : List (ℕ × ℕ)) (r : Bool) → held ≡ pairs → r ≡ are_touched x y held
    → r ≡ are_touched x y pairs
touched_of x y held pairs r e v = v ∙ ap (are_touched x y) e

pub both_of : (test : Cell → Bool) (first second : List ℕ) (list cells : List (ℕ × Cell)) (r : Bool) → list ≡ cells
    → AreIdsRising 0 cells → r ≡ list_any (in_both test first second) list → r ≡ true → IsInBoth test cells first second
both_of test first second list cells r e rising v t = both_there test 0 cells first second rising
    (sym (v ∙ ap (list_any (in_both test first second)) e) ∙ t)

pub none_of : (test : Cell → Bool) (first second : List ℕ) (list cells : List (ℕ × Cell)) (r : Bool) → list ≡ cells
    → r ≡ list_any (in_both test first second) list → r ≡ false → list_any (in_both test first second) cells ≡ false
none_of test first second list cells r e v f = sym (v ∙ ap (list_any (in_both test first second)) e) ∙ f
