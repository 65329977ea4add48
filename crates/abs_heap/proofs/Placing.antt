-- Cells put at their places among cells that rise.
use Rattle.std.proofs.Common.{◌≡◌, ℕ, zero, suc, ◌+◌, ◌<◌, ◌≤◌, true, eqb, ltb, List, [], ◌∷◌, ◌++◌, length, get_or, drop, map}
use Rattle.std.proofs.Common.{take, Option, Some, None, All, ◌⊎◌, inl, inr, refl, sym, ap, subst, ◌∙◌, arith, eq-eqb, drop-cons}
use Rattle.std.proofs.Common.{add-one}
use Rattle.std.specs.Prelude.{slice_get, ◌↔◌, ◌==◌}
use Rattle.std.specs.List.{insert}
use Rattle.std.proofs.lemmas.Bool.{false≢true, eqb-true, ltb-true, lt-ltb, ne_eqb, cond-true, cond-false, cases_Bool, cases_eq}
use Rattle.std.proofs.lemmas.List.{drop_all, map_more}
use Rattle.std.proofs.lemmas.Option.{slice_get-get_or, none-some}
use Rattle.jvm_values.proofs.Options.{some_is}
use Rattle.abs_cells.specs.declared.cells.Cell.{Cell}
use Rattle.abs_cells.specs.Cells.{cell_in}
use Rattle.abs_cells.specs.Sound.{AreIdsRising}
use Rattle.abs_cells.proofs.Checking.{id_is_low}
use Rattle.abs_heap.specs.Names.{name_in}
use Rattle.abs_heap.specs.Given.{first_cell}
use Rattle.abs_heap.specs.inner.Building.{place_in, IsIdAt, IsOver}

-- ---- looks

pub cell_here : (c : ℕ × Cell) (cells : List (ℕ × Cell)) (id : ℕ) → c.0 ≡ id → cell_in (c ∷ cells) id ≡ Some c.1
cell_here c cells id e = cond-true (eqb c.0 id) _ _ (eq-eqb c.0 id e)

pub cell_later : (c : ℕ × Cell) (cells : List (ℕ × Cell)) (id : ℕ) → (c.0 ≡ id → ⊥) → cell_in (c ∷ cells) id ≡ cell_in cells id
cell_later c cells id n = cond-false (eqb c.0 id) _ _ (ne_eqb c.0 id n)

pub absent : (low : ℕ) (cells : List (ℕ × Cell)) (id : ℕ) → AreIdsRising low cells → id < low → cell_in cells id ≡ None
absent low [] id r l = refl
absent low (c ∷ cells) id r l = cell_later c cells id (λ e. omega (arith, r.0, l, e))
    ∙ absent (suc c.0) cells id r.1.1 (omega (arith, r.0, l))

pub low_there : (low : ℕ) (cells : List (ℕ × Cell)) (id k : ℕ) (cell : Cell) → AreIdsRising low cells
    → slice_get cells k ≡ Some (id, cell) → low ≤ id
low_there low [] id k cell r e = absurd (none-some (id, cell) e)
low_there low (c ∷ cells) id zero cell r e = let f : c.0 ≡ id = ap (λ (x : ℕ × Cell). x.0) (some_is e) in omega (arith, r.0, f)
low_there low (c ∷ cells) id (suc k) cell r e = let h = low_there (suc c.0) cells id k cell r.1.1 e in omega (arith, r.0, h)

pub cell_there : (low : ℕ) (cells : List (ℕ × Cell)) (id k : ℕ) (cell : Cell) → AreIdsRising low cells
    → slice_get cells k ≡ Some (id, cell) → cell_in cells id ≡ Some cell
cell_there low [] id k cell r e = absurd (none-some (id, cell) e)
cell_there low (c ∷ cells) id zero cell r e = cell_here c cells id (ap (λ (x : ℕ × Cell). x.0) (some_is e))
    ∙ ap (λ (x : ℕ × Cell). Some x.1) (some_is e)
cell_there low (c ∷ cells) id (suc k) cell r e =
    let h = low_there (suc c.0) cells id k cell r.1.1 e in
    cell_later c cells id (λ s. omega (arith, h, s)) ∙ cell_there (suc c.0) cells id k cell r.1.1 e

-- ---- places

place_later : (id : ℕ) (c : ℕ × Cell) (cells : List (ℕ × Cell)) → c.0 < id → place_in id (c ∷ cells) ≡ suc (place_in id cells)
place_later id c cells l = cond-true (ltb c.0 id) _ _ (lt-ltb c.0 id l)

place_here : (id : ℕ) (c : ℕ × Cell) (cells : List (ℕ × Cell)) → id ≤ c.0 → place_in id (c ∷ cells) ≡ 0
place_here id c cells l = elim (cases_Bool (ltb c.0 id)) [
  | inl e ↦ absurd (omega (arith, ltb-true c.0 id e, l))
  | inr e ↦ cond-false (ltb c.0 id) _ _ e
]

pub gone_by : (id : ℕ) (cells : List (ℕ × Cell)) (i : ℕ) (d : ℕ × Cell) → i < length cells → (get_or cells i d).0 < id
    → place_in id cells ≡ i + place_in id (drop i cells) → place_in id cells ≡ (i + 1) + place_in id (drop (i + 1) cells)
gone_by id cells i d l b e =
    let step : place_in id (drop i cells) ≡ suc (place_in id (drop (suc i) cells)) = rw (drop-cons cells i d)
    (place_later id (get_or cells i d) (drop (suc i) cells) b) in
    rw add-one (omega (arith, e, step))

pub found_place : (id : ℕ) (cells : List (ℕ × Cell)) (i : ℕ) (d : ℕ × Cell) → i < length cells → id ≤ (get_or cells i d).0
    → place_in id cells ≡ i + place_in id (drop i cells) → i ≡ place_in id cells
found_place id cells i d l b e =
    let stop : place_in id (drop i cells) ≡ 0 = rw (drop-cons cells i d) (place_here id (get_or cells i d) (drop (suc i) cells) b) in
    omega (arith, e, stop)

pub at_the_end : (id : ℕ) (cells : List (ℕ × Cell)) (i : ℕ) → length cells ≤ i → i ≤ length cells
    → place_in id cells ≡ i + place_in id (drop i cells) → length cells ≡ place_in id cells
at_the_end id cells i l m e =
    let stop : place_in id (drop i cells) ≡ 0 = rw (drop_all i cells l) refl in
    omega (arith, e, stop, l, m)

pub place_within : (id : ℕ) (cells : List (ℕ × Cell)) → place_in id cells ≤ length cells
place_within id [] = omega arith
place_within id (c ∷ cells) = elim (cases_Bool (ltb c.0 id)) [
  | inl e ↦ omega (arith, place_later id c cells (ltb-true c.0 id e), place_within id cells)
  | inr e ↦ let h : place_in id (c ∷ cells) ≡ 0 = cond-false (ltb c.0 id) _ _ e in omega (arith, h)
]

-- ---- a cell put in

one_cell : ℕ → ℕ → Cell → Option Cell
one_cell n id cell = cell_in ((id, cell) ∷ []) n

pub first_of_none : (o : Option Cell) → first_cell o None ≡ o
first_of_none None = refl
first_of_none (Some c) = refl

pub first_grouped : (a b c : Option Cell) → first_cell (first_cell a b) c ≡ first_cell a (first_cell b c)
first_grouped None b c = refl
first_grouped (Some x) b c = refl

not_here : (c : ℕ × Cell) (cells : List (ℕ × Cell)) (id : ℕ) → (IsIdAt (c ∷ cells) 0 id → ⊥) → c.0 ≡ id → ⊥
not_here c cells id h e = h (c.1, ap (λ (n : ℕ). Some (n, c.1)) e)

-- where the id has no cell at its place, in it goes
pub inserted_rises : (low : ℕ) (cells : List (ℕ × Cell)) (id : ℕ) (cell : Cell) → AreIdsRising low cells → low ≤ id → id < 2048
    → (IsIdAt cells (place_in id cells) id → ⊥) → AreIdsRising low (insert cells (place_in id cells) (id, cell))
inserted_rises low [] id cell r l m h = (l, (m, tt))
inserted_rises low (c ∷ cells) id cell r l m h = elim (cases_Bool (ltb c.0 id)) [
  | inl e ↦
      let p = place_later id c cells (ltb-true c.0 id e) in
      subst (λ (k : ℕ). AreIdsRising low (insert (c ∷ cells) k (id, cell))) (sym p) (
        r.0,
        (
          r.1.0,
          inserted_rises (suc c.0) cells id cell r.1.1 (let h = ltb-true c.0 id e in omega (arith, h)) m
              (λ s. h (subst (λ (k : ℕ). IsIdAt (c ∷ cells) k id) (sym p) s)),
        ),
      )
  | inr e ↦
      let p : place_in id (c ∷ cells) ≡ 0 = cond-false (ltb c.0 id) _ _ e in
      let apart : c.0 ≡ id → ⊥ = not_here c cells id (λ s. h (subst (λ (k : ℕ). IsIdAt (c ∷ cells) k id) (sym p) s)) in
      let not_below : c.0 < id → ⊥ = λ b. false≢true (sym e ∙ lt-ltb c.0 id b) in
      let above : suc id ≤ c.0 = omega (arith, apart, not_below) in
      subst (λ (k : ℕ). AreIdsRising low (insert (c ∷ cells) k (id, cell))) (sym p) (l, (m, (above, (r.1.0, r.1.1))))
]

pub inserted_is : (low : ℕ) (cells : List (ℕ × Cell)) (id : ℕ) (cell : Cell) → AreIdsRising low cells
    → (IsIdAt cells (place_in id cells) id → ⊥) → (n : ℕ)
    → cell_in (insert cells (place_in id cells) (id, cell)) n ≡ first_cell (cell_in cells n) (cell_in ((id, cell) ∷ []) n)
inserted_is low [] id cell r h n = refl
inserted_is low (c ∷ cells) id cell r h n = elim (cases_Bool (ltb c.0 id)) [
  | inl e ↦
      let p = place_later id c cells (ltb-true c.0 id e) in
      ap (λ (k : ℕ). cell_in (insert (c ∷ cells) k (id, cell)) n) p
      ∙ elim (cases_eq c.0 n) [
        | inl s ↦ cell_here c (insert cells (place_in id cells) (id, cell)) n s
            ∙ ap (λ (o : Option Cell). first_cell o (cell_in ((id, cell) ∷ []) n)) (sym (cell_here c cells n s))
        | inr s ↦ cell_later c (insert cells (place_in id cells) (id, cell)) n s
            ∙ inserted_is (suc c.0) cells id cell r.1.1 (λ s. h (subst (λ (k : ℕ). IsIdAt (c ∷ cells) k id) (sym p) s)) n
            ∙ ap (λ (o : Option Cell). first_cell o (cell_in ((id, cell) ∷ []) n)) (sym (cell_later c cells n s))
      ]
  | inr e ↦
      let p : place_in id (c ∷ cells) ≡ 0 = cond-false (ltb c.0 id) _ _ e in
      let apart : c.0 ≡ id → ⊥ = not_here c cells id (λ s. h (subst (λ (k : ℕ). IsIdAt (c ∷ cells) k id) (sym p) s)) in
      let not_below : c.0 < id → ⊥ = λ b. false≢true (sym e ∙ lt-ltb c.0 id b) in
      let above : id < c.0 = omega (arith, apart, not_below) in
      ap (λ (k : ℕ). cell_in (insert (c ∷ cells) k (id, cell)) n) p
      ∙ elim (cases_eq id n) [
        | inl s ↦
            let none : cell_in (c ∷ cells) n ≡ None = absent c.0 (c ∷ cells) n (omega arith, (r.1.0, r.1.1)) (omega (arith, above, s)) in
            cell_here (id, cell) (c ∷ cells) n s ∙ ap (λ (o : Option Cell). first_cell o (Some cell)) (sym none)
            ∙ ap (λ (o : Option Cell). first_cell (cell_in (c ∷ cells) n) o) (sym (cell_here (id, cell) [] n s))
        | inr s ↦ cell_later (id, cell) (c ∷ cells) n s ∙ sym (first_of_none (cell_in (c ∷ cells) n))
            ∙ ap (λ (o : Option Cell). first_cell (cell_in (c ∷ cells) n) o) (sym (cell_later (id, cell) [] n s))
      ]
]

pub put_in : (cells : List (ℕ × Cell)) (id place : ℕ) (cell : Cell) (all : List (ℕ × Cell)) → AreIdsRising 0 cells → id < 2048
    → place ≡ place_in id cells → (IsIdAt cells place id → ⊥) → all ≡ insert cells place (id, cell) → IsOver cells ((id, cell) ∷ []) all
put_in cells id place cell all r l e h f =
    let n : IsIdAt cells (place_in id cells) id → ⊥ = λ s. h (subst (λ (k : ℕ). IsIdAt cells k id) (sym e) s) in
    let is : all ≡ insert cells (place_in id cells) (id, cell) = f ∙ ap (λ (k : ℕ). insert cells k (id, cell)) e in
    subst (λ (xs : List (ℕ × Cell)). IsOver cells ((id, cell) ∷ []) xs) (sym is) (record {
      rising = inserted_rises 0 cells id cell r (omega arith) l n;
      is = inserted_is 0 cells id cell r n;
    })

pub stays_out : (cells : List (ℕ × Cell)) (id place : ℕ) (cell : Cell) → AreIdsRising 0 cells → IsIdAt cells place id
    → IsOver cells ((id, cell) ∷ []) cells
stays_out cells id place cell r h = record {
  rising = r;
  is = λ n. elim (cases_eq id n) [
    | inl s ↦
        let there : cell_in cells n ≡ Some h.0 = ap (λ (i : ℕ). cell_in cells i) (sym s) ∙ cell_there 0 cells id place h.0 r h.1 in
        there ∙ ap (λ (o : Option Cell). first_cell o (cell_in ((id, cell) ∷ []) n)) (sym there)
    | inr s ↦ sym (first_of_none (cell_in cells n)) ∙ ap (λ (o : Option Cell). first_cell (cell_in cells n) o)
        (sym (cell_later (id, cell) [] n s))
  ];
}

-- ---- cells put in one after another

pub joined_is : (xs ys : List (ℕ × Cell)) (n : ℕ) → cell_in (xs ++ ys) n ≡ first_cell (cell_in xs n) (cell_in ys n)
joined_is [] ys n = refl
joined_is (c ∷ xs) ys n = elim (cases_eq c.0 n) [
  | inl s ↦ cell_here c (xs ++ ys) n s ∙ ap (λ (o : Option Cell). first_cell o (cell_in ys n)) (sym (cell_here c xs n s))
  | inr s ↦ cell_later c (xs ++ ys) n s ∙ joined_is xs ys n ∙ ap (λ (o : Option Cell). first_cell o (cell_in ys n))
      (sym (cell_later c xs n s))
]

pub over_none : (cells : List (ℕ × Cell)) → AreIdsRising 0 cells → IsOver cells [] cells
over_none cells r = record { rising = r; is = λ n. sym (first_of_none (cell_in cells n)) }

pub over_more : (cells xs ys some all : List (ℕ × Cell)) → IsOver cells xs some → IsOver some ys all → IsOver cells (xs ++ ys) all
over_more cells xs ys some all h k = record {
  rising = k.rising;
  is = λ n. k.is n ∙ ap (λ (o : Option Cell). first_cell o (cell_in ys n)) (h.is n)
      ∙ first_grouped (cell_in cells n) (cell_in xs n) (cell_in ys n) ∙ ap (λ (o : Option Cell). first_cell (cell_in cells n) o)
      (sym (joined_is xs ys n));
}

-- one turn of a loop over a list: what was put in is the front of the list
pub over_next : {X : Type 0} (f : X → ℕ × Cell) (list : List X) (i : ℕ) (x : X) (entry : ℕ × Cell)
    (cells some all : List (ℕ × Cell)) → i < length list → x ≡ get_or list i x → entry ≡ f x
    → IsOver cells (map f (take i list)) some → IsOver some (entry ∷ []) all → IsOver cells (map f (take (i + 1) list)) all
over_next f list i x entry cells some all l is e h k =
    subst (λ (xs : List (ℕ × Cell)). IsOver cells xs all) (sym (map_more f list i x l))
    (over_more cells (map f (take i list)) (f (get_or list i x) ∷ []) some all h
    (subst (λ (c : ℕ × Cell). IsOver some (c ∷ []) all) (e ∙ ap f is) k))

-- ---- as code reads it

pub id_there : (cells : List (ℕ × Cell)) (place id : ℕ) (x : ℕ × Cell) → place < length cells → x ≡ get_or cells place x → x.0 ≡ id
    → IsIdAt cells place id
id_there cells place id x l is e = (x.1, slice_get-get_or cells place x l ∙ ap Some (sym is) ∙ ap (λ (n : ℕ). Some (n, x.1)) e)

pub id_back : (cells : List (ℕ × Cell)) (place id : ℕ) (x : ℕ × Cell) → place < length cells → x ≡ get_or cells place x
    → IsIdAt cells place id → x.0 ≡ id
id_back cells place id x l is (cell, e) =
    let same : x ≡ (id, cell) = some_is (ap Some is ∙ sym (slice_get-get_or cells place x l) ∙ e) in
    ap (λ (c : ℕ × Cell). c.0) same

abbrev pub entry_of : ℕ → Cell → ℕ × Cell
entry_of id cell = (id, cell)

pub id_at : (cells : List (ℕ × Cell)) (place id : ℕ) (x : ℕ × Cell) → place < length cells → x ≡ get_or cells place x
    → ((x.0 == id) ≡ true) ↔ IsIdAt cells place id
id_at cells place id x l is =
    (λ t. id_there cells place id x l is (eqb-true x.0 id t), λ h. eq-eqb x.0 id (id_back cells place id x l is h))

pub same_entry : (a b : ℕ) (c d : Cell) → a ≡ b → c ≡ d → entry_of a c ≡ entry_of b d
same_entry a b c d e f = ap (λ (n : ℕ). entry_of n c) e ∙ ap (λ (x : Cell). entry_of b x) f

pub cells_low : (cells : List (ℕ × Cell)) → AreIdsRising 0 cells → All (λ c. name_in [] c.0 < 2048) cells
cells_low cells r = λ k d l. id_is_low 0 cells k d r l

pub over_cell : (start some : List (ℕ × Cell)) (id : ℕ) (c d : Cell) → c ≡ d → IsOver start ((id, c) ∷ []) some
    → IsOver start ((id, d) ∷ []) some
over_cell start some id c d e h = subst (λ (x : Cell). IsOver start ((id, x) ∷ []) some) e h
