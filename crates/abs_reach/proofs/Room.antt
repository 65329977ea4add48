-- How much of a walk is left: it ends, and its trail is never longer than there are cells.
use Rattle.std.proofs.Common.{◌≡◌, ℕ, zero, suc, ◌+◌, ◌-◌, ◌<◌, ◌≤◌, eqb, Bool, true, false, cond, List, [], ◌∷◌, length, Option}
use Rattle.std.proofs.Common.{Some, None, inl, inr, refl, sym, ap, subst, ◌∙◌, arith, if◌then◌else◌}
use Rattle.std.specs.Option.{option_and_then}
use Rattle.std.specs.Prelude.{slice_get}
use Rattle.std.proofs.lemmas.Bool.{false≢true, cases_Bool, eqb-true, cond-true, cond-false}
use Rattle.std.proofs.lemmas.Option.{slice_get_within, none-some}
use Rattle.abs_cells.proofs.list_views.Options.{then_some}
use Rattle.jvm_values.proofs.Options.{some_is}
use Rattle.jvm_values.specs.Paths.{follow}
use Rattle.abs_cells.specs.declared.cells.Cell.{Cell}
use Rattle.abs_cells.specs.IdSets.{has_id}
use Rattle.abs_cells.specs.Cells.{is_of_sort, cell_in}
use Rattle.abs_cells.specs.Sound.{AreIdsRising}
use Rattle.abs_reach.specs.inner.Steps.{names_by, steps_in, AreNamedThere, IsIn}
use Rattle.abs_reach.specs.declared.find.Names.{Names}
use Rattle.abs_reach.specs.inner.Turns.{still, one, IsWith}
use Rattle.abs_reach.proofs.Searching.{put_here, put_keeps}

-- ---- cells that were not met

cond_most : (b : Bool) (n : ℕ) → cond b 0 n ≤ n
cond_most true n = omega arith
cond_most false n = omega arith

fewer_here : (n : ℕ) (b d : Bool) → (d ≡ true → b ≡ true) → cond b 0 n ≤ cond d 0 n
fewer_here n b true h = let e : cond b 0 n ≡ 0 = cond-true b 0 n (h refl) in omega (arith, e)
fewer_here n b false h = cond_most b n

pub fewer : (weight : Cell → ℕ) (cells : List (ℕ × Cell)) (now met : List ℕ) → ((n : ℕ) → IsIn met n → IsIn now n)
    → still weight cells now ≤ still weight cells met
fewer weight [] now met h = omega arith
fewer weight (c ∷ cells) now met h =
    let here = fewer_here (weight c.1) (has_id now c.0) (has_id met c.0) (h c.0) in
    let rest = fewer weight cells now met h in
    omega (arith, here, rest)

pub one_fewer : (weight : Cell → ℕ) (cells : List (ℕ × Cell)) (now met : List ℕ) (id : ℕ) (cell : Cell) → IsWith now met id
    → has_id met id ≡ false → cell_in cells id ≡ Some cell → still weight cells now + weight cell ≤ still weight cells met
one_fewer weight [] now met id cell w m e = absurd (none-some cell e)
one_fewer weight (c ∷ cells) now met id cell w m e = elim (cases_Bool (eqb c.0 id)) [
  | inl t ↦
      let is : c.1 ≡ cell = some_is (sym (ap (λ (b : Bool). if b then Some c.1 else cell_in cells id) t) ∙ e) in
      let at : c.0 ≡ id = eqb-true c.0 id t in
      let gone : cond (has_id now c.0) 0 (weight c.1) ≡ 0 = cond-true (has_id now c.0) 0 (weight c.1)
      (ap (has_id now) at ∙ put_here now met id w) in
      let was : cond (has_id met c.0) 0 (weight c.1) ≡ weight cell = cond-false (has_id met c.0) 0 (weight c.1)
      (ap (has_id met) at ∙ m) ∙ ap weight is in
      let rest = fewer weight cells now met (λ n k. put_keeps now met id n w k) in
      omega (arith, gone, was, rest)
  | inr t ↦
      let there : cell_in cells id ≡ Some cell = sym (ap (λ (b : Bool). if b then Some c.1 else cell_in cells id) t) ∙ e in
      let here = fewer_here (weight c.1) (has_id now c.0) (has_id met c.0) (put_keeps now met id c.0 w) in
      let rest = one_fewer weight cells now met id cell w m there in
      omega (arith, here, rest)
]

pub not_none : (cells : List (ℕ × Cell)) (met : List ℕ) (id : ℕ) (cell : Cell) → has_id met id ≡ false
    → cell_in cells id ≡ Some cell → 1 ≤ still one cells met
not_none [] met id cell m e = absurd (none-some cell e)
not_none (c ∷ cells) met id cell m e = elim (cases_Bool (eqb c.0 id)) [
  | inl t ↦
      let was = cond-false {A = ℕ} (has_id met c.0) 0 1 (ap (has_id met) (eqb-true c.0 id t) ∙ m) in
      omega (arith, was)
  | inr t ↦
      let h = not_none cells met id cell m (sym (ap (λ (b : Bool). if b then Some c.1 else cell_in cells id) t) ∙ e) in
      omega (arith, h)
]

pub at_most_all : (cells : List (ℕ × Cell)) (met : List ℕ) → still one cells met ≤ length cells
at_most_all [] met = omega arith
at_most_all (c ∷ cells) met = let here = cond_most (has_id met c.0) 1 in let rest = at_most_all cells met in omega (arith, here, rest)

count_from : (low : ℕ) (cells : List (ℕ × Cell)) → low ≤ 2048 → AreIdsRising low cells → low + length cells ≤ 2048
count_from low [] l r = omega (arith, l)
count_from low (c ∷ cells) l r = let h = count_from (suc c.0) cells (omega (arith, r.1.0)) r.1.1 in omega (arith, h, r.0)

pub count_low : (cells : List (ℕ × Cell)) → AreIdsRising 0 cells → length cells ≤ 2048
count_low cells r = let h = count_from 0 cells (omega arith) r in omega (arith, h)

id_low : (low : ℕ) (cells : List (ℕ × Cell)) (id : ℕ) (cell : Cell) → AreIdsRising low cells → cell_in cells id ≡ Some cell → id < 2048
id_low low [] id cell r e = absurd (none-some cell e)
id_low low (c ∷ cells) id cell r e = elim (cases_Bool (eqb c.0 id)) [
  | inl t ↦ let at : c.0 ≡ id = eqb-true c.0 id t in omega (arith, at, r.1.0)
  | inr t ↦ id_low (suc c.0) cells id cell r.1.1 (sym (ap (λ (b : Bool). if b then Some c.1 else cell_in cells id) t) ∙ e)
]

pub the_cell : (o : Option Cell) → is_of_sort (λ _. true) o ≡ true → (cell : Cell) × (o ≡ Some cell)
the_cell None e = absurd (false≢true e)
the_cell (Some cell) e = (cell, refl)

pub has_cell_low : (cells : List (ℕ × Cell)) (id : ℕ) → AreIdsRising 0 cells → is_of_sort (λ _. true) (cell_in cells id) ≡ true → id < 2048
has_cell_low cells id r e = let c = the_cell (cell_in cells id) e in id_low 0 cells id c.0 r c.1

module _ (names : Names) where
  -- ids that are reached have cells
  pub reached_there : (cells : List (ℕ × Cell)) → AreNamedThere names cells → (path : List ℕ) (x y : ℕ)
      → is_of_sort (λ _. true) (cell_in cells x) ≡ true → follow (steps_in names cells) path x ≡ Some y
      → is_of_sort (λ _. true) (cell_in cells y) ≡ true
  reached_there cells named [] x y h e = subst (λ (z : ℕ). is_of_sort (λ _. true) (cell_in cells z) ≡ true) (some_is e) h
  reached_there cells named (i ∷ path) x y h e =
      let p = then_some (follow (steps_in names cells) path) (steps_in names cells x i) y e in
      reached_there cells named path p.0 y (named x i p.0 p.1.0) p.1.1

  -- ---- steps that were not gone

  abbrev pub names_of : Option Cell → List ℕ
  names_of None = []
  names_of (Some cell) = names_by names cell

  abbrev pub ahead : List (ℕ × Cell) → List (ℕ × ℕ) → ℕ
  ahead cells [] = 0
  ahead cells (e ∷ trail) = (length (names_of (cell_in cells e.0)) - e.1 + 1) + ahead cells trail

  abbrev pub work : Cell → ℕ
  work cell = length (names_by names cell) + 2

  pub step_within : (o : Option Cell) (i c : ℕ) → option_and_then (λ cell. slice_get (names_by names cell) i) o ≡ Some c
      → i < length (names_of o)
  step_within None i c e = absurd (none-some c e)
  step_within (Some cell) i c e = slice_get_within (names_by names cell) i c e

  get_past : (xs : List ℕ) (i j : ℕ) → slice_get xs i ≡ None → i ≤ j → slice_get xs j ≡ None
  get_past [] i j e l = refl
  get_past (x ∷ xs) zero j e l = absurd (none-some x (sym e))
  get_past (x ∷ xs) (suc i) zero e l = absurd (omega (arith, l))
  get_past (x ∷ xs) (suc i) (suc j) e l = get_past xs i j e (omega (arith, l))

  pub no_step_past : (o : Option Cell) (i j : ℕ) → option_and_then (λ cell. slice_get (names_by names cell) i) o ≡ None → i ≤ j
      → option_and_then (λ cell. slice_get (names_by names cell) j) o ≡ None
  no_step_past None i j e l = refl
  no_step_past (Some cell) i j e l = get_past (names_by names cell) i j e l
