-- How a walk begins.
use Rattle.std.proofs.Common.{◌≡◌, ℕ, zero, suc, ◌+◌, ◌<◌, ◌≤◌, ◌&&◌, ◌||◌, ◌==◌, eqb, Bool, true, false, List, [], ◌∷◌, length}
use Rattle.std.proofs.Common.{get_or, take, Some, inl, inr, refl, sym, ap, subst, ◌∙◌, arith, eq-eqb, ne_eqb, if◌then◌else◌}
use Rattle.std.specs.Prelude.{◌↔◌}
use Rattle.std.specs.List.{list_any}
use Rattle.std.proofs.lemmas.Bool.{false≢true, cases_eq, and_parts, and_from}
use Rattle.abs_reach.proofs.Answering.{none_hazy}
use Rattle.abs_cells.proofs.list_views.Truths.{or_false, and_true, and_false, or_swapped}
use Rattle.jvm_values.specs.Paths.{Steps, Reaches}
use Rattle.abs_cells.specs.declared.cells.Cell.{Cell}
use Rattle.abs_cells.specs.IdSets.{has_id}
use Rattle.abs_cells.specs.Cells.{is_of_sort, cell_in}
use Rattle.abs_cells.specs.Sound.{AreIdsRising}
use Rattle.abs_reach.specs.declared.find.Names.{Names}
use Rattle.abs_reach.specs.declared.walk.Found.{Found}
use Rattle.abs_reach.specs.inner.Steps.{steps_in, IsIn, IsReachedFrom, IsReachedInside}
use Rattle.abs_reach.specs.inner.Turns.{IsWith, one, IsBegun}
use Rattle.abs_reach.proofs.Finding.{rises, stands}
use Rattle.abs_reach.proofs.Room.{one_fewer, not_none, at_most_all, count_low, the_cell}
use Rattle.abs_reach.proofs.Searching.{put_here, put_keeps, put_only}

pub begun_none : (cells : List (ℕ × Cell)) (found : Found) (trail : List (ℕ × ℕ)) → trail ≡ []
    → ((n : ℕ) → has_id found.met n ≡ false) → ((n : ℕ) → has_id found.left n ≡ false) → found.cyclic ≡ false → found.twice ≡ false
    → IsBegun cells found trail
begun_none cells found trail e m l c t = subst (λ (ts : List (ℕ × ℕ)). IsBegun cells found ts) (sym e) (record {
  on = λ a h. absurd (false≢true (sym (m a) ∙ h));
  met = λ a o. absurd o;
  apart = tt;
  fresh = λ a i p. p;
  there = λ a h. absurd (false≢true (sym (m a) ∙ h));
  left = l;
  cyclic = c;
  twice = t;
  room = let h = at_most_all cells found.met in omega (arith, h);
})

pub begun_more : (cells : List (ℕ × Cell)) (found : Found) (now : List ℕ) (trail next : List (ℕ × ℕ)) (id : ℕ)
    → has_id found.met id ≡ false → is_of_sort (λ _. true) (cell_in cells id) ≡ true → IsBegun cells found trail
    → IsWith now found.met id → next ≡ (id, 0) ∷ trail
    → IsBegun cells (record { met = now; left = found.left; cyclic = found.cyclic; twice = found.twice }) next
begun_more cells found now trail next id new there b w e = subst
    (λ (ts : List (ℕ × ℕ)). IsBegun cells (record { met = now; left = found.left; cyclic = found.cyclic; twice = found.twice }) ts)
    (sym e) (record {
      on = λ a h. elim (put_only now found.met id a w h) [ inl s ↦ inl (sym s) | inr k ↦ inr (b.on a k) ];
      met = λ a o. elim o [
        | inl s ↦ subst (λ (y : ℕ). IsIn now y) s (put_here now found.met id w)
        | inr k ↦ put_keeps now found.met id a w (b.met a k)
      ];
      apart = (λ o. false≢true (sym new ∙ b.met id o), b.apart);
      fresh = λ a i p. elim p [ inl h ↦ absurd (omega (arith, h.1)) | inr h ↦ b.fresh a i h ];
      there = λ a h. elim (put_only now found.met id a w h) [
        | inl s ↦ subst (λ (y : ℕ). is_of_sort (λ _. true) (cell_in cells y) ≡ true) (sym s) there
        | inr k ↦ b.there a k
      ];
      left = b.left;
      cyclic = b.cyclic;
      twice = b.twice;
      room =
          let cell = the_cell (cell_in cells id) there in
          let h = one_fewer one cells now found.met id cell.0 w new cell.1 in
          let r = b.room in
          omega (arith, h, r);
    })

pub reached_one : (steps : Steps) (none met : List ℕ) (start id : ℕ) → ((n : ℕ) → has_id none n ≡ false) → IsWith met none start
    → IsReachedFrom steps met id ↔ Reaches steps start id
reached_one steps none met start id e w = (
  λ r. elim (put_only met none start r.from w r.starts) [
    | inl s ↦ subst (λ (y : ℕ). Reaches steps y id) s r.reaches
    | inr k ↦ absurd (false≢true (sym (e r.from) ∙ k))
  ],
  λ r. record { from = start; starts = put_here met none start w; reaches = r },
)

pub reached_inside : (names : Names) (cells : List (ℕ × Cell)) (starts met : List ℕ) (id : ℕ)
    → ((n : ℕ) → has_id met n ≡ (has_id starts n && is_of_sort (λ _. true) (cell_in cells n)))
    → IsReachedFrom (steps_in names cells) met id ↔ IsReachedInside names cells starts id
reached_inside names cells starts met id e = (
  λ r.
      let p = and_parts (has_id starts r.from) (is_of_sort (λ _. true) (cell_in cells r.from)) (sym (e r.from) ∙ r.starts) in
      record { from = r.from; starts = p.0; there = p.1; reaches = r.reaches },
  λ r. record {
    from = r.from;
    starts = e r.from ∙ and_from (has_id starts r.from) (is_of_sort (λ _. true) (cell_in cells r.from))
        r.starts r.there;
    reaches = r.reaches;
  },
)

-- ---- at the ids of a set, one after another

abbrev pub is_start : List ℕ → ℕ → ℕ × Cell → Bool
is_start starts n c = (c.0 == n) && has_id starts c.0

absorbed : (h b : Bool) → (h || (h && b)) ≡ (h && true)
absorbed true b = refl
absorbed false b = refl

pub starts_are : (starts : List ℕ) (n : ℕ) (cells : List (ℕ × Cell))
    → list_any (is_start starts n) cells ≡ (has_id starts n && is_of_sort (λ _. true) (cell_in cells n))
starts_are starts n [] = none_hazy (has_id starts n)
starts_are starts n (c ∷ cells) = elim (cases_eq c.0 n) [
  | inl e ↦
      let t : eqb c.0 n ≡ true = eq-eqb c.0 n e in
      ap (λ (b : Bool). (b && has_id starts c.0) || list_any (is_start starts n) cells) t
      ∙ ap (λ (y : ℕ). has_id starts y || list_any (is_start starts n) cells) e
      ∙ ap (λ (b : Bool). has_id starts n || b) (starts_are starts n cells)
      ∙ absorbed (has_id starts n) (is_of_sort (λ _. true) (cell_in cells n))
      ∙ sym (ap (λ (b : Bool). has_id starts n && is_of_sort (λ _. true) (if b then Some c.1 else cell_in cells n)) t)
  | inr d ↦
      let t : eqb c.0 n ≡ false = ne_eqb c.0 n d in
      ap (λ (b : Bool). (b && has_id starts c.0) || list_any (is_start starts n) cells) t
      ∙ starts_are starts n cells
      ∙ sym (ap (λ (b : Bool). has_id starts n && is_of_sort (λ _. true) (if b then Some c.1 else cell_in cells n)) t)
]

pub none_before : (starts : List ℕ) (low : ℕ) (cells : List (ℕ × Cell)) (k : ℕ) (d : ℕ × Cell) → AreIdsRising low cells
    → k < length cells → list_any (is_start starts (get_or cells k d).0) (take k cells) ≡ false
none_before starts low [] k d r l = absurd (omega (arith, l))
none_before starts low (c ∷ cells) zero d r l = refl
none_before starts low (c ∷ cells) (suc k) d r l =
    let up = rises low (c ∷ cells) 0 (suc k) d r (omega arith) l in
    let t : eqb c.0 (get_or cells k d).0 ≡ false = ne_eqb c.0 (get_or cells k d).0
    (λ (e : c.0 ≡ (get_or cells k d).0). omega (arith, up, e)) in
    ap (λ (b : Bool). (b && has_id starts c.0) || list_any (is_start starts (get_or cells k d).0) (take k cells)) t
    ∙ none_before starts (suc c.0) cells k d r.1.1 (omega (arith, l))

module _ (cells : List (ℕ × Cell)) (starts : List ℕ) (k : ℕ) (c : ℕ × Cell) (rising : AreIdsRising 0 cells) (l : k < length cells)
    (is : c ≡ get_or cells k c) where
  pub item_there : is_of_sort (λ _. true) (cell_in cells c.0) ≡ true
  item_there = ap (is_of_sort (λ _. true)) (stands 0 cells c.0 k c rising l (ap (λ (x : ℕ × Cell). x.0) (sym is)))

  pub item_new : (met : List ℕ) → ((n : ℕ) → has_id met n ≡ list_any (is_start starts n) (take k cells)) → has_id met c.0 ≡ false
  item_new met e = e c.0 ∙ ap (λ (x : ℕ × Cell). list_any (is_start starts x.0) (take k cells)) is
      ∙ none_before starts 0 cells k c rising l

  pub item_room : (found : Found) (trail : List (ℕ × ℕ)) (room : ℕ) → IsBegun cells found trail → 2048 ≤ room
      → has_id found.met c.0 ≡ false → length trail < room
  item_room found trail room b m new =
      let cell = the_cell (cell_in cells c.0) item_there in
      let left = not_none cells found.met c.0 cell.0 new cell.1 in
      let all = count_low cells rising in
      let r = b.room in
      omega (arith, m, left, all, r)

-- ---- one item more

or_grouped : (x y z : Bool) → (x || (y || z)) ≡ ((x || y) || z)
or_grouped true y z = refl
or_grouped false y z = refl

any_take : (p : ℕ × Cell → Bool) (cells : List (ℕ × Cell)) (k : ℕ) (d : ℕ × Cell) → k < length cells
    → list_any p (take (suc k) cells) ≡ (list_any p (take k cells) || p (get_or cells k d))
any_take p [] k d l = absurd (omega (arith, l))
any_take p (c ∷ cells) zero d l = or_false (p c)
any_take p (c ∷ cells) (suc k) d l = ap (λ (b : Bool). p c || b) (any_take p cells k d (omega (arith, l)))
    ∙ or_grouped (p c) (list_any p (take k cells)) (p (get_or cells k d))

eqb_turned : (a b : ℕ) → eqb a b ≡ eqb b a
eqb_turned a b = elim (cases_eq a b) [
  | inl e ↦ eq-eqb a b e ∙ sym (eq-eqb b a (sym e))
  | inr d ↦ ne_eqb a b d ∙ sym (ne_eqb b a (λ (e : b ≡ a). d (sym e)))
]

module _ (starts : List ℕ) (cells : List (ℕ × Cell)) (k : ℕ) (c : ℕ × Cell) (l : k < length cells) (is : c ≡ get_or cells k c)
    (met : List ℕ) (before : (n : ℕ) → has_id met n ≡ list_any (is_start starts n) (take k cells)) where
  with_item : (n : ℕ) (b : Bool) → has_id starts c.0 ≡ b
      → list_any (is_start starts n) (take (k + 1) cells) ≡ (has_id met n || ((c.0 == n) && b))
  with_item n b e =
      let next : k + 1 ≡ suc k = omega arith in
      ap (λ (m : ℕ). list_any (is_start starts n) (take m cells)) next ∙ any_take (is_start starts n) cells k c l
      ∙ ap (λ (x : ℕ × Cell). list_any (is_start starts n) (take k cells) || is_start starts n x) (sym is)
      ∙ ap (λ (y : Bool). list_any (is_start starts n) (take k cells) || ((c.0 == n) && y)) e
      ∙ ap (λ (y : Bool). y || ((c.0 == n) && b)) (sym (before n))

  pub one_started : (now : List ℕ) → has_id starts c.0 ≡ true → IsWith now met c.0 → (n : ℕ)
      → has_id now n ≡ list_any (is_start starts n) (take (k + 1) cells)
  one_started now e w n =
      w n ∙ or_swapped (eqb n c.0) (has_id met n)
      ∙ ap (λ (y : Bool). has_id met n || y) (eqb_turned n c.0 ∙ sym (and_true (eqb c.0 n))) ∙ sym (with_item n true e)

  pub none_started : has_id starts c.0 ≡ false → (n : ℕ) → has_id met n ≡ list_any (is_start starts n) (take (k + 1) cells)
  none_started e n = sym (or_false (has_id met n)) ∙ ap (λ (y : Bool). has_id met n || y) (sym (and_false (eqb c.0 n)))
      ∙ sym (with_item n false e)
