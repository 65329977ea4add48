-- A walk along the steps of known cells: what holds between its turns, and what it has found at the end.
use Rattle.std.proofs.Common.{◌≡◌, ℕ, suc, ◌+◌, ◌-◌, ◌<◌, ◌≤◌, ◌||◌, not, Bool, true, false, List, [], ◌∷◌, length, Option, Some}
use Rattle.std.proofs.Common.{None, ◌⊎◌, inl, inr, refl, sym, ap, subst, ◌∙◌, arith, if◌then◌else◌}
use Rattle.std.specs.Prelude.{◌↔◌, slice_get}
use Rattle.std.specs.Option.{option_and_then}
use Rattle.std.proofs.lemmas.Bool.{false≢true, cases_Bool, or_cases, or_parts, not-true, not-false}
use Rattle.std.proofs.lemmas.Option.{none-some}
use Rattle.abs_cells.proofs.list_views.Options.{then_some}
use Rattle.jvm_values.specs.Paths.{follow, Reaches, IsDagFrom, IsTreeFrom}
use Rattle.jvm_values.proofs.Options.{some_is}
use Rattle.abs_cells.specs.declared.cells.Cell.{Cell}
use Rattle.abs_cells.specs.declared.cells.Cell.TheVariants.{Int, Null, Obj, Nums, Refs, Unk}
use Rattle.abs_cells.specs.IdSets.{has_id}
use Rattle.abs_cells.specs.Cells.{is_reference, ids_of, ids_in, is_of_sort, cell_in}
use Rattle.abs_cells.specs.Sound.{AreIdsRising}
use Rattle.abs_reach.specs.declared.find.Names.{Names}
use Rattle.abs_reach.specs.declared.find.Names.TheVariants as ways
use Rattle.abs_reach.specs.declared.walk.Found.{Found}
use Rattle.abs_reach.specs.inner.Steps.{names_by, steps_in, counted_in, counted_steps_in, AreNamedThere, IsIn, IsReachedFrom}
use Rattle.abs_reach.specs.inner.Turns.{IsOpen, IsWith, still, one, IsBegun, Leaves, Meets, Enters}
use Rattle.abs_reach.proofs.Searching.{IsSearch, HasNoCycle, IsOnce, begin, no_cycle_yet, once_yet, leave, meet, enter, leave_dag}
use Rattle.abs_reach.proofs.Searching.{meet_dag, enter_dag, closes, leave_once, meet_once, enter_once, clashes, exact, all_left}
use Rattle.abs_reach.proofs.Searching.{one_way}
use Rattle.abs_reach.proofs.Room.{one_fewer, not_none, count_low, the_cell, has_cell_low, reached_there, names_of, ahead, work}
use Rattle.abs_reach.proofs.Room.{step_within, no_step_past}

-- ---- ids that count

pub counted_is : (cells : List (ℕ × Cell)) (c d : ℕ) → counted_in cells c ≡ Some d → c ≡ d
counted_is cells c d e =
    let cell = then_some (λ (cell : Cell). if is_reference cell then Some c else None) (cell_in cells c) d e in
    go (is_reference cell.0) cell.1.1
  where
    go : (b : Bool) → (if b then Some c else None) ≡ Some d → c ≡ d
    go true e = some_is e
    go false e = absurd (none-some d e)

counts_by : (c : ℕ) (o : Option Cell) → is_of_sort is_reference o ≡ true
    → option_and_then (λ cell. if is_reference cell then Some c else None) o ≡ Some c
counts_by c None e = absurd (false≢true e)
counts_by c (Some cell) e = ap (λ (b : Bool). if b then Some c else None) e

counts_not_by : (c : ℕ) (o : Option Cell) → is_of_sort is_reference o ≡ false
    → option_and_then (λ cell. if is_reference cell then Some c else None) o ≡ None
counts_not_by c None e = refl
counts_not_by c (Some cell) e = ap (λ (b : Bool). if b then Some c else None) e

in_is_reference : (cell : Cell) (i c : ℕ) → slice_get (ids_in cell) i ≡ Some c → is_reference cell ≡ true
in_is_reference (Int interval) i c e = absurd (none-some c e)
in_is_reference Null i c e = absurd (none-some c e)
in_is_reference (Obj class ids) i c e = refl
in_is_reference (Nums kind len) i c e = refl
in_is_reference (Refs element len shape) i c e = refl
in_is_reference (Unk bound nullable shape) i c e = absurd (none-some c e)

of_is_reference : (cell : Cell) (i c : ℕ) → slice_get (ids_of cell) i ≡ Some c → is_reference cell ≡ true
of_is_reference (Int interval) i c e = absurd (none-some c e)
of_is_reference Null i c e = absurd (none-some c e)
of_is_reference (Obj class ids) i c e = refl
of_is_reference (Nums kind len) i c e = refl
of_is_reference (Refs element len shape) i c e = absurd (none-some c e)
of_is_reference (Unk bound nullable shape) i c e = absurd (none-some c e)

named_is_reference : (names : Names) (cell : Cell) (i c : ℕ) → slice_get (names_by names cell) i ≡ Some c → is_reference cell ≡ true
named_is_reference ways.Known cell i c e = of_is_reference cell i c e
named_is_reference ways.All cell i c e = in_is_reference cell i c e

module _ (names : Names) where
  stepping_counts : (cells : List (ℕ × Cell)) (b j e : ℕ) → steps_in names cells b j ≡ Some e → counted_in cells b ≡ Some b
  stepping_counts cells b j e s =
      let cell = then_some (λ (cell : Cell). slice_get (names_by names cell) j) (cell_in cells b) e s in
      counts_by b (cell_in cells b) (ap (is_of_sort is_reference) cell.1.0 ∙ named_is_reference names cell.0 j e cell.1.1)

  -- a path to an id with a step goes by ids that count
  pub counted_path : (cells : List (ℕ × Cell)) (path : List ℕ) (x b j e : ℕ) → follow (steps_in names cells) path x ≡ Some b
      → steps_in names cells b j ≡ Some e → follow (counted_steps_in names cells) path x ≡ Some b
  counted_path cells [] x b j e p s = p
  counted_path cells (i ∷ path) x b j e p s =
      let g = then_some (follow (steps_in names cells) path) (steps_in names cells x i) b p in
      let counts : counted_in cells g.0 ≡ Some g.0 = next path g.1.1 in
      ap (λ (o : Option ℕ). option_and_then (follow (counted_steps_in names cells) path) (option_and_then (counted_in cells) o)) g.1.0
      ∙ ap (option_and_then (follow (counted_steps_in names cells) path)) counts
      ∙ counted_path cells path g.0 b j e g.1.1 s
    where
      next : {c : ℕ} (path : List ℕ) → follow (steps_in names cells) path c ≡ Some b → counted_in cells c ≡ Some c
      next {c} [] p = subst (λ (y : ℕ). counted_in cells y ≡ Some y) (sym (some_is p)) (stepping_counts cells b j e s)
      next {c} (k ∷ path) p =
          let g = then_some (follow (steps_in names cells) path) (steps_in names cells c k) b p in
          stepping_counts cells c k g.0 g.1.0

  counted_reach : (cells : List (ℕ × Cell)) (x b j e : ℕ) → Reaches (steps_in names cells) x b → steps_in names cells b j ≡ Some e
      → Reaches (counted_steps_in names cells) x b
  counted_reach cells x b j e r s = record { path = r.path; leads = counted_path cells r.path x b j e r.leads s }

  -- ---- between two turns

  -- it began at one id alone
  abbrev pub IsAlone : List (ℕ × ℕ) → ℕ → Type 0
  IsAlone first x = first ≡ (x, 0) ∷ []

  -- `start` and `first` are the ids that it began with, and the trail then
  pub record IsWalk (cells : List (ℕ × Cell)) (start : List ℕ) (first : List (ℕ × ℕ)) (met left : List ℕ) (cyclic twice : Bool)
      (trail : List (ℕ × ℕ)) : Type 0 where
    pub on : (a : ℕ) → IsIn start a → IsOpen first a
    pub off : (a : ℕ) → IsOpen first a → IsIn start a
    pub there : (a : ℕ) → IsIn start a → is_of_sort (λ _. true) (cell_in cells a) ≡ true
    pub search : IsSearch (steps_in names cells) start met left trail
    pub dag : (x : ℕ) → IsAlone first x → cyclic ≡ false → HasNoCycle (steps_in names cells) left trail
    pub cycle : (x : ℕ) → IsAlone first x → cyclic ≡ true → IsDagFrom (steps_in names cells) x → ⊥
    pub once : (x : ℕ) → IsAlone first x → twice ≡ false → IsOnce (counted_steps_in names cells) x left trail
    pub again : (x : ℕ) → IsAlone first x → twice ≡ true → IsTreeFrom (counted_steps_in names cells) x → ⊥

  abbrev pub WalksFrom : List (ℕ × Cell) → List ℕ → List (ℕ × ℕ) → Found → List (ℕ × ℕ) → Type 0
  WalksFrom cells start first found trail = IsWalk cells start first found.met found.left found.cyclic found.twice trail

  pub begun : (cells : List (ℕ × Cell)) (found : Found) (trail : List (ℕ × ℕ)) → IsBegun cells found trail
      → WalksFrom cells found.met trail found trail
  begun cells found trail b = record {
    on = b.on;
    off = b.met;
    there = b.there;
    search = begin (steps_in names cells) found.met found.left trail b.left b.on b.met b.apart b.fresh;
    dag = λ x e f. subst (λ (ts : List (ℕ × ℕ)). HasNoCycle (steps_in names cells) found.left ts) (sym e)
        (no_cycle_yet (steps_in names cells) x found.left b.left);
    cycle = λ x e t d. false≢true (sym b.cyclic ∙ t);
    once = λ x e f. subst (λ (ts : List (ℕ × ℕ)). IsOnce (counted_steps_in names cells) x found.left ts) (sym e)
        (once_yet (steps_in names cells) (counted_in cells) (counted_is cells) x found.left b.left);
    again = λ x e t d. false≢true (sym b.twice ∙ t);
  }

  moved : (cells : List (ℕ × Cell)) (start : List ℕ) (first : List (ℕ × ℕ)) (met left met' left' : List ℕ)
      (cyclic twice cyclic' twice' : Bool) (trail trail' : List (ℕ × ℕ)) → met' ≡ met → left' ≡ left → cyclic' ≡ cyclic
      → twice' ≡ twice → trail' ≡ trail → IsWalk cells start first met left cyclic twice trail
      → IsWalk cells start first met' left' cyclic' twice' trail'
  moved cells start first met left met' left' cyclic twice cyclic' twice' trail trail' m l c t s h =
      subst (λ (x : List ℕ). IsWalk cells start first x left' cyclic' twice' trail') (sym m)
      (subst (λ (x : List ℕ). IsWalk cells start first met x cyclic' twice' trail') (sym l)
      (subst (λ (x : Bool). IsWalk cells start first met left x twice' trail') (sym c)
      (subst (λ (x : Bool). IsWalk cells start first met left cyclic x trail') (sym t)
      (subst (λ (x : List (ℕ × ℕ)). IsWalk cells start first met left cyclic twice x) (sym s) h))))

  -- what a turn says
  pub record IsTurn (cells : List (ℕ × Cell)) (old new : Found) (rest next : List (ℕ × ℕ)) (a i : ℕ) : Type 0 where
    pub leaves : steps_in names cells a i ≡ None → Leaves old new a × (next ≡ rest)
    pub meets : (c : ℕ) → steps_in names cells a i ≡ Some c → has_id old.met c ≡ true
        → Meets old new c (is_of_sort is_reference (cell_in cells c)) × (next ≡ (a, i + 1) ∷ rest)
    pub enters : (c : ℕ) → steps_in names cells a i ≡ Some c → has_id old.met c ≡ false
        → Enters old new c × (next ≡ (c, 0) ∷ (a, i + 1) ∷ rest)

  module _ (cells : List (ℕ × Cell)) (start : List ℕ) (first : List (ℕ × ℕ)) (met left : List ℕ) (cyclic twice : Bool)
      (rest : List (ℕ × ℕ)) (a i : ℕ) (h : IsWalk cells start first met left cyclic twice ((a, i) ∷ rest)) where
    begins : (x : ℕ) → IsAlone first x → IsIn start x
    begins x e = h.off x (subst (λ (ts : List (ℕ × ℕ)). IsOpen ts x) (sym e) (inl refl))

    alone : (x : ℕ) → IsAlone first x → (y : ℕ) → IsIn start y → y ≡ x
    alone x e y s = go (subst (λ (ts : List (ℕ × ℕ)). IsOpen ts y) e (h.on y s))
      where
        go : IsOpen ((x, 0) ∷ []) y → y ≡ x
        go (inl e) = sym e
        go (inr k) = absurd k

    walk_leaves : (now : List ℕ) → IsWith now left a → steps_in names cells a i ≡ None → IsWalk cells start first met now cyclic twice rest
    walk_leaves now w n =
        let over : (j : ℕ) → i ≤ j → steps_in names cells a j ≡ None = λ j l. no_step_past names (cell_in cells a) i j n l in
        record {
          on = h.on;
          off = h.off;
          there = h.there;
          search = leave (steps_in names cells) start met left rest a i h.search now w over;
          dag = λ x l e. leave_dag (steps_in names cells) left rest a i (h.dag x l e) now w (h.search.not_left a (inl refl)) over;
          cycle = h.cycle;
          once = λ x l e. leave_once (steps_in names cells) (counted_in cells) (counted_is cells) x start met left (begins x l)
              (alone x l) rest a i h.search now w over (h.once x l e);
          again = h.again;
        }

    on_trail : (c : ℕ) {P : Type 0} → has_id left c ≡ false → IsIn left c ⊎ P → P
    on_trail c f (inl k) = absurd (false≢true (sym f ∙ k))
    on_trail c f (inr k) = k

    from_one : (x : ℕ) → IsAlone first x → (c : ℕ) → IsReachedFrom (steps_in names cells) start c → Reaches (steps_in names cells) x c
    from_one x l c r = subst (λ (y : ℕ). Reaches (steps_in names cells) y c) (alone x l r.from r.starts) r.reaches

    walk_meets : (c : ℕ) → steps_in names cells a i ≡ Some c → IsIn met c
        → IsWalk cells start first met left (cyclic || not (has_id left c)) (twice || is_of_sort is_reference (cell_in cells c))
        ((a, i + 1) ∷ rest)
    walk_meets c s m = record {
      on = h.on;
      off = h.off;
      there = h.there;
      search = meet (steps_in names cells) start met left rest a i h.search c s m;
      dag = λ x l e.
          let p = or_parts cyclic (not (has_id left c)) e in
          meet_dag (steps_in names cells) left rest a i (h.dag x l p.0) c s (not-false (has_id left c) p.1);
      cycle = λ x l e dag. elim (cases_Bool cyclic) [
        | inl t ↦ h.cycle x l t dag
        | inr t ↦ elim (or_cases cyclic (not (has_id left c)) e) [
          | inl u ↦ h.cycle x l u dag
          | inr u ↦ closes (steps_in names cells) left rest a i (h.dag x l t) x c (from_one x l c (h.search.sound c m)) s
              (on_trail c (not-true (has_id left c) u) (h.search.split c m)) dag
        ]
      ];
      once = λ x l e.
          let p = or_parts twice (is_of_sort is_reference (cell_in cells c)) e in
          meet_once (steps_in names cells) (counted_in cells) (counted_is cells) x start met left (begins x l) (alone x l) rest a i
          h.search c s (counts_not_by c (cell_in cells c) p.1) (h.once x l p.0);
      again = λ x l e tree. elim (or_cases twice (is_of_sort is_reference (cell_in cells c)) e) [
        | inl t ↦ h.again x l t tree
        | inr t ↦ clashes (steps_in names cells) (counted_in cells) (counted_is cells) x start met left (begins x l) (alone x l)
            rest a i h.search c c (λ b j e r u. counted_reach cells x b j e r u) s (counts_by c (cell_in cells c) t) m tree
      ];
    }

    walk_enters : (c : ℕ) (now : List ℕ) → steps_in names cells a i ≡ Some c → has_id met c ≡ false → IsWith now met c
        → IsWalk cells start first now left cyclic twice ((c, 0) ∷ (a, i + 1) ∷ rest)
    walk_enters c now s m w = record {
      on = h.on;
      off = h.off;
      there = h.there;
      search = enter (steps_in names cells) start met left rest a i h.search c now s m w;
      dag = λ x l e. enter_dag (steps_in names cells) left rest a i (h.dag x l e) c s;
      cycle = h.cycle;
      once = λ x l e. enter_once (steps_in names cells) (counted_in cells) (counted_is cells) x start met left (begins x l)
          (alone x l) rest a i h.search c s m (h.once x l e);
      again = h.again;
    }

  -- ---- one turn of the code

  module _ (cells : List (ℕ × Cell)) (start : List ℕ) (first : List (ℕ × ℕ)) (old new : Found) (trail rest next : List (ℕ × ℕ))
      (a i : ℕ) (popped : trail ≡ (a, i) ∷ rest) (h : WalksFrom cells start first old trail) (t : IsTurn cells old new rest next a i) where
    at_top : WalksFrom cells start first old ((a, i) ∷ rest)
    at_top = subst (λ (ts : List (ℕ × ℕ)). WalksFrom cells start first old ts) popped h

    pub turned : WalksFrom cells start first new next
    turned = go (steps_in names cells a i) refl
      where
        go : (o : Option ℕ) → steps_in names cells a i ≡ o → WalksFrom cells start first new next
        go None s =
            let l = t.leaves s in
            moved cells start first old.met new.left new.met new.left old.cyclic old.twice new.cyclic new.twice rest next l.0.met
            refl l.0.cyclic l.0.twice l.1 (walk_leaves cells start first old.met old.left old.cyclic old.twice rest a i at_top
            new.left l.0.left s)
        go (Some c) s = elim (cases_Bool (has_id old.met c)) [
          | inl m ↦
              let l = t.meets c s m in
              moved cells start first old.met old.left new.met new.left (old.cyclic || not (has_id old.left c))
              (old.twice || is_of_sort is_reference (cell_in cells c)) new.cyclic new.twice ((a, i + 1) ∷ rest) next l.0.met
              l.0.left l.0.cyclic l.0.twice l.1
              (walk_meets cells start first old.met old.left old.cyclic old.twice rest a i at_top c s m)
          | inr m ↦
              let l = t.enters c s m in
              moved cells start first new.met old.left new.met new.left old.cyclic old.twice new.cyclic new.twice
              ((c, 0) ∷ (a, i + 1) ∷ rest) next refl l.0.left l.0.cyclic l.0.twice l.1
              (walk_enters cells start first old.met old.left old.cyclic old.twice rest a i at_top c new.met s m l.0.met)
        ]

    module _ (named : AreNamedThere names cells) where
      same_still : (weight : Cell → ℕ) (now : List ℕ) → now ≡ old.met → still weight cells now ≡ still weight cells old.met
      same_still weight now e = ap (still weight cells) e

      fewer_by : (weight : Cell → ℕ) (c : ℕ) → steps_in names cells a i ≡ Some c → has_id old.met c ≡ false → Enters old new c
          → (cell : Cell) × ((cell_in cells c ≡ Some cell) × (still weight cells new.met + weight cell ≤ still weight cells old.met))
      fewer_by weight c s m l =
          let cell = the_cell (cell_in cells c) (named a i c s) in
          (cell.0, (cell.1, one_fewer weight cells new.met old.met c cell.0 l.met m cell.1))

      pub roomy : length trail + still one cells old.met ≤ length cells → length next + still one cells new.met ≤ length cells
      roomy r = go (steps_in names cells a i) refl
        where
          top : length trail ≡ suc (length rest)
          top = ap length popped

          go : (o : Option ℕ) → steps_in names cells a i ≡ o → length next + still one cells new.met ≤ length cells
          go None s =
              let l = t.leaves s in
              let e : length next ≡ length rest = ap length l.1 in
              let f = same_still one new.met l.0.met in
              omega (arith, r, top, e, f)
          go (Some c) s = elim (cases_Bool (has_id old.met c)) [
            | inl m ↦
                let l = t.meets c s m in
                let e : length next ≡ suc (length rest) = ap length l.1 in
                let f = same_still one new.met l.0.met in
                omega (arith, r, top, e, f)
            | inr m ↦
                let l = t.enters c s m in
                let e : length next ≡ suc (suc (length rest)) = ap length l.1 in
                let f = fewer_by one c s m l.0 in
                omega (arith, r, top, e, f.1.1)
          ]

      pub lessened : still (work names) cells new.met + ahead names cells next < still (work names) cells old.met + ahead names cells trail
      lessened = go (steps_in names cells a i) refl
        where
          top : ahead names cells trail ≡ (length (names_of names (cell_in cells a)) - i + 1) + ahead names cells rest
          top = ap (ahead names cells) popped

          go : (o : Option ℕ) → steps_in names cells a i ≡ o
              → still (work names) cells new.met + ahead names cells next < still (work names) cells old.met + ahead names cells trail
          go None s =
              let l = t.leaves s in
              let e : ahead names cells next ≡ ahead names cells rest = ap (ahead names cells) l.1 in
              let f = same_still (work names) new.met l.0.met in
              omega (arith, top, e, f)
          go (Some c) s = elim (cases_Bool (has_id old.met c)) [
            | inl m ↦
                let l = t.meets c s m in
                let e : ahead names cells next ≡ (length (names_of names (cell_in cells a)) - (i + 1) + 1) + ahead names cells rest
                = ap (ahead names cells) l.1 in
                let f = same_still (work names) new.met l.0.met in
                let k = step_within names (cell_in cells a) i c s in
                omega (arith, top, e, f, k)
            | inr m ↦
                let l = t.enters c s m in
                let e : ahead names cells next ≡ (length (names_of names (cell_in cells c)) - 0 + 1) +
                ((length (names_of names (cell_in cells a)) - (i + 1) + 1) + ahead names cells rest) = ap (ahead names cells) l.1 in
                let f = fewer_by (work names) c s m l.0 in
                let n : length (names_of names (cell_in cells c)) ≡ length (names_by names f.0) = ap
                (λ (o : Option Cell). length (names_of names o)) f.1.0 in
                let k = step_within names (cell_in cells a) i c s in
                omega (arith, top, e, n, f.1.1, k)
          ]

  -- ---- before a turn

  module _ (cells : List (ℕ × Cell)) (start : List ℕ) (first : List (ℕ × ℕ)) (old : Found) (trail rest : List (ℕ × ℕ)) (a i : ℕ)
      (popped : trail ≡ (a, i) ∷ rest) (h : WalksFrom cells start first old trail) (rising : AreIdsRising 0 cells)
      (named : AreNamedThere names cells) where
    pub top_low : a < 2048
    top_low =
        let r = h.search.sound a (h.search.open_met a (subst (λ (ts : List (ℕ × ℕ)). IsOpen ts a) (sym popped) (inl refl))) in
        has_cell_low cells a rising (reached_there names cells named r.reaches.path r.from a (h.there r.from r.starts) r.reaches.leads)

    pub has_room : (room : ℕ) → 2048 ≤ room → length trail + still one cells old.met ≤ length cells → length rest < room
    has_room room l r =
        let top : length trail ≡ suc (length rest) = ap length popped in
        let all = count_low cells rising in
        omega (arith, l, r, top, all)

    pub more_room : (room : ℕ) → 2048 ≤ room → length trail + still one cells old.met ≤ length cells → (c : ℕ)
        → steps_in names cells a i ≡ Some c → has_id old.met c ≡ false → length rest + 1 < room
    more_room room l r c s m =
        let top : length trail ≡ suc (length rest) = ap length popped in
        let all = count_low cells rising in
        let cell = the_cell (cell_in cells c) (named a i c s) in
        let left = not_none cells old.met c cell.0 m cell.1 in
        omega (arith, l, r, top, all, left)

  -- ---- the end

  no_items : (ts : List (ℕ × ℕ)) → length ts ≡ 0 → ts ≡ []
  no_items [] e = refl
  no_items (t ∷ ts) e = absurd (omega arith)

  module _ (cells : List (ℕ × Cell)) (start : List ℕ) (first : List (ℕ × ℕ)) (found : Found) (trail : List (ℕ × ℕ))
      (empty : trail ≡ []) (h : WalksFrom cells start first found trail) where
    at_end : WalksFrom cells start first found []
    at_end = subst (λ (ts : List (ℕ × ℕ)). WalksFrom cells start first found ts) empty h

    pub met_exact : (id : ℕ) → (has_id found.met id ≡ true) ↔ IsReachedFrom (steps_in names cells) start id
    met_exact id = exact (steps_in names cells) start found.met found.left at_end.search id

    start_left : (x : ℕ) → IsAlone first x → IsIn start x
    start_left x e = at_end.off x (subst (λ (ts : List (ℕ × ℕ)). IsOpen ts x) (sym e) (inl refl))

    is_false : (b : Bool) → (b ≡ true → ⊥) → b ≡ false
    is_false true h = absurd (h refl)
    is_false false h = refl

    pub cyclic_exact : (x : ℕ) → IsAlone first x → (found.cyclic ≡ false) ↔ IsDagFrom (steps_in names cells) x
    cyclic_exact x l = (
      λ e. (at_end.dag x l e).dag x
          (all_left (steps_in names cells) start found.met found.left at_end.search x (at_end.search.begun x (start_left x l))),
      λ d. is_false found.cyclic (λ t. at_end.cycle x l t d),
    )

    pub twice_exact : (x : ℕ) → IsAlone first x → (found.twice ≡ false) ↔ IsTreeFrom (counted_steps_in names cells) x
    twice_exact x l = (
      λ e. one_way (steps_in names cells) (counted_in cells) (counted_is cells) x start found.met found.left (start_left x l)
          at_end.search (at_end.once x l e),
      λ d. is_false found.twice (λ t. at_end.again x l t d),
    )
