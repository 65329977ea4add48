-- States with other cells in the place of some: ids keep their sorts, and cells say what is of the world.
use Rattle.std.proofs.Common.{◌≡◌, ◌∙◌, ◌==◌, ◌<◌, eqb, ℕ, Bool, true, false, not, if◌then◌else◌, List, [], ◌∷◌}
use Rattle.std.proofs.Common.{length, map, Option, Some, None, refl, sym, ap, subst, arith}
use Rattle.std.specs.Prelude.{zip}
use Rattle.std.specs.List.{AllByRecursion, AllZip}
use Rattle.std.proofs.lemmas.Bool.{eqb-true}
use Rattle.std.proofs.lemmas.Option.{none-some}
use Rattle.jvm_values.specs.declared.types.Slot.{Slot}
use Rattle.jvm_values.specs.TypedHeaps.{WorldTypes}
use Rattle.jvm_values.proofs.Options.{some_is}
use Rattle.abs_cells.specs.declared.cells.Cell.{Cell}
use Rattle.abs_cells.specs.AbstractStates.{AbstractState}
use Rattle.abs_cells.specs.Cells.{is_int, cell_in, cell_at}
use Rattle.abs_cells.specs.Sound.{IsOfSlot, IsSoundCell}
use Rattle.abs_heap.specs.Given.{first_cell, with_cells, IsBelowFirst, AreRising}
use Rattle.abs_heap.proofs.Placing.{cell_here, cell_later}
use Rattle.place_sorts.proofs.Following.{Follows}
use Rattle.place_sorts.proofs.Keeping.{KeepsSorts, cell_kept}

-- each cell says what is of the world
abbrev pub AreSound : WorldTypes → AbstractState → Type 0
AreSound types state = (id : ℕ) (c : Cell) → cell_at state id ≡ Some c → IsSoundCell types state c

-- an id has a cell of the sort of another cell
pub record HasLike (state : AbstractState) (id : ℕ) (old : Cell) : Type 0 where
  pub now : Cell
  pub is : cell_at state id ≡ Some now
  pub same : is_int old ≡ is_int now

pub follows_of : (before after : AbstractState) (id to : ℕ) → ((old : Cell) → cell_at before id ≡ Some old → HasLike after to old)
    → Follows before after id to
follows_of before after id to h = record {
  int = λ k. let s = h k.cell k.is in record { cell = s.now; is = s.is; sort_is = sym s.same ∙ k.sort_is };
  other = λ k. let s = h k.cell k.is in record { cell = s.now; is = s.is; sort_is = ap not (sym s.same) ∙ k.sort_is };
}

-- what holds of each listed cell holds of the one that is found
pub listed_at : (P : ℕ × Cell → Type 0) (list : List (ℕ × Cell)) (id : ℕ) (c : Cell) → AllByRecursion P list
    → cell_in list id ≡ Some c → P (id, c)
listed_at P [] id c a e = absurd (none-some c e)
listed_at P (x ∷ list) id c a e = by (x.0 == id) refl e (λ f. listed_at P list id c a.1 f)
  where
    by : (b : Bool) → eqb x.0 id ≡ b → (if b then Some x.1 else cell_in list id) ≡ Some c → (cell_in list id ≡ Some c → P (id, c))
        → P (id, c)
    by true q f rest = subst (λ (n : ℕ). P (n, c)) (eqb-true x.0 id q) (subst (λ (d : Cell). P (x.0, d)) (some_is f) a.0)
    by false q f rest = rest f

-- a new cell is of the sort of the one in whose place it is
abbrev pub IsLike : AbstractState → ℕ × Cell → Type 0
IsLike state c = (old : Cell) → cell_at state c.0 ≡ Some old → is_int old ≡ is_int c.1

module _ (types : WorldTypes) (state child : AbstractState) (news : List (ℕ × Cell))
    (are : (id : ℕ) → cell_at child id ≡ with_cells news state id) where
  found : (id : ℕ) (o : Option Cell) → cell_in news id ≡ o → cell_at child id ≡ first_cell o (cell_at state id)
  found id o e = are id ∙ ap (λ (x : Option Cell). first_cell x (cell_at state id)) e

  pub given_keeps : AllByRecursion (IsLike state) news → KeepsSorts state child
  given_keeps alike id = follows_of state child id id (λ old e. by old e (cell_in news id) refl)
    where
      by : (old : Cell) → cell_at state id ≡ Some old → (o : Option Cell) → cell_in news id ≡ o → HasLike child id old
      by old e None f = record { now = old; is = found id None f ∙ e; same = refl }
      by old e (Some c) f = record { now = c; is = found id (Some c) f; same = listed_at (IsLike state) news id c alike f old e }

  pub given_sound : AllByRecursion (IsLike state) news → AreSound types state
      → AllByRecursion (λ (c : ℕ × Cell). IsSoundCell types child c.1) news → AreSound types child
  given_sound alike sound new id c e = by (cell_in news id) refl
    where
      by : (o : Option Cell) → cell_in news id ≡ o → IsSoundCell types child c
      by None f = cell_kept state child (given_keeps alike) types c (sound id c (sym (found id None f) ∙ e))
      by (Some d) f = subst (IsSoundCell types child) (some_is (sym (found id (Some d) f) ∙ e))
          (listed_at (λ (x : ℕ × Cell). IsSoundCell types child x.1) news id d new f)

  pub new_cell : (id : ℕ) (c : Cell) → cell_in news id ≡ Some c → cell_at child id ≡ Some c
  new_cell id c e = found id (Some c) e

  pub old_cell : (id : ℕ) → cell_in news id ≡ None → cell_at child id ≡ cell_at state id
  old_cell id e = found id None e

-- an id that no cell is of may get any
pub free_like : (state : AbstractState) (id : ℕ) (c : Cell) → cell_at state id ≡ None → (old : Cell) → cell_at state id ≡ Some old
    → is_int old ≡ is_int c
free_like state id c free old e = absurd (none-some old (sym free ∙ e))

-- ---- new ids with the cells of fields

-- ids that rise from a number are above it
pub zip_above : (x : ℕ) (ids : List ℕ) (list : List Cell) → IsBelowFirst x ids → AreRising ids → (id : ℕ) (c : Cell)
    → cell_in (zip ids list) id ≡ Some c → x < id
zip_above x [] list b r id c e = absurd (none-some c e)
zip_above x (y ∷ ids) [] b r id c e = absurd (none-some c e)
zip_above x (y ∷ ids) (d ∷ list) b r id c e = by (y == id) refl e (λ f. zip_above y ids list r.0 r.1 id c f)
  where
    by : (t : Bool) → eqb y id ≡ t → (if t then Some d else cell_in (zip ids list) id) ≡ Some c
        → (cell_in (zip ids list) id ≡ Some c → y < id) → x < id
    by true q f rest = subst (λ (n : ℕ). x < n) (eqb-true y id q) b
    by false q f rest = let l = rest f in omega (arith, l, b)

pub zip_free : (state : AbstractState) (ids : List ℕ) (list : List Cell) → AllByRecursion (λ (id : ℕ). cell_at state id ≡ None) ids
    → (id : ℕ) (c : Cell) → cell_in (zip ids list) id ≡ Some c → cell_at state id ≡ None
zip_free state [] list a id c e = absurd (none-some c e)
zip_free state (y ∷ ids) [] a id c e = absurd (none-some c e)
zip_free state (y ∷ ids) (d ∷ list) a id c e = by (y == id) refl e (λ f. zip_free state ids list a.1 id c f)
  where
    by : (t : Bool) → eqb y id ≡ t → (if t then Some d else cell_in (zip ids list) id) ≡ Some c
        → (cell_in (zip ids list) id ≡ Some c → cell_at state id ≡ None) → cell_at state id ≡ None
    by true q f rest = subst (λ (n : ℕ). cell_at state n ≡ None) (eqb-true y id q) a.0
    by false q f rest = rest f

pub all_zipped : (P : ℕ × Cell → Type 0) (ids : List ℕ) (list : List Cell) → ((id : ℕ) (c : Cell) → P (id, c))
    → AllByRecursion P (zip ids list)
all_zipped P [] list h = tt
all_zipped P (id ∷ ids) [] h = tt
all_zipped P (id ∷ ids) (c ∷ list) h = (h id c, all_zipped P ids list h)

pub free_zipped : (state : AbstractState) (ids : List ℕ) (list : List Cell) → AllByRecursion (λ (id : ℕ). cell_at state id ≡ None) ids
    → AllByRecursion (IsLike state) (zip ids list)
free_zipped state [] list a = tt
free_zipped state (id ∷ ids) [] a = tt
free_zipped state (id ∷ ids) (c ∷ list) a = (free_like state id c a.0, free_zipped state ids list a.1)

pub sound_zipped : (types : WorldTypes) (child : AbstractState) (f : Slot → Cell) (fields : List Slot) (ids : List ℕ)
    → AllByRecursion (λ (slot : Slot). IsSoundCell types child (f slot)) fields
    → AllByRecursion (λ (c : ℕ × Cell). IsSoundCell types child c.1) (zip ids (map f fields))
sound_zipped types child f [] [] a = tt
sound_zipped types child f [] (id ∷ ids) a = tt
sound_zipped types child f (slot ∷ fields) [] a = tt
sound_zipped types child f (slot ∷ fields) (id ∷ ids) a = (a.0, sound_zipped types child f fields ids a.1)

-- ids with cells of their fields' slots
pub fields_hold : (child : AbstractState) (f : Slot → Cell)
    → ((slot : Slot) (id : ℕ) → cell_at child id ≡ Some (f slot) → IsOfSlot child slot id) → (fields : List Slot) (ids : List ℕ)
    → length ids ≡ length fields → AreRising ids
    → ((id : ℕ) (c : Cell) → cell_in (zip ids (map f fields)) id ≡ Some c → cell_at child id ≡ Some c) → AllZip (IsOfSlot child) fields ids
fields_hold child f is [] [] l r h = tt
fields_hold child f is [] (id ∷ ids) l r h = absurd (omega (arith, l))
fields_hold child f is (slot ∷ fields) [] l r h = absurd (omega (arith, l))
fields_hold child f is (slot ∷ fields) (id ∷ ids) l r h =
    let rest = zip ids (map f fields) in (
      is slot id (h id (f slot) (cell_here (id, f slot) rest id refl)),
      fields_hold child f is fields ids (omega (arith, l)) r.1
          (λ x c e. h x c (cell_later (id, f slot) rest x (apart id ids (map f fields) r x c e) ∙ e)),
    )
  where
    apart : (id : ℕ) (ids : List ℕ) (list : List Cell) → AreRising (id ∷ ids) → (x : ℕ) (c : Cell)
        → cell_in (zip ids list) x ≡ Some c → id ≡ x → ⊥
    apart id ids list r x c e q = let l = zip_above id ids list r.0 r.1 x c e in omega (arith, l, q)
