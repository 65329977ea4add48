-- Operands that the typing has as ints are ints of the state.
use Rattle.std.proofs.Common.{◌≡◌, ◌∙◌, ◌<◌, ℕ, zero, suc, Bool, true, false, cond, eqb, if◌then◌else◌, List, [], ◌∷◌, length, take}
use Rattle.std.proofs.Common.{Option, Some, None, slice_get, inl, inr, refl, sym, ap, subst, arith}
use Rattle.std.specs.List.{AllByRecursion, AllZip}
use Rattle.std.proofs.lemmas.Bool.{cases_Bool}
use Rattle.std.proofs.lemmas.Int.{ints}
use Rattle.std.proofs.lemmas.List.Elements.{recursion_from_All}
use Rattle.std.proofs.lemmas.Option.{none-some}
use Rattle.list_views.proofs.Options.{then_some}
use Rattle.list_views.specs.Options.{asked}
use Rattle.jvm_values.specs.declared.typing.PlaceType.{PlaceType}
use Rattle.jvm_values.specs.declared.typing.PlaceType.TheVariants as places
use Rattle.jvm_values.specs.States.{PlaceTypes}
use Rattle.jvm_values.specs.TypedHeaps.{WorldTypes}
use Rattle.jvm_values.proofs.Options.{some_is}
use Rattle.jvm_run.proofs.Lists.{zip_get}
use Rattle.jvm_run.proofs.Placed.{asked_is}
use Rattle.abs_cells.specs.declared.cells.Cell.{Cell}
use Rattle.abs_cells.specs.declared.cells.Cell.TheVariants as cells
use Rattle.abs_cells.specs.AbstractStates.{AbstractState}
use Rattle.abs_cells.specs.Cells.{is_int, cell_in, cell_at, HasCell}
use Rattle.abs_cells.specs.Sound.{IsSoundCell, IsSound}
use Rattle.jvm_run.specs.code_verify.declared.want.Want.{Want}
use Rattle.jvm_run.specs.code_verify.declared.want.Want.TheVariants as wants
use Rattle.jvm_run.specs.code_verify.Operands.{is_int as is_int_place, fits}
use Rattle.jvm_run.specs.code_verify.Rows.{taken, acted, iinc_types, aaload_types}
use Rattle.abs_expand.specs.BadStates.{IsOfPlace, HasStackOf}
use Rattle.abs_expand.specs.Table.{length_id, items_length_id}
use Rattle.abs_expand.specs.Turns.{interval_in, interval_of_id}
use Rattle.plan_links.proofs.SmallRows.{HasIntEnds}

-- ---- what a form asks of the types of the stack

-- some types are left of these when what is asked for is taken
abbrev pub Asks : WorldTypes → List Want → List PlaceType → Type 0
Asks types asks stack = (below : List PlaceType) × (taken types asks stack ≡ Some below)

pub acted_asks : (types : WorldTypes) (asks : List Want) (result : Option PlaceType) (there after : PlaceTypes)
    → acted types asks result there ≡ Some after → Asks types asks there.stack
unfolding acted
acted_asks types asks result there after e = let m = then_some _ (taken types asks there.stack) after e in (m.0, m.1.0)

pub aaload_asks : (types : WorldTypes) (there after : PlaceTypes) → aaload_types types there ≡ Some after
    → Asks types (wants.Int ∷ []) there.stack
unfolding aaload_types
aaload_asks types there after e = let m = then_some _ (taken types (wants.Int ∷ []) there.stack) after e in (m.0, m.1.0)

-- ---- the stack

-- the topmost id is an int, and what is below is typed
pub record TopInt (types : WorldTypes) (state : AbstractState) (asks : List Want) (x : ℕ) (rest : List ℕ) : Type 0 where
  pub int : HasCell is_int state x
  pub wanted : List PlaceType
  pub left : Asks types asks wanted
  pub typed : HasStackOf state wanted rest

pub top_int : (types : WorldTypes) (state : AbstractState) (asks : List Want) (wanted : List PlaceType) (x : ℕ) (rest : List ℕ)
    → Asks types (wants.Int ∷ asks) wanted → HasStackOf state wanted (x ∷ rest) → TopInt types state asks x rest
top_int types state asks [] x rest a h = absurd h
top_int types state asks (places.Unset ∷ wanted) x rest a h = absurd (none-some a.0 a.1)
top_int types state asks (places.Int ∷ wanted) x rest a h = record { int = h.0; wanted = wanted; left = a; typed = h.1 }
top_int types state asks (places.Null ∷ wanted) x rest a h = absurd (none-some a.0 a.1)
top_int types state asks (places.Ref t ∷ wanted) x rest a h = absurd (none-some a.0 a.1)

-- what is below the topmost id
pub record UnderTop (types : WorldTypes) (state : AbstractState) (asks : List Want) (rest : List ℕ) : Type 0 where
  pub wanted : List PlaceType
  pub left : Asks types asks wanted
  pub typed : HasStackOf state wanted rest

pub under_top : (types : WorldTypes) (state : AbstractState) (want : Want) (asks : List Want) (wanted : List PlaceType) (x : ℕ)
    (rest : List ℕ) → Asks types (want ∷ asks) wanted → HasStackOf state wanted (x ∷ rest) → UnderTop types state asks rest
under_top types state want asks [] x rest a h = absurd h
under_top types state want asks (place ∷ wanted) x rest a h = record
    { wanted = wanted; left = (a.0, at (fits types want place) a.1); typed = h.1 }
  where
    at : (b : Bool) → (if b then taken types asks wanted else None) ≡ Some a.0 → taken types asks wanted ≡ Some a.0
    at true e = e
    at false e = absurd (none-some a.0 e)

-- ---- locals

int_place : (place : PlaceType) → is_int_place place ≡ true → place ≡ places.Int
int_place places.Unset e = absurd cc
int_place places.Int e = refl
int_place places.Null e = absurd cc
int_place (places.Ref t) e = absurd cc

pub local_asked : (n : ℕ) (there after : PlaceTypes) → iinc_types n there ≡ Some after → slice_get there.locals n ≡ Some places.Int
unfolding iinc_types
local_asked n there after e =
    let place = then_some _ (slice_get there.locals n) after e in
    let fit = then_some _ (asked (is_int_place place.0)) after place.1.1 in
    place.1.0 ∙ ap Some (int_place place.0 (asked_is (is_int_place place.0) fit.0 fit.1.0))

front_get : {A : Type 0} (count : ℕ) (xs : List A) (n : ℕ) (x : A) → slice_get (take count xs) n ≡ Some x → slice_get xs n ≡ Some x
front_get zero xs n x e = absurd (none-some x e)
front_get (suc count) [] n x e = absurd (none-some x e)
front_get (suc count) (y ∷ xs) zero x e = e
front_get (suc count) (y ∷ xs) (suc n) x e = front_get count xs n x e

-- a local that the typing has as an int is one
pub local_int : (state : AbstractState) (wanted : List PlaceType) (count : ℕ) (locals : List (Option ℕ)) (n x : ℕ)
    → AllZip (IsOfPlace state) wanted (take count locals) → slice_get wanted n ≡ Some places.Int
    → slice_get locals n ≡ Some (Some x) → HasCell is_int state x
local_int state wanted count locals n x typed at is =
    let found = zip_get (IsOfPlace state) wanted (take count locals) n places.Int typed at in
    let same : found.other ≡ Some x = some_is (sym (front_get count locals n found.other found.there) ∙ is) in
    subst (IsOfPlace state places.Int) same found.alike

pub within : {A : Type 0} (xs : List A) (n : ℕ) (x : A) → slice_get xs n ≡ Some x → n < length xs
within [] n x f = absurd (none-some x f)
within (y ∷ xs) zero x f = omega arith
within (y ∷ xs) (suc n) x f = let l = within xs n x f in omega (arith, l)

-- ---- cells

sound_in : (types : WorldTypes) (state : AbstractState) (listed : List (ℕ × Cell)) (id : ℕ) (cell : Cell)
    → AllByRecursion (λ (c : ℕ × Cell). IsSoundCell types state c.1) listed → cell_in listed id ≡ Some cell → IsSoundCell types state cell
sound_in types state [] id cell all e = absurd (none-some cell e)
sound_in types state (c ∷ listed) id cell all e = elim (cases_Bool (eqb c.0 id)) [
  | inl t ↦ subst (IsSoundCell types state) (some_is (ap (λ b. cond b (Some c.1) (cell_in listed id)) (sym t) ∙ e)) all.0
  | inr f ↦ sound_in types state listed id cell all.1 (ap (λ b. cond b (Some c.1) (cell_in listed id)) (sym f) ∙ e)
]

pub sound_at : (types : WorldTypes) (state : AbstractState) → IsSound types state → (id : ℕ) (cell : Cell)
    → cell_at state id ≡ Some cell → IsSoundCell types state cell
sound_at types state sound id cell e = sound_in types state state.cells id cell
    (recursion_from_All (λ (c : ℕ × Cell). IsSoundCell types state c.1) state.cells sound.cells) e

interval_ends : (types : WorldTypes) (state : AbstractState) (found : Option Cell)
    → ((cell : Cell) → found ≡ Some cell → IsSoundCell types state cell) → HasIntEnds (interval_in found)
interval_ends types state None h = ((omega (arith, ints), omega (arith, ints)), (omega (arith, ints), omega (arith, ints)))
interval_ends types state (Some (cells.Int interval)) h = h (cells.Int interval) refl
interval_ends types state (Some cells.Null) h = ((omega (arith, ints), omega (arith, ints)), (omega (arith, ints), omega (arith, ints)))
interval_ends types state (Some (cells.Obj class ids)) h =
    ((omega (arith, ints), omega (arith, ints)), (omega (arith, ints), omega (arith, ints)))
interval_ends types state (Some (cells.Nums kind len)) h =
    ((omega (arith, ints), omega (arith, ints)), (omega (arith, ints), omega (arith, ints)))
interval_ends types state (Some (cells.Refs element len shape)) h =
    ((omega (arith, ints), omega (arith, ints)), (omega (arith, ints), omega (arith, ints)))
interval_ends types state (Some (cells.Unk bound nullable shape)) h =
    ((omega (arith, ints), omega (arith, ints)), (omega (arith, ints), omega (arith, ints)))

pub int_ends : (types : WorldTypes) (state : AbstractState) → IsSound types state → (x : ℕ) → HasIntEnds (interval_of_id state x)
int_ends types state sound x = interval_ends types state (cell_at state x) (sound_at types state sound x)

-- the length of an array is an int
pub length_int : (types : WorldTypes) (state : AbstractState) → IsSound types state → (k len : ℕ) (found : Option Cell)
    → cell_at state k ≡ found → length_id found ≡ Some len → HasCell is_int state len
length_int types state sound k len None at e = absurd (none-some len e)
length_int types state sound k len (Some (cells.Int interval)) at e = absurd (none-some len e)
length_int types state sound k len (Some cells.Null) at e = absurd (none-some len e)
length_int types state sound k len (Some (cells.Obj class ids)) at e = absurd (none-some len e)
length_int types state sound k len (Some (cells.Nums kind n)) at e = subst (HasCell is_int state) (some_is e)
    (sound_at types state sound k (cells.Nums kind n) at)
length_int types state sound k len (Some (cells.Refs element n shape)) at e = subst (HasCell is_int state) (some_is e)
    (sound_at types state sound k (cells.Refs element n shape) at).0
length_int types state sound k len (Some (cells.Unk bound nullable shape)) at e = absurd (none-some len e)

-- so is that of an array of references
pub items_int : (types : WorldTypes) (state : AbstractState) → IsSound types state → (k len : ℕ) (found : Option Cell)
    → cell_at state k ≡ found → items_length_id found ≡ Some len → HasCell is_int state len
items_int types state sound k len None at e = absurd (none-some len e)
items_int types state sound k len (Some (cells.Int interval)) at e = absurd (none-some len e)
items_int types state sound k len (Some cells.Null) at e = absurd (none-some len e)
items_int types state sound k len (Some (cells.Obj class ids)) at e = absurd (none-some len e)
items_int types state sound k len (Some (cells.Nums kind n)) at e = absurd (none-some len e)
items_int types state sound k len (Some (cells.Refs element n shape)) at e = subst (HasCell is_int state) (some_is e)
    (sound_at types state sound k (cells.Refs element n shape) at).0
items_int types state sound k len (Some (cells.Unk bound nullable shape)) at e = absurd (none-some len e)
