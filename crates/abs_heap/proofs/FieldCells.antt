-- The cells of an object's fields.
use Rattle.std.proofs.Common.{◌≡◌, ℕ, suc, ◌+◌, ◌<◌, ◌≤◌, List, [], ◌∷◌, length, map, take, get_or, refl, sym, ap, subst, ◌∙◌, arith, zip}
use Rattle.std.proofs.lemmas.List.{take_all, get_or_default}
use Rattle.std.proofs.lemmas.Slice.Zip.{get_or-zip}
use Rattle.jvm_values.specs.declared.types.Slot.{Slot}
use Rattle.abs_cells.specs.declared.cells.Cell.{Cell}
use Rattle.abs_heap.specs.inner.Building.{IsOver}
use Rattle.abs_heap.proofs.Placing.{over_next, same_entry, entry_of}

abbrev pub entry_by : (Slot → Cell) → ℕ × Slot → ℕ × Cell
entry_by cell_by p = (p.0, cell_by p.1)

entries_are : (cell_by : Slot → Cell) (ids : List ℕ) (slots : List Slot)
    → map (entry_by cell_by) (zip ids slots) ≡ zip ids (map cell_by slots)
entries_are cell_by [] slots = refl
entries_are cell_by (id ∷ ids) [] = refl
entries_are cell_by (id ∷ ids) (s ∷ slots) = ap (λ (rest : List (ℕ × Cell)). (id, cell_by s) ∷ rest) (entries_are cell_by ids slots)

zip_long : (ids : List ℕ) (slots : List Slot) → length ids ≡ length slots → length (zip ids slots) ≡ length slots
zip_long [] slots e = e
zip_long (id ∷ ids) [] e = refl
zip_long (id ∷ ids) (s ∷ slots) e = ap suc (zip_long ids slots (omega (arith, e)))

pub fields_next : (cell_by : Slot → Cell) (ids : List ℕ) (slots : List Slot) (i d : ℕ) (s : Slot) (cell : Cell)
    (cells some all : List (ℕ × Cell)) → i < length slots → length ids ≡ length slots → cell ≡ cell_by (get_or slots i s)
    → IsOver cells (map (entry_by cell_by) (take i (zip ids slots))) some → IsOver some ((get_or ids i d, cell) ∷ []) all
    → IsOver cells (map (entry_by cell_by) (take (i + 1) (zip ids slots))) all
fields_next cell_by ids slots i d s cell cells some all l e h over more =
    let k = zip_long ids slots e in
    let low : i < length (zip ids slots) = omega (arith, k, l) in
    let first : ℕ × Slot = get_or (zip ids slots) i (d, s) in
    let is : first ≡ get_or (zip ids slots) i first = get_or_default (zip ids slots) i (d, s) first low in
    let parts : first ≡ (get_or ids i d, get_or slots i s) = get_or-zip ids slots i (d, s) (omega (arith, l, e)) l in
    over_next (entry_by cell_by) (zip ids slots) i first (entry_of (get_or ids i d) cell) cells some all low is
    (same_entry (get_or ids i d) (get_or ids i d) cell (cell_by (get_or slots i s)) refl h ∙ ap (entry_by cell_by) (sym parts)) over more

pub fields_all : (cell_by : Slot → Cell) (ids : List ℕ) (slots : List Slot) (i : ℕ) (cells all : List (ℕ × Cell)) → length slots ≤ i
    → length ids ≡ length slots → IsOver cells (map (entry_by cell_by) (take i (zip ids slots))) all
    → IsOver cells (zip ids (map cell_by slots)) all
fields_all cell_by ids slots i cells all l e over =
    subst (λ (xs : List (ℕ × Cell)). IsOver cells xs all)
    (ap (map (entry_by cell_by)) (take_all i (zip ids slots) (let k = zip_long ids slots e in omega (arith, k, l)))
    ∙ entries_are cell_by ids slots) over
