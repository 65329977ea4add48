-- How the count of a pool grows entry by entry.
use Rattle.std.proofs.Common.{◌≡◌, ℕ, ◌*◌, ◌≤◌, List, [], ◌∷◌, length, take, drop, ap, arith, inl, inr}
use Rattle.std.proofs.lemmas.Bool.{cases_Bool}
use Rattle.class_pool.specs.Entry.{is_wide}
use Rattle.class_pool.proofs.PoolLaws.{slots_narrow, slots_wide}
use Rattle.std.specs.List.{flat_map}
use Rattle.std.proofs.lemmas.List.{length-append, take-append-drop}
use Rattle.std.proofs.lemmas.List.Concat.{flat_map-append}
use Rattle.class_pool.specs.declared.entry.PoolEntry.{PoolEntry}
use Rattle.class_pool.specs.Text.{slots_of, places_of}

-- entries in front take no more places than all
pub count_bound : (es : List PoolEntry) (i : ℕ) → length (places_of (take i es)) ≤ length (places_of es)
count_bound es i =
    let split = ap (λ (xs : List PoolEntry). length (flat_map slots_of xs)) (take-append-drop i es) in
    let parts = ap length (flat_map-append slots_of (take i es) (drop i es)) in
    let sum = length-append (flat_map slots_of (take i es)) (flat_map slots_of (drop i es)) in
    omega (arith, split, parts, sum)

-- each entry takes one or two places
pub slots_bounds : (es : List PoolEntry) → (length es ≤ length (flat_map slots_of es)) × (length (flat_map slots_of es) ≤ 2 * length es)
slots_bounds [] = (omega arith, omega arith)
slots_bounds (e ∷ es) =
    let others = slots_bounds es in
    let sum = length-append (slots_of e) (flat_map slots_of es) in
    elim (cases_Bool (is_wide e)) [
      | inl wide ↦
          let own : length (slots_of e) ≡ 2 = slots_wide e wide in
          (omega (arith, others.0, sum, own), omega (arith, others.1, sum, own))
      | inr narrow ↦
          let own : length (slots_of e) ≡ 1 = slots_narrow e narrow in
          (omega (arith, others.0, sum, own), omega (arith, others.1, sum, own))
    ]
