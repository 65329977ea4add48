-- The locals of an initial frame: each id stands beside its input's value.
use Rattle.std.proofs.Common.{◌≡◌, ℕ, ◌+◌, ◌-◌, zero, suc, List, [], ◌∷◌, ◌++◌, length, map, replicate, Option, Some, None, sym}
use Rattle.std.proofs.Common.{refl, ap, ◌∙◌, append_assoc, arith}
use Rattle.std.specs.Prelude.{slice_get}
use Rattle.std.specs.List.{AllZip}
use Rattle.list_views.proofs.Items.{get_before, get_behind}
use Rattle.list_views.proofs.Zipped.{zip_left, zip_joined}
use Rattle.jvm_values.specs.declared.heap.Value.{Value}
use Rattle.abs_cells.specs.Fits.{Meaning}
use Rattle.input_desc.specs.Initial.{given_from, initial_locals}
use Rattle.input_desc.proofs.Zipped.{zip_replicate}

-- a local beside the id that it has
abbrev IsShown : Meaning → Option ℕ → Option Value → Type 0
IsShown meaning given local = (id : ℕ) → given ≡ Some id → local ≡ Some (meaning id)

given_ids : (meaning : Meaning) (values : List Value) (from : ℕ)
    → ((k : ℕ) (v : Value) → slice_get values k ≡ Some v → meaning (from + k) ≡ v)
    → AllZip (IsShown meaning) (given_from from (length values)) (map Some values)
given_ids meaning [] from h = tt
given_ids meaning (v ∷ values) from h = (first, given_ids meaning values (from + 1) rest)
  where
    first : (id : ℕ) → Some from ≡ Some id → Some v ≡ Some (meaning id)
    first id e =
        let same : from + 0 ≡ id = let k : from ≡ id = cc in omega arith in
        ap Some (sym (sym (ap meaning same) ∙ h 0 v refl))

    rest : (k : ℕ) (w : Value) → slice_get values k ≡ Some w → meaning ((from + 1) + k) ≡ w
    rest k w e =
        let same : (from + 1) + k ≡ from + suc k = omega arith in
        ap meaning same ∙ h (suc k) w e

-- Each local that has an id has its value: the arguments in front, the static fields behind.
pub locals_shown : (meaning : Meaning) (places : ℕ) (args statics : List Value)
    → ((k : ℕ) (v : Value) → slice_get (args ++ statics) k ≡ Some v → meaning k ≡ v) → (n id : ℕ)
    → slice_get (initial_locals places (length args) (length statics)) n ≡ Some (Some id)
    → slice_get ((map Some args ++ replicate (places - length args) None) ++ map Some statics) n ≡ Some (Some (meaning id))
locals_shown meaning places args statics h n id e =
    let in_front = given_ids meaning args 0 (λ k v f. let same : 0 + k ≡ k = omega arith in ap meaning same
    ∙ h k v (get_before args statics k v f)) in
    let behind = given_ids meaning statics (length args) (λ k v f. h (length args + k) v (get_behind args statics k ∙ f)) in
    let unset = zip_replicate (IsShown meaning) (places - length args) None None (λ id e. absurd cc) in
    let all = zip_joined (IsShown meaning) (given_from 0 (length args))
    (replicate (places - length args) None ++ given_from (length args) (length statics)) (map Some args)
    (replicate (places - length args) None ++ map Some statics) in_front
    (zip_joined (IsShown meaning) (replicate (places - length args) None) (given_from (length args) (length statics))
    (replicate (places - length args) None) (map Some statics) unset behind) in
    let found = zip_left (IsShown meaning) (initial_locals places (length args) (length statics))
    (map Some args ++ (replicate (places - length args) None ++ map Some statics)) n (Some id) all e in
    ap (λ ls. slice_get ls n) (append_assoc (map Some args) (replicate (places - length args) None) (map Some statics)) ∙ found.1.0
    ∙ ap Some (found.1.1 id refl)
