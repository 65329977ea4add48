-- Images of the entries of a map whose keys rise.
use Rattle.std.proofs.Common.{◌≡◌, ℕ, zero, suc, ◌<◌, ◌≤◌, eqb, Bool, true, false, List, [], ◌∷◌, length, get_or, Option, Some}
use Rattle.std.proofs.Common.{None, slice_get, refl, sym, ap, ◌∙◌, arith, if◌then◌else◌}
use Rattle.std.proofs.lemmas.Bool.{eqb-true}
use Rattle.std.proofs.lemmas.Option.{slice_get_within, get_or_from_slice_get, none-some}
use Rattle.jvm_values.proofs.Options.{some_is}
use Rattle.abs_reach.specs.Instances.{image_in}
use Rattle.abs_reach.specs.Keys.{AreKeysRising}
use Rattle.abs_match.proofs.Keys.{stands}

-- an image stands in some entry
pub entry_of : (entries : List (ℕ × ℕ)) (id image : ℕ) → image_in entries id ≡ Some image
    → (n : ℕ) × ((entry : ℕ × ℕ) × ((slice_get entries n ≡ Some entry) × ((entry.0 ≡ id) × (entry.1 ≡ image))))
entry_of [] id image e = absurd (none-some image e)
entry_of (entry ∷ entries) id image e = go (eqb entry.0 id) refl e (entry_of entries id image)
  where
    go : (t : Bool) → eqb entry.0 id ≡ t → (if t then Some entry.1 else image_in entries id) ≡ Some image
        → (image_in entries id ≡ Some image
        → (n : ℕ) × ((found : ℕ × ℕ) × ((slice_get entries n ≡ Some found) × ((found.0 ≡ id) × (found.1 ≡ image)))))
        → (n : ℕ) × ((found : ℕ × ℕ) × ((slice_get (entry ∷ entries) n ≡ Some found) × ((found.0 ≡ id) × (found.1 ≡ image))))
    go true f h later = (0, (entry, (refl, (eqb-true entry.0 id f, some_is h))))
    go false f h later = let rest = later h in (suc rest.0, (rest.1.0, (rest.1.1.0, rest.1.1.1)))

-- an entry gives its key's image
pub image_is_there : (entries : List (ℕ × ℕ)) (n : ℕ) (entry : ℕ × ℕ) → AreKeysRising 0 entries → slice_get entries n ≡ Some entry
    → image_in entries entry.0 ≡ Some entry.1
image_is_there entries n entry r e =
    let low : n < length entries = slice_get_within entries n entry e in
    let is : get_or entries n entry ≡ entry = get_or_from_slice_get entries n entry entry e in
    stands 0 entries entry.0 n entry r low (ap (λ (x : ℕ × ℕ). x.0) is) ∙ ap (λ (x : ℕ × ℕ). Some x.1) is
