-- Rows of what classes select.
use Rattle.std.proofs.Common.{◌≡◌, ◌++◌, ◌⊎◌, ℕ, zero, suc, Bool, true, false, cond, List, [], ◌∷◌, length, Option, Some, None, sym}
use Rattle.std.proofs.Common.{refl, ap, ◌∙◌, subst, inl, inr}
use Rattle.std.specs.Prelude.{slice_get}
use Rattle.std.specs.Map.{lookup}
use Rattle.std.specs.Option.{option_map_or}
use Rattle.std.proofs.lemmas.Option.{none-some, same_Some}
use Rattle.class_world.specs.class_read.Content.{MethodContent}
use Rattle.class_world.specs.declared.world.MethodRef.{MethodRef}
use Rattle.class_world.specs.World.{World}
use Rattle.class_world.specs.Resolve.{method_at}
use Rattle.class_world.specs.Select.{select}
use Rattle.class_program.specs.Reached.{same_method}
use Rattle.class_program.specs.inner.Rows.{Rows, IsRow, AreRows}
use Rattle.class_program.proofs.Room.{same_is}

pub row_start : (world : World) (m : MethodContent) (row : List (Option MethodRef)) → row ≡ [] → IsRow world m row
row_start world m row e = λ class found at. absurd (none-some found (sym (ap (λ r. slice_get r class) e) ∙ at))

-- the row that is found for a method, or no items
pub row_found : (world : World) (rows : Rows) (ref : MethodRef) (m : MethodContent) (row : List (Option MethodRef))
    → AreRows world rows → method_at world ref ≡ Some m → row ≡ option_map_or (λ r. r) (lookup (same_method ref) rows) []
    → IsRow world m row
row_found world rows ref m row right at row_is = subst (IsRow world m) (sym row_is) (go (lookup (same_method ref) rows) refl)
  where
    go : (o : Option (List (Option MethodRef))) → lookup (same_method ref) rows ≡ o → IsRow world m (option_map_or (λ r. r) o [])
    go None e = row_start world m [] refl
    go (Some found) e = right ref m found at e

pub no_rows : (world : World) (rows : Rows) → rows ≡ [] → AreRows world rows
no_rows world rows e = λ ref m row at found. absurd (none-some row (sym (ap (lookup (same_method ref)) e) ∙ found))

-- one more row under a method
pub rows_more : (world : World) (rows more : Rows) (ref : MethodRef) (m : MethodContent) (row : List (Option MethodRef))
    → AreRows world rows → method_at world ref ≡ Some m → IsRow world m row
    → ((q : MethodRef) → lookup (same_method q) more ≡ cond (same_method ref q) (Some row) (lookup (same_method q) rows))
    → AreRows world more
rows_more world rows more ref m row right at is_row looked = λ q m' found at' e. go q m' found at' (same_method ref q) refl
    (sym (looked q) ∙ e)
  where
    go : (q : MethodRef) (m' : MethodContent) (found : List (Option MethodRef)) → method_at world q ≡ Some m' → (b : Bool)
        → same_method ref q ≡ b → cond (same_method ref q) (Some row) (lookup (same_method q) rows) ≡ Some found → IsRow world m' found
    go q m' found at' true same e =
        let r : row ≡ found = same_Some row found (sym (ap (λ b. cond b (Some row) (lookup (same_method q) rows)) same) ∙ e) in
        let n : m ≡ m' = same_Some m m' (sym at ∙ ap (method_at world) (same_is ref q same) ∙ at') in
        subst (λ c. IsRow world c found) n (subst (IsRow world m) r is_row)
    go q m' found at' false same e = right q m' found at' (sym (ap (λ b. cond b (Some row) (lookup (same_method q) rows)) same) ∙ e)
