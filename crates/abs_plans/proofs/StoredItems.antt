-- A reference that is stored: where it is null, nothing is thrown.
use Rattle.std.proofs.Common.{◌≡◌, ◌∙◌, ℕ, Bool, true, false, not, if◌then◌else◌, List, [], ◌∷◌, refl, sym, ap}
use Rattle.abs_turns.specs.class_world.BuiltIns.{array_store_exception}
use Rattle.abs_plans.specs.declared.abs_rows.arrays.Access.TheVariants.{ItemStore}
use Rattle.abs_plans.specs.abs_rows.inner.Accesses.{access_turn, good_of, length_of}
use Rattle.abs_turns.specs.Plans.{Plan}
use Rattle.abs_turns.specs.Turns.{Here, throws_after}
use Rattle.abs_turns.specs.Table.{cell_here, is_null_here, length_id, access_of, aastore_plan}

good_or_thrown : (here : Here) (value k index : ℕ) (stack : List ℕ) (b : Bool)
    → access_of here 2 k index (length_id (cell_here here k))
    (λ narrowed rows. access_turn here (ItemStore value) k stack narrowed rows
    ∷ (if not b then throws_after here narrowed rows array_store_exception ∷ [] else [])) ≡ access_of here 2 k index
    (length_id (cell_here here k))
    (λ narrowed rows. access_turn here (ItemStore value) k stack narrowed rows
    ∷ (if b then [] else throws_after here narrowed rows array_store_exception ∷ []))
good_or_thrown here value k index stack true = refl
good_or_thrown here value k index stack false = refl

pub stored : (here : Here) (value index k : ℕ) (whole popped stack : List ℕ) (plan : Plan) → whole ≡ value ∷ popped
    → popped ≡ index ∷ k ∷ stack
    → plan ≡ access_of here 2 k index (length_of here (ItemStore value) k index) (good_of here (ItemStore value) k stack)
    → plan ≡ aastore_plan here whole
stored here value index k whole popped stack plan w p e =
    e ∙ good_or_thrown here value k index stack (is_null_here here value)
    ∙ ap (aastore_plan here) (sym (w ∙ ap (λ (ids : List ℕ). value ∷ ids) p))
