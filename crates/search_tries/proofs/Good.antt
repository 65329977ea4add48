-- Lists of good states: what is taken from them, and what they become.
use Rattle.std.proofs.Common.{◌≡◌, ◌<◌, ◌++◌, ◌∷◌, ℕ, List, [], length, take, All, sym, subst}
use Rattle.std.specs.List.{AllByRecursion}
use Rattle.std.specs.Prelude.{slice_index_or}
use Rattle.std.proofs.lemmas.List.Elements.{All-get_or, All-append, All-push, All-take, All-from_recursion}
use Rattle.abs_cells.specs.AbstractStates.{AbstractState}

-- one that stands in the list
pub got : (P : AbstractState → Type 0) (xs : List AbstractState) (i : ℕ) (x : AbstractState) → i < length xs
    → x ≡ slice_index_or xs i x → All P xs → P x
got P xs i x within is all = subst P (sym is) (All-get_or P xs i x within all)

-- a list of good states is one where what is good stays the same
pub kept : {M : Type 0} (good : M → AbstractState → Type 0) (old new : M) (xs : List AbstractState) → new ≡ old
    → All (good old) xs → All (good new) xs
kept good old new xs same all = subst (λ m. All (good m) xs) (sym same) all

pub one_kept : {M : Type 0} (good : M → AbstractState → Type 0) (old new : M) (x : AbstractState) → new ≡ old → good old x → good new x
one_kept good old new x same one = subst (λ m. good m x) (sym same) one

-- children, as a grower tells them
pub grown_kept : {M : Type 0} (good : M → AbstractState → Type 0) (old new : M) (xs : List AbstractState) → new ≡ old
    → AllByRecursion (good old) xs → All (good new) xs
grown_kept good old new xs same each = kept good old new xs same (All-from_recursion (good old) xs each)

pub appended : (P : AbstractState → Type 0) (xs ys zs : List AbstractState) → zs ≡ xs ++ ys → All P xs → All P ys → All P zs
appended P xs ys zs is old more = subst (λ l. All P l) (sym is) (All-append P xs ys old more)

pub pushed : (P : AbstractState → Type 0) (xs zs : List AbstractState) (x : AbstractState) → zs ≡ xs ++ x ∷ [] → All P xs → P x
    → All P zs
pushed P xs zs x is old one = subst (λ l. All P l) (sym is) (All-push P xs x old one)

pub taken : (P : AbstractState → Type 0) (xs zs : List AbstractState) (n : ℕ) → zs ≡ take n xs → All P xs → All P zs
taken P xs zs n is all = subst (λ l. All P l) (sym is) (All-take P n xs all)
