-- Lists that are compared item by item.
use Rattle.std.proofs.Common.{◌≡◌, ◌≢◌, ◌<◌, ◌≤◌, ◌+◌, ◌∙◌, ℕ, zero, suc, List, [], ◌∷◌, length, slice_index_or, take, refl, sym}
use Rattle.std.proofs.Common.{ap, arith}
use Rattle.std.proofs.lemmas.List.{take_all, take_more_same}
use Rattle.abs_cells.proofs.list_views.Items.{any_default}

pub more_same : {X : Type 0} (xs ys : List X) (n : ℕ) (x y : X) → n < length xs → length xs ≡ length ys → x ≡ slice_index_or xs n x
    → y ≡ slice_index_or ys n y → x ≡ y → take n xs ≡ take n ys → take (n + 1) xs ≡ take (n + 1) ys
more_same xs ys n x y l same is there e front =
    take_more_same xs ys n x l (omega (arith, l, same)) front (sym is ∙ e ∙ there ∙ any_default ys n y x (omega (arith, l, same)))

pub one_differs : {X : Type 0} (xs ys : List X) (n : ℕ) (x y : X) → n < length xs → length xs ≡ length ys
    → x ≡ slice_index_or xs n x → y ≡ slice_index_or ys n y → x ≢ y → xs ≢ ys
one_differs xs ys n x y l same is there apart e =
    apart (is ∙ ap (λ zs. slice_index_or zs n x) e ∙ any_default ys n x y (omega (arith, l, same)) ∙ sym there)

pub all_same : {X : Type 0} (xs ys : List X) (n : ℕ) → length xs ≤ n → length xs ≡ length ys → take n xs ≡ take n ys → xs ≡ ys
all_same xs ys n l same front = sym (take_all n xs l) ∙ front ∙ take_all n ys (omega (arith, l, same))
