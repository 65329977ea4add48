-- The regions of values, one after another.
use Rattle.std.proofs.Common.{◌≡◌, ◌<◌, ◌≤◌, ◌+◌, ◌∙◌, ◌++◌, ℕ, List, [], ◌∷◌, length, get_or, take, sym, subst, ap}
use Rattle.std.specs.List.{AllZip}
use Rattle.std.proofs.lemmas.List.{take_more, take_all}
use Rattle.std.proofs.lemmas.Slice.Zip.{all_zipped_more}
use Rattle.jvm_values.specs.declared.heap.Heap.{Heap}
use Rattle.jvm_values.specs.declared.heap.Value.{Value}
use Rattle.jvm_heaps.specs.Regions.{IsRegion}

pub one_region : (heap : Heap) (values : List Value) (n : ℕ) (value d : Value) (found more : List (List ℕ)) (numbers : List ℕ)
    → n < length values → value ≡ get_or values n d → AllZip (IsRegion heap) (take n values) found → IsRegion heap value numbers
    → more ≡ found ++ numbers ∷ [] → AllZip (IsRegion heap) (take (n + 1) values) more
one_region heap values n value d found more numbers l is before here made =
    let longer : take (n + 1) values ≡ take n values ++ value ∷ [] = take_more values n d l
    ∙ ap (λ (v : Value). take n values ++ v ∷ []) (sym is) in
    subst (λ (vs : List Value). AllZip (IsRegion heap) vs more) (sym longer)
    (subst (λ (ls : List (List ℕ)). AllZip (IsRegion heap) (take n values ++ value ∷ []) ls) (sym made)
    (all_zipped_more (IsRegion heap) (take n values) found value numbers before here))

pub every_region : (heap : Heap) (values : List Value) (n : ℕ) (found : List (List ℕ)) → length values ≤ n
    → AllZip (IsRegion heap) (take n values) found → AllZip (IsRegion heap) values found
every_region heap values n found l h = subst (λ (vs : List Value). AllZip (IsRegion heap) vs found) (take_all n values l) h
