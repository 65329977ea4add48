-- Values share as their regions have numbers in common.
use Rattle.std.proofs.Common.{◌≡◌, ℕ, List, [], ◌∷◌, length, arith}
use Rattle.std.specs.Prelude.{◌↔◌, All}
use Rattle.std.specs.List.{AllZip}
use Rattle.std.proofs.lemmas.Slice.Zip.{AllZip-long}
use Rattle.std.proofs.lemmas.List.Elements.{All-nil, All-cons}
use Rattle.list_views.proofs.Zipped.{zip_left, zip_right}
use Rattle.jvm_values.specs.declared.heap.Heap.{Heap}
use Rattle.jvm_values.specs.declared.heap.Value.{Value}
use Rattle.jvm_heaps.specs.Regions.{RiseFrom, IsRegion}
use Rattle.input_fits.specs.inner.Words.{HaveCommon, Share, AreListed}

pub regions_rise : (heap : Heap) (values : List Value) (found : List (List ℕ)) → AllZip (IsRegion heap) values found → All (RiseFrom 0) found
regions_rise heap [] [] are = All-nil (RiseFrom 0)
regions_rise heap [] (numbers ∷ found) are = absurd are
regions_rise heap (value ∷ values) [] are = absurd are
regions_rise heap (value ∷ values) (numbers ∷ found) are = All-cons (RiseFrom 0) numbers found are.0.rising
    (regions_rise heap values found are.1)

pub shared_listed : (heap : Heap) (values : List Value) (found : List (List ℕ)) (pairs : List (ℕ × ℕ)) → AllZip (IsRegion heap) values found
    → AreListed HaveCommon found pairs ↔ AreListed (Share heap) values pairs
shared_listed heap values found pairs are =
    let long : length found ≡ length values = AllZip-long (IsRegion heap) values found are in (
      λ listed i l j v w low at_v at_w both.
          let a = zip_left (IsRegion heap) values found j v are at_v in
          let b = zip_left (IsRegion heap) values found i w are at_w in
          listed i (omega (arith, l, long)) j a.0 b.0 low a.1.0 b.1.0
          (both.0, ((a.1.1.exact both.0).1 both.1.0, (b.1.1.exact both.0).1 both.1.1)),
      λ listed i l j x y low at_x at_y both.
          let a = zip_right (IsRegion heap) values found are j x at_x in
          let b = zip_right (IsRegion heap) values found are i y at_y in
          listed i (omega (arith, l, long)) j a.0 b.0 low a.1.0 b.1.0
          (both.0, ((a.1.1.exact both.0).0 both.1.0, (b.1.1.exact both.0).0 both.1.1)),
    )
