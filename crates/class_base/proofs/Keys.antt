-- Names and descriptors, turned round.
use Rattle.std.proofs.Common.{◌≡◌, ℕ, ◌&&◌, List, ap₂}
use Rattle.std.specs.Str.{bytes_eq}
use Rattle.std.specs.Cmp.Lexicographic.{nat_list_eq_equiv}
use Rattle.class_base.specs.Members.{Key, same_key}

bytes_swapped : (a b : List ℕ) → bytes_eq a b ≡ bytes_eq b a
bytes_swapped a b = nat_list_eq_equiv.symm a b

pub same_swapped : (j k : Key) → same_key j k ≡ same_key k j
same_swapped j k = ap₂ ◌&&◌ (bytes_swapped j.0 k.0) (bytes_swapped j.1 k.1)
