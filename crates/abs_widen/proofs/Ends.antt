-- A widened bound is past both bounds that it comes of.
use Rattle.std.proofs.Common.{◌≡◌, ℤ, pos, negsuc, ◌≤ℤ◌, Bool, true, false, refl, arith}
use Rattle.std.specs.Prelude.{int_le, if◌then◌else◌}
use Rattle.std.proofs.lemmas.Int.{ints}
use Rattle.list_views.proofs.Orders.{int_le_true, int_through, int_self}
use Rattle.abs_widen.specs.Rows.{bound_below, bound_above, widened_lo, widened_hi}

over_from : (m n : ℤ) → int_le m n ≡ false → n ≤ℤ m
over_from m n e = omega (arith, ints, e)

choose_low : (t : Bool) (x y n : ℤ) → (t ≡ true → x ≤ℤ n) → y ≤ℤ n → (if t then x else y) ≤ℤ n
choose_low true x y n h k = h refl
choose_low false x y n h k = k

choose_high : (t : Bool) (x y n : ℤ) → (t ≡ true → n ≤ℤ x) → n ≤ℤ y → n ≤ℤ (if t then x else y)
choose_high true x y n h k = h refl
choose_high false x y n h k = k

below_low : (n : ℤ) → negsuc 2147483647 ≤ℤ n → bound_below n ≤ℤ n
below_low n l =
    choose_low (int_le (pos 2147483647) n) (pos 2147483647)
    (if int_le (pos 2147483646) n then pos 2147483646 else if int_le (pos 0) n then pos 0 else if int_le (negsuc 2147483646) n
    then negsuc 2147483646 else negsuc 2147483647) n (int_le_true (pos 2147483647) n)
    (choose_low (int_le (pos 2147483646) n) (pos 2147483646)
    (if int_le (pos 0) n then pos 0 else if int_le (negsuc 2147483646) n then negsuc 2147483646 else negsuc 2147483647) n
    (int_le_true (pos 2147483646) n)
    (choose_low (int_le (pos 0) n) (pos 0) (if int_le (negsuc 2147483646) n then negsuc 2147483646 else negsuc 2147483647) n
    (int_le_true (pos 0) n)
    (choose_low (int_le (negsuc 2147483646) n) (negsuc 2147483646) (negsuc 2147483647) n (int_le_true (negsuc 2147483646) n) l)))

above_high : (n : ℤ) → n ≤ℤ pos 2147483647 → n ≤ℤ bound_above n
above_high n l =
    choose_high (int_le n (negsuc 2147483647)) (negsuc 2147483647)
    (if int_le n (negsuc 2147483646) then negsuc 2147483646 else if int_le n (pos 0) then pos 0 else if int_le n
    (pos 2147483646) then pos 2147483646 else pos 2147483647) n (int_le_true n (negsuc 2147483647))
    (choose_high (int_le n (negsuc 2147483646)) (negsuc 2147483646)
    (if int_le n (pos 0) then pos 0 else if int_le n (pos 2147483646) then pos 2147483646 else pos 2147483647) n
    (int_le_true n (negsuc 2147483646))
    (choose_high (int_le n (pos 0)) (pos 0) (if int_le n (pos 2147483646) then pos 2147483646 else pos 2147483647) n
    (int_le_true n (pos 0))
    (choose_high (int_le n (pos 2147483646)) (pos 2147483646) (pos 2147483647) n (int_le_true n (pos 2147483646)) l)))

-- a widened bound is past both
pub lo_first : (old new : ℤ) → negsuc 2147483647 ≤ℤ new → widened_lo old new ≤ℤ old
lo_first old new l = go (int_le old new) refl
  where
    go : (t : Bool) → int_le old new ≡ t → (if t then old else bound_below new) ≤ℤ old
    go true e = int_self old
    go false e = int_through (bound_below new) new old (below_low new l) (over_from old new e)

pub lo_second : (old new : ℤ) → negsuc 2147483647 ≤ℤ new → widened_lo old new ≤ℤ new
lo_second old new l = choose_low (int_le old new) old (bound_below new) new (int_le_true old new) (below_low new l)

pub hi_first : (old new : ℤ) → new ≤ℤ pos 2147483647 → old ≤ℤ widened_hi old new
hi_first old new l = go (int_le new old) refl
  where
    go : (t : Bool) → int_le new old ≡ t → old ≤ℤ (if t then old else bound_above new)
    go true e = int_self old
    go false e = int_through old new (bound_above new) (over_from new old e) (above_high new l)

pub hi_second : (old new : ℤ) → new ≤ℤ pos 2147483647 → new ≤ℤ widened_hi old new
hi_second old new l = choose_high (int_le new old) old (bound_above new) new (int_le_true new old) (above_high new l)
