-- Laws of numbers: what tests of order and equality say, and small sums.
use Rattle.std.proofs.Common.{ℕ, true, ◌≡◌, ◌<◌, arith, false, ◌≤◌, ℤ, ◌≤ℤ◌, sym, pos, ◌*ℤ◌, ◌+ℤ◌, ◌+◌, suc, ap, refl, zero, ◌==◌}
use Rattle.std.proofs.lemmas.Bool.{ltb-true}
use Rattle.std.proofs.lemmas.Bool.Decides.{nat_tests, Decides-int_eq}
use Rattle.std.proofs.lemmas.Int.{ints}
use Rattle.std.specs.Ordering.{int_eq}
use Rattle.std.specs.Prelude.{nat_lt, int_le, unsigned_abs}
use lib.IntN.{zero-*ℤ}

pub nat_lt_true : (a b : ℕ) → nat_lt a b ≡ true → a < b
nat_lt_true a b e = ltb-true a b e

pub nat_lt_from : (n m : ℕ) → n < m → nat_lt n m ≡ true
nat_lt_from n m l = grind (arith, nat_tests)

pub nat_lt_false : (n m : ℕ) → nat_lt n m ≡ false → m ≤ n
nat_lt_false n m e = grind (arith, nat_tests)

pub nat_lt_not : (n m : ℕ) → m ≤ n → nat_lt n m ≡ false
nat_lt_not n m l = grind (arith, nat_tests)

pub int_le_true : (m n : ℤ) → int_le m n ≡ true → m ≤ℤ n
int_le_true m n e = omega (arith, ints)

pub int_le_from : (m n : ℤ) → m ≤ℤ n → int_le m n ≡ true
int_le_from m n h = let e : true ≡ int_le m n = omega (arith, ints) in sym e

pub int_eq_true : (a b : ℤ) → int_eq a b ≡ true → a ≡ b
int_eq_true a b e = (Decides-int_eq a b).0 e

pub int_eq_from : (x y : ℤ) → x ≡ y → int_eq x y ≡ true
int_eq_from x y e = (Decides-int_eq x y).1 e

pub int_through : (r m h : ℤ) → r ≤ℤ m → m ≤ℤ h → r ≤ℤ h
int_through r m h i j = omega (arith, ints)

pub int_self : (x : ℤ) → x ≤ℤ x
int_self x = omega (arith, ints)

pub zero_times : (a : ℤ) → pos 0 *ℤ a ≡ pos 0
zero_times a = zero-*ℤ a

pub plus_zero : (x : ℤ) → x +ℤ pos 0 ≡ x
plus_zero x = omega (arith, ints)

pub zero_plus : (x : ℤ) → pos 0 +ℤ x ≡ x
zero_plus x = omega (arith, ints)

pub size_of_sum : (a b : ℤ) → unsigned_abs (a +ℤ b) ≤ unsigned_abs a + unsigned_abs b
size_of_sum a b = omega (arith, ints)

pub one_more : (n : ℕ) → suc n ≡ n + 1
one_more n = omega arith

pub one_before : (n : ℕ) → 1 + n ≡ suc n
one_before n = omega arith

pub zero_before : (n : ℕ) → 0 + n ≡ n
zero_before n = omega arith

pub neither_below : (a b : ℕ) → (a < b → ⊥) → (b < a → ⊥) → a ≡ b
neither_below zero zero n m = refl
neither_below zero (suc b) n m = absurd (n (omega arith))
neither_below (suc a) zero n m = absurd (m (omega arith))
neither_below (suc a) (suc b) n m = ap suc (neither_below a b (λ l. n (omega (arith, l))) (λ l. m (omega (arith, l))))

pub same_number : (n m : ℕ) → (n == m) ≡ true → n ≡ m
same_number n m e = grind (arith, nat_tests)
