-- Numbers that were read are within their ranges.
use Rattle.std.proofs.Common.{◌≡◌, ◌≤◌, ◌≤ℤ◌, ℕ, ℤ, pos, negsuc, nat_le, nat_lt, nat_abs, true, false, cond, ◌&&◌}
use Rattle.std.proofs.Common.{Option, Ok, subst, arith}
use Rattle.std.specs.Prelude.{int_le, unsigned_abs}
use Rattle.std.proofs.lemmas.Bool.Decides.{nat_tests}
use Rattle.std.proofs.lemmas.Bool.{and_parts}
use Rattle.std.proofs.lemmas.Int.{ints}
use Rattle.list_views.proofs.Orders.{int_le_true}
use Rattle.list_views.proofs.Steps.{bind_ok}
use Rattle.json_view.specs.Located.{Located}
use Rattle.json_view.specs.Reading.{int_of}
use Rattle.cert_form.specs.Answers.{json, past_limit}
use Rattle.cert_form.specs.Fields.{number_to, a_number, maybe_to, maybe_number, unless_negative, long_to, a_multiple, a_constant}
use Rattle.cert_form.specs.Steps.{a_weight}
use Rattle.cert_form.proofs.Binds.{test_ok, never}
use Rattle.cert_form.proofs.Whole.{IsWithin, int_within}
use Rattle.cert_form.specs.cert_write.Readable.{IsNumber, IsMaybe}

at_most : (most : ℕ) (n : ℤ) → IsWithin (pos 0) (pos most) n → nat_abs n ≤ most
at_most most (pos k) w = let g = w.greatest in omega (arith, ints)
at_most most (negsuc k) w = let l = w.least in absurd (omega (arith, ints))

pub number_ok : (here : Located) (n : ℕ) → a_number here ≡ Ok n → IsNumber n
unfolding a_number number_to
number_ok here n e =
    let b = bind_ok (json (int_of (pos 0) (pos 4294967295) here)) (λ (z : ℤ). Ok (nat_abs z)) n e in
    let same : nat_abs b.0 ≡ n = let s = b.2 in cc in
    subst IsNumber same (at_most 4294967295 b.0 (int_within (pos 0) (pos 4294967295) b.0 here b.1))

maybe_most : (n : ℤ) → IsWithin (negsuc 0) (pos 4294967295) n → IsMaybe IsNumber (unless_negative n)
maybe_most (pos k) w = let g = w.greatest in omega (arith, ints)
maybe_most (negsuc k) w = tt

pub maybe_ok : (here : Located) (n : Option ℕ) → maybe_number here ≡ Ok n → IsMaybe IsNumber n
unfolding maybe_number maybe_to
maybe_ok here n e =
    let b = bind_ok (json (int_of (negsuc 0) (pos 4294967295) here)) (λ (z : ℤ). Ok (unless_negative z)) n e in
    let same : unless_negative b.0 ≡ n = let s = b.2 in cc in
    subst (IsMaybe IsNumber) same (maybe_most b.0 (int_within (negsuc 0) (pos 4294967295) b.0 here b.1))

-- ---- sizes

within : (n most : ℕ) → nat_le n most ≡ true → n ≤ most
within n most e = grind (arith, nat_tests)

long_ok : (most : ℕ) (here : Located) (n : ℤ) → long_to most here ≡ Ok n → unsigned_abs n ≤ most
unfolding long_to
long_ok most here n e =
    let b = bind_ok (json (int_of (negsuc 9223372036854775807) (pos 9223372036854775807) here))
    (λ n. cond (nat_le (unsigned_abs n) most) (Ok n) (past_limit here)) n e in
    let t = test_ok (nat_le (unsigned_abs b.0) most) (Ok b.0) (past_limit here) n (λ f. never _ f) b.2 in
    let same : b.0 ≡ n = let s = t.1 in cc in
    subst (λ (m : ℤ). unsigned_abs m ≤ most) same (within (unsigned_abs b.0) most t.0)

pub multiple_ok : (here : Located) (n : ℤ) → a_multiple here ≡ Ok n → unsigned_abs n ≤ 2147483648
unfolding a_multiple
multiple_ok here n e = long_ok 2147483648 here n e

pub constant_ok : (here : Located) (n : ℤ) → a_constant here ≡ Ok n → unsigned_abs n ≤ 1099511627776
unfolding a_constant
constant_ok here n e = long_ok 1099511627776 here n e

pub weight_ok : (here : Located) (n : ℤ) → a_weight here ≡ Ok n → (pos 0 ≤ℤ n) × (n ≤ℤ pos 65535)
unfolding a_weight
weight_ok here n e =
    let b = bind_ok (json (int_of (negsuc 9223372036854775807) (pos 9223372036854775807) here))
    (λ n. cond (int_le (pos 0) n && int_le n (pos 65535)) (Ok n) (past_limit here)) n e in
    let t = test_ok (int_le (pos 0) b.0 && int_le b.0 (pos 65535)) (Ok b.0) (past_limit here) n (λ f. never _ f) b.2 in
    let both = and_parts (int_le (pos 0) b.0) (int_le b.0 (pos 65535)) t.0 in
    let same : b.0 ≡ n = let s = t.1 in cc in
    subst (λ (m : ℤ). (pos 0 ≤ℤ m) × (m ≤ℤ pos 65535)) same (int_le_true (pos 0) b.0 both.0, int_le_true b.0 (pos 65535) both.1)

pub order_is : (n m : ℕ) → nat_le n m ≡ true → n ≤ m
order_is n m e = grind (arith, nat_tests)

pub not_more : (most n : ℕ) → nat_lt most n ≡ false → n ≤ most
not_more most n e = grind (arith, nat_tests)
