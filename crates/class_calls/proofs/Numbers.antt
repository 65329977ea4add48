-- Words that are numbers.
use Rattle.std.proofs.Common.{◌≡◌, ℕ, zero, suc, ◌<◌, ◌≤◌, ◌^◌, ◌==◌, Bool, true, false, List, [], ◌∷◌, length, get_or, Result, Ok}
use Rattle.std.proofs.Common.{refl, sym, ap, ◌∙◌, subst, arith, if◌then◌else◌}
use Rattle.std.specs.Prelude.{◌≢◌}
use Rattle.std.specs.Fmt.{decimal}
use Rattle.std.specs.Str.Parse.{AllDigits, digits_value, ParsesUnsigned}
use Rattle.std.proofs.lemmas.Bool.Decides.{nat_tests}
use Rattle.std.proofs.lemmas.Fmt.{decimal_digit, decimal_injective, first_decimal, parse-decimal, decimal-digits_value}
use Rattle.std.proofs.lemmas.Str.Parse.{IsNumeralModel, numerals_by_value, tells_digits, parse_plain}
use Rattle.class_calls.specs.declared.command_rows.row.NumberRange.{NumberRange}
use Rattle.class_calls.specs.command_rows.inner.Reading.{is_plain}
use Rattle.class_calls.specs.command_rows.Words.{IsNumber}

own : IsNumeralModel (AllDigits 10) (digits_value 10)
own = numerals_by_value (AllDigits 10) tells_digits

-- ---- numbers as they are written

plain_first : (ds : List ℕ) → 48 < get_or ds 0 0 → is_plain ds ≡ true
plain_first [] more = refl
plain_first (d ∷ ds) more = by_plus (d == 43) (d == 48) (grind (arith, nat_tests)) (grind (arith, nat_tests))
  where
    by_plus : (a b : Bool) → a ≡ false → b ≡ false → (if a then false else (if b then length (d ∷ ds) == 1 else true)) ≡ true
    by_plus true b p q = absurd (cc)
    by_plus false true p q = absurd (cc)
    by_plus false false p q = refl

plain_decimal : (n : ℕ) → n < 2 ^ 64 → is_plain (decimal n) ≡ true
plain_decimal zero low = ap is_plain (decimal_digit 0 (omega arith))
plain_decimal (suc n) low = plain_first (decimal (suc n)) (first_decimal (suc n) (omega arith) low)

-- a word that isn't plain is no number
pub not_plain : (word : List ℕ) → is_plain word ≡ false → (number : ℕ) → number < 2 ^ 64 → word ≡ decimal number → ⊥
not_plain word bent number low spelled =
    let plain : is_plain word ≡ true = ap is_plain spelled ∙ plain_decimal number low in
    let e : false ≡ true = sym bent ∙ plain in
    cc

-- ---- numbers as they are read

-- a word that isn't read is no number
pub not_read : {E : Type 0} (word : List ℕ) (r : Result ℕ E) → ParsesUnsigned 64 10 word r → ((n : ℕ) → r ≡ Ok n → ⊥) → (number : ℕ)
    → number < 2 ^ 64 → word ≡ decimal number → ⊥
not_read word r h none number low spelled = none number (parse-decimal 64 number word r low low spelled h)

plus_apart : (word : List ℕ) → is_plain word ≡ true → get_or word 0 0 ≢ 43
plus_apart [] p e = omega arith
plus_apart (d ∷ ds) p e = let q : is_plain (43 ∷ ds) ≡ true = subst (λ (x : ℕ). is_plain (x ∷ ds) ≡ true) e p in let f : false
    ≡ true = q in cc

zero_alone : (word : List ℕ) → is_plain word ≡ true → get_or word 0 0 ≡ 48 → length word ≡ 1
zero_alone [] p e = absurd (omega arith)
zero_alone (d ∷ ds) p e =
    let q : is_plain (48 ∷ ds) ≡ true = subst (λ (x : ℕ). is_plain (x ∷ ds) ≡ true) e p in
    let t : (length (48 ∷ ds) == 1) ≡ true = q in
    one_of (length (48 ∷ ds)) t
  where
    one_of : (n : ℕ) → (n == 1) ≡ true → n ≡ 1
    one_of n t = grind (arith, nat_tests)

-- a plain word that is read as a number says it
pub is_read : {E : Type 0} (word : List ℕ) (r : Result ℕ E) (n : ℕ) → ParsesUnsigned 64 10 word r → r ≡ Ok n → is_plain word ≡ true
    → (word ≡ decimal n) × (n < 2 ^ 64)
is_read {E} word r n h e plain =
    let read : ParsesUnsigned 64 10 word (let s : Result ℕ E = Ok n in s) = subst (λ (s : Result ℕ E). ParsesUnsigned 64 10 word s) e h in
    let said = parse_plain own 64 word (let s : Result ℕ E = Ok n in s) read (plus_apart word plain) in
    let written : decimal (digits_value 10 word) ≡ word = decimal-digits_value own word said.0.0 said.0.1 (zero_alone word plain)
    said.0.2 in
    (sym written ∙ ap decimal (sym said.1), subst (λ (m : ℕ). m < 2 ^ 64) (sym said.1) said.0.2)

-- ---- numbers of a range

-- a word says one number
pub number_one : (word : List ℕ) (a b : ℕ) → a < 2 ^ 64 → b < 2 ^ 64 → word ≡ decimal a → word ≡ decimal b → a ≡ b
number_one word a b low few h k = decimal_injective a b low few (sym h ∙ k)

-- none of the range where it says another one
pub out_of_range : (range : NumberRange) (word : List ℕ) (n : ℕ) → range.most < 2 ^ 64 → n < 2 ^ 64 → word ≡ decimal n
    → (range.least ≤ n → n ≤ range.most → ⊥) → (number : ℕ) → IsNumber range word number → ⊥
out_of_range range word n wide low says out number is =
    let some = is.some in
    let few = is.few in
    let same : number ≡ n = number_one word number n (omega (arith, few, wide)) low is.spelled says in
    out (omega (arith, same, some)) (omega (arith, same, few))
