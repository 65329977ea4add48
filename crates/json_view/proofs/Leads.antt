-- A place leads to the value that stands there.
use Rattle.std.proofs.Common.{◌≡◌, ◌≢◌, ℕ, zero, suc, ◌+◌, ◌%◌, ◌<◌, ◌^◌, ◌==◌, ◌||◌, Bool, true, false, cond, not, List, [], ◌∷◌}
use Rattle.std.proofs.Common.{◌++◌, length, get_or, Some, None, option_and_then, decimal, refl, sym, ap, ◌∙◌, arith, append-nil}
use Rattle.std.proofs.Common.{lt-ltb, ne_eqb, eq-eqb, length-append, ⊎_elim}
use Rattle.std.proofs.lemmas.Bool.{cases_lt}
use Rattle.std.proofs.Math.ListN.{get_or-append}
use Rattle.std.proofs.lemmas.Fmt.{decimal_is_IsNumeral, decimal_nonempty, decimal_by_steps, decimal_digit}
use Rattle.std.proofs.lemmas.Float.Parse.{scan_numeral-text_of}
use Rattle.std.specs.Float.Numeral.{Parts, scan_numeral, IsWellFormed, numeral_digits}
use Rattle.serde_json.specs.Data.{Data}
use Rattle.serde_json.specs.Find.{unescape, index_of, step, walk, pointer}
use Rattle.serde_json.specs.Read.{is_integer}
use Rattle.serde_json.proofs.Paths.{Lacks, walk_last}
use Rattle.json_view.specs.Place.{escaped}

-- ---- one more reference token

-- after a walk that reads `rest`, one more token is one more step
walk_more : (part rest token : List ℕ) (root here : Data) → Lacks 47 token → walk part rest root ≡ Some here
    → walk part (rest ++ 47 ∷ token) root ≡ step token here
unfolding walk
walk_more part [] token root here plain h = rw h (walk_last token here plain)
walk_more part (x ∷ rest) token root here plain h =
    elim (x == 47) as (λ b. cond b (option_and_then (walk [] rest) (step part root)) (walk (part ++ x ∷ []) rest root) ≡ Some here
    → cond b (option_and_then (walk [] (rest ++ 47 ∷ token)) (step part root))
    (walk (part ++ x ∷ []) (rest ++ 47 ∷ token) root) ≡ step token here) [
      | true ↦ elim (step part root) as (λ o. option_and_then (walk [] rest) o ≡ Some here
          → option_and_then (walk [] (rest ++ 47 ∷ token)) o ≡ step token here) [
            | None ↦ λ e. cc
            | Some d ↦ λ e. walk_more [] rest token d here plain e
          ]
      | false ↦ λ e. walk_more (part ++ x ∷ []) rest token root here plain e
    ] h

-- one more token is one more step
pub pointer_more : (place token : List ℕ) (root here : Data) → Lacks 47 token → pointer place root ≡ Some here
    → pointer (place ++ 47 ∷ token) root ≡ step token here
pointer_more [] token root here plain h = walk_last token root plain ∙ (let same : root ≡ here = cc in ap (step token) same)
pointer_more (x ∷ rest) token root here plain h =
    elim (x == 47) as (λ b. cond b (walk [] rest root) None ≡ Some here
    → cond b (walk [] (rest ++ 47 ∷ token) root) None ≡ step token here) [
      | true ↦ λ e. walk_more [] rest token root here plain e
      | false ↦ λ e. cc
    ] h

-- ---- a name as a token

Lacks-cons : (c x : ℕ) (xs : List ℕ) → x ≢ c → Lacks c xs → Lacks c (x ∷ xs)
Lacks-cons c x xs h rest zero below = h
Lacks-cons c x xs h rest (suc i) below = rest i (omega arith)

apart : (a b : ℕ) → (a == b) ≡ false → a ≢ b
apart a b h same = let is : (a == b) ≡ true = eq-eqb a b same in cc

pub Lacks-escaped : (name : List ℕ) → Lacks 47 (escaped name)
Lacks-escaped [] = λ i below. absurd (omega arith)
Lacks-escaped (b ∷ name) =
    let rest : Lacks 47 (escaped name) = Lacks-escaped name in
    let tilde : (x : ℕ) (xs : List ℕ) → x ≢ 47 → Lacks 47 xs → Lacks 47 (126 ∷ x ∷ xs) = λ x xs h more. Lacks-cons 47 126 (x ∷ xs)
    (λ e. omega arith) (Lacks-cons 47 x xs h more) in
    elim (b == 126) as (λ t. Lacks 47 (cond t (126 ∷ 48 ∷ []) (cond (b == 47) (126 ∷ 49 ∷ []) (b ∷ [])) ++ escaped name)) [
      | true ↦ tilde 48 (escaped name) (λ e. omega arith) rest
      | false ↦ elim (b == 47) as (λ t. (b == 47) ≡ t → Lacks 47 (cond t (126 ∷ 49 ∷ []) (b ∷ []) ++ escaped name)) [
        | true ↦ λ _. tilde 49 (escaped name) (λ e. omega arith) rest
        | false ↦ λ is. Lacks-cons 47 b (escaped name) (apart b 47 is) rest
      ] refl
    ]

unescape-cons : (x : ℕ) (xs : List ℕ) → (x == 126) ≡ false → unescape (x ∷ xs) ≡ x ∷ unescape xs
unfolding unescape
unescape-cons x [] h = refl
unescape-cons x (y ∷ ys) h = rw h refl

pub unescape-escaped : (name : List ℕ) → unescape (escaped name) ≡ name
unfolding unescape
unescape-escaped [] = refl
unescape-escaped (b ∷ name) =
    let rest : unescape (escaped name) ≡ name = unescape-escaped name in
    elim (b == 126) as (λ t. (b == 126) ≡ t
    → unescape (cond t (126 ∷ 48 ∷ []) (cond (b == 47) (126 ∷ 49 ∷ []) (b ∷ [])) ++ escaped name) ≡ b ∷ name) [
      | true ↦ λ is. let same : 126 ≡ b = grind arith in rw (rest, same) refl
      | false ↦ λ no. elim (b == 47) as (λ t. (b == 47) ≡ t → unescape (cond t (126 ∷ 49 ∷ []) (b ∷ []) ++ escaped name) ≡ b ∷ name) [
        | true ↦ λ is. let same : 47 ≡ b = grind arith in rw (rest, same) refl
        | false ↦ λ is. unescape-cons b (escaped name) no ∙ ap (λ more. b ∷ more) rest
      ] refl
    ] refl

-- ---- a number as a token

-- a numeral without a point or an exponent
abbrev plain_parts : List ℕ → Parts
plain_parts ds = record { whole = ds; point = false; fraction = []; exponent_negative = false; exponent = []; len = length (ds ++ []) }

-- the digits of a number have no slash, and no zero before another digit
record IsIndexText (n : ℕ) (ds : List ℕ) : Type 0 where
  some : 0 < length ds
  leads : 0 < n → get_or ds 0 0 ≢ 48
  plain : Lacks 47 ds

Lacks-push : (c x : ℕ) (xs : List ℕ) → x ≢ c → Lacks c xs → Lacks c (xs ++ x ∷ [])
Lacks-push c x [] h rest = Lacks-cons c x [] h rest
Lacks-push c x (y ∷ ys) h rest = Lacks-cons c y (ys ++ x ∷ []) (rest 0 (omega arith))
    (Lacks-push c x ys h (λ i below. rest (suc i) (omega arith)))

IsIndexText-decimal : (n : ℕ) → n < 2 ^ 64 → IsIndexText n (decimal n)
IsIndexText-decimal n h = decimal_by_steps IsIndexText
    (λ d small. record {
      some = omega arith;
      leads = λ more e. omega arith;
      plain = Lacks-cons 47 (48 + d) [] (λ e. omega arith)
          (λ i below. absurd (omega arith));
    })
    (λ m ds large front. record {
      some = omega (arith, length-append ds ((48 + m % 10) ∷ []));
      leads = λ more. rw
          (get_or-append ds ((48 + m % 10) ∷ []) 0 0 front.some) (front.leads (omega arith));
      plain = Lacks-push 47 (48 + m % 10) ds
          (λ e. omega arith) front.plain;
    }) n h

pub Lacks-decimal : (n : ℕ) → n < 2 ^ 64 → Lacks 47 (decimal n)
Lacks-decimal n h = (IsIndexText-decimal n h).plain

or_true : (b : Bool) → (b || true) ≡ true
or_true true = refl
or_true false = refl

no_leading_zero : (n : ℕ) → n < 2 ^ 64 → ((length (decimal n) == 1) || not (get_or (decimal n) 0 0 == 48)) ≡ true
no_leading_zero n h =
    ⊎_elim (λ small. rw (decimal_digit n small) refl)
    (λ large. rw (ne_eqb (get_or (decimal n) 0 0) 48 ((IsIndexText-decimal n h).leads (omega arith)))
    (or_true (length (decimal n) == 1))) (cases_lt n 10)

index_from : (s : List ℕ) (n : ℕ) (p : Parts) → scan_numeral s ≡ p → is_integer p ≡ true → p.len ≡ length s → numeral_digits p ≡ n
    → n < 2 ^ 64 → ((length s == 1) || not (get_or s 0 0 == 48)) ≡ true → index_of s ≡ Some n
unfolding index_of
index_from s n p scanned whole len value fits head = rw
    (scanned, whole, eq-eqb p.len (length s) len, value, lt-ltb n (2 ^ 64) fits, head) refl

pub index_of-decimal : (n : ℕ) → n < 2 ^ 64 → index_of (decimal n) ≡ Some n
index_of-decimal n h =
    let e = decimal_is_IsNumeral n h in
    let some = decimal_nonempty n h in
    let formed : IsWellFormed (plain_parts (decimal n)) = record {
      whole_digits = e.0.1;
      fraction_digits = tt;
      exponent_digits = tt;
      no_point = λ _. refl;
      no_exponent = λ _. refl;
      len_is =
          refl;
    } in
    index_from (decimal n) n (plain_parts (decimal n)) (ap scan_numeral (sym (append-nil (decimal n)))
    ∙ scan_numeral-text_of (plain_parts (decimal n)) formed) (rw (lt-ltb _ _ some)) (ap length (append-nil (decimal n)))
    (rw append-nil e.1) h (no_leading_zero n h)
