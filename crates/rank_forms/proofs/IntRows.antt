-- Each int tie that is found stands with the rows that say it.
use Rattle.std.proofs.Common.{◌≡◌, ℕ, suc, ◌+◌, ◌<◌, ◌≤◌, Bool, true, false, cond, eqb, List, [], ◌∷◌, ◌++◌, ℤ, pos, negsuc, ◌+ℤ◌}
use Rattle.std.proofs.Common.{◌-ℤ◌, ◌*ℤ◌, Option, Some, None, subst, ap, arith, refl, ◌∙◌, sym}
use Rattle.std.specs.Prelude.{◌&&◌, slice_get, unsigned_abs}
use Rattle.std.specs.Ordering.{int_eq}
use Rattle.std.specs.List.{All}
use Rattle.std.proofs.lemmas.Bool.{and_parts}
use Rattle.std.proofs.lemmas.Bool.Decides.{Decides-int_eq}
use Rattle.std.proofs.lemmas.Int.{ints}
use Rattle.std.proofs.lemmas.Option.{same_Some, none-some}
use Rattle.rank_forms.proofs.Fallen.{none_is, kind_is as equation_is}
use Rattle.list_views.proofs.Quantified.{all_at as at}
use Rattle.list_views.proofs.Orders.{int_eq_true}
use Rattle.lin_core.specs.declared.rows.RowKind.TheVariants.{AtLeastZero, IsZero}
use Rattle.lin_core.specs.declared.rows.WRow.{WRow}
use Rattle.lin_core.specs.Rows.{coefficient_of, Rise}
use Rattle.lin_core.specs.Weights.{AreRows, IsRow}
use Rattle.lin_core.proofs.Signs.{mul-zero_ℤ}
use Rattle.rank_forms.specs.declared.rule_links.links.Beside.{Beside}
use Rattle.rank_forms.specs.declared.rule_links.links.Link.{Link}
use Rattle.rank_forms.specs.declared.rule_links.links.Tie.{Tie}
use Rattle.rank_forms.specs.inner.Following.{unit}
use Rattle.rank_forms.specs.Graphs.{IsShort}
use Rattle.rank_forms.specs.Reasons.{signed}
use Rattle.rank_forms.specs.rule_links.Ties.{beside_ties, constant_at, fixed_from, has_none, is_alone, is_bound, is_inequality, order_of}
use Rattle.rank_forms.specs.rule_links.Ties.{row_ties, terms_ties, ties_at, ties_beside, ties_from, ties_of}
use Rattle.rank_forms.proofs.FallRows.{Each, each_both, each_chosen}
use Rattle.rank_forms.proofs.Rests.{IsRest, rest_all, rest_first, rest_more}
use Rattle.rank_forms.proofs.Tied.{alone_is, found_is, kind_is, most_is}

-- a row by its number that says of a variable alone that so many times it, and a constant, is at least 0
pub record IsRowOf (rows : List WRow) (n variable : ℕ) (times constant : ℤ) : Type 0 where
  pub row : WRow
  pub at : slice_get rows n ≡ Some row
  pub inequality : row.kind ≡ AtLeastZero
  pub terms : row.terms ≡ (variable, times) ∷ []
  pub number : row.constant ≡ constant
  pub weights : row.weights ≡ []

pub row_of : (rows : List WRow) (n variable : ℕ) (times : ℤ) (row : WRow) → slice_get rows n ≡ Some row
    → is_bound variable times row ≡ true → IsRowOf rows n variable times row.constant
row_of rows n variable times row is e =
    let parts = and_parts (is_inequality row.kind) (is_alone variable times row.terms && has_none row.weights) e in
    let more = and_parts (is_alone variable times row.terms) (has_none row.weights) parts.1 in
    record {
      row = row;
      at = is;
      inequality = kind_is row.kind parts.0;
      terms = alone_is variable times row.terms more.0;
      number =
          refl;
      weights = none_is row.weights more.1;
    }

-- the two rows that fix a variable at a number
pub record AreBeside (rows : List WRow) (least most variable : ℕ) (number : ℤ) : Type 0 where
  pub low : ℤ
  pub below : IsRowOf rows least variable (pos 1) low
  pub opposite : low +ℤ number ≡ pos 0
  pub above : IsRowOf rows most variable (negsuc 0) number

same_number : (a b : ℕ) → a ≡ 0 + b → a ≡ b
same_number a b e = omega (arith, e)

fixed_rows : (rows : List WRow) (variable : ℕ) (fixed : ℕ × ℕ) (number : ℤ) → fixed_from variable rows 0 rows ≡ Some fixed
    → constant_at (slice_get rows fixed.1) ≡ Some number → AreBeside rows fixed.0 fixed.1 variable number
fixed_rows rows variable fixed number e c =
    let f = found_is variable rows 0 fixed rows e in
    let m = most_is variable f.row.constant 0 fixed.1 rows f.most in
    let least : slice_get rows fixed.0 ≡ Some f.row = ap (slice_get rows) (same_number fixed.0 f.index f.first) ∙ f.is in
    let most : slice_get rows fixed.1 ≡ Some m.row = ap (slice_get rows) (same_number fixed.1 m.index m.at) ∙ m.is in
    let same : m.row.constant ≡ number = same_Some m.row.constant number (sym (ap constant_at most) ∙ c) in
    record {
      low = f.row.constant;
      below = row_of rows fixed.0 variable (pos 1) f.row least f.bound;
      opposite = ap (λ (z : ℤ). f.row.constant +ℤ z) (sym same) ∙ m.opposite;
      above = subst (IsRowOf rows fixed.1 variable (negsuc 0)) same (row_of rows fixed.1 variable (negsuc 0) m.row most m.bound);
    }

-- from the variable that counts up to the one that counts down, or back
abbrev pub Leads : Bool → ℕ → ℕ → Link → Type 0
Leads false plus minus link = (link.from ≡ plus) × (link.to ≡ minus)
Leads true plus minus link = (link.from ≡ minus) × (link.to ≡ plus)

pub record IsTwo (row : WRow) (back : Bool) (link : Link) : Type 0 where
  pub plus : ℕ
  pub minus : ℕ
  pub coefficients : (x : ℕ) → coefficient_of x row.terms ≡ unit x plus -ℤ unit x minus
  pub leads : Leads back plus minus link
  pub adds : link.by ≡ signed row.constant back

pub record IsThree (rows : List WRow) (row : WRow) (back : Bool) (link : Link) (beside : Beside) : Type 0 where
  pub plus : ℕ
  pub minus : ℕ
  pub variable : ℕ
  pub number : ℤ
  pub fixed : AreBeside rows beside.least beside.most variable number
  pub coefficients : (x : ℕ) → coefficient_of x row.terms ≡ (unit x plus -ℤ unit x minus) +ℤ beside.times *ℤ unit x variable
  pub leads : Leads back plus minus link
  pub adds : link.by ≡ signed (row.constant +ℤ beside.times *ℤ number) back
  pub short : unsigned_abs beside.times ≤ 4096

abbrev pub SaysInt : List WRow → WRow → Bool → Link → Option Beside → Type 0
SaysInt rows row back link None = IsTwo row back link
SaysInt rows row back link (Some beside) = IsThree rows row back link beside

pub record IsIntTie (end : ℕ) (rows : List WRow) (tie : Tie) : Type 0 where
  pub row : WRow
  pub at : slice_get rows tie.row ≡ Some row
  pub equation : row.kind ≡ IsZero
  pub weightless : row.weights ≡ []
  pub low : tie.link.to < end
  pub says : SaysInt rows row tie.back tie.link tie.beside

-- what a term adds to the coefficient of a variable
abbrev value : ℕ × ℤ → ℕ → ℤ
value term x = cond (eqb term.0 x) term.1 (pos 0)

-- two terms with the coefficients 1 and -1
record AreOrdered (end : ℕ) (one other : ℕ × ℤ) (order : ℕ × ℕ) : Type 0 where
  pub values : (x : ℕ) → value one x +ℤ value other x ≡ unit x order.0 -ℤ unit x order.1
  pub plus : order.0 < end
  pub minus : order.1 < end

up_down : (p q : Bool) (a b : ℤ) → a ≡ pos 1 → b ≡ negsuc 0
    → cond p a (pos 0) +ℤ cond q b (pos 0) ≡ (cond p (pos 1) (pos 0) +ℤ pos 0) -ℤ (cond q (pos 1) (pos 0) +ℤ pos 0)
up_down true true a b e f = omega (arith, ints)
up_down true false a b e f = omega (arith, ints)
up_down false true a b e f = omega (arith, ints)
up_down false false a b e f = omega (arith, ints)

down_up : (p q : Bool) (a b : ℤ) → a ≡ negsuc 0 → b ≡ pos 1
    → cond p a (pos 0) +ℤ cond q b (pos 0) ≡ (cond q (pos 1) (pos 0) +ℤ pos 0) -ℤ (cond p (pos 1) (pos 0) +ℤ pos 0)
down_up true true a b e f = omega (arith, ints)
down_up true false a b e f = omega (arith, ints)
down_up false true a b e f = omega (arith, ints)
down_up false false a b e f = omega (arith, ints)

order_cases : (first second : Bool) (end : ℕ) (one other : ℕ × ℤ) (order : ℕ × ℕ)
    → (int_eq one.1 (pos 1) && int_eq other.1 (negsuc 0)) ≡ first → (int_eq one.1 (negsuc 0) && int_eq other.1 (pos 1)) ≡ second
    → one.0 < end → other.0 < end → cond first (Some (one.0, other.0)) (cond second (Some (other.0, one.0)) None) ≡ Some order
    → AreOrdered end one other order
order_cases true second end one other order e f l m o =
    let parts = and_parts (int_eq one.1 (pos 1)) (int_eq other.1 (negsuc 0)) e in
    subst (AreOrdered end one other) (same_Some (one.0, other.0) order o)
    (record {
      values = λ x. up_down (eqb one.0 x) (eqb other.0 x) one.1 other.1 (int_eq_true one.1 (pos 1) parts.0)
          (int_eq_true other.1 (negsuc 0) parts.1);
      plus = l;
      minus = m;
    })
order_cases false true end one other order e f l m o =
    let parts = and_parts (int_eq one.1 (negsuc 0)) (int_eq other.1 (pos 1)) f in
    subst (AreOrdered end one other) (same_Some (other.0, one.0) order o)
    (record {
      values = λ x. down_up (eqb one.0 x) (eqb other.0 x) one.1 other.1 (int_eq_true one.1 (negsuc 0) parts.0)
          (int_eq_true other.1 (pos 1) parts.1);
      plus = m;
      minus = l;
    })
order_cases false false end one other order e f l m o = absurd (none-some order o)

ordered : (end : ℕ) (one other : ℕ × ℤ) (order : ℕ × ℕ) → one.0 < end → other.0 < end → order_of one other ≡ Some order
    → AreOrdered end one other order
ordered end one other order l m o = order_cases (int_eq one.1 (pos 1) && int_eq other.1 (negsuc 0))
    (int_eq one.1 (negsuc 0) && int_eq other.1 (pos 1)) end one other order refl refl l m o

-- both ties of an equation of two variables
record IsEquation (rows : List WRow) (n : ℕ) (row : WRow) : Type 0 where
  pub at : slice_get rows n ≡ Some row
  pub equation : row.kind ≡ IsZero
  pub weightless : row.weights ≡ []

two_ways : (end : ℕ) (rows : List WRow) (n : ℕ) (row : WRow) (one other : ℕ × ℤ) (order : Option (ℕ × ℕ)) → IsEquation rows n row
    → ((x : ℕ) → coefficient_of x row.terms ≡ value one x +ℤ value other x) → one.0 < end → other.0 < end
    → order_of one other ≡ order → Each (IsIntTie end rows) (ties_of order row.constant n None)
two_ways end rows n row one other None is c l m e = tt
two_ways end rows n row one other (Some order) is c l m e =
    let o = ordered end one other order l m e in (
      record {
        row = row;
        at = is.at;
        equation = is.equation;
        weightless = is.weightless;
        low = o.minus;
        says = record
            { plus = order.0; minus = order.1; coefficients = λ x. c x ∙ o.values x; leads = (refl, refl); adds = refl };
      },
      (
        record {
          row = row;
          at = is.at;
          equation = is.equation;
          weightless = is.weightless;
          low = o.plus;
          says = record
              { plus = order.0; minus = order.1; coefficients = λ x. c x ∙ o.values x; leads = (refl, refl); adds = refl };
        },
        tt,
      ),
    )

-- and of three, where the third one is a number
times_value : (here : Bool) (t : ℤ) → cond here t (pos 0) ≡ t *ℤ (cond here (pos 1) (pos 0) +ℤ pos 0)
times_value true t = omega (arith, ints)
times_value false t = sym (mul-zero_ℤ t)

record IsBesideOf (row : WRow) (third one other : ℕ × ℤ) : Type 0 where
  pub coefficients : (x : ℕ) → coefficient_of x row.terms ≡ (value one x +ℤ value other x) +ℤ value third x
  pub short : unsigned_abs third.1 ≤ 4096

three_ways : (end : ℕ) (rows : List WRow) (n : ℕ) (row : WRow) (third one other : ℕ × ℤ) (fixed : ℕ × ℕ) (number : ℤ)
    (order : Option (ℕ × ℕ)) → IsEquation rows n row → IsBesideOf row third one other
    → AreBeside rows fixed.0 fixed.1 third.0 number → one.0 < end → other.0 < end → order_of one other ≡ order
    → Each (IsIntTie end rows)
    (ties_of order (row.constant +ℤ third.1 *ℤ number) n (Some (record { least = fixed.0; most = fixed.1; times = third.1 })))
three_ways end rows n row third one other fixed number None is b f l m e = tt
three_ways end rows n row third one other fixed number (Some order) is b f l m e =
    let o = ordered end one other order l m e in
    let c : (x : ℕ) → coefficient_of x row.terms ≡ (unit x order.0 -ℤ unit x order.1) +ℤ third.1 *ℤ unit x third.0 = λ x.
    b.coefficients x ∙ ap (λ (z : ℤ). z +ℤ value third x) (o.values x) ∙ ap (λ (z : ℤ). (unit x order.0 -ℤ unit x order.1) +ℤ z)
    (times_value (eqb third.0 x) third.1) in (
      record {
        row = row;
        at = is.at;
        equation = is.equation;
        weightless = is.weightless;
        low = o.minus;
        says = record {
          plus = order.0;
          minus = order.1;
          variable = third.0;
          number = number;
          fixed = f;
          coefficients = c;
          leads =
              (refl, refl);
          adds = refl;
          short = b.short;
        };
      },
      (
        record {
          row = row;
          at = is.at;
          equation = is.equation;
          weightless = is.weightless;
          low = o.plus;
          says = record {
            plus = order.0;
            minus = order.1;
            variable = third.0;
            number = number;
            fixed = f;
            coefficients = c;
            leads =
                (refl, refl);
            adds = refl;
            short = b.short;
          };
        },
        tt,
      ),
    )

at_ways : (end : ℕ) (rows : List WRow) (n : ℕ) (row : WRow) (third one other : ℕ × ℤ) (fixed : ℕ × ℕ) (number : Option ℤ)
    → IsEquation rows n row → IsBesideOf row third one other → fixed_from third.0 rows 0 rows ≡ Some fixed
    → constant_at (slice_get rows fixed.1) ≡ number → one.0 < end → other.0 < end
    → Each (IsIntTie end rows) (ties_at number fixed third one other row.constant n)
at_ways end rows n row third one other fixed None is b f e l m = tt
at_ways end rows n row third one other fixed (Some number) is b f e l m = three_ways end rows n row third one other fixed number
    (order_of one other) is b (fixed_rows rows third.0 fixed number f e) l m refl

beside_ways_at : (end : ℕ) (rows : List WRow) (n : ℕ) (row : WRow) (third one other : ℕ × ℤ) (found : Option (ℕ × ℕ))
    → IsEquation rows n row → IsBesideOf row third one other → fixed_from third.0 rows 0 rows ≡ found → one.0 < end → other.0 < end
    → Each (IsIntTie end rows) (ties_beside rows found third one other row.constant n)
beside_ways_at end rows n row third one other None is b f l m = tt
beside_ways_at end rows n row third one other (Some fixed) is b f l m = at_ways end rows n row third one other fixed
    (constant_at (slice_get rows fixed.1)) is b f refl l m

beside_ways : (end : ℕ) (rows : List WRow) (n : ℕ) (row : WRow) (third one other : ℕ × ℤ) → IsEquation rows n row
    → IsBesideOf row third one other → one.0 < end → other.0 < end
    → Each (IsIntTie end rows) (beside_ties rows third one other row.constant n)
beside_ways end rows n row third one other is b l m = beside_ways_at end rows n row third one other (fixed_from third.0 rows 0 rows)
    is b refl l m

-- the terms of an equation
terms_ways : (end : ℕ) (rows : List WRow) (n : ℕ) (row : WRow) (terms : List (ℕ × ℤ)) → IsEquation rows n row → row.terms ≡ terms
    → Rise end terms → IsShort row → Each (IsIntTie end rows) (terms_ties rows terms row.constant n)
terms_ways end rows n row [] is e rise short = tt
terms_ways end rows n row (one ∷ []) is e rise short = tt
terms_ways end rows n row (one ∷ other ∷ []) is e rise short = two_ways end rows n row one other (order_of one other) is
    (λ x. ap (coefficient_of x) e ∙ two (value one x) (value other x)) rise.1 rise.2.1 refl
  where
    two : (a b : ℤ) → a +ℤ (b +ℤ pos 0) ≡ a +ℤ b
    two a b = omega (arith, ints)
terms_ways end rows n row (a ∷ b ∷ c ∷ []) is e rise short =
    let low = short.low is.equation is.weightless a b c e in
    each_both (IsIntTie end rows) (beside_ties rows a b c row.constant n)
    (beside_ties rows b a c row.constant n ++ beside_ties rows c a b row.constant n)
    (beside_ways end rows n row a b c is
    (record { coefficients = λ x. ap (coefficient_of x) e ∙ first (value a x) (value b x) (value c x); short = low.0 })
    rise.2.1 rise.2.2.1) (each_both (IsIntTie end rows) (beside_ties rows b a c row.constant n)
    (beside_ties rows c a b row.constant n)
    (beside_ways end rows n row b a c is
    (record { coefficients = λ x. ap (coefficient_of x) e ∙ second (value a x) (value b x) (value c x); short = low.1 })
    rise.1 rise.2.2.1) (beside_ways end rows n row c a b is
    (record { coefficients = λ x. ap (coefficient_of x) e ∙ third (value a x) (value b x) (value c x); short = low.2 })
    rise.1 rise.2.1))
  where
    first : (a b c : ℤ) → a +ℤ (b +ℤ (c +ℤ pos 0)) ≡ (b +ℤ c) +ℤ a
    first a b c = omega (arith, ints)

    second : (a b c : ℤ) → a +ℤ (b +ℤ (c +ℤ pos 0)) ≡ (a +ℤ c) +ℤ b
    second a b c = omega (arith, ints)

    third : (a b c : ℤ) → a +ℤ (b +ℤ (c +ℤ pos 0)) ≡ (a +ℤ b) +ℤ c
    third a b c = omega (arith, ints)
terms_ways end rows n row (a ∷ b ∷ c ∷ d ∷ rest) is e rise short = tt

row_ways : (end : ℕ) (rows : List WRow) (n : ℕ) (row : WRow) → slice_get rows n ≡ Some row → IsRow end row → IsShort row
    → Each (IsIntTie end rows) (row_ties rows n row)
row_ways end rows n row is fit short = each_chosen (IsIntTie end rows) (is_inequality row.kind) []
    (cond (has_none row.weights) (terms_ties rows row.terms row.constant n) []) (λ e. tt)
    (λ e. each_chosen (IsIntTie end rows) (has_none row.weights) (terms_ties rows row.terms row.constant n) []
    (λ w. terms_ways end rows n row row.terms
    (record { at = is; equation = equation_is row.kind e; weightless = none_is row.weights w }) refl fit.rise short) (λ w. tt))

from_ways : (end : ℕ) (all : List WRow) (n : ℕ) (rows : List WRow) → AreRows end all → All IsShort all → IsRest all n rows
    → Each (IsIntTie end all) (ties_from all n rows)
from_ways end all n [] fit short h = tt
from_ways end all n (row ∷ rest) fit short h =
    let is = rest_first all n row rest h in
    each_both (IsIntTie end all) (row_ties all n row) (ties_from all (suc n) rest)
    (row_ways end all n row is (at (IsRow end) all n row fit is) (at IsShort all n row short is))
    (from_ways end all (suc n) rest fit short (rest_more all n row rest h))

pub ties_ways : (end : ℕ) (rows : List WRow) → AreRows end rows → All IsShort rows → Each (IsIntTie end rows) (ties_from rows 0 rows)
ties_ways end rows fit short = from_ways end rows 0 rows fit short (rest_all rows)
