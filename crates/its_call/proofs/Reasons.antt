-- The reasons of a form: rows that say how much a variable changes.
use Rattle.std.proofs.Common.{◌≡◌, ◌∙◌, inl, inr, ◌+◌, eqb, ◌&&◌, cond, ℕ, suc, Bool, true}
use Rattle.std.proofs.Common.{false, List, [], ◌∷◌, ℤ, pos, negsuc, ◌+ℤ◌, ◌-ℤ◌, ◌*ℤ◌, Option, Some, None}
use Rattle.std.proofs.Common.{is_some, slice_get, refl, sym, ap, subst, arith}
use Rattle.std.specs.Ordering.{int_eq}
use Rattle.std.specs.Option.{option_or}
use Rattle.std.proofs.lemmas.Bool.{eqb-true, false≢true}
use Rattle.std.proofs.lemmas.Int.{ints}
use Rattle.std.proofs.lemmas.Option.{none-some, same_Some}
use Rattle.list_views.proofs.Orders.{int_eq_true}
use Rattle.lin_core.specs.declared.rows.RowKind.{RowKind}
use Rattle.lin_core.specs.declared.rows.RowKind.TheVariants.{AtLeastZero, IsZero}
use Rattle.lin_core.specs.declared.rows.WRow.{WRow}
use Rattle.its_front.specs.Words.{before}
use Rattle.its_call.specs.its_search.Changes.{Form, change_by, change_in, change_of_row, change_of, added, form_change, IsUnit}
use Rattle.its_call.specs.its_search.inner.Following.{first_coefficient, reason_from, reasons_of}

-- ---- what is before others

pub record IsBefore {A : Type 0} (first : Option A) (rest : Option (List A)) (all : List A) : Type 0 where
  pub item : A
  pub others : List A
  pub first_is : first ≡ Some item
  pub rest_is : rest ≡ Some others
  pub all_is : all ≡ item ∷ others

pub before_is : {A : Type 0} (first : Option A) (rest : Option (List A)) (all : List A) → before first rest ≡ Some all
    → IsBefore first rest all
before_is None rest all e = absurd (none-some all e)
before_is (Some item) None all e = absurd (none-some all e)
before_is (Some item) (Some others) all e = record
    { item = item; others = others; first_is = refl; rest_is = refl; all_is = sym (same_Some (item ∷ others) all e) }

-- ---- rows that say how much a variable changes

pub record IsReason (count : ℕ) (rows : List WRow) (n : ℕ) (term : ℕ × ℤ) (entry : ℕ × ℤ) (change : ℤ) : Type 0 where
  pub k : ℕ
  pub number : entry.0 ≡ n + k
  pub row : WRow
  pub at : slice_get rows k ≡ Some row
  pub kind : row.kind ≡ IsZero
  pub a : ℤ
  pub unit : IsUnit a
  pub terms : row.terms ≡ (term.0, a) ∷ (count + term.0, pos 0 -ℤ a) ∷ []
  pub times : entry.1 ≡ term.1 *ℤ a
  pub change_is : change ≡ a *ℤ row.constant

pub record SaysChange (count x : ℕ) (row : WRow) (change : ℤ) : Type 0 where
  pub kind : row.kind ≡ IsZero
  pub a : ℤ
  pub unit : IsUnit a
  pub terms : row.terms ≡ (x, a) ∷ (count + x, pos 0 -ℤ a) ∷ []
  pub change_is : change ≡ a *ℤ row.constant

pub same_term : (a b : ℕ × ℤ) → a.0 ≡ b.0 → a.1 ≡ b.1 → a ≡ b
same_term a b e f = ap (λ (n : ℕ). (n, a.1)) e ∙ ap (λ (z : ℤ). (b.0, z)) f

pub record IsBy (a b constant change : ℤ) : Type 0 where
  pub unit : IsUnit a
  pub other : b ≡ pos 0 -ℤ a
  pub change_is : change ≡ a *ℤ constant

by_cases : (a b constant change : ℤ) (p q r s : Bool) → int_eq a (negsuc 0) ≡ p → int_eq b (pos 1) ≡ q → int_eq a (pos 1) ≡ r
    → int_eq b (negsuc 0) ≡ s → cond (p && q) (Some (pos 0 -ℤ constant)) (cond (r && s) (Some constant) None) ≡ Some change
    → IsBy a b constant change
by_cases a b constant change true true r s e f g h i =
    let one = int_eq_true a (negsuc 0) e in
    let two = int_eq_true b (pos 1) f in
    let by = same_Some (pos 0 -ℤ constant) change i in
    record {
      unit = inr one;
      other = two ∙ ap (λ (z : ℤ). pos 0 -ℤ z) (sym one);
      change_is = sym by ∙ minus constant
          ∙ ap (λ (z : ℤ). z *ℤ constant) (sym one);
    }
  where
    minus : (c : ℤ) → pos 0 -ℤ c ≡ negsuc 0 *ℤ c
    minus c = omega (arith, ints)
by_cases a b constant change true false true true e f g h i = plus (int_eq_true a (pos 1) g) (int_eq_true b (negsuc 0) h)
    (same_Some constant change i)
  where
    plus : a ≡ pos 1 → b ≡ negsuc 0 → constant ≡ change → IsBy a b constant change
    plus one two by = record {
      unit = inl one;
      other = two ∙ ap (λ (z : ℤ). pos 0 -ℤ z) (sym one);
      change_is = sym by
          ∙ once constant ∙ ap (λ (z : ℤ). z *ℤ constant) (sym one);
    }
      where
        once : (c : ℤ) → c ≡ pos 1 *ℤ c
        once c = omega (arith, ints)
by_cases a b constant change true false true false e f g h i = absurd (none-some change i)
by_cases a b constant change true false false s e f g h i = absurd (none-some change i)
by_cases a b constant change false q true true e f g h i = plus (int_eq_true a (pos 1) g) (int_eq_true b (negsuc 0) h)
    (same_Some constant change i)
  where
    plus : a ≡ pos 1 → b ≡ negsuc 0 → constant ≡ change → IsBy a b constant change
    plus one two by = record {
      unit = inl one;
      other = two ∙ ap (λ (z : ℤ). pos 0 -ℤ z) (sym one);
      change_is = sym by
          ∙ once constant ∙ ap (λ (z : ℤ). z *ℤ constant) (sym one);
    }
      where
        once : (c : ℤ) → c ≡ pos 1 *ℤ c
        once c = omega (arith, ints)
by_cases a b constant change false q true false e f g h i = absurd (none-some change i)
by_cases a b constant change false q false s e f g h i = absurd (none-some change i)

by_is : (a b constant change : ℤ) → change_by a b constant ≡ Some change → IsBy a b constant change
by_is a b constant change e = by_cases a b constant change (int_eq a (negsuc 0)) (int_eq b (pos 1)) (int_eq a (pos 1))
    (int_eq b (negsuc 0)) refl refl refl refl e

in_is : (count x : ℕ) (row : WRow) (terms : List (ℕ × ℤ)) (change : ℤ) → row.kind ≡ IsZero → row.terms ≡ terms
    → change_in count x terms row.constant ≡ Some change → SaysChange count x row change
in_is count x row [] change k e f = absurd (none-some change f)
in_is count x row (one ∷ []) change k e f = absurd (none-some change f)
in_is count x row (one ∷ other ∷ []) change k e f = by (eqb one.0 x) (eqb other.0 (count + x)) refl refl f
  where
    made : one.0 ≡ x → other.0 ≡ count + x → IsBy one.1 other.1 row.constant change → SaysChange count x row change
    made p q b = record {
      kind = k;
      a = one.1;
      unit = b.unit;
      terms = e ∙ ap (λ (t : ℕ × ℤ). t ∷ other ∷ []) (same_term one (x, one.1) p refl)
          ∙ ap (λ (t : ℕ × ℤ). (x, one.1) ∷ t ∷ []) (same_term other (count + x, pos 0 -ℤ one.1) q b.other);
      change_is = b.change_is;
    }

    by : (p q : Bool) → eqb one.0 x ≡ p → eqb other.0 (count + x) ≡ q → cond (p && q) (change_by one.1 other.1 row.constant) None
        ≡ Some change → SaysChange count x row change
    by true true g h i = made (eqb-true one.0 x g) (eqb-true other.0 (count + x) h) (by_is one.1 other.1 row.constant change i)
    by true false g h i = absurd (none-some change i)
    by false q g h i = absurd (none-some change i)
in_is count x row (one ∷ other ∷ more ∷ rest) change k e f = absurd (none-some change f)

row_says : (count x : ℕ) (row : WRow) (kind : RowKind) (change : ℤ) → row.kind ≡ kind
    → change_of_row count x kind row.terms row.constant ≡ Some change → SaysChange count x row change
row_says count x row AtLeastZero change e f = absurd (none-some change f)
row_says count x row IsZero change e f = in_is count x row row.terms change e refl f

-- a row that says how much a variable changes begins with 1 or -1
pub unit_first : (count x : ℕ) (row : WRow) (found : Option ℤ) → found ≡ change_of_row count x row.kind row.terms row.constant
    → is_some found ≡ true → IsUnit (first_coefficient row.terms)
unit_first count x row None e h = absurd (false≢true h)
unit_first count x row (Some change) e h =
    let says = row_says count x row row.kind change refl (sym e) in
    subst (λ (terms : List (ℕ × ℤ)). IsUnit (first_coefficient terms)) (sym says.terms) says.unit

reason_is : (count : ℕ) (rows : List WRow) (n : ℕ) (term entry : ℕ × ℤ) (change : ℤ) → reason_from count term n rows ≡ Some entry
    → change_of count term.0 rows ≡ Some change → IsReason count rows n term entry change
reason_is count [] n term entry change e f = absurd (none-some entry e)
reason_is count (row ∷ rest) n term entry change e f = by (change_of_row count term.0 row.kind row.terms row.constant) refl e f
    (reason_is count rest (suc n) term entry change)
  where
    here : (d : ℤ) → SaysChange count term.0 row d → (n, term.1 *ℤ first_coefficient row.terms) ≡ entry → d ≡ change
        → IsReason count (row ∷ rest) n term entry change
    here d says g h = record {
      k = 0;
      number = sym (ap (λ (t : ℕ × ℤ). t.0) g) ∙ omega arith;
      row = row;
      at = refl;
      kind = says.kind;
      a = says.a;
      unit = says.unit;
      terms = says.terms;
      times = sym (ap (λ (t : ℕ × ℤ). t.1) g) ∙ ap (λ (ts : List (ℕ × ℤ)). term.1 *ℤ first_coefficient ts) says.terms;
      change_is = sym h ∙ says.change_is;
    }

    later : IsReason count rest (suc n) term entry change → IsReason count (row ∷ rest) n term entry change
    later is = let number = is.number in record {
      k = suc is.k;
      number = omega (arith, number);
      row = is.row;
      at = is.at;
      kind =
          is.kind;
      a = is.a;
      unit = is.unit;
      terms = is.terms;
      times = is.times;
      change_is = is.change_is;
    }

    by : (found : Option ℤ) → change_of_row count term.0 row.kind row.terms row.constant ≡ found
        → cond (is_some found) (Some (n, term.1 *ℤ first_coefficient row.terms)) (reason_from count term (suc n) rest) ≡ Some entry
        → option_or found (change_of count term.0 rest) ≡ Some change
        → (reason_from count term (suc n) rest ≡ Some entry → change_of count term.0 rest ≡ Some change
        → IsReason count rest (suc n) term entry change) → IsReason count (row ∷ rest) n term entry change
    by None says g h more = later (more g h)
    by (Some d) says g h more = here d (row_says count term.0 row row.kind d refl says)
        (same_Some (n, term.1 *ℤ first_coefficient row.terms) entry g) (same_Some d change h)

-- ---- the reasons of all terms

-- what the entries say together
abbrev pub Reasons : ℕ → List WRow → Form → List (ℕ × ℤ) → ℤ → Type 0
Reasons count rows [] entries change = (entries ≡ []) × (change ≡ pos 0)
Reasons count rows (term ∷ rest) [] change = ⊥
Reasons count rows (term ∷ rest) (entry ∷ more) change = (d : ℤ) × (e : ℤ) × IsReason count rows 0 term entry d
    × Reasons count rows rest more e × (change ≡ term.1 *ℤ d +ℤ e)

pub record IsAdded (times : ℤ) (first rest : Option ℤ) (change : ℤ) : Type 0 where
  pub one : ℤ
  pub other : ℤ
  pub first_is : first ≡ Some one
  pub rest_is : rest ≡ Some other
  pub sum : change ≡ times *ℤ one +ℤ other

pub added_is : (times : ℤ) (first rest : Option ℤ) (change : ℤ) → added times first rest ≡ Some change → IsAdded times first rest change
added_is times None rest change e = absurd (none-some change e)
added_is times (Some one) None change e = absurd (none-some change e)
added_is times (Some one) (Some other) change e = record
    { one = one; other = other; first_is = refl; rest_is = refl; sum = sym (same_Some (times *ℤ one +ℤ other) change e) }

pub reasons_are : (count : ℕ) (rows : List WRow) (form : Form) (entries : List (ℕ × ℤ)) (change : ℤ)
    → reasons_of count rows form ≡ Some entries → form_change count rows form ≡ Some change → Reasons count rows form entries change
reasons_are count rows [] entries change e f = (sym (same_Some [] entries e), sym (same_Some (pos 0) change f))
reasons_are count rows (term ∷ rest) entries change e f =
    let split = before_is (reason_from count term 0 rows) (reasons_of count rows rest) entries e in
    let sum = added_is term.1 (change_of count term.0 rows) (form_change count rows rest) change f in
    subst (λ (all : List (ℕ × ℤ)). Reasons count rows (term ∷ rest) all change) (sym split.all_is) (
      sum.one,
      sum.other,
      reason_is count rows 0 term split.item sum.one split.first_is sum.first_is,
      reasons_are count rows rest
          split.others sum.other split.rest_is sum.rest_is,
      sum.sum,
    )
