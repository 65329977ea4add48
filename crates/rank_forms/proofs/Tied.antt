-- The ties that are found are the int links of the rows.
use Rattle.std.proofs.Common.{◌≡◌, ◌⊎◌, inl, inr, ℕ, zero, suc, ◌+◌, Bool, true, false, cond, eqb, List, [], ◌∷◌, ◌++◌, ℤ, pos}
use Rattle.std.proofs.Common.{negsuc, ◌+ℤ◌, ◌-ℤ◌, ◌*ℤ◌, Option, Some, None, Result, Ok, Err, subst, ap, arith, refl, ◌∙◌, sym}
use Rattle.std.specs.Ordering.{int_eq}
use Rattle.std.specs.Prelude.{◌&&◌, slice_get, IfOk}
use Rattle.std.proofs.lemmas.Bool.{false≢true, true≢false, eqb-true, eq-eqb, and_parts, and_from}
use Rattle.std.proofs.lemmas.Bool.Decides.{Decides-int_eq}
use Rattle.std.proofs.lemmas.Int.{ints}
use Rattle.std.proofs.lemmas.Option.{same_Some}
use Rattle.rank_forms.proofs.Fallen.{none_is, kind_is as equation_is}
use Rattle.list_views.proofs.Options.{cond_guarded}
use Rattle.list_views.proofs.Orders.{int_eq_true, int_eq_from}
use Rattle.lin_core.specs.declared.rows.RowKind.{RowKind}
use Rattle.lin_core.specs.declared.rows.RowKind.TheVariants.{AtLeastZero, IsZero}
use Rattle.lin_core.specs.declared.rows.WRow.{WRow}
use Rattle.rank_forms.specs.declared.rule_links.links.Link.{Link}
use Rattle.rank_forms.specs.declared.rule_links.links.Beside.{Beside}
use Rattle.rank_forms.specs.declared.rule_links.links.Tie.{Tie}
use Rattle.rank_forms.specs.rule_links.Links.{IsAmong, HasBound, IsFixed, LeadsOn, IsTie, IsTieBeside, LinksOf, IsIntLink}
use Rattle.rank_forms.specs.rule_links.Ties.{is_inequality, is_alone, has_none, is_bound, is_opposite, most_from, most_of, fixed_or}
use Rattle.rank_forms.specs.rule_links.Ties.{fixed_from, constant_at, order_of, both_ways, ties_of, ties_at, ties_beside, beside_ties}
use Rattle.rank_forms.specs.rule_links.Ties.{terms_ties, row_ties, ties_from, InTies, Covers}
use Rattle.rank_forms.proofs.Listed.{in_cases}

-- a row that bounds a variable
pub kind_is : (kind : RowKind) → is_inequality kind ≡ true → kind ≡ AtLeastZero
kind_is AtLeastZero e = refl
kind_is IsZero e = absurd (false≢true e)

pair_is : (term : ℕ × ℤ) (variable : ℕ) (times : ℤ) → term.0 ≡ variable → term.1 ≡ times → term ≡ (variable, times)
pair_is (v, t) variable times e f = ap (λ (x : ℕ). (x, t)) e ∙ ap (λ (y : ℤ). (variable, y)) f

pub alone_is : (variable : ℕ) (times : ℤ) (terms : List (ℕ × ℤ)) → is_alone variable times terms ≡ true → terms ≡ (variable, times) ∷ []
alone_is variable times [] e = absurd (false≢true e)
alone_is variable times (term ∷ []) e =
    let parts = and_parts (eqb term.0 variable) (int_eq term.1 times) e in
    ap (λ (t : ℕ × ℤ). t ∷ []) (pair_is term variable times (eqb-true term.0 variable parts.0) (int_eq_true term.1 times parts.1))
alone_is variable times (term ∷ more ∷ rest) e = absurd (false≢true e)

alone_same : (variable : ℕ) (times : ℤ) → is_alone variable times ((variable, times) ∷ []) ≡ true
alone_same variable times = and_from (eqb variable variable) (int_eq times times) (eq-eqb variable variable refl)
    (int_eq_from times times refl)

pub bound_is : (rows : List WRow) (variable : ℕ) (times : ℤ) (row : WRow) → IsAmong rows row → is_bound variable times row ≡ true
    → HasBound rows variable times row.constant
bound_is rows variable times row among e =
    let parts = and_parts (is_inequality row.kind) (is_alone variable times row.terms && has_none row.weights) e in
    let more = and_parts (is_alone variable times row.terms) (has_none row.weights) parts.1 in
    record {
      row = row;
      among = among;
      inequality = kind_is row.kind parts.0;
      terms = alone_is variable times row.terms more.0;
      number = refl;
      weights = none_is row.weights more.1;
    }

pub bound_told : (rows : List WRow) (variable : ℕ) (times constant : ℤ) (bound : HasBound rows variable times constant)
    → is_bound variable times bound.row ≡ true
bound_told rows variable times constant bound = and_from (is_inequality bound.row.kind)
    (is_alone variable times bound.row.terms && has_none bound.row.weights) (ap is_inequality bound.inequality)
    (and_from (is_alone variable times bound.row.terms) (has_none bound.row.weights) (ap (is_alone variable times) bound.terms
    ∙ alone_same variable times) (ap has_none bound.weights))

-- the row that a variable is at most a number
pub record IsMost (variable : ℕ) (low : ℤ) (n most : ℕ) (list : List WRow) : Type 0 where
  pub index : ℕ
  pub row : WRow
  pub at : most ≡ n + index
  pub is : slice_get list index ≡ Some row
  pub bound : is_bound variable (negsuc 0) row ≡ true
  pub opposite : low +ℤ row.constant ≡ pos 0

most_cases : (here : Bool) (variable : ℕ) (low : ℤ) (n most : ℕ) (row : WRow) (rest : List WRow)
    → is_opposite variable low row ≡ here → cond here (Some n) (most_from variable low (suc n) rest) ≡ Some most
    → (most_from variable low (suc n) rest ≡ Some most → IsMost variable low (suc n) most rest) → IsMost variable low n most (row ∷ rest)
most_cases true variable low n most row rest h e more =
    let same = same_Some n most e in
    let parts = and_parts (is_bound variable (negsuc 0) row) (int_eq (low +ℤ row.constant) (pos 0)) h in
    record {
      index = 0;
      row = row;
      at = omega (arith, same);
      is = refl;
      bound = parts.0;
      opposite = int_eq_true
          (low +ℤ row.constant) (pos 0) parts.1;
    }
most_cases false variable low n most row rest h e more =
    let m = more e in
    record { index = suc m.index; row = m.row; at = omega (arith, m.at); is = m.is; bound = m.bound; opposite = m.opposite }

pub most_is : (variable : ℕ) (low : ℤ) (n most : ℕ) (list : List WRow) → most_from variable low n list ≡ Some most
    → IsMost variable low n most list
most_is variable low n most [] e = absurd (cc)
most_is variable low n most (row ∷ rest) e = most_cases (is_opposite variable low row) variable low n most row rest refl e
    (λ h. most_is variable low (suc n) most rest h)

pub found_cases : (here : Bool) (n : ℕ) (later : Option ℕ) → (here ≡ false → (most : ℕ) × (later ≡ Some most)) → (most : ℕ)
    × (cond here (Some n) later ≡ Some most)
found_cases true n later more = (n, refl)
found_cases false n later more = more refl

most_found : (variable : ℕ) (low : ℤ) (n k : ℕ) (list : List WRow) (row : WRow) → slice_get list k ≡ Some row
    → is_opposite variable low row ≡ true → (most : ℕ) × (most_from variable low n list ≡ Some most)
most_found variable low n k [] row is h = absurd (cc)
most_found variable low n zero (r ∷ rest) row is h = found_cases (is_opposite variable low r) n
    (most_from variable low (suc n) rest) (λ f. absurd (true≢false (sym (ap (is_opposite variable low) (same_Some r row is) ∙ h) ∙ f)))
most_found variable low n (suc k) (r ∷ rest) row is h = found_cases (is_opposite variable low r) n
    (most_from variable low (suc n) rest) (λ f. most_found variable low (suc n) k rest row is h)

-- the two rows that fix a variable
pub record IsFound (variable : ℕ) (rows : List WRow) (n : ℕ) (fixed : ℕ × ℕ) (list : List WRow) : Type 0 where
  pub index : ℕ
  pub first : fixed.0 ≡ n + index
  pub row : WRow
  pub is : slice_get list index ≡ Some row
  pub bound : is_bound variable (pos 1) row ≡ true
  pub most : most_from variable row.constant 0 rows ≡ Some fixed.1

fixed_cases : (variable : ℕ) (rows : List WRow) (found : Option ℕ) (n : ℕ) (fixed : ℕ × ℕ) (row : WRow) (rest : List WRow)
    → most_of variable rows row ≡ found → fixed_or n found (fixed_from variable rows (suc n) rest) ≡ Some fixed
    → (fixed_from variable rows (suc n) rest ≡ Some fixed → IsFound variable rows (suc n) fixed rest)
    → IsFound variable rows n fixed (row ∷ rest)
fixed_cases variable rows None n fixed row rest h e more =
    let m = more e in
    record { index = suc m.index; first = omega (arith, m.first); row = m.row; is = m.is; bound = m.bound; most = m.most }
fixed_cases variable rows (Some most) n fixed row rest h e more =
    let parts = cond_guarded (is_bound variable (pos 1) row) (most_from variable row.constant 0 rows) most h in
    let same : most ≡ fixed.1 = ap (λ (p : ℕ × ℕ). p.1) (same_Some (n, most) fixed e) in
    let first : n ≡ fixed.0 = ap (λ (p : ℕ × ℕ). p.0) (same_Some (n, most) fixed e) in
    record { index = 0; first = omega (arith, first); row = row; is = refl; bound = parts.0; most = parts.1 ∙ ap Some same }

pub found_is : (variable : ℕ) (rows : List WRow) (n : ℕ) (fixed : ℕ × ℕ) (list : List WRow)
    → fixed_from variable rows n list ≡ Some fixed → IsFound variable rows n fixed list
found_is variable rows n fixed [] e = absurd (cc)
found_is variable rows n fixed (row ∷ rest) e = fixed_cases variable rows (most_of variable rows row) n fixed row rest refl e
    (λ h. found_is variable rows (suc n) fixed rest h)

-- the number of a variable that is fixed
record IsNumber (rows : List WRow) (variable most : ℕ) : Type 0 where
  pub number : ℤ
  pub is : constant_at (slice_get rows most) ≡ Some number
  pub fixed : IsFixed rows variable number

number_is : (rows : List WRow) (variable : ℕ) (fixed : ℕ × ℕ) → fixed_from variable rows 0 rows ≡ Some fixed
    → IsNumber rows variable fixed.1
number_is rows variable fixed e =
    let f = found_is variable rows 0 fixed rows e in
    let m = most_is variable f.row.constant 0 fixed.1 rows f.most in
    let index : m.index ≡ fixed.1 = omega (arith, m.at) in
    record {
      number = m.row.constant;
      is = ap (λ (k : ℕ). constant_at (slice_get rows k)) (sym index) ∙ ap constant_at m.is;
      fixed = record {
        low = f.row.constant;
        least = bound_is rows variable (pos 1) f.row (f.index, f.is) f.bound;
        opposite = m.opposite;
        most = bound_is rows variable (negsuc 0) m.row (m.index, m.is) m.bound;
      };
    }

or_cases : (n : ℕ) (found : Option ℕ) (later : Option (ℕ × ℕ)) → (found ≡ None → (fixed : ℕ × ℕ) × (later ≡ Some fixed))
    → (fixed : ℕ × ℕ) × (fixed_or n found later ≡ Some fixed)
or_cases n None later more = more refl
or_cases n (Some most) later more = ((n, most), refl)

some_none : (a : ℕ) → ◌≡◌ {A = Option ℕ} (Some a) None → ⊥
some_none a e = absurd (cc)

fixed_found : (variable : ℕ) (rows : List WRow) (n k most : ℕ) (list : List WRow) (row : WRow) → slice_get list k ≡ Some row
    → most_of variable rows row ≡ Some most → (fixed : ℕ × ℕ) × (fixed_from variable rows n list ≡ Some fixed)
fixed_found variable rows n k most [] row is h = absurd (cc)
fixed_found variable rows n zero most (r ∷ rest) row is h = or_cases n (most_of variable rows r)
    (fixed_from variable rows (suc n) rest) (λ f. absurd (some_none most (sym (ap (most_of variable rows) (same_Some r row is) ∙ h) ∙ f)))
fixed_found variable rows n (suc k) most (r ∷ rest) row is h = or_cases n (most_of variable rows r)
    (fixed_from variable rows (suc n) rest) (λ f. fixed_found variable rows (suc n) k most rest row is h)

numbered : (rows : List WRow) (variable : ℕ) (number : ℤ) → IsFixed rows variable number → (fixed : ℕ × ℕ)
    × (fixed_from variable rows 0 rows ≡ Some fixed)
numbered rows variable number fixed =
    let least = fixed.least in
    let most = fixed.most in
    let opposite : least.row.constant +ℤ most.row.constant ≡ pos 0 = ap (λ (c : ℤ). c +ℤ most.row.constant) least.number
    ∙ ap (λ (c : ℤ). fixed.low +ℤ c) most.number ∙ fixed.opposite in
    let m = most_found variable least.row.constant 0 most.among.0 rows most.row most.among.1
    (and_from (is_bound variable (negsuc 0) most.row) (int_eq (least.row.constant +ℤ most.row.constant) (pos 0))
    (bound_told rows variable (negsuc 0) number most) (int_eq_from (least.row.constant +ℤ most.row.constant) (pos 0) opposite)) in
    fixed_found variable rows 0 least.among.0 m.0 rows least.row least.among.1
    (ap (λ (b : Bool). cond b (most_from variable least.row.constant 0 rows) None)
    (bound_told rows variable (pos 1) fixed.low least) ∙ m.1)

-- lists of ties
covers_left : (a b : List Tie) (u v : ℕ) → Covers a u v → Covers (a ++ b) u v
covers_left [] b u v h = absurd h
covers_left (tie ∷ rest) b u v h = elim h as (λ o. Covers ((tie ∷ rest) ++ b) u v) [
  | inl s ↦ inl s
  | inr r ↦ inr (covers_left rest b u v r)
]

covers_right : (a b : List Tie) (u v : ℕ) → Covers b u v → Covers (a ++ b) u v
covers_right [] b u v h = h
covers_right (tie ∷ rest) b u v h = inr (covers_right rest b u v h)

-- two terms that are tied
two_cases : (plus minus : ℕ) (k : ℤ) (row : ℕ) (beside : Option Beside) (one other : ℕ × ℤ) (link : Link) → one.0 ≡ plus
    → one.1 ≡ pos 1 → other.0 ≡ minus → other.1 ≡ negsuc 0 → InTies (both_ways plus minus k row beside) link → LeadsOn one other k link
two_cases plus minus k row beside one other link p a m b h = elim h as (λ o. LeadsOn one other k link) [
  | inl s ↦ record {
    plus = a;
    minus = b;
    way = inl (ap (λ (l : Link). l.from) (sym s) ∙ sym p, ap (λ (l : Link). l.to) (sym s) ∙ sym m, ap (λ (l : Link). l.by) (sym s));
  }
  | inr r ↦ elim r as (λ o. LeadsOn one other k link) [
    | inl s ↦ record {
      plus = a;
      minus = b;
      way = inr (
        ap (λ (l : Link). l.from) (sym s) ∙ sym m,
        ap (λ (l : Link). l.to) (sym s)
            ∙ sym p,
        less k link.by (ap (λ (l : Link). l.by) (sym s)),
      );
    }
    | inr n ↦ absurd n
  ]
]
  where
    less : (k by : ℤ) → by ≡ pos 0 -ℤ k → by +ℤ k ≡ pos 0
    less k by e = omega (arith, ints)

order_cases : (first second : Bool) (one other : ℕ × ℤ) (k k' : ℤ) (row : ℕ) (beside : Option Beside) (link : Link)
    → (int_eq one.1 (pos 1) && int_eq other.1 (negsuc 0)) ≡ first → (int_eq one.1 (negsuc 0) && int_eq other.1 (pos 1)) ≡ second
    → InTies (ties_of (cond first (Some (one.0, other.0)) (cond second (Some (other.0, one.0)) None)) k row beside) link
    → IsTie one other k link
order_cases true second one other k k' row beside link e f h =
    let parts = and_parts (int_eq one.1 (pos 1)) (int_eq other.1 (negsuc 0)) e in
    inl (two_cases one.0 other.0 k row beside one other link refl (int_eq_true one.1 (pos 1) parts.0) refl
    (int_eq_true other.1 (negsuc 0) parts.1) h)
order_cases false true one other k k' row beside link e f h =
    let parts = and_parts (int_eq one.1 (negsuc 0)) (int_eq other.1 (pos 1)) f in
    inr (two_cases other.0 one.0 k row beside other one link refl (int_eq_true other.1 (pos 1) parts.1) refl
    (int_eq_true one.1 (negsuc 0) parts.0) h)
order_cases false false one other k k' row beside link e f h = absurd h

tie_sound : (one other : ℕ × ℤ) (k : ℤ) (row : ℕ) (beside : Option Beside) (link : Link)
    → InTies (ties_of (order_of one other) k row beside) link → IsTie one other k link
tie_sound one other k row beside link h = order_cases (int_eq one.1 (pos 1) && int_eq other.1 (negsuc 0))
    (int_eq one.1 (negsuc 0) && int_eq other.1 (pos 1)) one other k k row beside link refl refl h

ways_cover : (plus minus u v : ℕ) (k : ℤ) (row : ℕ) (beside : Option Beside) → ((u ≡ plus) × (v ≡ minus))
    ⊎ ((u ≡ minus) × (v ≡ plus)) → Covers (both_ways plus minus k row beside) u v
ways_cover plus minus u v k row beside h = elim h as (λ o. Covers (both_ways plus minus k row beside) u v) [
  | inl s ↦ inl (sym s.0, sym s.1)
  | inr s ↦ inr (inl (sym s.0, sym s.1))
]

ends_of : (one other : ℕ × ℤ) (k : ℤ) (link : Link) → LeadsOn one other k link → ((link.from ≡ one.0) × (link.to ≡ other.0))
    ⊎ ((link.from ≡ other.0) × (link.to ≡ one.0))
ends_of one other k link leads = elim leads.way as (λ o. ((link.from ≡ one.0) × (link.to ≡ other.0))
    ⊎ ((link.from ≡ other.0) × (link.to ≡ one.0))) [
      | inl w ↦ inl (w.0, w.1)
      | inr w ↦ inr (w.0, w.1)
    ]

cover_first : (first second : Bool) (one other : ℕ × ℤ) (k : ℤ) (row : ℕ) (beside : Option Beside) (u v : ℕ) → first ≡ true
    → ((u ≡ one.0) × (v ≡ other.0)) ⊎ ((u ≡ other.0) × (v ≡ one.0))
    → Covers (ties_of (cond first (Some (one.0, other.0)) (cond second (Some (other.0, one.0)) None)) k row beside) u v
cover_first true second one other k row beside u v e h = ways_cover one.0 other.0 u v k row beside h
cover_first false second one other k row beside u v e h = absurd (false≢true e)

cover_second : (first second : Bool) (one other : ℕ × ℤ) (k : ℤ) (row : ℕ) (beside : Option Beside) (u v : ℕ) → (first ≡ true → ⊥)
    → second ≡ true → ((u ≡ other.0) × (v ≡ one.0)) ⊎ ((u ≡ one.0) × (v ≡ other.0))
    → Covers (ties_of (cond first (Some (one.0, other.0)) (cond second (Some (other.0, one.0)) None)) k row beside) u v
cover_second true second one other k row beside u v n e h = absurd (n refl)
cover_second false true one other k row beside u v n e h = ways_cover other.0 one.0 u v k row beside h
cover_second false false one other k row beside u v n e h = absurd (false≢true e)

tie_complete : (one other : ℕ × ℤ) (k l : ℤ) (row : ℕ) (beside : Option Beside) (link : Link) → IsTie one other k link
    → Covers (ties_of (order_of one other) l row beside) link.from link.to
tie_complete one other k l row beside link tie = elim tie as (λ o. Covers (ties_of (order_of one other) l row beside) link.from link.to) [
  | inl t ↦ cover_first (int_eq one.1 (pos 1) && int_eq other.1 (negsuc 0)) (int_eq one.1 (negsuc 0) && int_eq other.1 (pos 1)) one
      other l row beside link.from link.to
      (and_from (int_eq one.1 (pos 1)) (int_eq other.1 (negsuc 0)) (int_eq_from one.1 (pos 1) t.plus)
      (int_eq_from other.1 (negsuc 0) t.minus)) (ends_of one other k link t)
  | inr t ↦ cover_second (int_eq one.1 (pos 1) && int_eq other.1 (negsuc 0)) (int_eq one.1 (negsuc 0) && int_eq other.1 (pos 1)) one
      other l row beside link.from link.to
      (λ e. not_both one.1 t.minus (int_eq_true one.1 (pos 1) (and_parts (int_eq one.1 (pos 1)) (int_eq other.1 (negsuc 0)) e).0))
      (and_from (int_eq one.1 (negsuc 0)) (int_eq other.1 (pos 1)) (int_eq_from one.1 (negsuc 0) t.minus)
      (int_eq_from other.1 (pos 1) t.plus)) (ends_of other one k link t)
]
  where
    not_both : (x : ℤ) → x ≡ negsuc 0 → x ≡ pos 1 → ⊥
    not_both x e f = omega (arith, ints)

-- a third term's variable is a number
at_sound : (rows : List WRow) (number : Option ℤ) (fixed : ℕ × ℕ) (third one other : ℕ × ℤ) (k : ℤ) (row : ℕ) (link : Link)
    → constant_at (slice_get rows fixed.1) ≡ number → IsNumber rows third.0 fixed.1
    → InTies (ties_at number fixed third one other k row) link → IsTieBeside rows third one other k link
at_sound rows None fixed third one other k row link e n h = absurd h
at_sound rows (Some number) fixed third one other k row link e n h =
    let same : n.number ≡ number = some_int n.number number (sym n.is ∙ e) in
    record {
      number = number;
      fixed = subst (λ (x : ℤ). IsFixed rows third.0 x) same n.fixed;
      tie = tie_sound one other
          (k +ℤ third.1 *ℤ number) row (Some (record { least = fixed.0; most = fixed.1; times = third.1 })) link h;
    }
  where
    some_int : (a b : ℤ) → ◌≡◌ {A = Option ℤ} (Some a) (Some b) → a ≡ b
    some_int a b e = cc

beside_sound_at : (rows : List WRow) (found : Option (ℕ × ℕ)) (third one other : ℕ × ℤ) (k : ℤ) (row : ℕ) (link : Link)
    → fixed_from third.0 rows 0 rows ≡ found → InTies (ties_beside rows found third one other k row) link
    → IsTieBeside rows third one other k link
beside_sound_at rows None third one other k row link e h = absurd h
beside_sound_at rows (Some fixed) third one other k row link e h = at_sound rows (constant_at (slice_get rows fixed.1)) fixed third
    one other k row link refl (number_is rows third.0 fixed e) h

beside_sound : (rows : List WRow) (third one other : ℕ × ℤ) (k : ℤ) (row : ℕ) (link : Link)
    → InTies (beside_ties rows third one other k row) link → IsTieBeside rows third one other k link
beside_sound rows third one other k row link h = beside_sound_at rows (fixed_from third.0 rows 0 rows) third one other k row link refl h

at_complete : (rows : List WRow) (fixed : ℕ × ℕ) (third one other : ℕ × ℤ) (k : ℤ) (row : ℕ) (link : Link)
    → IsNumber rows third.0 fixed.1 → IsTieBeside rows third one other k link
    → Covers (ties_at (constant_at (slice_get rows fixed.1)) fixed third one other k row) link.from link.to
at_complete rows fixed third one other k row link n tie = subst
    (λ (o : Option ℤ). Covers (ties_at o fixed third one other k row) link.from link.to) (sym n.is)
    (tie_complete one other (k +ℤ third.1 *ℤ tie.number) (k +ℤ third.1 *ℤ n.number) row
    (Some (record { least = fixed.0; most = fixed.1; times = third.1 })) link tie.tie)

beside_complete : (rows : List WRow) (third one other : ℕ × ℤ) (k : ℤ) (row : ℕ) (link : Link)
    → IsTieBeside rows third one other k link → Covers (beside_ties rows third one other k row) link.from link.to
beside_complete rows third one other k row link tie =
    let f = numbered rows third.0 tie.number tie.fixed in
    subst (λ (o : Option (ℕ × ℕ)). Covers (ties_beside rows o third one other k row) link.from link.to) (sym f.1)
    (at_complete rows f.0 third one other k row link (number_is rows third.0 f.0 f.1) tie)

-- the terms of an equation
terms_sound : (rows : List WRow) (terms : List (ℕ × ℤ)) (k : ℤ) (row : ℕ) (link : Link) → InTies (terms_ties rows terms k row) link
    → LinksOf rows terms k link
terms_sound rows [] k row link h = h
terms_sound rows (one ∷ []) k row link h = h
terms_sound rows (one ∷ other ∷ []) k row link h = tie_sound one other k row None link h
terms_sound rows (a ∷ b ∷ c ∷ []) k row link h = elim
    (in_cases (beside_ties rows a b c k row) (beside_ties rows b a c k row ++ beside_ties rows c a b k row) link h) as
    (λ o. LinksOf rows (a ∷ b ∷ c ∷ []) k link) [
      | inl x ↦ inl (beside_sound rows a b c k row link x)
      | inr y ↦ elim (in_cases (beside_ties rows b a c k row) (beside_ties rows c a b k row) link y) as
          (λ o. LinksOf rows (a ∷ b ∷ c ∷ []) k link) [
            | inl x ↦ inr (inl (beside_sound rows b a c k row link x))
            | inr z ↦ inr (inr (beside_sound rows c a b k row link z))
          ]
    ]
terms_sound rows (a ∷ b ∷ c ∷ d ∷ rest) k row link h = h

terms_complete : (rows : List WRow) (terms : List (ℕ × ℤ)) (k : ℤ) (row : ℕ) (link : Link) → LinksOf rows terms k link
    → Covers (terms_ties rows terms k row) link.from link.to
terms_complete rows [] k row link h = absurd h
terms_complete rows (one ∷ []) k row link h = absurd h
terms_complete rows (one ∷ other ∷ []) k row link h = tie_complete one other k k row None link h
terms_complete rows (a ∷ b ∷ c ∷ []) k row link h = elim h as (λ o. Covers (terms_ties rows (a ∷ b ∷ c ∷ []) k row) link.from link.to) [
  | inl x ↦ covers_left (beside_ties rows a b c k row) (beside_ties rows b a c k row ++ beside_ties rows c a b k row) link.from
      link.to (beside_complete rows a b c k row link x)
  | inr y ↦ covers_right (beside_ties rows a b c k row) (beside_ties rows b a c k row ++ beside_ties rows c a b k row) link.from
      link.to (elim y as (λ o. Covers (beside_ties rows b a c k row ++ beside_ties rows c a b k row) link.from link.to) [
        | inl x ↦ covers_left (beside_ties rows b a c k row) (beside_ties rows c a b k row) link.from link.to
            (beside_complete rows b a c k row link x)
        | inr z ↦ covers_right (beside_ties rows b a c k row) (beside_ties rows c a b k row) link.from link.to
            (beside_complete rows c a b k row link z)
      ])
]
terms_complete rows (a ∷ b ∷ c ∷ d ∷ rest) k row link h = absurd h

-- the links that one row says
record SaysLink (rows : List WRow) (row : WRow) (link : Link) : Type 0 where
  pub equation : row.kind ≡ IsZero
  pub weightless : row.weights ≡ []
  pub tied : LinksOf rows row.terms row.constant link

row_cases : (rows : List WRow) (n : ℕ) (row : WRow) (link : Link) (unequal none : Bool) → is_inequality row.kind ≡ unequal
    → has_none row.weights ≡ none → InTies (cond unequal [] (cond none (terms_ties rows row.terms row.constant n) [])) link
    → SaysLink rows row link
row_cases rows n row link true none e f h = absurd h
row_cases rows n row link false false e f h = absurd h
row_cases rows n row link false true e f h = record
    { equation = equation_is row.kind e; weightless = none_is row.weights f; tied = terms_sound rows row.terms row.constant n link h }

row_sound : (rows : List WRow) (n : ℕ) (row : WRow) (link : Link) → InTies (row_ties rows n row) link → SaysLink rows row link
row_sound rows n row link h = row_cases rows n row link (is_inequality row.kind) (has_none row.weights) refl refl h

row_told : (rows : List WRow) (n : ℕ) (row : WRow) (link : Link) (unequal none : Bool) → unequal ≡ false → none ≡ true
    → LinksOf rows row.terms row.constant link → Covers (cond unequal [] (cond none (terms_ties rows row.terms row.constant n) []))
    link.from link.to
row_told rows n row link true none e f h = absurd (true≢false e)
row_told rows n row link false true e f h = terms_complete rows row.terms row.constant n link h
row_told rows n row link false false e f h = absurd (false≢true f)

row_complete : (rows : List WRow) (n : ℕ) (row : WRow) (link : Link) → SaysLink rows row link
    → Covers (row_ties rows n row) link.from link.to
row_complete rows n row link says = row_told rows n row link (is_inequality row.kind) (has_none row.weights)
    (ap is_inequality says.equation) (ap has_none says.weightless) says.tied

-- the links of all rows
record FromRow (rows list : List WRow) (link : Link) : Type 0 where
  pub index : ℕ
  pub row : WRow
  pub is : slice_get list index ≡ Some row
  pub says : SaysLink rows row link

all_sound : (rows : List WRow) (n : ℕ) (list : List WRow) (link : Link) → InTies (ties_from rows n list) link → FromRow rows list link
all_sound rows n [] link h = absurd h
all_sound rows n (row ∷ rest) link h = elim (in_cases (row_ties rows n row) (ties_from rows (suc n) rest) link h) as
    (λ o. FromRow rows (row ∷ rest) link) [
      | inl x ↦ record { index = 0; row = row; is = refl; says = row_sound rows n row link x }
      | inr y ↦ let m = all_sound rows (suc n) rest link y in record { index = suc m.index; row = m.row; is = m.is; says = m.says }
    ]

all_complete : (rows : List WRow) (n k : ℕ) (list : List WRow) (row : WRow) (link : Link) → slice_get list k ≡ Some row
    → SaysLink rows row link → Covers (ties_from rows n list) link.from link.to
all_complete rows n k [] row link is says = absurd (cc)
all_complete rows n zero (r ∷ rest) row link is says = covers_left (row_ties rows n r) (ties_from rows (suc n) rest) link.from
    link.to (row_complete rows n r link (subst (λ (x : WRow). SaysLink rows x link) (sym (same_Some r row is)) says))
all_complete rows n (suc k) (r ∷ rest) row link is says = covers_right (row_ties rows n r) (ties_from rows (suc n) rest) link.from
    link.to (all_complete rows (suc n) k rest row link is says)

pub sound_is : (rows : List WRow) (link : Link) → InTies (ties_from rows 0 rows) link → IsIntLink rows link
sound_is rows link h =
    let f = all_sound rows 0 rows link h in
    record { row = f.row; among = (f.index, f.is); equation = f.says.equation; weightless = f.says.weightless; tied = f.says.tied }

pub complete_is : (rows : List WRow) (link : Link) → IsIntLink rows link → Covers (ties_from rows 0 rows) link.from link.to
complete_is rows link is = all_complete rows 0 is.among.0 rows is.row link is.among.1
    (record { equation = is.equation; weightless = is.weightless; tied = is.tied })
