-- The ties that are found are the fall links of the rows.
use Rattle.std.proofs.Common.{◌≡◌, ◌⊎◌, inl, inr, ℕ, zero, suc, ◌<◌, Bool, true, false, cond, List, [], ◌∷◌, ℤ, pos, negsuc, ◌+ℤ◌}
use Rattle.std.proofs.Common.{◌-ℤ◌, Option, Some, None, subst, ap, arith, refl, ◌∙◌, sym, IsPermutation}
use Rattle.std.specs.Prelude.{◌&&◌, ◌||◌, slice_get}
use Rattle.std.specs.List.{list_any}
use Rattle.std.proofs.lemmas.Bool.{and_parts, cond-true, cond-false}
use Rattle.std.proofs.lemmas.Bool.Decides.{Decides-int_eq}
use Rattle.std.proofs.lemmas.List.Sorted.{IsPermutation-sym}
use Rattle.rank_forms.specs.rule_links.Links.{IsAmong}
use Rattle.std.specs.Ordering.{int_eq}
use Rattle.std.proofs.lemmas.Int.{ints}
use Rattle.std.proofs.lemmas.Option.{same_Some, none-some}
use Rattle.list_views.proofs.Orders.{int_eq_true}
use Rattle.lin_core.specs.declared.rows.RowKind.{RowKind}
use Rattle.lin_core.specs.declared.rows.RowKind.TheVariants.{AtLeastZero, IsZero}
use Rattle.lin_core.specs.declared.rows.WRow.{WRow}
use Rattle.rank_forms.specs.declared.rule_links.links.Link.{Link}
use Rattle.rank_forms.specs.declared.rule_links.links.Tie.{Tie}
use Rattle.rank_forms.specs.rule_links.Falls.{AreRising}
use Rattle.rank_forms.specs.rule_links.inner.Rising.{fall_links, fall_row_ties, fall_ties_from, leading, led, order_in, rising_tie}
use Rattle.rank_forms.specs.rule_links.Ties.{InTies, has_none, is_inequality}
use Rattle.rank_forms.specs.rule_links.FallLinks.{IsFallLink, SaysBack, SaysFall, lower, upper}
use Rattle.rank_forms.proofs.Listed.{in_left, in_right, Rises, rise_both, one_rises, chosen_rise, rising_in, rising_is, in_cases}
use Rattle.rank_forms.proofs.Listed.{chosen_is, other_is, moved_in, moved_rise}

links_rise : (negative inequality : Bool) (order : Option (ℕ × ℕ)) (k : ℤ) (row : ℕ) → Rises (fall_links negative inequality order k row)
links_rise negative inequality None k row = tt
links_rise negative inequality (Some order) k row = rise_both
    (rising_tie (leading negative order) (led negative order) (pos 0 -ℤ k) row false)
    (cond inequality [] (rising_tie (led negative order) (leading negative order) k row true))
    (one_rises (leading negative order) (led negative order) (pos 0 -ℤ k) row false)
    (chosen_rise inequality [] (rising_tie (led negative order) (leading negative order) k row true) tt
    (one_rises (led negative order) (leading negative order) k row true))

row_rise : (negative : Bool) (n : ℕ) (row : WRow) → Rises (fall_row_ties negative n row)
row_rise negative n row = chosen_rise (has_none row.weights)
    (fall_links negative (is_inequality row.kind) (order_in row.terms) row.constant n) []
    (links_rise negative (is_inequality row.kind) (order_in row.terms) row.constant n) tt

from_rise : (negative : Bool) (n : ℕ) (rows : List WRow) → Rises (fall_ties_from negative n rows)
from_rise negative n [] = tt
from_rise negative n (row ∷ rest) = rise_both (fall_row_ties negative n row) (fall_ties_from negative (suc n) rest)
    (row_rise negative n row) (from_rise negative (suc n) rest)

pub falls_rise : (negative : Bool) (rows : List WRow) (ties sorted : List Tie) → IsPermutation ties sorted
    → ties ≡ fall_ties_from negative 0 rows → AreRising sorted
falls_rise negative rows ties sorted moves e = moved_rise ties sorted moves (subst Rises (sym e) (from_rise negative 0 rows))

-- the two variables of a row
abbrev AreOrdered : List (ℕ × ℤ) → ℕ → ℕ → Type 0
AreOrdered terms plus minus = (terms ≡ (plus, pos 1) ∷ (minus, negsuc 0) ∷ []) ⊎ (terms ≡ (minus, negsuc 0) ∷ (plus, pos 1) ∷ [])

two_terms : (one other : ℕ × ℤ) (a b : ℕ) (c d : ℤ) → one.0 ≡ a → one.1 ≡ c → other.0 ≡ b → other.1 ≡ d
    → ◌≡◌ {A = List (ℕ × ℤ)} (one ∷ other ∷ []) ((a, c) ∷ (b, d) ∷ [])
two_terms one other a b c d e f g h = ap (λ (x : ℕ). made x one.1 other.0 other.1) e ∙ ap (λ (x : ℤ). made a x other.0 other.1) f
    ∙ ap (λ (x : ℕ). made a c x other.1) g ∙ ap (λ (x : ℤ). made a c b x) h
  where
    made : ℕ → ℤ → ℕ → ℤ → List (ℕ × ℤ)
    made a c b d = (a, c) ∷ (b, d) ∷ []

pair_parts : (a b plus minus : ℕ) → ◌≡◌ {A = Option (ℕ × ℕ)} (Some (a, b)) (Some (plus, minus)) → (a ≡ plus) × (b ≡ minus)
pair_parts a b plus minus e = (ap first e, ap second e)
  where
    first : Option (ℕ × ℕ) → ℕ
    first None = a
    first (Some p) = p.0

    second : Option (ℕ × ℕ) → ℕ
    second None = b
    second (Some p) = p.1

order_of_cases : (first second : Bool) (one other : ℕ × ℤ) (plus minus : ℕ) → (int_eq one.1 (pos 1) && int_eq other.1 (negsuc 0))
    ≡ first → (int_eq one.1 (negsuc 0) && int_eq other.1 (pos 1)) ≡ second → cond {A = Option (ℕ × ℕ)} first (Some (one.0, other.0))
    (cond {A = Option (ℕ × ℕ)} second (Some (other.0, one.0)) None) ≡ Some (plus, minus) → AreOrdered (one ∷ other ∷ []) plus minus
order_of_cases true second one other plus minus f s e =
    let parts = and_parts (int_eq one.1 (pos 1)) (int_eq other.1 (negsuc 0)) f in
    let ends = pair_parts one.0 other.0 plus minus e in
    inl (two_terms one other plus minus (pos 1) (negsuc 0) ends.0 (int_eq_true one.1 (pos 1) parts.0) ends.1
    (int_eq_true other.1 (negsuc 0) parts.1))
order_of_cases false true one other plus minus f s e =
    let parts = and_parts (int_eq one.1 (negsuc 0)) (int_eq other.1 (pos 1)) s in
    let ends = pair_parts other.0 one.0 plus minus e in
    inr (two_terms one other minus plus (negsuc 0) (pos 1) ends.1 (int_eq_true one.1 (negsuc 0) parts.0) ends.0
    (int_eq_true other.1 (pos 1) parts.1))
order_of_cases false false one other plus minus f s e = absurd (cc)

pub order_terms : (terms : List (ℕ × ℤ)) (plus minus : ℕ) → order_in terms ≡ Some (plus, minus) → AreOrdered terms plus minus
order_terms [] plus minus e = absurd (cc)
order_terms (one ∷ []) plus minus e = absurd (cc)
order_terms (one ∷ other ∷ []) plus minus e = order_of_cases (int_eq one.1 (pos 1) && int_eq other.1 (negsuc 0))
    (int_eq one.1 (negsuc 0) && int_eq other.1 (pos 1)) one other plus minus refl refl e
order_terms (one ∷ other ∷ more ∷ rest) plus minus e = absurd (cc)

ordered : (terms : List (ℕ × ℤ)) (plus minus : ℕ) → (terms ≡ (plus, pos 1) ∷ (minus, negsuc 0) ∷ [])
    ⊎ (terms ≡ (minus, negsuc 0) ∷ (plus, pos 1) ∷ []) → order_in terms ≡ Some (plus, minus)
ordered terms plus minus h = elim h as (λ o. order_in terms ≡ Some (plus, minus)) [
  | inl e ↦ ap order_in e
  | inr f ↦ ap order_in f
]

there_from : (negative : Bool) (link : Link) → leading negative (upper negative link, lower negative link) ≡ link.from
there_from true link = refl
there_from false link = refl

there_to : (negative : Bool) (link : Link) → led negative (upper negative link, lower negative link) ≡ link.to
there_to true link = refl
there_to false link = refl

again_from : (negative : Bool) (link : Link) → led negative (lower negative link, upper negative link) ≡ link.from
again_from true link = refl
again_from false link = refl

again_to : (negative : Bool) (link : Link) → leading negative (lower negative link, upper negative link) ≡ link.to
again_to true link = refl
again_to false link = refl

fall_in : (negative inequality : Bool) (row : WRow) (n : ℕ) (link : Link) → link.from < link.to → SaysFall negative row link link.by
    → InTies (fall_links negative inequality (order_in row.terms) row.constant n) link
fall_in negative inequality row n link less says =
    let order : ℕ × ℕ = (upper negative link, lower negative link) in
    subst (λ (o : Option (ℕ × ℕ)). InTies (fall_links negative inequality o row.constant n) link)
    (sym (ordered row.terms (upper negative link) (lower negative link) says.terms))
    (in_left (rising_tie (leading negative order) (led negative order) (pos 0 -ℤ row.constant) n false)
    (cond inequality [] (rising_tie (led negative order) (leading negative order) row.constant n true)) link
    (rising_in (leading negative order) (led negative order) (pos 0 -ℤ row.constant) n false link less
    (there_from negative link) (there_to negative link) (less_is row.constant link.by says.constant)))
  where
    less_is : (a b : ℤ) → a +ℤ b ≡ pos 0 → pos 0 -ℤ a ≡ b
    less_is a b e = omega (arith, ints)

pub swapped : (terms : List (ℕ × ℤ)) (a b : ℕ) → (terms ≡ (a, negsuc 0) ∷ (b, pos 1) ∷ [])
    ⊎ (terms ≡ (b, pos 1) ∷ (a, negsuc 0) ∷ []) → (terms ≡ (b, pos 1) ∷ (a, negsuc 0) ∷ []) ⊎ (terms ≡ (a, negsuc 0) ∷ (b, pos 1) ∷ [])
swapped terms a b h = elim h as (λ o. (terms ≡ (b, pos 1) ∷ (a, negsuc 0) ∷ []) ⊎ (terms ≡ (a, negsuc 0) ∷ (b, pos 1) ∷ [])) [
  | inl e ↦ inr e
  | inr f ↦ inl f
]

back_in : (negative inequality : Bool) (row : WRow) (n : ℕ) (link : Link) → inequality ≡ false → link.from < link.to
    → SaysBack negative row link link.by → InTies (fall_links negative inequality (order_in row.terms) row.constant n) link
back_in negative inequality row n link kind less says =
    let order : ℕ × ℕ = (lower negative link, upper negative link) in
    subst (λ (o : Option (ℕ × ℕ)). InTies (fall_links negative inequality o row.constant n) link)
    (sym (ordered row.terms (lower negative link) (upper negative link)
    (swapped row.terms (upper negative link) (lower negative link) says.terms)))
    (in_right (rising_tie (leading negative order) (led negative order) (pos 0 -ℤ row.constant) n false)
    (cond inequality [] (rising_tie (led negative order) (leading negative order) row.constant n true)) link
    (subst (λ (l : List Tie). InTies l link)
    (sym (cond-false inequality [] (rising_tie (led negative order) (leading negative order) row.constant n true) kind))
    (rising_in (led negative order) (leading negative order) row.constant n true link less (again_from negative link)
    (again_to negative link) says.constant)))

weights_of : (negative : Bool) (row : WRow) (link : Link) → SaysFall negative row link link.by ⊎ SaysBack negative row link link.by
    → row.weights ≡ []
weights_of negative row link h = elim h as (λ o. row.weights ≡ []) [
  | inl f ↦ f.weights
  | inr b ↦ b.weights
]

row_in : (negative : Bool) (row : WRow) (n : ℕ) (link : Link) → link.from < link.to → SaysFall negative row link link.by
    ⊎ SaysBack negative row link link.by → InTies (fall_row_ties negative n row) link
row_in negative row n link less says =
    let links = fall_links negative (is_inequality row.kind) (order_in row.terms) row.constant n in
    subst (λ (l : List Tie). InTies l link)
    (sym (cond-true (has_none row.weights) links [] (ap has_none (weights_of negative row link says))))
    (elim says as (λ o. InTies links link) [
      | inl f ↦ fall_in negative (is_inequality row.kind) row n link less f
      | inr b ↦ back_in negative (is_inequality row.kind) row n link (ap is_inequality b.equation) less b
    ])

from_in : (negative : Bool) (n k : ℕ) (rows : List WRow) (row : WRow) (link : Link) → slice_get rows k ≡ Some row
    → ((m : ℕ) → InTies (fall_row_ties negative m row) link) → InTies (fall_ties_from negative n rows) link
from_in negative n k [] row link is h = absurd (none-some row is)
from_in negative n zero (r ∷ rest) row link is h = in_left (fall_row_ties negative n r) (fall_ties_from negative (suc n) rest) link
    (subst (λ (x : WRow). InTies (fall_row_ties negative n x) link) (sym (same_Some r row is)) (h n))
from_in negative n (suc k) (r ∷ rest) row link is h = in_right (fall_row_ties negative n r) (fall_ties_from negative (suc n) rest)
    link (from_in negative (suc n) k rest row link is h)

pub falls_complete : (negative : Bool) (rows : List WRow) (ties sorted : List Tie) → IsPermutation ties sorted
    → ties ≡ fall_ties_from negative 0 rows → (link : Link) → IsFallLink negative rows link → InTies sorted link
falls_complete negative rows ties sorted moves e link is = moved_in ties sorted link moves
    (subst (λ (l : List Tie). InTies l link) (sym e)
    (from_in negative 0 is.among.0 rows is.row link is.among.1 (λ m. row_in negative is.row m link is.greater is.says)))

-- and the other way round: each tie is a fall link
pub there_says : (negative : Bool) (row : WRow) (link : Link) (order : ℕ × ℕ) → AreOrdered row.terms order.0 order.1
    → link.from ≡ leading negative order → link.to ≡ led negative order → row.constant +ℤ link.by ≡ pos 0 → row.weights ≡ []
    → SaysFall negative row link link.by
there_says true row link order h from to by weights = record {
  terms = subst (λ (x : ℕ). AreOrdered row.terms x link.from) (sym to)
      (subst (λ (x : ℕ). AreOrdered row.terms order.0 x) (sym from) h);
  constant = by;
  weights = weights;
}
there_says false row link order h from to by weights = record {
  terms = subst (λ (x : ℕ). AreOrdered row.terms x link.to) (sym from)
      (subst (λ (x : ℕ). AreOrdered row.terms order.0 x) (sym to) h);
  constant = by;
  weights = weights;
}

unswapped : (terms : List (ℕ × ℤ)) (plus minus : ℕ) → AreOrdered terms plus minus → (terms ≡ (minus, negsuc 0) ∷ (plus, pos 1) ∷ [])
    ⊎ (terms ≡ (plus, pos 1) ∷ (minus, negsuc 0) ∷ [])
unswapped terms plus minus h = elim h as (λ o. (terms ≡ (minus, negsuc 0) ∷ (plus, pos 1) ∷ [])
    ⊎ (terms ≡ (plus, pos 1) ∷ (minus, negsuc 0) ∷ [])) [
      | inl e ↦ inr e
      | inr f ↦ inl f
    ]

pub again_says : (negative : Bool) (row : WRow) (link : Link) (order : ℕ × ℕ) → row.kind ≡ IsZero
    → AreOrdered row.terms order.0 order.1 → link.from ≡ led negative order → link.to ≡ leading negative order
    → row.constant ≡ link.by → row.weights ≡ [] → SaysBack negative row link link.by
again_says true row link order kind h from to by weights = record {
  equation = kind;
  terms = unswapped row.terms link.from link.to
      (subst (λ (x : ℕ). AreOrdered row.terms link.from x) (sym to)
      (subst (λ (x : ℕ). AreOrdered row.terms x order.1) (sym from) h));
  constant = by;
  weights = weights;
}
again_says false row link order kind h from to by weights = record {
  equation = kind;
  terms = unswapped row.terms link.to link.from
      (subst (λ (x : ℕ). AreOrdered row.terms x link.from) (sym to)
      (subst (λ (x : ℕ). AreOrdered row.terms order.0 x) (sym from) h));
  constant = by;
  weights = weights;
}

record IsFallOf (negative : Bool) (row : WRow) (link : Link) : Type 0 where
  pub less : link.from < link.to
  pub says : SaysFall negative row link link.by ⊎ SaysBack negative row link link.by

pub kind_is : (kind : RowKind) → is_inequality kind ≡ false → kind ≡ IsZero
kind_is AtLeastZero e = absurd (cc)
kind_is IsZero e = refl

pub none_is : (list : List (ℕ × ℤ)) → has_none list ≡ true → list ≡ []
none_is [] e = refl
none_is (one ∷ rest) e = absurd (cc)

links_say : (negative : Bool) (row : WRow) (n : ℕ) (link : Link) (order : Option (ℕ × ℕ)) → order_in row.terms ≡ order
    → row.weights ≡ [] → InTies (fall_links negative (is_inequality row.kind) order row.constant n) link → IsFallOf negative row link
links_say negative row n link None e weights h = absurd h
links_say negative row n link (Some order) e weights h = elim
    (in_cases (rising_tie (leading negative order) (led negative order) (pos 0 -ℤ row.constant) n false)
    (cond (is_inequality row.kind) [] (rising_tie (led negative order) (leading negative order) row.constant n true)) link h) as
    (λ o. IsFallOf negative row link) [
      | inl x ↦
          let r = rising_is (leading negative order) (led negative order) (pos 0 -ℤ row.constant) n false link x in
          record {
            less = r.less;
            says = inl (there_says negative row link order (order_terms row.terms order.0 order.1 e) r.starts
                r.ends (sum_is row.constant link.by r.adds) weights);
          }
      | inr y ↦
          let o = other_is (is_inequality row.kind) (rising_tie (led negative order) (leading negative order) row.constant n true)
          link y in
          let r = rising_is (led negative order) (leading negative order) row.constant n true link o.1 in
          record {
            less = r.less;
            says = inr
                (again_says negative row link order (kind_is row.kind o.0) (order_terms row.terms order.0 order.1 e) r.starts r.ends
                (sym r.adds) weights);
          }
    ]
  where
    sum_is : (a b : ℤ) → b ≡ pos 0 -ℤ a → a +ℤ b ≡ pos 0
    sum_is a b e = omega (arith, ints)

row_says : (negative : Bool) (row : WRow) (n : ℕ) (link : Link) → InTies (fall_row_ties negative n row) link → IsFallOf negative row link
row_says negative row n link h =
    let c = chosen_is (has_none row.weights) (fall_links negative (is_inequality row.kind) (order_in row.terms) row.constant n) link h in
    links_say negative row n link (order_in row.terms) refl (none_is row.weights c.holds) c.among

from_is : (negative : Bool) (rows : List WRow) (n : ℕ) (list : List WRow) (link : Link)
    → ((k : ℕ) (row : WRow) → slice_get list k ≡ Some row → IsAmong rows row) → InTies (fall_ties_from negative n list) link
    → IsFallLink negative rows link
from_is negative rows n [] link part h = absurd h
from_is negative rows n (row ∷ rest) link part h = elim
    (in_cases (fall_row_ties negative n row) (fall_ties_from negative (suc n) rest) link h) as (λ o. IsFallLink negative rows link) [
      | inl x ↦ let s = row_says negative row n link x in record { row = row; among = part 0 row refl; greater = s.less; says = s.says }
      | inr y ↦ from_is negative rows (suc n) rest link (λ k other is. part (suc k) other is) y
    ]

pub falls_sound : (negative : Bool) (rows : List WRow) (ties sorted : List Tie) → IsPermutation ties sorted
    → ties ≡ fall_ties_from negative 0 rows → (link : Link) → InTies sorted link → IsFallLink negative rows link
falls_sound negative rows ties sorted moves e link h = from_is negative rows 0 rows link (λ k row is. (k, is))
    (subst (λ (l : List Tie). InTies l link) e (moved_in sorted ties link (IsPermutation-sym ties sorted moves) h))
