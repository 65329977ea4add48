-- The sets that the steps of a closed proof leave, the parts of a split, and the steps that are named.
use Rattle.std.proofs.Common.{◌≡◌, ◌∙◌, ◌<◌, ◌≤◌, inl, inr, ℕ, zero, suc, Bool, true, false, cond, eqb, List, [], ◌∷◌, ◌++◌}
use Rattle.std.proofs.Common.{length, map, Option, Some, None, slice_get, nat_lt, refl, sym, subst, arith}
use Rattle.std.specs.Prelude.{◌&&◌, All, filter, slice_set, is_none}
use Rattle.std.specs.List.{AllByRecursion, concat, filter_map}
use Rattle.std.proofs.lemmas.Bool.{false≢true, true≢false, eqb-true, eq-eqb, or_left, or_right, or_cases}
use Rattle.std.proofs.lemmas.List.Elements.{All-from_recursion}
use Rattle.std.proofs.lemmas.Option.{none-some, same_Some, slice_get_within}
use Rattle.list_views.proofs.Quantified.{all_places}
use Rattle.descent.specs.declared.faults.DescentFault.{DescentFault}
use Rattle.descent.specs.declared.faults.DescentFault.TheVariants.{NotCovered}
use Rattle.descent.specs.declared.proof.RankRule.{RankRule}
use Rattle.descent.specs.declared.proof.RankRule.TheVariants.{Weak, Strict}
use Rattle.descent.specs.Splits.{has, stands_in, place_in, is_misplaced, least, least_of_two, uncovered, cover_fault}
use Rattle.descent.specs.Steps.{Given, give, is_free, parts_left, same_option, rule_of}
use Rattle.descent.proofs.Walked.{AllGiven}
use Rattle.chain_proofs.specs.Dealt.{Rises}
use Rattle.chain_proofs.specs.inner.Dealt.{IsSet, AreSets}
use Rattle.chain_proofs.proofs.Charging.{part_set}
use Rattle.chain_proofs.proofs.Spending.{sets_more}
use Rattle.cert_form.specs.Steps.{number_of}
use Rattle.cert_form.specs.cert_write.Readable.{IsNumber, IsMaybe, RisesBy}

-- ---- what steps are given

abbrev pub LeavesSets : ℕ → List (ℕ × List ℕ) → Type 0
LeavesSets count lefts = AllByRecursion (λ (left : ℕ × List ℕ). IsSet count left.1) lefts

pub sets_after : (count number : ℕ) (lefts : List (ℕ × List ℕ)) (given after : Given) → AreSets count given → LeavesSets count lefts
    → give number lefts given ≡ Some after → AreSets count after
sets_after count number [] given after sets left e = subst (AreSets count) (same_Some given after e) sets
sets_after count number (left ∷ rest) given after sets all e = go (nat_lt number left.0 && is_free (slice_get given left.0)) e
    (sets_after count number rest (slice_set given left.0 (Some left.1)) after (sets_more count given left.0 left.1 sets all.0) all.1)
  where
    go : (b : Bool) → cond b (give number rest (slice_set given left.0 (Some left.1))) None ≡ Some after
        → (give number rest (slice_set given left.0 (Some left.1)) ≡ Some after → AreSets count after) → AreSets count after
    go true f later = later f
    go false f later = absurd (none-some after f)

pub named_low : (number : ℕ) (after : Given) (lefts : List (ℕ × List ℕ)) → AllGiven number after lefts
    → AllByRecursion (λ (left : ℕ × List ℕ). left.0 < length after) lefts
named_low number after [] all = tt
named_low number after (left ∷ rest) all = (slice_get_within after left.0 (Some left.1) all.1, named_low number after rest all.2)

-- ---- splits

pub parts_leave : (count : ℕ) (set : List ℕ) (parts : List (List ℕ)) (steps : List (Option ℕ)) → IsSet count set
    → LeavesSets count (filter_map same_option (parts_left set parts steps))
parts_leave count set [] steps is = tt
parts_leave count set (part ∷ parts) [] is = tt
parts_leave count set (part ∷ parts) (None ∷ steps) is = parts_leave count set parts steps is
parts_leave count set (part ∷ parts) (Some step ∷ steps) is = (part_set count set part is, parts_leave count set parts steps is)

pub steps_low : (end : ℕ) (set : List ℕ) (parts : List (List ℕ)) (steps : List (Option ℕ)) → end ≤ 4294967296
    → length steps ≡ length parts
    → AllByRecursion (λ (left : ℕ × List ℕ). left.0 < end) (filter_map same_option (parts_left set parts steps))
    → AllByRecursion (IsMaybe IsNumber) steps
steps_low end set parts [] most same all = tt
steps_low end set [] (step ∷ steps) most same all = absurd (omega (arith, same))
steps_low end set (part ∷ parts) (None ∷ steps) most same all = (tt, steps_low end set parts steps most (omega (arith, same)) all)
steps_low end set (part ∷ parts) (Some step ∷ steps) most same all =
    let low = all.0 in
    (omega (arith, low, most), steps_low end set parts steps most (omega (arith, same)) all.1)

-- every number of a part is one of the set
no_least : (ns : List ℕ) → least ns ≡ None → ns ≡ []
no_least [] e = refl
no_least (n ∷ ns) e = absurd (none-some (least_of_two n (least ns)) (sym e))

none_passes : (test : ℕ → Bool) (ns : List ℕ) (n : ℕ) → filter test ns ≡ [] → has ns n ≡ true → test n ≡ false
none_passes test [] n e h = absurd (false≢true h)
none_passes test (x ∷ ns) n e h = go (test x) refl e (none_passes test ns n)
  where
    go : (b : Bool) → test x ≡ b → cond b (x ∷ filter test ns) (filter test ns) ≡ []
        → (filter test ns ≡ [] → has ns n ≡ true → test n ≡ false) → test n ≡ false
    go true f g more = absurd (cc)
    go false f g more = elim (or_cases (eqb x n) (has ns n) h) [
      | inl s ↦ subst (λ (k : ℕ). test k ≡ false) (eqb-true x n s) f
      | inr later ↦ more g later
    ]

pub has_later : (a b : List ℕ) (n : ℕ) → has b n ≡ true → has (a ++ b) n ≡ true
has_later [] b n h = h
has_later (x ∷ a) b n h = or_right (eqb x n) (has (a ++ b) n) (has_later a b n h)

pub has_earlier : (a b : List ℕ) (n : ℕ) → has a n ≡ true → has (a ++ b) n ≡ true
has_earlier [] b n h = absurd (false≢true h)
has_earlier (x ∷ a) b n h = elim (or_cases (eqb x n) (has a n) h) [
  | inl e ↦ or_left (eqb x n) (has (a ++ b) n) e
  | inr e ↦ or_right (eqb x n) (has (a ++ b) n) (has_earlier a b n e)
]

in_concat : (parts : List (List ℕ)) (n : ℕ) → stands_in parts n ≡ true → has (concat parts) n ≡ true
in_concat [] n h = absurd (false≢true h)
in_concat (part ∷ parts) n h = elim (or_cases (has part n) (stands_in parts n) h) [
  | inl e ↦ has_earlier part (concat parts) n e
  | inr e ↦ has_later part (concat parts) n (in_concat parts n e)
]

of_set : (set : List ℕ) (parts : List (List ℕ)) (n : ℕ) → uncovered set parts ≡ None → stands_in parts n ≡ true → has set n ≡ true
of_set set parts n e h = go (has set n) refl
    (none_passes (is_misplaced set parts) (set ++ concat parts) n (no_least (filter (is_misplaced set parts) (set ++ concat parts)) e)
    (has_later set (concat parts) n (in_concat parts n h)))
  where
    go : (b : Bool) → has set n ≡ b → cond b (is_none (place_in parts n)) (stands_in parts n) ≡ false → has set n ≡ true
    go true f g = f
    go false f g = absurd (true≢false (sym h ∙ g))

has_below : (count : ℕ) (set : List ℕ) (n : ℕ) → AllByRecursion (λ (k : ℕ). k < count) set → has set n ≡ true → n < count
has_below count [] n all h = absurd (false≢true h)
has_below count (x ∷ set) n all h = elim (or_cases (eqb x n) (has set n) h) [
  | inl e ↦ subst (λ (k : ℕ). k < count) (eqb-true x n e) all.0
  | inr e ↦ has_below count set n all.1 e
]

has_at : (part : List ℕ) (k n : ℕ) → slice_get part k ≡ Some n → has part n ≡ true
has_at [] k n e = absurd (none-some n e)
has_at (x ∷ part) zero n e = or_left (eqb x n) (has part n) (eq-eqb x n (same_Some x n e))
has_at (x ∷ part) (suc k) n e = or_right (eqb x n) (has part n) (has_at part k n e)

stands_at : (parts : List (List ℕ)) (k n : ℕ) (part : List ℕ) → slice_get parts k ≡ Some part → has part n ≡ true
    → stands_in parts n ≡ true
stands_at [] k n part e h = absurd (none-some part e)
stands_at (x ∷ parts) zero n part e h = or_left (has x n) (stands_in parts n)
    (subst (λ (p : List ℕ). has p n ≡ true) (sym (same_Some x part e)) h)
stands_at (x ∷ parts) (suc k) n part e h = or_right (has x n) (stands_in parts n) (stands_at parts k n part e h)

pub covered : (uncovers : Option ℕ) (rest : Option DescentFault) → cover_fault uncovers rest ≡ None → uncovers ≡ None
covered None rest e = refl
covered (Some n) rest e = absurd (none-some (NotCovered n) (sym e))

pub parts_low : (count : ℕ) (set : List ℕ) (parts : List (List ℕ)) → count ≤ 4096 → IsSet count set → uncovered set parts ≡ None
    → All (All IsNumber) parts
parts_low count set parts few is e = All-from_recursion (All IsNumber) parts (all_places (All IsNumber) parts (λ k part at.
    All-from_recursion IsNumber part (all_places IsNumber part (λ i n there.
    let stands = stands_at parts k n part at (has_at part i n there) in
    let low = has_below count set n is.below (of_set set parts n e stands) in
    omega (arith, low, few)))))

-- ---- rank steps

-- the numbers of listed rules rise
pub rules_rise : (count low : ℕ) (listed : List RankRule) → count ≤ 4096 → Rises low (map rule_of listed)
    → AllByRecursion (λ (n : ℕ). n < count) (map rule_of listed) → RisesBy number_of low 4294967296 listed
rules_rise count low [] few rise below = tt
rules_rise count low (Weak n fall ∷ rest) few rise below =
    let b = below.0 in
    (rise.0, (omega (arith, b, few), rules_rise count (suc n) rest few rise.1 below.1))
rules_rise count low (Strict n fall bound ∷ rest) few rise below =
    let b = below.0 in
    (rise.0, (omega (arith, b, few), rules_rise count (suc n) rest few rise.1 below.1))
