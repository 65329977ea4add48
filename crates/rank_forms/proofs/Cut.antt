-- The cuts that are found are all cuts of the rules.
use Rattle.std.proofs.Common.{◌≡◌, inl, inr, ℕ, zero, suc, ◌-◌, ◌<◌, ◌≤◌, Bool, true, false, cond, List, [], ◌∷◌, ◌++◌, Option}
use Rattle.std.proofs.Common.{Some, None, subst, arith, refl, sym}
use Rattle.std.specs.Prelude.{◌⊎◌, nat_lt, slice_get}
use Rattle.std.proofs.lemmas.Bool.{cases_lt, ltb-true}
use Rattle.std.proofs.lemmas.Bool.Decides.{nat_tests}
use Rattle.std.proofs.lemmas.Option.{same_Some, none-some}
use Rattle.descent.specs.declared.rules.PathRule.{PathRule}
use Rattle.rank_forms.specs.RankSteps.{IsCutOf}
use Rattle.rank_forms.specs.Forms.{AreCuts, IsIn, RiseTo}
use Rattle.rank_forms.specs.inner.Forms.{less_of, lesser, next_from}

-- the cuts of the rules that are below a number, rising
pub record AreCutsTo (rules : List PathRule) (cuts : List ℕ) (end : ℕ) : Type 0 where
  pub rise : RiseTo 0 cuts end
  pub from : (n : ℕ) (rule : PathRule) → slice_get rules n ≡ Some rule → rule.from < end → IsIn cuts rule.from
  pub to : (n : ℕ) (rule : PathRule) → slice_get rules n ≡ Some rule → rule.to < end → IsIn cuts rule.to
  pub only : (k cut : ℕ) → slice_get cuts k ≡ Some cut → IsCutOf rules cut

-- a number that is there, and is at most another one
abbrev IsUnder : Option ℕ → ℕ → Type 0
IsUnder None x = ⊥
IsUnder (Some c) x = c ≤ x

-- one that is at least another one, if it is there
abbrev IsOver : ℕ → Option ℕ → Type 0
IsOver low None = Unit {0}
IsOver low (Some c) = low ≤ c

less_cases : (test : Bool) (c best x : ℕ) → nat_lt c best ≡ test → best ≤ x → IsUnder (cond test (Some c) (Some best)) x
less_cases true c best x e h = let s : c < best = ltb-true c best e in omega (arith, s, h)
less_cases false c best x e h = h

less_old : (best : Option ℕ) (c x : ℕ) → IsUnder best x → IsUnder (less_of best c) x
less_old None c x h = absurd h
less_old (Some best) c x h = less_cases (nat_lt c best) c best x refl h

new_cases : (test : Bool) (c best : ℕ) → nat_lt c best ≡ test → IsUnder (cond test (Some c) (Some best)) c
new_cases true c best e = omega arith
new_cases false c best e = not_less c best e
  where
    not_less : (a b : ℕ) → nat_lt a b ≡ false → b ≤ a
    not_less a b e = grind (arith, nat_tests)

less_new : (best : Option ℕ) (c : ℕ) → IsUnder (less_of best c) c
less_new None c = omega arith
less_new (Some best) c = new_cases (nat_lt c best) c best refl

over_cases : (test : Bool) (low c best : ℕ) → low ≤ c → low ≤ best → IsOver low (cond test (Some c) (Some best))
over_cases true low c best h k = h
over_cases false low c best h k = k

less_over : (low : ℕ) (best : Option ℕ) (c : ℕ) → low ≤ c → IsOver low best → IsOver low (less_of best c)
less_over low None c h k = h
less_over low (Some best) c h k = over_cases (nat_lt c best) low c best h k

old_by : (test : Bool) (best : Option ℕ) (c x : ℕ) → IsUnder best x → IsUnder (cond test best (less_of best c)) x
old_by true best c x h = h
old_by false best c x h = less_old best c x h

lesser_old : (best : Option ℕ) (c low x : ℕ) → IsUnder best x → IsUnder (lesser best c low) x
lesser_old best c low x h = old_by (nat_lt c low) best c x h

new_by : (test : Bool) (best : Option ℕ) (c low : ℕ) → nat_lt c low ≡ test → low ≤ c → IsUnder (cond test best (less_of best c)) c
new_by true best c low e h = absurd (let s : c < low = ltb-true c low e in omega (arith, s, h))
new_by false best c low e h = less_new best c

lesser_new : (best : Option ℕ) (c low : ℕ) → low ≤ c → IsUnder (lesser best c low) c
lesser_new best c low h = new_by (nat_lt c low) best c low refl h

over_by : (test : Bool) (best : Option ℕ) (c low : ℕ) → nat_lt c low ≡ test → IsOver low best
    → IsOver low (cond test best (less_of best c))
over_by true best c low e h = h
over_by false best c low e h = less_over low best c (not_less c low e) h
  where
    not_less : (a b : ℕ) → nat_lt a b ≡ false → b ≤ a
    not_less a b e = grind (arith, nat_tests)

lesser_over : (best : Option ℕ) (c low : ℕ) → IsOver low best → IsOver low (lesser best c low)
lesser_over best c low h = over_by (nat_lt c low) best c low refl h

next_old : (low x : ℕ) (best : Option ℕ) (rules : List PathRule) → IsUnder best x → IsUnder (next_from low best rules) x
next_old low x best [] h = h
next_old low x best (rule ∷ rest) h = next_old low x (lesser (lesser best rule.from low) rule.to low) rest
    (lesser_old (lesser best rule.from low) rule.to low x (lesser_old best rule.from low x h))

next_over : (low : ℕ) (best : Option ℕ) (rules : List PathRule) → IsOver low best → IsOver low (next_from low best rules)
next_over low best [] h = h
next_over low best (rule ∷ rest) h = next_over low (lesser (lesser best rule.from low) rule.to low) rest
    (lesser_over (lesser best rule.from low) rule.to low (lesser_over best rule.from low h))

next_at_from : (low : ℕ) (best : Option ℕ) (rules : List PathRule) (n : ℕ) (rule : PathRule) → slice_get rules n ≡ Some rule
    → low ≤ rule.from → IsUnder (next_from low best rules) rule.from
next_at_from low best [] n rule e h = absurd (none-some rule e)
next_at_from low best (first ∷ rest) zero rule e h = next_old low rule.from (lesser (lesser best first.from low) first.to low) rest
    (lesser_old (lesser best first.from low) first.to low rule.from
    (subst (λ (r : PathRule). IsUnder (lesser best r.from low) rule.from) (sym (same_Some first rule e))
    (lesser_new best rule.from low h)))
next_at_from low best (first ∷ rest) (suc n) rule e h = next_at_from low (lesser (lesser best first.from low) first.to low) rest n rule e h

next_at_to : (low : ℕ) (best : Option ℕ) (rules : List PathRule) (n : ℕ) (rule : PathRule) → slice_get rules n ≡ Some rule
    → low ≤ rule.to → IsUnder (next_from low best rules) rule.to
next_at_to low best [] n rule e h = absurd (none-some rule e)
next_at_to low best (first ∷ rest) zero rule e h = next_old low rule.to (lesser (lesser best first.from low) first.to low) rest
    (subst (λ (r : PathRule). IsUnder (lesser (lesser best r.from low) r.to low) rule.to) (sym (same_Some first rule e))
    (lesser_new (lesser best rule.from low) rule.to low h))
next_at_to low best (first ∷ rest) (suc n) rule e h = next_at_to low (lesser (lesser best first.from low) first.to low) rest n rule e h

less_is_cases : (test : Bool) (best c x : ℕ) → cond test (Some c) (Some best) ≡ Some x → (Some best ≡ Some x) ⊎ (c ≡ x)
less_is_cases true best c x e = inr (same_Some c x e)
less_is_cases false best c x e = inl e

less_is : (best : Option ℕ) (c x : ℕ) → less_of best c ≡ Some x → (best ≡ Some x) ⊎ (c ≡ x)
less_is None c x e = inr (same_Some c x e)
less_is (Some best) c x e = less_is_cases (nat_lt c best) best c x e

lesser_is_cases : (test : Bool) (best : Option ℕ) (c x : ℕ) → cond test best (less_of best c) ≡ Some x → (best ≡ Some x) ⊎ (c ≡ x)
lesser_is_cases true best c x e = inl e
lesser_is_cases false best c x e = less_is best c x e

lesser_is : (best : Option ℕ) (c low x : ℕ) → lesser best c low ≡ Some x → (best ≡ Some x) ⊎ (c ≡ x)
lesser_is best c low x e = lesser_is_cases (nat_lt c low) best c x e

either_is : (best : Option ℕ) (rule : PathRule) (rest : List PathRule) (low x : ℕ)
    → lesser (lesser best rule.from low) rule.to low ≡ Some x → (best ≡ Some x) ⊎ IsCutOf (rule ∷ rest) x
either_is best rule rest low x e = elim (lesser_is (lesser best rule.from low) rule.to low x e) as
    (λ o. (best ≡ Some x) ⊎ IsCutOf (rule ∷ rest) x) [
      | inl before ↦ from_is (lesser_is best rule.from low x before)
      | inr to ↦ inr record { n = 0; rule = rule; is = refl; ends = inr to }
    ]
  where
    from_is : (best ≡ Some x) ⊎ (rule.from ≡ x) → (best ≡ Some x) ⊎ IsCutOf (rule ∷ rest) x
    from_is (inl first) = inl first
    from_is (inr from) = inr record { n = 0; rule = rule; is = refl; ends = inl from }

next_is : (low x : ℕ) (best : Option ℕ) (rules : List PathRule) → next_from low best rules ≡ Some x → (best ≡ Some x) ⊎ IsCutOf rules x
next_is low x best [] e = inl e
next_is low x best (rule ∷ rest) e = elim (next_is low x (lesser (lesser best rule.from low) rule.to low) rest e) as
    (λ o. (best ≡ Some x) ⊎ IsCutOf (rule ∷ rest) x) [
      | inl was ↦ either_is best rule rest low x was
      | inr later ↦ inr record { n = suc later.n; rule = later.rule; is = later.is; ends = later.ends }
    ]

found_cut : (low x : ℕ) (rules : List PathRule) → next_from low None rules ≡ Some x → IsCutOf rules x
found_cut low x rules e = elim (next_is low x None rules e) as (λ o. IsCutOf rules x) [
  | inl none ↦ absurd (none-some x none)
  | inr is ↦ is
]

only_more : (rules : List PathRule) (cuts : List ℕ) (cut : ℕ) → IsCutOf rules cut
    → ((k x : ℕ) → slice_get cuts k ≡ Some x → IsCutOf rules x) → (k x : ℕ) → slice_get (cuts ++ cut ∷ []) k ≡ Some x → IsCutOf rules x
only_more rules [] cut here each zero x e = subst (IsCutOf rules) (same_Some cut x e) here
only_more rules [] cut here each (suc k) x e = absurd (none-some x e)
only_more rules (first ∷ rest) cut here each zero x e = each 0 x e
only_more rules (first ∷ rest) cut here each (suc k) x e = only_more rules rest cut here (λ j y f. each (suc j) y f) k x e

-- one cut more
rise_more : (from : ℕ) (cuts : List ℕ) (low cut : ℕ) → RiseTo from cuts low → low ≤ cut → RiseTo from (cuts ++ cut ∷ []) (suc cut)
rise_more from [] low cut h k = (omega (arith, h, k), omega arith)
rise_more from (first ∷ rest) low cut h k = (h.0, rise_more (suc first) rest low cut h.1 k)

in_longer : (cuts : List ℕ) (cut x k : ℕ) → slice_get cuts k ≡ Some x → IsIn (cuts ++ cut ∷ []) x
in_longer [] cut x k e = absurd (no_number x e)
  where
    no_number : (a : ℕ) → ◌≡◌ {A = Option ℕ} None (Some a) → ⊥
    no_number a e = absurd (cc)
in_longer (first ∷ rest) cut x zero e = (0, e)
in_longer (first ∷ rest) cut x (suc k) e = let w = in_longer rest cut x k e in (suc w.0, w.1)

in_last : (cuts : List ℕ) (cut : ℕ) → IsIn (cuts ++ cut ∷ []) cut
in_last [] cut = (0, refl)
in_last (first ∷ rest) cut = let w = in_last rest cut in (suc w.0, w.1)

at_cut : (cuts : List ℕ) (cut low x : ℕ) → (x < low → IsIn cuts x) → (low ≤ x → cut ≤ x) → x < suc cut → IsIn (cuts ++ cut ∷ []) x
at_cut cuts cut low x old new less = elim (cases_lt x low) as (λ o. IsIn (cuts ++ cut ∷ []) x) [
  | inl before ↦ let w = old before in in_longer cuts cut x w.0 w.1
  | inr past ↦ subst (IsIn (cuts ++ cut ∷ [])) (same cut x (new past) less) (in_last cuts cut)
]
  where
    same : (a b : ℕ) → a ≤ b → b < suc a → a ≡ b
    same a b h k = omega (arith, h, k)

under_some : (found : Option ℕ) (c x : ℕ) → found ≡ Some c → IsUnder found x → c ≤ x
under_some found c x e h = subst (λ (o : Option ℕ). IsUnder o x) e h

over_some : (found : Option ℕ) (c low : ℕ) → found ≡ Some c → IsOver low found → low ≤ c
over_some found c low e h = subst (IsOver low) e h

under_none : (found : Option ℕ) (x : ℕ) → found ≡ None → IsUnder found x → ⊥
under_none found x e h = subst (λ (o : Option ℕ). IsUnder o x) e h

pub next_low : (rules : List PathRule) (low cut : ℕ) → next_from low None rules ≡ Some cut → low ≤ cut
next_low rules low cut e = over_some (next_from low None rules) cut low e (next_over low None rules tt)

pub cuts_more : (rules : List PathRule) (cuts new : List ℕ) (low cut next : ℕ) → next_from low None rules ≡ Some cut
    → new ≡ cuts ++ cut ∷ [] → next ≡ suc cut → AreCutsTo rules cuts low → AreCutsTo rules new next
cuts_more rules cuts new low cut next e n f h = subst (λ (l : List ℕ). AreCutsTo rules l next) (sym n)
    (subst (AreCutsTo rules (cuts ++ cut ∷ [])) (sym f) (record {
      rise = rise_more 0 cuts low cut h.rise (next_low rules low cut e);
      from = λ k rule at less. at_cut cuts cut low rule.from (h.from k rule at)
          (λ past. under_some (next_from low None rules) cut rule.from e (next_at_from low None rules k rule at past)) less;
      to = λ k rule at less. at_cut cuts cut low rule.to (h.to k rule at)
          (λ past. under_some (next_from low None rules) cut rule.to e (next_at_to low None rules k rule at past)) less;
      only = only_more rules cuts cut (found_cut low cut rules e) h.only;
    }))

pub cuts_first : (rules : List PathRule) (cuts : List ℕ) → cuts ≡ [] → AreCutsTo rules cuts 0
cuts_first rules cuts e = subst (λ (l : List ℕ). AreCutsTo rules l 0) (sym e) (record {
  rise = omega arith;
  from = λ k rule at less. absurd (omega (arith, less));
  to = λ k rule at less. absurd (omega (arith, less));
  only = λ k x at. absurd (none-some x at);
})

pub cuts_last : (rules : List PathRule) (cuts : List ℕ) (low : ℕ) → next_from low None rules ≡ None → AreCutsTo rules cuts low
    → AreCuts rules cuts
cuts_last rules cuts low e h = record {
  end = low;
  rise = h.rise;
  from = λ k rule at. elim (cases_lt rule.from low) as (λ o. IsIn cuts rule.from) [
    | inl less ↦ h.from k rule at less
    | inr past ↦ absurd (under_none (next_from low None rules) rule.from e (next_at_from low None rules k rule at past))
  ];
  to = λ k rule at. elim (cases_lt rule.to low) as (λ o. IsIn cuts rule.to) [
    | inl less ↦ h.to k rule at less
    | inr past ↦ absurd (under_none (next_from low None rules) rule.to e (next_at_to low None rules k rule at past))
  ];
  only = h.only;
}

pub smaller_cut : (low cut next : ℕ) → low ≤ cut → next ≡ suc cut → next ≤ 4294967296 → 4294967297 - next < 4294967297 - low
smaller_cut low cut next h e k = omega (arith, h, e, k)
