-- Lists of ties that lead to greater numbers.
use Rattle.std.proofs.Common.{◌≡◌, ◌⊎◌, inl, inr, ℕ, zero, suc, ◌<◌, Bool, true, false, cond, List, [], ◌∷◌, ◌++◌, ℤ, Some, None}
use Rattle.std.proofs.Common.{subst, arith, refl, sym, IsPermutation}
use Rattle.std.specs.Prelude.{nat_lt, slice_get}
use Rattle.std.specs.List.{All}
use Rattle.std.proofs.lemmas.Bool.{lt-ltb, ltb-true}
use Rattle.std.proofs.lemmas.List.Sorted.{All-permutation, IsPermutation-sym}
use Rattle.std.proofs.lemmas.Option.{get_or_from_slice_get, slice_get_within}
use Rattle.rank_forms.specs.declared.rule_links.links.Link.{Link}
use Rattle.rank_forms.specs.declared.rule_links.links.Tie.{Tie}
use Rattle.rank_forms.specs.rule_links.Falls.{AreRising}
use Rattle.rank_forms.specs.rule_links.inner.Rising.{rising_tie}
use Rattle.rank_forms.specs.rule_links.Ties.{InTies}

pub in_left : (a b : List Tie) (link : Link) → InTies a link → InTies (a ++ b) link
in_left [] b link h = absurd h
in_left (tie ∷ rest) b link h = elim h as (λ o. InTies ((tie ∷ rest) ++ b) link) [
  | inl s ↦ inl s
  | inr r ↦ inr (in_left rest b link r)
]

pub in_right : (a b : List Tie) (link : Link) → InTies b link → InTies (a ++ b) link
in_right [] b link h = h
in_right (tie ∷ rest) b link h = inr (in_right rest b link h)

-- the first link leads to a greater number, and so do the others
abbrev pub Rises : List Tie → Type 0
Rises [] = Unit {0}
Rises (tie ∷ rest) = (tie.link.from < tie.link.to) × Rises rest

pub rise_both : (a b : List Tie) → Rises a → Rises b → Rises (a ++ b)
rise_both [] b h k = k
rise_both (tie ∷ rest) b h k = (h.0, rise_both rest b h.1 k)

rising_cases : (test : Bool) (tie : Tie) → (test ≡ true → tie.link.from < tie.link.to) → Rises (cond test (tie ∷ []) [])
rising_cases true tie h = (h refl, tt)
rising_cases false tie h = tt

pub one_rises : (from to : ℕ) (by : ℤ) (row : ℕ) (back : Bool) → Rises (rising_tie from to by row back)
one_rises from to by row back = rising_cases (nat_lt from to)
    (record { link = record { from = from; to = to; by = by }; row = row; back = back; beside = None }) (λ e. ltb-true from to e)

pub chosen_rise : (test : Bool) (a b : List Tie) → Rises a → Rises b → Rises (cond test a b)
chosen_rise true a b h k = h
chosen_rise false a b h k = k

pub all_rise : (ties : List Tie) → Rises ties → AreRising ties
all_rise [] h i d low = absurd (omega (arith, low))
all_rise (tie ∷ rest) h zero d low = h.0
all_rise (tie ∷ rest) h (suc i) d low = all_rise rest h.1 i d (omega (arith, low))

-- a link to a greater number is that of its tie
in_rising : (test : Bool) (tie : Tie) (link : Link) → test ≡ true → tie.link ≡ link → InTies (cond test (tie ∷ []) []) link
in_rising true tie link e same = inl same
in_rising false tie link e same = absurd (cc)

link_is : (link : Link) → ◌≡◌ {A = Link} (record { from = link.from; to = link.to; by = link.by }) link
link_is link = refl

pub rising_in : (from to : ℕ) (by : ℤ) (row : ℕ) (back : Bool) (link : Link) → link.from < link.to → from ≡ link.from → to ≡ link.to
    → by ≡ link.by → InTies (rising_tie from to by row back) link
rising_in from to by row back link less e f g =
    subst (λ (x : ℕ). InTies (rising_tie x to by row back) link) (sym e)
    (subst (λ (x : ℕ). InTies (rising_tie link.from x by row back) link) (sym f)
    (subst (λ (x : ℤ). InTies (rising_tie link.from link.to x row back) link) (sym g)
    (in_rising (nat_lt link.from link.to)
    (record { link = record { from = link.from; to = link.to; by = link.by }; row = row; back = back; beside = None }) link
    (lt-ltb link.from link.to less) (link_is link))))

-- in another order the links are the same
each_in : (ties all : List Tie) → ((link : Link) → InTies ties link → InTies all link) → All (λ (tie : Tie). InTies all tie.link) ties
each_in [] all part i d low = absurd (omega (arith, low))
each_in (tie ∷ rest) all part zero d low = part tie.link (inl refl)
each_in (tie ∷ rest) all part (suc i) d low = each_in rest all (λ link h. part link (inr h)) i d (omega (arith, low))

in_all : (ties all : List Tie) (link : Link) → All (λ (tie : Tie). InTies all tie.link) ties → InTies ties link → InTies all link
in_all [] all link each h = absurd h
in_all (tie ∷ rest) all link each h = elim h as (λ o. InTies all link) [
  | inl s ↦ subst (InTies all) s (each 0 tie (omega arith))
  | inr r ↦ in_all rest all link (λ i d low. each (suc i) d (omega (arith, low))) r
]

pub moved_in : (before after : List Tie) (link : Link) → IsPermutation before after → InTies before link → InTies after link
moved_in before after link moves h =
    in_all before after link
    (All-permutation (λ (tie : Tie). InTies after tie.link) after before (IsPermutation-sym before after moves)
    (each_in after after (λ other i. i))) h

pub moved_rise : (before after : List Tie) → IsPermutation before after → Rises before → AreRising after
moved_rise before after moves h = All-permutation (λ (tie : Tie). tie.link.from < tie.link.to) before after moves (all_rise before h)

-- and the other way round: a link among them leads to a greater number
pub record IsRising (from to : ℕ) (by : ℤ) (link : Link) : Type 0 where
  pub less : link.from < link.to
  pub starts : link.from ≡ from
  pub ends : link.to ≡ to
  pub adds : link.by ≡ by

rising_is_cases : (test : Bool) (from to : ℕ) (by : ℤ) (row : ℕ) (back : Bool) (link : Link) → nat_lt from to ≡ test
    → InTies (cond test (record { link = record { from = from; to = to; by = by }; row = row; back = back; beside = None } ∷ []) [])
    link → IsRising from to by link
rising_is_cases false from to by row back link e h = absurd h
rising_is_cases true from to by row back link e h = elim h as (λ o. IsRising from to by link) [
  | inl s ↦ subst (λ (l : Link). IsRising from to by l) s (record { less = ltb-true from to e; starts = refl; ends = refl; adds = refl })
  | inr r ↦ absurd r
]

pub rising_is : (from to : ℕ) (by : ℤ) (row : ℕ) (back : Bool) (link : Link) → InTies (rising_tie from to by row back) link
    → IsRising from to by link
rising_is from to by row back link h = rising_is_cases (nat_lt from to) from to by row back link refl h

pub in_cases : (a b : List Tie) (link : Link) → InTies (a ++ b) link → InTies a link ⊎ InTies b link
in_cases [] b link h = inr h
in_cases (tie ∷ rest) b link h = elim h as (λ o. InTies (tie ∷ rest) link ⊎ InTies b link) [
  | inl s ↦ inl (inl s)
  | inr r ↦ elim (in_cases rest b link r) as (λ o. InTies (tie ∷ rest) link ⊎ InTies b link) [
    | inl x ↦ inl (inr x)
    | inr y ↦ inr y
  ]
]

-- a link among ties that count where a test holds
pub record IsChosen (test : Bool) (ties : List Tie) (link : Link) : Type 0 where
  pub holds : test ≡ true
  pub among : InTies ties link

pub chosen_is : (test : Bool) (ties : List Tie) (link : Link) → InTies (cond test ties []) link → IsChosen test ties link
chosen_is true ties link h = record { holds = refl; among = h }
chosen_is false ties link h = absurd h

pub other_is : (test : Bool) (ties : List Tie) (link : Link) → InTies (cond test [] ties) link → (test ≡ false) × InTies ties link
other_is true ties link h = absurd h
other_is false ties link h = (refl, h)
