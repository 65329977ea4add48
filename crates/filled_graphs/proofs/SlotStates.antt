-- Slots, by place.
use Rattle.std.proofs.Common.{◌≡◌, ◌<◌, ◌≤◌, ◌+◌, ◌∙◌, ℕ, zero, suc, Bool, true, false, cond, is_some, List, [], ◌∷◌, ◌++◌, length}
use Rattle.std.proofs.Common.{length-append, Option}
use Rattle.std.proofs.Common.{Some, None, slice_get, slice_set, slice_index_or, ◌==◌, ◌⊎◌, inl, inr, refl, sym, ap, subst, arith}
use Rattle.std.proofs.lemmas.Bool.{false≢true, eqb-true, eq-eqb, cases_eq}
use Rattle.std.proofs.lemmas.Option.{none-some, slice_get_read, slice_get_within}
use Rattle.list_views.proofs.Items.{get_set}
use Rattle.jvm_values.proofs.Options.{some_is}
use Rattle.abs_cells.specs.AbstractStates.{AbstractState}
use Rattle.filled_graphs.specs.declared.origins.Origin.{Origin}
use Rattle.filled_graphs.specs.declared.origins.Origin.TheVariants.{Given, Lacking, Named}
use Rattle.filled_graphs.specs.lemmas.Lists.{in_more, set_other}
use Rattle.filled_graphs.specs.filled_nodes.inner.Slots.{IsFull, AreEmpty, has_state, IsNamedBy, names_it, IsNamerIn}

abbrev Slots : Type 0
Slots = List (Option AbstractState)

-- ---- what a slot has

pub slot_there : (slots : Slots) (n : ℕ) (slot : Option AbstractState) → n < length slots → slot ≡ slice_index_or slots n slot
    → slice_get slots n ≡ Some slot
slot_there slots n slot l is = slice_get_read slots (length slots) n slot refl l is

pub full_there : (slots : Slots) (n : ℕ) → IsFull slots n → n < length slots
full_there slots n full = slice_get_within slots n (Some full.state) full.is

pub state_there : (slots : Slots) (n : ℕ) (slot : Option AbstractState) (test : Bool) → n < length slots
    → slot ≡ slice_index_or slots n slot → test ≡ is_some slot → test ≡ has_state (slice_get slots n)
state_there slots n slot test l is t = t ∙ says slot ∙ ap has_state (sym (slot_there slots n slot l is))
  where
    says : (s : Option AbstractState) → is_some s ≡ has_state (Some s)
    says (Some state) = refl
    says None = refl

pub state_past : (slots : Slots) (n : ℕ) → length slots ≤ n → false ≡ has_state (slice_get slots n)
state_past [] n l = refl
state_past (x ∷ slots) zero l = absurd (omega (arith, l))
state_past (x ∷ slots) (suc n) l = state_past slots n (omega (arith, l))

-- a full slot isn't empty
pub full_some : (slots : Slots) (n : ℕ) (slot : Option AbstractState) → IsFull slots n → slot ≡ slice_index_or slots n slot
    → slot ≡ None → ⊥
full_some slots n slot full is none =
    let there = slot_there slots n slot (full_there slots n full) is in
    none-some full.state (some_is (ap Some (sym none) ∙ sym there ∙ full.is))

pub state_is : (slots : Slots) (n : ℕ) (slot : Option AbstractState) (state : AbstractState) → IsFull slots n
    → slot ≡ slice_index_or slots n slot → slot ≡ Some state → slice_get slots n ≡ Some (Some state)
state_is slots n slot state full is some = slot_there slots n slot (full_there slots n full) is ∙ ap Some some

pub has_full : (slots : Slots) (n : ℕ) → has_state (slice_get slots n) ≡ true → IsFull slots n
has_full slots n e = go (slice_get slots n) refl e
  where
    go : (o : Option (Option AbstractState)) → slice_get slots n ≡ o → has_state o ≡ true → IsFull slots n
    go None is t = absurd (false≢true t)
    go (Some None) is t = absurd (false≢true t)
    go (Some (Some state)) is t = record { state = state; is = is }

pub full_has : (slots : Slots) (n : ℕ) → IsFull slots n → has_state (slice_get slots n) ≡ true
full_has slots n full = ap has_state full.is

-- ---- a slot is set

-- a state that is held then is the new one, or one that was held
pub in_set : (slots : Slots) (n k : ℕ) (slot : Option AbstractState) (state : AbstractState)
    → slice_get (slice_set slots n slot) k ≡ Some (Some state)
    → ((k ≡ n) × (slot ≡ Some state)) ⊎ (slice_get slots k ≡ Some (Some state))
in_set [] n k slot state at = inr at
in_set (x ∷ slots) zero zero slot state at = inl (refl, some_is at)
in_set (x ∷ slots) zero (suc k) slot state at = inr at
in_set (x ∷ slots) (suc n) zero slot state at = inr at
in_set (x ∷ slots) (suc n) (suc k) slot state at = elim (in_set slots n k slot state at) [
  | inl r ↦ inl (ap suc r.0, r.1)
  | inr r ↦ inr r
]

pub full_set : (slots : Slots) (n : ℕ) (state : AbstractState) → n < length slots → IsFull (slice_set slots n (Some state)) n
full_set [] n state l = absurd (omega (arith, l))
full_set (x ∷ slots) zero state l = record { state = state; is = refl }
full_set (x ∷ slots) (suc n) state l =
    let r = full_set slots n state (omega (arith, l)) in
    record { state = r.state; is = r.is }

-- what is full stays so where another slot is set, or that one gets a state
pub full_beside : (slots : Slots) (n k : ℕ) (slot : Option AbstractState) → (n ≡ k → ⊥) → IsFull slots k
    → IsFull (slice_set slots n slot) k
full_beside slots n k slot d full = record { state = full.state; is = set_other slots n k slot d ∙ full.is }

pub full_kept : (slots after : Slots) (n k : ℕ) (state : AbstractState) → after ≡ slice_set slots n (Some state) → IsFull slots k
    → IsFull after k
full_kept slots after n k state is full = subst (λ (ss : Slots). IsFull ss k) (sym is) (elim (cases_eq n k) [
  | inl e ↦ record {
    state = state;
    is = ap (slice_get (slice_set slots n (Some state))) (sym e)
        ∙ get_set slots n (Some state) (Some full.state) (ap (slice_get slots) e ∙ full.is);
  }
  | inr d ↦ full_beside slots n k (Some state) d full
])

-- ---- empty slots

pub none_empty : (slots : Slots) → slots ≡ [] → AreEmpty slots 0
none_empty slots e = record { long = ap length e; empty = λ n state at. none-some (Some state) (ap (λ ss. slice_get ss n) (sym e) ∙ at) }

pub more_empty : (slots after : Slots) (count : ℕ) → AreEmpty slots count → after ≡ slots ++ None ∷ [] → AreEmpty after (count + 1)
more_empty slots after count so e = record {
  long = ap length e ∙ length-append slots (None ∷ []) ∙ ap (λ k. k + 1) so.long;
  empty = λ n state at. elim (in_more slots None (Some state) n (ap (λ ss. slice_get ss n) (sym e) ∙ at)) [
    | inl old ↦ so.empty n state old
    | inr new ↦ none-some state (sym new.1)
  ];
}

pub all_empty : (slots : Slots) (n count : ℕ) → AreEmpty slots n → count ≤ n → n ≤ count → AreEmpty slots count
all_empty slots n count so low high = subst (AreEmpty slots) (omega (arith, low, high)) so

-- ---- who names a node

pub named_there : (origins : List Origin) (namer place number : ℕ) → names_it namer place (slice_get origins number) ≡ true
    → IsNamedBy origins namer place number
named_there origins namer place number e = go (slice_get origins number) refl e
  where
    both : (a b : ℕ) → cond (a == namer) (b == place) false ≡ true → (a ≡ namer) × (b ≡ place)
    both a b t = split (a == namer) refl t
      where
        split : (c : Bool) → (a == namer) ≡ c → cond c (b == place) false ≡ true → (a ≡ namer) × (b ≡ place)
        split true e' t' = (eqb-true a namer e', eqb-true b place t')
        split false e' t' = absurd (false≢true t')

    go : (o : Option Origin) → slice_get origins number ≡ o → names_it namer place o ≡ true → IsNamedBy origins namer place number
    go None is t = absurd (false≢true t)
    go (Some Given) is t = absurd (false≢true t)
    go (Some Lacking) is t = absurd (false≢true t)
    go (Some (Named a b)) is t =
        let same = both a b t in
        is ∙ ap (λ x. Some (Named x b)) same.0 ∙ ap (λ x. Some (Named namer x)) same.1

pub there_named : (origins : List Origin) (namer place number : ℕ) → names_it namer place (slice_get origins number) ≡ false
    → IsNamedBy origins namer place number → ⊥
there_named origins namer place number e is = false≢true
    (sym e ∙ ap (names_it namer place) is ∙ ap (λ b. cond b (place == place) false) (eq-eqb namer namer refl) ∙ eq-eqb place place refl)

pub origin_there : (origins : List Origin) (n : ℕ) (origin : Origin) → n < length origins → origin ≡ slice_index_or origins n origin
    → slice_get origins n ≡ Some origin
origin_there origins n origin l is = slice_get_read origins (length origins) n origin refl l is

pub named_in : (origins : List Origin) (n namer place : ℕ) (origin : Origin) → n < length origins
    → origin ≡ slice_index_or origins n origin → origin ≡ Named namer place → IsNamerIn origins n (Some namer)
named_in origins n namer place origin l is e = (place, origin_there origins n origin l is ∙ ap Some e)

abbrev pub IsUnnamed : Origin → Type 0
IsUnnamed Given = Unit {0}
IsUnnamed Lacking = Unit {0}
IsUnnamed (Named namer place) = ⊥

pub none_in : (origins : List Origin) (n : ℕ) (origin : Origin) → n < length origins → origin ≡ slice_index_or origins n origin
    → IsUnnamed origin → IsNamerIn origins n None
none_in origins n origin l is none namer place named =
    subst IsUnnamed (some_is (sym (origin_there origins n origin l is) ∙ named)) none
