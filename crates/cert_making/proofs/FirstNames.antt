-- A number that is named somewhere is first named somewhere.
use Rattle.std.proofs.Common.{◌≡◌, ◌∙◌, inl, inr, eq-eqb, ◌<◌, ◌≤◌, ◌==◌, ℕ, zero, suc, Bool, true, false, List, [], ◌∷◌, Some, slice_get, refl, sym, ap}
use Rattle.std.proofs.Common.{subst, arith}
use Rattle.std.proofs.lemmas.Bool.{false≢true, cases_lt}
use Rattle.std.proofs.lemmas.Option.{none-some, same_Some}
use Rattle.list_views.proofs.Orders.{same_number}
use Rattle.term_graph.specs.declared.nodes.By.{By}
use Rattle.term_graph.specs.declared.nodes.By.TheVariants.{Expand, Instance, End, Todo}
use Rattle.filled_graphs.specs.Filling.{Names, IsFirstNamed}

-- ---- the first place of a number in a list

record IsFirstPlace (named : List ℕ) (number place : ℕ) : Type 0 where
  at : slice_get named place ≡ Some number
  none_before : (k : ℕ) → k < place → slice_get named k ≡ Some number → ⊥

-- it has one, or it stands nowhere
data PlaceOrNone (named : List ℕ) (number : ℕ) : Type 0 where
  first : (place : ℕ) → IsFirstPlace named number place → PlaceOrNone named number
  nowhere : ((k : ℕ) → slice_get named k ≡ Some number → ⊥) → PlaceOrNone named number

behind_place : (x : ℕ) (named : List ℕ) (number : ℕ) → (x ≡ number → ⊥) → PlaceOrNone named number → PlaceOrNone (x ∷ named) number
behind_place x named number other (first place is) = first (suc place) (record { at = is.at; none_before = before })
  where
    before : (k : ℕ) → k < suc place → slice_get (x ∷ named) k ≡ Some number → ⊥
    before zero low e = other (same_Some x number e)
    before (suc k) low e = is.none_before k (omega (arith, low)) e
behind_place x named number other (nowhere none) = nowhere always
  where
    always : (k : ℕ) → slice_get (x ∷ named) k ≡ Some number → ⊥
    always zero e = other (same_Some x number e)
    always (suc k) e = none k e

never : (n : ℕ) → (n == n) ≡ false → ⊥
never n f = false≢true (sym f ∙ eq-eqb n n refl)

place_of : (named : List ℕ) (number : ℕ) → PlaceOrNone named number
place_of [] number = nowhere (λ k e. none-some number e)
place_of (x ∷ named) number = go (x == number) refl (place_of named number)
  where
    go : (b : Bool) → (x == number) ≡ b → PlaceOrNone named number → PlaceOrNone (x ∷ named) number
    go true e rest = first 0 (record { at = ap Some (same_number x number e); none_before = λ k low f. absurd (omega (arith, low)) })
    go false e rest = behind_place x named number (λ same. let f : (number == number) ≡ false = subst (λ (n : ℕ). (n == number) ≡ false) same e in never number f) rest

-- ---- the first node that names it

data NamerOrNone (ways : List By) (number : ℕ) : Type 0 where
  namer : (node place : ℕ) → IsFirstNamed ways node place number → NamerOrNone ways number
  unnamed : ((node place : ℕ) → Names ways node place number → ⊥) → NamerOrNone ways number

later : (way : By) (ways : List By) (node place number : ℕ) → Names ways node place number → Names (way ∷ ways) (suc node) place number
later way ways node place number n = record { named = n.named; is = n.is; at = n.at }

earlier : (way : By) (ways : List By) (node place number : ℕ) → Names (way ∷ ways) (suc node) place number → Names ways node place number
earlier way ways node place number n = record { named = n.named; is = n.is; at = n.at }

-- the first node doesn't name it
behind_node : (way : By) (ways : List By) (number : ℕ) → ((place : ℕ) → Names (way ∷ ways) 0 place number → ⊥) → NamerOrNone ways number
    → NamerOrNone (way ∷ ways) number
behind_node way ways number not_here (namer node place f) = namer (suc node) place (record {
  names = later way ways node place number f.names;
  no_earlier_node = before;
  no_earlier_place = λ at low n. f.no_earlier_place at low (earlier way ways node at number n);
})
  where
    before : (other at : ℕ) → other < suc node → Names (way ∷ ways) other at number → ⊥
    before zero at low n = not_here at n
    before (suc other) at low n = f.no_earlier_node other at (omega (arith, low)) (earlier way ways other at number n)
behind_node way ways number not_here (unnamed none) = unnamed always
  where
    always : (node place : ℕ) → Names (way ∷ ways) node place number → ⊥
    always zero place n = not_here place n
    always (suc node) place n = none node place (earlier way ways node place number n)

no_names : (way : By) (ways : List By) (number : ℕ) → ((named : List ℕ) → way ≡ Expand named → ⊥) → (place : ℕ)
    → Names (way ∷ ways) 0 place number → ⊥
no_names way ways number other place n = other n.named (same_Some way (Expand n.named) n.is)

of_places : (named : List ℕ) (ways : List By) (number : ℕ) → PlaceOrNone named number → NamerOrNone ways number
    → NamerOrNone (Expand named ∷ ways) number
of_places named ways number (first place is) rest = namer 0 place (record {
  names = record { named = named; is = refl; at = is.at };
  no_earlier_node = λ other at low n. absurd (omega (arith, low));
  no_earlier_place = λ at low n. is.none_before at low
      (let same : Expand named ≡ Expand n.named = same_Some (Expand named) (Expand n.named) n.is in
      let lists : named ≡ n.named = cc in
      subst (λ (ns : List ℕ). slice_get ns at ≡ Some number) (sym lists) n.at);
})
of_places named ways number (nowhere none) rest = behind_node (Expand named) ways number
    (λ place n. none place
    (let same : Expand named ≡ Expand n.named = same_Some (Expand named) (Expand n.named) n.is in
    let lists : named ≡ n.named = cc in
    subst (λ (ns : List ℕ). slice_get ns place ≡ Some number) (sym lists) n.at)) rest

namer_of : (ways : List By) (number : ℕ) → NamerOrNone ways number
namer_of [] number = unnamed (λ node place n. none-some (Expand n.named) n.is)
namer_of (Expand named ∷ ways) number = of_places named ways number (place_of named number) (namer_of ways number)
namer_of (Instance target entries ∷ ways) number = behind_node (Instance target entries) ways number
    (no_names (Instance target entries) ways number (λ named e. cc)) (namer_of ways number)
namer_of (End ∷ ways) number = behind_node End ways number (no_names End ways number (λ named e. cc)) (namer_of ways number)
namer_of (Todo ∷ ways) number = behind_node Todo ways number (no_names Todo ways number (λ named e. cc)) (namer_of ways number)

-- ---- what is named by a node of a lower number is first named by one

pub record IsFirstBelow (ways : List By) (number : ℕ) : Type 0 where
  pub node : ℕ
  pub place : ℕ
  pub named : IsFirstNamed ways node place number
  pub earlier : node < number

not_above : (a b : ℕ) → (b ≤ a → ⊥) → a < b
not_above a b none = elim (cases_lt a b) as (λ o. a < b) [
  | inl low ↦ low
  | inr high ↦ absurd (none high)
]

pub first_below : (ways : List By) (number other at : ℕ) → Names ways other at number → other < number → IsFirstBelow ways number
first_below ways number other at n low = by (namer_of ways number)
  where
    by : NamerOrNone ways number → IsFirstBelow ways number
    by (namer node place f) = record {
      node = node;
      place = place;
      named = f;
      earlier = not_above node number (λ high. f.no_earlier_node other at (omega (arith, low, high)) n);
    }
    by (unnamed none) = absurd (none other at n)
