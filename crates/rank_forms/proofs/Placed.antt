-- The places that are collected are all that come into question.
use Rattle.std.proofs.Common.{◌≡◌, ℕ, zero, suc, Bool, true, false, cond, eqb, List, [], ◌∷◌, ◌++◌, Option, Some, subst, ap, refl}
use Rattle.std.proofs.Common.{◌∙◌, sym, Result, Ok, Err}
use Rattle.std.specs.Prelude.{◌&&◌, ◌||◌, slice_get, IfOk}
use Rattle.std.specs.List.{list_any}
use Rattle.std.proofs.lemmas.Bool.{eqb-true, and_parts}
use Rattle.std.proofs.lemmas.Option.{same_Some}
use Rattle.list_views.proofs.Truths.{or_second}
use Rattle.descent.specs.declared.rules.PathRule.{PathRule}
use Rattle.descent.specs.declared.rules.Place.{Place}
use Rattle.descent.specs.declared.rules.SlotForm.{SlotForm}
use Rattle.rank_forms.specs.rule_links.Positions.{same, is_place, is_at, slot_at}
use Rattle.rank_forms.specs.rule_links.Falls.{ArePlaces, ArePlacesOf, places_at_start, places_of, places_in}

abbrev IsIn : List Place → Place → Type 0
IsIn places place = (k : ℕ) × (slice_get places k ≡ Some place)

in_left : (a b : List Place) (place : Place) (k : ℕ) → slice_get a k ≡ Some place → IsIn (a ++ b) place
in_left [] b place k e = absurd (cc)
in_left (x ∷ rest) b place zero e = (0, e)
in_left (x ∷ rest) b place (suc k) e = let w = in_left rest b place k e in (suc w.0, w.1)

in_right : (a b : List Place) (place : Place) → IsIn b place → IsIn (a ++ b) place
in_right [] b place h = h
in_right (x ∷ rest) b place h = let w = in_right rest b place h in (suc w.0, w.1)

same_is : (a b : Bool) → same a b ≡ true → a ≡ b
same_is true true e = refl
same_is true false e = absurd (cc)
same_is false true e = absurd (cc)
same_is false false e = refl

abbrev made : ℕ → Bool → ℕ → Place
made x y z = record { frame = x; stack = y; index = z }

fields_same : (a b : Place) → a.frame ≡ b.frame → a.stack ≡ b.stack → a.index ≡ b.index → a ≡ b
fields_same a b e f g = ap (λ (x : ℕ). made x a.stack a.index) e ∙ ap (λ (x : Bool). made b.frame x a.index) f
    ∙ ap (λ (x : ℕ). made b.frame b.stack x) g

place_is : (a b : Place) → is_place a b ≡ true → a ≡ b
place_is a b e =
    let one = and_parts (eqb a.frame b.frame) (same a.stack b.stack && eqb a.index b.index) e in
    let two = and_parts (same a.stack b.stack) (eqb a.index b.index) one.1 in
    fields_same a b (eqb-true a.frame b.frame one.0) (same_is a.stack b.stack two.0) (eqb-true a.index b.index two.1)

any_cases : (here : Bool) (other : Place) (rest : List Place) (place : Place) → is_place other place ≡ here
    → list_any (λ (other : Place). is_place other place) (other ∷ rest) ≡ true
    → (list_any (λ (other : Place). is_place other place) rest ≡ true → IsIn rest place) → IsIn (other ∷ rest) place
any_cases true other rest place e h more = (0, ap some (place_is other place e))
  where
    some : Place → Option Place
    some x = Some x
any_cases false other rest place e h more = let w = more
    (or_second (is_place other place) (list_any (λ (other : Place). is_place other place) rest) e h) in (suc w.0, w.1)

any_in : (places : List Place) (place : Place) → list_any (λ (other : Place). is_place other place) places ≡ true → IsIn places place
any_in [] place e = absurd (cc)
any_in (other ∷ rest) place e = any_cases (is_place other place) other rest place refl e (λ h. any_in rest place h)

-- the slot that is found is one of them, and its places are collected
found_cases : (here : Bool) (size : Bool) (place : Place) (first slot : SlotForm) (rest : List SlotForm)
    → is_at size place first ≡ here → cond here (Some first) (slot_at rest size place) ≡ Some slot
    → (slot_at rest size place ≡ Some slot → IsIn (places_in size rest) place) → IsIn (places_in size (first ∷ rest)) place
found_cases true size place first slot rest e at more =
    let parts = and_parts (same first.size size) (list_any (λ (other : Place). is_place other place) first.places) e in
    let w = any_in first.places place parts.1 in
    in_left (places_of size first) (places_in size rest) place w.0
    (subst (λ (l : List Place). slice_get l w.0 ≡ Some place) (sym (chosen (same first.size size) first.places parts.0)) w.1)
  where
    chosen : (test : Bool) (a : List Place) → test ≡ true → cond test a [] ≡ a
    chosen true a e = refl
    chosen false a e = absurd (cc)
found_cases false size place first slot rest e at more = in_right (places_of size first) (places_in size rest) place (more at)

slot_in : (slots : List SlotForm) (size : Bool) (place : Place) (slot : SlotForm) → slot_at slots size place ≡ Some slot
    → IsIn (places_in size slots) place
slot_in [] size place slot e = absurd (cc)
slot_in (first ∷ rest) size place slot e = found_cases (is_at size place first) size place first slot rest refl e
    (λ h. slot_in rest size place slot h)

are_places : (slots : List SlotForm) (size : Bool) → ArePlaces slots size (places_in size slots)
are_places slots size place variable stands = slot_in slots size place stands.0 stands.1

pub first_places : (rules : List PathRule) (size : Bool) (first : PathRule) (places : List Place) → slice_get rules 0 ≡ Some first
    → places ≡ places_in size first.first → ArePlacesOf rules size places
first_places rules size first places at e rule is = subst (λ (l : List Place). ArePlaces rule.first size l)
    (sym (e ∙ ap (λ (r : PathRule). places_in size r.first) (same_Some first rule (sym at ∙ is)))) (are_places rule.first size)

pub starts_there : (size : Bool) (rules : List PathRule) (rule : PathRule) → slice_get rules 0 ≡ Some rule
    → places_at_start size rules ≡ places_in size rule.first
starts_there size [] rule e = absurd (cc)
starts_there size (first ∷ rest) rule e = ap (λ (r : PathRule). places_in size r.first) (same_Some first rule e)
