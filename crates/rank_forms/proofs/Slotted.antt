-- The slot at a place is the slot of its id, and ends at one cut have one id there.
use Rattle.std.proofs.Common.{◌≡◌, ◌⊎◌, inl, inr, ℕ, zero, suc, ◌<◌, ◌≤◌, Bool, true, false, cond, not, eqb, List, [], ◌∷◌, ◌++◌, ℤ}
use Rattle.std.proofs.Common.{pos, Option, Some, None, subst, ap, arith, refl, ◌∙◌, sym}
use Rattle.std.specs.Prelude.{◌&&◌, slice_get}
use Rattle.std.specs.List.{list_any}
use Rattle.std.proofs.lemmas.Bool.{eq-eqb, eqb-true, and_parts, and_from, and_right, and_left, cond-true, cond-false}
use Rattle.std.proofs.lemmas.Option.{same_Some, none-some}
use Rattle.lin_core.specs.Rows.{RiseFrom, Rise}
use Rattle.descent.specs.Rankings.{is_slot_of}
use Rattle.descent.specs.Rankings
use Rattle.descent.specs.declared.rules.PathRule.{PathRule}
use Rattle.descent.specs.declared.rules.Place.{Place}
use Rattle.descent.specs.declared.rules.SlotForm.{SlotForm}
use Rattle.rank_forms.specs.Forms.{slots_for}
use Rattle.rank_forms.specs.Graphs.{IsEndAt, head_of, heads, ids_of}
use Rattle.rank_forms.specs.rule_links.Positions.{is_at, is_place, same, slot_at}

-- a slot of the kind that comes later has a greater id
record IsAbove (size : Bool) (low : ℕ) (slot : SlotForm) : Type 0 where
  pub above : low ≤ slot.id
  pub low_end : slot.id < 65536
  pub kind : same slot.size size ≡ true

above_first : (kind : Bool) (size : Bool) (low : ℕ) (first : SlotForm) (rest : List (ℕ × ℤ)) → same first.size size ≡ kind
    → kind ≡ true → RiseFrom low 65536 (cond kind ((first.id, pos 1) ∷ []) [] ++ rest) → IsAbove size low first
above_first true size low first rest k t h = record { above = h.0; low_end = h.1; kind = k }
above_first false size low first rest k t h = absurd (cc)

above_rest : (kind : Bool) (low : ℕ) (first : SlotForm) (rest : List (ℕ × ℤ))
    → RiseFrom low 65536 (cond kind ((first.id, pos 1) ∷ []) [] ++ rest) → (next : ℕ) × (low ≤ next)
    × (kind ≡ true → next ≡ suc first.id) × RiseFrom next 65536 rest
above_rest true low first rest h = (suc first.id, (let l = h.0 in omega (arith, l)), (λ t. refl), h.2)
above_rest false low first rest h = (low, omega arith, (λ t. absurd (cc)), h)

found_cases : (here : Bool) (size : Bool) (place : Place) (low next : ℕ) (first slot : SlotForm) (later : Option SlotForm)
    → is_at size place first ≡ here → (same first.size size ≡ true → IsAbove size low first) → low ≤ next
    → (later ≡ Some slot → IsAbove size next slot) → cond here (Some first) later ≡ Some slot → IsAbove size low slot
found_cases true size place low next first slot later t one less more e = subst (IsAbove size low) (same_Some first slot e)
    (one (and_parts (same first.size size) (list_any (λ (other : Place). is_place other place) first.places) t).0)
found_cases false size place low next first slot later t one less more e = let m = more e in record
    { above = (let a = m.above in omega (arith, less, a)); low_end = m.low_end; kind = m.kind }

found_above : (size : Bool) (place : Place) (low : ℕ) (slots : List SlotForm) (slot : SlotForm)
    → RiseFrom low 65536 (ids_of size slots) → slot_at slots size place ≡ Some slot → IsAbove size low slot
found_above size place low [] slot rise e = absurd (none-some slot e)
found_above size place low (first ∷ rest) slot rise e =
    let next = above_rest (same first.size size) low first (ids_of size rest) rise in
    found_cases (is_at size place first) size place low next.0 first slot (slot_at rest size place) refl
    (λ t. above_first (same first.size size) size low first (ids_of size rest) refl t rise) next.1
    (λ f. found_above size place next.0 rest slot next.3 f) e

pub named_low : (slots : List SlotForm) (size : Bool) (place : Place) (slot : SlotForm) → Rise 65536 (ids_of size slots)
    → slot_at slots size place ≡ Some slot → slot.id < 65536
named_low slots size place slot rise e = (found_above size place 0 slots slot rise e).low_end

-- by id
abbrev pub by_id : List SlotForm → Bool → ℕ → Option SlotForm
by_id slots size id = Rankings.slot_at slots size id

kind_is : (one size : Bool) → same one size ≡ true → cond size one (not one) ≡ true
kind_is true true e = refl
kind_is true false e = absurd (cc)
kind_is false true e = absurd (cc)
kind_is false false e = refl

kind_not : (one size : Bool) → same one size ≡ false → cond size one (not one) ≡ false
kind_not true true e = absurd (cc)
kind_not true false e = refl
kind_not false true e = refl
kind_not false false e = absurd (cc)

pub of_itself : (size : Bool) (slot : SlotForm) → same slot.size size ≡ true → is_slot_of size slot.id slot ≡ true
of_itself size slot e = and_from (eqb slot.id slot.id) (cond size slot.size (not slot.size)) (eq-eqb slot.id slot.id refl)
    (kind_is slot.size size e)

apart : (test : Bool) (a b : ℕ) → eqb a b ≡ test → a < b → eqb a b ≡ false
apart true a b e less = absurd (let s = eqb-true a b e in omega (arith, s, less))
apart false a b e less = e

of_other : (kind : Bool) (size : Bool) (first slot : SlotForm) (next : ℕ) → same first.size size ≡ kind
    → (kind ≡ true → next ≡ suc first.id) → next ≤ slot.id → is_slot_of size slot.id first ≡ false
of_other true size first slot next k n less = and_left (eqb first.id slot.id) (cond size first.size (not first.size))
    (apart (eqb first.id slot.id) first.id slot.id refl (let s = n refl in omega (arith, s, less)))
of_other false size first slot next k n less = and_right (eqb first.id slot.id) (cond size first.size (not first.size))
    (kind_not first.size size k)

id_cases : (here : Bool) (size : Bool) (place : Place) (first slot : SlotForm) (later found : Option SlotForm)
    → is_at size place first ≡ here → cond here (Some first) later ≡ Some slot
    → (later ≡ Some slot → (is_slot_of size slot.id first ≡ false) × (found ≡ Some slot))
    → cond (is_slot_of size slot.id first) (Some first) found ≡ Some slot
id_cases true size place first slot later found t e more =
    let s = same_Some first slot e in
    let kind = (and_parts (same first.size size) (list_any (λ (other : Place). is_place other place) first.places) t).0 in
    cond-true (is_slot_of size slot.id first) (Some first) found (ap (λ (x : SlotForm). is_slot_of size x.id first) (sym s)
    ∙ of_itself size first kind) ∙ e
id_cases false size place first slot later found t e more =
    let m = more e in
    cond-false (is_slot_of size slot.id first) (Some first) found m.0 ∙ m.1

slot_by_id_from : (low : ℕ) (slots : List SlotForm) (size : Bool) (place : Place) (slot : SlotForm)
    → RiseFrom low 65536 (ids_of size slots) → slot_at slots size place ≡ Some slot → by_id slots size slot.id ≡ Some slot
slot_by_id_from low [] size place slot rise e = absurd (none-some slot e)
slot_by_id_from low (first ∷ rest) size place slot rise e =
    let next = above_rest (same first.size size) low first (ids_of size rest) rise in
    id_cases (is_at size place first) size place first slot (slot_at rest size place) (by_id rest size slot.id) refl e
    (λ f. (
      of_other (same first.size size) size first slot next.0 refl next.2
          (found_above size place next.0 rest slot next.3 f).above,
      slot_by_id_from next.0 rest size place slot next.3 f,
    ))

pub slot_by_id : (slots : List SlotForm) (size : Bool) (place : Place) (slot : SlotForm) → Rise 65536 (ids_of size slots)
    → slot_at slots size place ≡ Some slot → by_id slots size slot.id ≡ Some slot
slot_by_id slots size place slot rise e = slot_by_id_from 0 slots size place slot rise e

-- ends with the same heads have one id at a place
abbrev Head : Type 0
Head = ℕ × Bool × List Place

abbrev stands : Bool → Place → Head → Bool
stands size place head = same head.1 size && list_any (λ (other : Place). is_place other place) head.2

abbrev first_of : Head → List Head → Head
first_of d [] = d
first_of d (head ∷ rest) = head

abbrev rest_of : List Head → List Head
rest_of [] = []
rest_of (head ∷ rest) = rest

abbrev HasId : Option SlotForm → ℕ → Type 0
HasId found id = (slot : SlotForm) × (found ≡ Some slot) × (slot.id ≡ id)

pair_cases : (here there : Bool) (a b slot : SlotForm) (later other : Option SlotForm) → here ≡ there → a.id ≡ b.id
    → cond here (Some a) later ≡ Some slot → (later ≡ Some slot → HasId other slot.id) → HasId (cond there (Some b) other) slot.id
pair_cases true true a b slot later other t same e more = (b, refl, sym same ∙ ap (λ (s : SlotForm). s.id) (same_Some a slot e))
pair_cases true false a b slot later other t same e more = absurd (cc)
pair_cases false true a b slot later other t same e more = absurd (cc)
pair_cases false false a b slot later other t same e more = more e

pub same_id : (one other : List SlotForm) (size : Bool) (place : Place) (slot : SlotForm) → heads one ≡ heads other
    → slot_at one size place ≡ Some slot → HasId (slot_at other size place) slot.id
same_id [] other size place slot h e = absurd (none-some slot e)
same_id (a ∷ one) [] size place slot h e = absurd (cc)
same_id (a ∷ one) (b ∷ other) size place slot h e =
    let first : head_of a ≡ head_of b = ap (first_of (head_of a)) h in
    let rest : heads one ≡ heads other = ap rest_of h in
    pair_cases (is_at size place a) (is_at size place b) a b slot (slot_at one size place) (slot_at other size place)
    (ap (stands size place) first) (ap (λ (x : Head). x.0) first) e (λ f. same_id one other size place slot rest f)

-- the slots of a cut are those of an end there
stand_later : (rule : PathRule) (rest : List PathRule) (cut : ℕ) (slots : List SlotForm) → IsEndAt rest cut slots
    → IsEndAt (rule ∷ rest) cut slots
stand_later rule rest cut slots h = (suc h.0, h.1, h.2, h.3)

slots_cases : (from to : Bool) (rule : PathRule) (rest : List PathRule) (cut : ℕ) → eqb rule.from cut ≡ from → eqb rule.to cut ≡ to
    → (from ≡ false → to ≡ false → IsEndAt rest cut (slots_for rest cut))
    → IsEndAt (rule ∷ rest) cut (cond from rule.first (cond to rule.last (slots_for rest cut)))
slots_cases true to rule rest cut f t more = (0, rule, refl, inl (eqb-true rule.from cut f, refl))
slots_cases false true rule rest cut f t more = (0, rule, refl, inr (eqb-true rule.to cut t, refl))
slots_cases false false rule rest cut f t more = stand_later rule rest cut (slots_for rest cut) (more refl refl)

pub slots_stand : (rules : List PathRule) (cut n : ℕ) (rule : PathRule) → slice_get rules n ≡ Some rule → (rule.from ≡ cut)
    ⊎ (rule.to ≡ cut) → IsEndAt rules cut (slots_for rules cut)
slots_stand [] cut n rule at h = absurd (none-some rule at)
slots_stand (first ∷ rest) cut zero rule at h =
    slots_cases (eqb first.from cut) (eqb first.to cut) first rest cut refl refl (λ f t. absurd (elim h as (λ o. ⊥) [
      | inl a ↦ clash (eqb first.from cut) f (eq-eqb first.from cut (ap (λ (r : PathRule). r.from) (same_Some first rule at) ∙ a))
      | inr b ↦ clash (eqb first.to cut) t (eq-eqb first.to cut (ap (λ (r : PathRule). r.to) (same_Some first rule at) ∙ b))
    ]))
  where
    clash : (x : Bool) → x ≡ false → x ≡ true → ⊥
    clash true e f = absurd (cc)
    clash false e f = absurd (cc)
slots_stand (first ∷ rest) cut (suc n) rule at h = slots_cases (eqb first.from cut) (eqb first.to cut) first rest cut refl refl
    (λ f t. slots_stand rest cut n rule at h)
