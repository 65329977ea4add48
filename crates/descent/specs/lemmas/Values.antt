-- The value of a line under a valuation.
use Rattle.std.proofs.Common.{◌≡◌, ℕ, suc, Bool, true, false, cond, eqb, List, [], ◌∷◌, ◌++◌, ℤ, pos, ◌+ℤ◌, ◌*ℤ◌, Option, Some}
use Rattle.std.proofs.Common.{None, subst, ap, arith, refl, ◌∙◌, sym}
use Rattle.std.specs.Prelude.{slice_get, is_some, ◌&&◌, not}
use Rattle.std.proofs.lemmas.Int.{ints}
use Rattle.std.proofs.lemmas.Bool.{eqb-true}
use Rattle.lin_core.specs.Rows.{value_of_terms, value_of_target}
use Rattle.list_views.proofs.Ring.{times_plus, times_assoc}
use Rattle.lin_core.proofs.Signs.{mul-zero_ℤ}
use Rattle.descent.specs.declared.proof.CutForm.{CutForm}
use Rattle.descent.specs.declared.rules.SlotForm.{SlotForm}
use Rattle.descent.specs.Chains.{Agree}
use Rattle.descent.specs.Rankings.{Ranking, weigh_of, is_slot_of, slot_at, scaled, terms_of, constant_of, entry_terms}
use Rattle.descent.specs.Rankings.{entry_constant, have_slots, line_of, is_taken, ints_of, sizes_of, base_of}
use Rattle.descent.specs.Valuations.{Valuation, IsWeighing, numbers_under, slot_value}

pub value_both : (numbers : ℕ → ℤ) (a b : List (ℕ × ℤ))
    → value_of_terms numbers (a ++ b) ≡ value_of_terms numbers a +ℤ value_of_terms numbers b
value_both numbers [] b = omega (arith, ints)
value_both numbers (term ∷ rest) b = let h = value_both numbers rest b in omega (arith, ints)

pub value_scaled : (numbers : ℕ → ℤ) (by : ℤ) (terms : List (ℕ × ℤ))
    → value_of_terms numbers (scaled by terms) ≡ by *ℤ value_of_terms numbers terms
value_scaled numbers by [] = sym (mul-zero_ℤ by)
value_scaled numbers by (term ∷ rest) = ap (λ (z : ℤ). by *ℤ term.1 *ℤ numbers term.0 +ℤ z) (value_scaled numbers by rest)
    ∙ ap (λ (z : ℤ). z +ℤ by *ℤ value_of_terms numbers rest) (times_assoc by term.1 (numbers term.0))
    ∙ sym (times_plus by (term.1 *ℤ numbers term.0) (value_of_terms numbers rest))

-- the value of a slot that may be there
abbrev pub value_of : (ℕ → ℤ) → Valuation → Option SlotForm → ℤ
value_of weigh valuation None = pos 0
value_of weigh valuation (Some slot) = slot_value weigh valuation slot

-- the value of multiples of ids
abbrev pub entry_value : (ℕ → ℤ) → Valuation → List SlotForm → Bool → List (ℕ × ℤ) → ℤ
entry_value weigh valuation slots size [] = pos 0
entry_value weigh valuation slots size (entry ∷ rest) = entry.1 *ℤ value_of weigh valuation (slot_at slots size entry.0) +ℤ
    entry_value weigh valuation slots size rest

parts : (by terms number rest more whole : ℤ) → whole ≡ rest +ℤ more
    → (by *ℤ terms +ℤ rest) +ℤ (by *ℤ number +ℤ more) ≡ by *ℤ (terms +ℤ number) +ℤ whole
parts by terms number rest more whole e = let d = times_plus by terms number in rw e (omega (arith, ints))

found_value : (weigh : ℕ → ℤ) (valuation : Valuation) (found : Option SlotForm)
    → value_of_terms (numbers_under weigh valuation) (terms_of found) +ℤ constant_of weigh found ≡ value_of weigh valuation found
found_value weigh valuation None = refl
found_value weigh valuation (Some slot) = refl

pub entry_is : (weigh : ℕ → ℤ) (valuation : Valuation) (slots : List SlotForm) (size : Bool) (entries : List (ℕ × ℤ))
    → entry_value weigh valuation slots size entries ≡ value_of_terms (numbers_under weigh valuation)
    (entry_terms slots size entries) +ℤ entry_constant weigh slots size entries
entry_is weigh valuation slots size [] = refl
entry_is weigh valuation slots size (entry ∷ rest) =
    let numbers = numbers_under weigh valuation in
    let found = slot_at slots size entry.0 in
    let split = value_both numbers (scaled entry.1 (terms_of found)) (entry_terms slots size rest) in
    let by = value_scaled numbers entry.1 (terms_of found) in
    let whole = parts entry.1 (value_of_terms numbers (terms_of found)) (constant_of weigh found)
    (value_of_terms numbers (entry_terms slots size rest)) (entry_constant weigh slots size rest)
    (entry_value weigh valuation slots size rest) (entry_is weigh valuation slots size rest) in
    let value = ap (λ (z : ℤ). entry.1 *ℤ z +ℤ entry_value weigh valuation slots size rest) (found_value weigh valuation found) in
    sym value ∙ sym whole
    ∙ sym (ap (λ (z : ℤ). z +ℤ (entry.1 *ℤ constant_of weigh found +ℤ entry_constant weigh slots size rest))
    (split ∙ ap (λ (z : ℤ). z +ℤ value_of_terms numbers (entry_terms slots size rest)) by))

-- the value of a line
abbrev pub line_value : Ranking → Valuation → Option CutForm → List SlotForm → ℤ
line_value ranking valuation form slots = base_of form +ℤ
    (entry_value (weigh_of ranking) valuation slots false (ints_of form) +ℤ entry_value (weigh_of ranking) valuation slots true
    (sizes_of ranking.sizes form))

four : (a b c d x y base : ℤ) → x ≡ a +ℤ c → y ≡ b +ℤ d → (a +ℤ b) +ℤ (base +ℤ (c +ℤ d)) ≡ base +ℤ (x +ℤ y)
four a b c d x y base e h = rw (e, h) (omega (arith, ints))

pub line_is : (ranking : Ranking) (valuation : Valuation) (form : Option CutForm) (slots : List SlotForm)
    → value_of_target (numbers_under (weigh_of ranking) valuation) (line_of ranking form slots) ≡ line_value ranking valuation form slots
line_is ranking valuation form slots =
    let weigh = weigh_of ranking in
    let numbers = numbers_under weigh valuation in
    let ints' = ints_of form in
    let sizes' = sizes_of ranking.sizes form in
    ap (λ (z : ℤ). z +ℤ (line_of ranking form slots).constant)
    (value_both numbers (entry_terms slots false ints') (entry_terms slots true sizes'))
    ∙ four (value_of_terms numbers (entry_terms slots false ints')) (value_of_terms numbers (entry_terms slots true sizes'))
    (entry_constant weigh slots false ints') (entry_constant weigh slots true sizes') _ _ (base_of form)
    (entry_is weigh valuation slots false ints') (entry_is weigh valuation slots true sizes')

-- a slot that is found
pub record IsFound (slots : List SlotForm) (size : Bool) (id : ℕ) (slot : SlotForm) : Type 0 where
  pub place : ℕ
  pub at : slice_get slots place ≡ Some slot
  pub id_is : slot.id ≡ id
  pub size_is : slot.size ≡ size

kind_is : (size has : Bool) → cond size has (not has) ≡ true → has ≡ size
kind_is true has e = e
kind_is false true e = absurd (cc)
kind_is false false e = refl

both_true : (a b : Bool) → (a && b) ≡ true → (a ≡ true) × (b ≡ true)
both_true true b e = (refl, e)
both_true false b e = absurd (cc)

found_cases : (here : Bool) (first : SlotForm) (rest : List SlotForm) (size : Bool) (id : ℕ) (slot : SlotForm)
    → is_slot_of size id first ≡ here → (slot_at rest size id ≡ Some slot → IsFound rest size id slot)
    → cond here (Some first) (slot_at rest size id) ≡ Some slot → IsFound (first ∷ rest) size id slot
found_cases true first rest size id slot here more e =
    let is : first ≡ slot = cc in
    let both = both_true (eqb first.id id) (cond size first.size (not first.size)) here in
    record {
      place = 0;
      at = e;
      id_is = subst (λ (s : SlotForm). s.id ≡ id) is (eqb-true first.id id both.0);
      size_is = subst (λ (s : SlotForm). s.size ≡ size) is (kind_is size first.size both.1);
    }
found_cases false first rest size id slot here more e =
    let m = more e in
    record { place = suc m.place; at = m.at; id_is = m.id_is; size_is = m.size_is }

pub found_at : (slots : List SlotForm) (size : Bool) (id : ℕ) (slot : SlotForm) → slot_at slots size id ≡ Some slot
    → IsFound slots size id slot
found_at [] size id slot e = absurd (cc)
found_at (first ∷ rest) size id slot e = found_cases (is_slot_of size id first) first rest size id slot refl (found_at rest size id slot) e

-- two slots of one id agree
agree_slots : (weigh : ℕ → ℤ) (before after : Valuation) (last first : List SlotForm) (size : Bool) (id : ℕ)
    (one other : Option SlotForm) → slot_at last size id ≡ one → slot_at first size id ≡ other → is_some one ≡ true
    → is_some other ≡ true → IsWeighing weigh → Agree before last after first → value_of weigh before one ≡ value_of weigh after other
agree_slots weigh before after last first size id None other e h o p fit agree = absurd (cc)
agree_slots weigh before after last first size id (Some s) None e h o p fit agree = absurd (cc)
agree_slots weigh before after last first size id (Some s) (Some t) e h o p fit agree =
    let a = found_at last size id s e in
    let b = found_at first size id t h in
    agree weigh fit a.place b.place s t a.at b.at (a.id_is ∙ sym b.id_is) (a.size_is ∙ sym b.size_is)

pub agree_entries : (weigh : ℕ → ℤ) (before after : Valuation) (last first : List SlotForm) (size : Bool) (entries : List (ℕ × ℤ))
    → IsWeighing weigh → Agree before last after first → have_slots last size entries ≡ true → have_slots first size entries ≡ true
    → entry_value weigh before last size entries ≡ entry_value weigh after first size entries
agree_entries weigh before after last first size [] fit agree o p = refl
agree_entries weigh before after last first size (entry ∷ rest) fit agree o p =
    let one = both_true (is_some (slot_at last size entry.0)) (have_slots last size rest) o in
    let other = both_true (is_some (slot_at first size entry.0)) (have_slots first size rest) p in
    let head = agree_slots weigh before after last first size entry.0 (slot_at last size entry.0) (slot_at first size entry.0) refl
    refl one.0 other.0 fit agree in
    let tail = agree_entries weigh before after last first size rest fit agree one.1 other.1 in
    ap (λ (z : ℤ). entry.1 *ℤ z +ℤ entry_value weigh before last size rest) head
    ∙ ap (λ (z : ℤ). entry.1 *ℤ value_of weigh after (slot_at first size entry.0) +ℤ z) tail

pub agree_lines : (ranking : Ranking) (before after : Valuation) (last first : List SlotForm) (form : Option CutForm)
    → IsWeighing (weigh_of ranking) → Agree before last after first → is_taken ranking form last ≡ true
    → is_taken ranking form first ≡ true → line_value ranking before form last ≡ line_value ranking after form first
agree_lines ranking before after last first form fit agree o p =
    let one = both_true (have_slots last false (ints_of form)) (have_slots last true (sizes_of ranking.sizes form)) o in
    let other = both_true (have_slots first false (ints_of form)) (have_slots first true (sizes_of ranking.sizes form)) p in
    let ints' = agree_entries (weigh_of ranking) before after last first false (ints_of form) fit agree one.0 other.0 in
    let sizes' = agree_entries (weigh_of ranking) before after last first true (sizes_of ranking.sizes form) fit agree one.1 other.1 in
    cc
