-- Plain forms: their terms, and what loops gather.
use Rattle.std.proofs.Common.{◌≡◌, inl, inr, ◌<◌, ◌≤◌, ℕ, suc, [], ◌∷◌, length, ℤ, pos, negsuc, refl, subst, arith}
use Rattle.std.specs.List.{All}
use Rattle.std.proofs.lemmas.List.Elements.{All-cons, All-nil}
pub use Rattle.its_front.proofs.Gathered.{behind, begins, goes_on, stops}
use Rattle.its_call.specs.its_search.Changes.{Form, IsUnit, IsUnitTerm}
use Rattle.its_call.specs.its_search.Forms.{AreOpposite, IsPlainForm}

first_opposite : (one other : ℤ) → AreOpposite one other → IsUnit one
first_opposite one other (inl e) = inl e.0
first_opposite one other (inr e) = inr e.0

second_opposite : (one other : ℤ) → AreOpposite one other → IsUnit other
second_opposite one other (inl e) = inr e.1
second_opposite one other (inr e) = inl e.1

-- each term is a variable, taken or taken away
pub plain_units : (count : ℕ) (form : Form) → IsPlainForm count form → All (IsUnitTerm count) form
plain_units count [] h = absurd h
plain_units count (one ∷ []) h = All-cons (IsUnitTerm count) one [] h (All-nil (IsUnitTerm count))
plain_units count (one ∷ other ∷ []) h =
    let order = h.0 in
    let within = h.1 in
    All-cons (IsUnitTerm count) one (other ∷ []) (omega (arith, order, within), first_opposite one.1 other.1 h.2)
    (All-cons (IsUnitTerm count) other [] (within, second_opposite one.1 other.1 h.2) (All-nil (IsUnitTerm count)))
plain_units count (one ∷ other ∷ more ∷ rest) h = absurd h

pub plain_short : (count : ℕ) (form : Form) → IsPlainForm count form → length form ≤ 2
plain_short count [] h = absurd h
plain_short count (one ∷ []) h = omega arith
plain_short count (one ∷ other ∷ []) h = omega arith
plain_short count (one ∷ other ∷ more ∷ rest) h = absurd h

pub first_unit : (count : ℕ) (form rest : Form) (term : ℕ × ℤ) → form ≡ term ∷ rest → All (IsUnitTerm count) form → IsUnitTerm count term
first_unit count form rest term e h = (subst (All (IsUnitTerm count)) e h) 0 term (omega arith)

pub other_units : (count : ℕ) (form rest : Form) (term : ℕ × ℤ) → form ≡ term ∷ rest → All (IsUnitTerm count) form
    → All (IsUnitTerm count) rest
other_units count form rest term e h = λ i d w. (subst (All (IsUnitTerm count)) e h) (suc i) d (omega (arith, w))

-- ---- the forms that are tried

pub variable_plain : (count one : ℕ) → one < count → IsPlainForm count ((one, pos 1) ∷ [])
variable_plain count one l = (l, inl refl)

pub negative_plain : (count one : ℕ) → one < count → IsPlainForm count ((one, negsuc 0) ∷ [])
negative_plain count one l = (l, inr refl)

pub rising_plain : (count one other : ℕ) → one < other → other < count → IsPlainForm count ((one, pos 1) ∷ (other, negsuc 0) ∷ [])
rising_plain count one other h l = (h, l, inl (refl, refl))

pub falling_plain : (count one other : ℕ) → one < other → other < count → IsPlainForm count ((one, negsuc 0) ∷ (other, pos 1) ∷ [])
falling_plain count one other h l = (h, l, inr (refl, refl))
