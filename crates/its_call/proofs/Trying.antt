-- Which plain forms are tried: where none of them ranks the rules, no plain form does.
use Rattle.std.proofs.Common.{◌≡◌, ◌∙◌, ◌⊎◌, inl, inr, ◌+◌, ◌<◌, ◌≤◌, ℕ, Bool, true, false, List, [], ◌∷◌, length, ℤ, pos, negsuc}
use Rattle.std.proofs.Common.{Option, Some, None, Result, Ok, Err, IfOk, sym, ap, subst, arith}
use Rattle.std.proofs.lemmas.Bool.{cases_eq, false≢true}
use Rattle.descent.specs.declared.rules.PathRule.{PathRule}
use Rattle.its_call.specs.its_search.Changes.{Form}
use Rattle.its_call.specs.its_search.Forms.{IsPlainForm, ranks, NoPlainForm}
use Rattle.its_call.proofs.Asked.{slots_long}
use Rattle.its_call.specs.its_search.inner.Tried.{IsCounted, Tells, first_of, IsSingle, IsDifference, IsDifferenceFrom, BeginsWith, IsAny}

abbrev Ranked : Type 0
Ranked = Option Form

-- a form that doesn't rank the rules
pub tells_not : (count : ℕ) (rules : List PathRule) (form : Form) (test : Bool) → test ≡ ranks count rules form → test ≡ false
    → Tells count rules (λ other. other ≡ form) None
tells_not count rules form test e f other same plain = ap (ranks count rules) same ∙ sym e ∙ f

-- where some kinds don't, what is of these kinds doesn't
pub tells_more : {E : Type 0} (count : ℕ) (rules : List PathRule) (one other all : Form → Type 0) (first : Ranked)
    (result : Result Ranked E) → first ≡ None → Tells count rules one first
    → ((form : Form) → all form → IsPlainForm count form → one form ⊎ other form) → IfOk result (Tells count rules other)
    → IfOk result (Tells count rules all)
tells_more count rules one other all first (Ok (Some form)) e none cover last = last
tells_more count rules one other all first (Ok None) e none cover last = λ form kind plain. by form plain (cover form kind plain)
  where
    by : (form : Form) → IsPlainForm count form → one form ⊎ other form → ranks count rules form ≡ false
    by form plain (inl k) = subst (Tells count rules one) e none form k plain
    by form plain (inr k) = last form k plain
tells_more count rules one other all first (Err fault) e none cover last = tt

pub tells_some : (count : ℕ) (rules : List PathRule) (one all : Form → Type 0) (found : Ranked) (form : Form) → found ≡ Some form
    → Tells count rules one found → Tells count rules all (Some form)
tells_some count rules one all found form e h = subst (Tells count rules one) e h

-- ---- kinds

same_pair : (a b : ℕ × ℤ) → a.0 ≡ b.0 → a.1 ≡ b.1 → a ≡ b
same_pair a b e f = ap (λ (n : ℕ). (n, a.1)) e ∙ ap (λ (z : ℤ). (b.0, z)) f

pub single_cover : (count one : ℕ) (form : Form) → IsSingle one form → IsPlainForm count form → (form ≡ (one, pos 1) ∷ [])
    ⊎ (form ≡ (one, negsuc 0) ∷ [])
single_cover count one [] k p = absurd k
single_cover count one (term ∷ []) k (within, inl e) = inl (ap (λ (t : ℕ × ℤ). t ∷ []) (same_pair term (one, pos 1) k e))
single_cover count one (term ∷ []) k (within, inr e) = inr (ap (λ (t : ℕ × ℤ). t ∷ []) (same_pair term (one, negsuc 0) k e))
single_cover count one (term ∷ more ∷ rest) k p = absurd k

pub difference_cover : (count one other : ℕ) (form : Form) → IsDifference one other form → IsPlainForm count form
    → (form ≡ (one, pos 1) ∷ (other, negsuc 0) ∷ []) ⊎ (form ≡ (one, negsuc 0) ∷ (other, pos 1) ∷ [])
difference_cover count one other [] k p = absurd k
difference_cover count one other (term ∷ []) k p = absurd k
difference_cover count one other (a ∷ b ∷ []) k (order, within, inl e) = inl
    (ap (λ (t : ℕ × ℤ). t ∷ b ∷ []) (same_pair a (one, pos 1) k.0 e.0)
    ∙ ap (λ (t : ℕ × ℤ). (one, pos 1) ∷ t ∷ []) (same_pair b (other, negsuc 0) k.1 e.1))
difference_cover count one other (a ∷ b ∷ []) k (order, within, inr e) = inr
    (ap (λ (t : ℕ × ℤ). t ∷ b ∷ []) (same_pair a (one, negsuc 0) k.0 e.0)
    ∙ ap (λ (t : ℕ × ℤ). (one, negsuc 0) ∷ t ∷ []) (same_pair b (other, pos 1) k.1 e.1))
difference_cover count one other (a ∷ b ∷ c ∷ rest) k p = absurd k

pub beginning_cover : (count one : ℕ) (form : Form) → BeginsWith one form → IsPlainForm count form → IsSingle one form
    ⊎ IsDifferenceFrom one form
beginning_cover count one [] k p = absurd p
beginning_cover count one (term ∷ []) k p = inl k
beginning_cover count one (a ∷ b ∷ []) k p = inr k
beginning_cover count one (a ∷ b ∷ c ∷ rest) k p = absurd p

-- ---- loops

-- the differences with later variables below a number
abbrev pub IsDifferenceBelow : ℕ → ℕ → Form → Type 0
IsDifferenceBelow one end (a ∷ b ∷ []) = (a.0 ≡ one) × (b.0 < end)
IsDifferenceBelow one end form = ⊥

pub none_below : (count : ℕ) (rules : List PathRule) (one : ℕ) → Tells count rules (IsDifferenceBelow one (one + 1)) None
none_below count rules one [] k p = absurd k
none_below count rules one (a ∷ []) k p = absurd k
none_below count rules one (a ∷ b ∷ []) k p = let same = k.0 in let low = k.1 in let order = p.0 in absurd
    (omega (arith, same, low, order))
none_below count rules one (a ∷ b ∷ c ∷ rest) k p = absurd k

pub more_below : (count : ℕ) (rules : List PathRule) (one other : ℕ) (found : Ranked) → found ≡ None
    → Tells count rules (IsDifferenceBelow one other) None → Tells count rules (IsDifference one other) found
    → Tells count rules (IsDifferenceBelow one (other + 1)) None
more_below count rules one other found e low here [] k p = absurd k
more_below count rules one other found e low here (a ∷ []) k p = absurd k
more_below count rules one other found e low here (a ∷ b ∷ []) k p = by (cases_eq b.0 other)
  where
    last : b.0 < other + 1 → (b.0 ≡ other → ⊥) → b.0 < other
    last h n = omega (arith, n)

    by : (b.0 ≡ other) ⊎ (b.0 ≡ other → ⊥) → ranks count rules (a ∷ b ∷ []) ≡ false
    by (inl same) = subst (Tells count rules (IsDifference one other)) e here (a ∷ b ∷ []) (k.0, same) p
    by (inr differ) = low (a ∷ b ∷ []) (k.0, last k.1 differ) p
more_below count rules one other found e low here (a ∷ b ∷ c ∷ rest) k p = absurd k

pub all_below : (count : ℕ) (rules : List PathRule) (one end : ℕ) → count ≤ end → Tells count rules (IsDifferenceBelow one end) None
    → Tells count rules (IsDifferenceFrom one) None
all_below count rules one end h low [] k p = absurd k
all_below count rules one end h low (a ∷ []) k p = absurd k
all_below count rules one end h low (a ∷ b ∷ []) k p = let within = p.1 in low (a ∷ b ∷ []) (k, omega (arith, within, h)) p
all_below count rules one end h low (a ∷ b ∷ c ∷ rest) k p = absurd k

-- the forms that begin with a variable below a number
abbrev pub BeginsBelow : ℕ → Form → Type 0
BeginsBelow end form = first_of form < end

pub begins_none : (count : ℕ) (rules : List PathRule) → Tells count rules (BeginsBelow 0) None
begins_none count rules form k p = absurd (omega (arith, k))

pub begins_more : (count : ℕ) (rules : List PathRule) (one : ℕ) (found : Ranked) → found ≡ None
    → Tells count rules (BeginsBelow one) None → Tells count rules (BeginsWith one) found → Tells count rules (BeginsBelow (one + 1)) None
begins_more count rules one found e low here form k p = by (cases_eq (first_of form) one)
  where
    last : first_of form < one + 1 → (first_of form ≡ one → ⊥) → first_of form < one
    last h n = omega (arith, n)

    by : (first_of form ≡ one) ⊎ (first_of form ≡ one → ⊥) → ranks count rules form ≡ false
    by (inl same) = subst (Tells count rules (BeginsWith one)) e here form same p
    by (inr differ) = low form (last k differ) p

first_within : (count : ℕ) (form : Form) → IsPlainForm count form → first_of form < count
first_within count [] p = absurd p
first_within count (one ∷ []) p = p.0
first_within count (a ∷ b ∷ []) p = let order = p.0 in let within = p.1 in omega (arith, order, within)
first_within count (a ∷ b ∷ c ∷ rest) p = absurd p

pub begins_all : (count end : ℕ) (rules : List PathRule) → count ≤ end → Tells count rules (BeginsBelow end) None
    → Tells count rules IsAny None
begins_all count end rules h low form k p = let within = first_within count form p in low form (omega (arith, within, h)) p

-- ---- no form

-- where there are rules they are over one number of variables; and no rules are ranked by none
pub none_plain : (count : ℕ) (rules : List PathRule) (found : Ranked) → found ≡ None → Tells count rules IsAny found
    → IsCounted rules count → NoPlainForm rules
none_plain count [] found e none counted other are form plain ranked = false≢true ranked
none_plain count (rule ∷ rest) found e none counted other are form plain ranked =
    let same : other ≡ count = sym (slots_long 0 0 other)
    ∙ ap length (sym (are 0 rule (omega arith)).first ∙ (counted.each 0 rule (omega arith)).first) ∙ slots_long 0 0 count in
    let plain_too = subst (λ (n : ℕ). IsPlainForm n form) same plain in
    let ranked_too = subst (λ (n : ℕ). ranks n (rule ∷ rest) form ≡ true) same ranked in
    false≢true (sym (subst (Tells count (rule ∷ rest) IsAny) e none form tt plain_too) ∙ ranked_too)
