-- The forms of a rank step that holds are readable.
use Rattle.std.proofs.Common.{◌≡◌, ◌∙◌, ◌<◌, ◌≤◌, inl, inr, ℕ, zero, suc, Bool, true, false, ℤ, cond, eqb, List, [], ◌∷◌, length}
use Rattle.std.proofs.Common.{Option, Some, slice_get, refl, sym, ap, subst, arith}
use Rattle.std.specs.Prelude.{not, is_some, All}
use Rattle.std.specs.List.{AllByRecursion}
use Rattle.std.proofs.lemmas.Bool.{and_parts, false≢true, eqb-true, eq-eqb, ne_eqb}
use Rattle.std.proofs.lemmas.List.Elements.{All-from_recursion, recursion_from_All}
use Rattle.std.proofs.lemmas.Option.{none-some, same_Some}
use Rattle.list_views.proofs.Quantified.{all_at, all_places}
use Rattle.lin_core.specs.Rows.{RiseFrom}
use Rattle.descent.specs.declared.proof.CutForm.{CutForm}
use Rattle.descent.specs.declared.proof.RankStep.{RankStep}
use Rattle.descent.specs.declared.rules.PathRule.{PathRule}
use Rattle.descent.specs.declared.rules.SlotForm.{SlotForm}
use Rattle.descent.specs.Conditions as limits
use Rattle.descent.specs.Rankings.{form_at, is_slot_of, slot_at, have_slots, sizes_of, is_taken}
use Rattle.descent.specs.Steps.{rule_of, ranking_of}
use Rattle.rank_forms.specs.RankSteps.{FormsRise, HaveNoSizes}
use Rattle.chain_proofs.specs.Lean.{IsOwnCut, IsLeanRank}
use Rattle.cert_form.specs.cert_write.Readable.{AreMultiples, OnlyWith, IsForm, RisesBy}
use Rattle.prove_core.specs.ReadableRules.{AreLow, IsReadableRule}
use Rattle.prove_core.proofs.Multipliers.{IsFitting, IsFittingIn}

-- ---- ids of slots

abbrev IsLow : SlotForm → Type 0
IsLow slot = slot.id < 2048

slot_low : (slots : List SlotForm) (size : Bool) (id : ℕ) → AllByRecursion IsLow slots → is_some (slot_at slots size id) ≡ true → id < 2048
slot_low [] size id low e = absurd (false≢true e)
slot_low (slot ∷ rest) size id low e = go (is_slot_of size id slot) refl e (slot_low rest size id low.1)
  where
    go : (b : Bool) → is_slot_of size id slot ≡ b → is_some (cond b (Some slot) (slot_at rest size id)) ≡ true
        → (is_some (slot_at rest size id) ≡ true → id < 2048) → id < 2048
    go true f g later =
        let same = eqb-true slot.id id (and_parts (eqb slot.id id) (cond size slot.size (not slot.size)) f).0 in
        subst (λ (n : ℕ). n < 2048) same low.0
    go false f g later = later g

have_low : (slots : List SlotForm) (size : Bool) (entries : List (ℕ × ℤ)) → AllByRecursion IsLow slots
    → have_slots slots size entries ≡ true → AllByRecursion (λ (entry : ℕ × ℤ). entry.0 < 2048) entries
have_low slots size [] low e = tt
have_low slots size (entry ∷ rest) low e =
    let both = and_parts (is_some (slot_at slots size entry.0)) (have_slots slots size rest) e in
    (slot_low slots size entry.0 low both.0, have_low slots size rest low both.1)

rise_low : (low end : ℕ) (entries : List (ℕ × ℤ)) → RiseFrom low end entries → AllByRecursion (λ (entry : ℕ × ℤ). entry.0 < 2048) entries
    → RiseFrom low 2048 entries
rise_low low end [] rise all = tt
rise_low low end (entry ∷ rest) rise all = (rise.0, all.0, rise_low (suc entry.0) end rest rise.2 all.1)

multiples : (slots : List SlotForm) (size : Bool) (entries : List (ℕ × ℤ)) → AllByRecursion IsLow slots
    → have_slots slots size entries ≡ true → limits.AreMultiples entries → AreMultiples entries
multiples slots size entries low e are = (rise_low 0 65536 entries are.rise (have_low slots size entries low e), are.size)

-- ---- the form of a cut

cut_from : (low : ℕ) (forms : List CutForm) (k : ℕ) (form : CutForm) → FormsRise low forms → slice_get forms k ≡ Some form → low ≤ form.cut
cut_from low [] k form rise e = absurd (none-some form e)
cut_from low (first ∷ rest) zero form rise e = subst (λ (f : CutForm). low ≤ f.cut) (same_Some first form e) rise.0
cut_from low (first ∷ rest) (suc k) form rise e =
    let here = rise.0 in
    let later = cut_from (suc first.cut) rest k form rise.1 e in
    omega (arith, here, later)

form_there : (low : ℕ) (forms : List CutForm) (k : ℕ) (form : CutForm) → FormsRise low forms → slice_get forms k ≡ Some form
    → form_at forms form.cut ≡ Some form
form_there low [] k form rise e = absurd (none-some form e)
form_there low (first ∷ rest) zero form rise e =
    let same = same_Some first form e in
    ap (λ (b : Bool). cond b (Some first) (form_at rest form.cut)) (eq-eqb first.cut form.cut (ap (λ (f : CutForm). f.cut) same)) ∙ e
form_there low (first ∷ rest) (suc k) form rise e =
    let later = cut_from (suc first.cut) rest k form rise.1 e in
    ap (λ (b : Bool). cond b (Some first) (form_at rest form.cut)) (ne_eqb first.cut form.cut (λ same. omega (arith, later, same)))
    ∙ form_there (suc first.cut) rest k form rise.1 e

no_sizes : (forms : List CutForm) (k : ℕ) (form : CutForm) → HaveNoSizes forms → slice_get forms k ≡ Some form → form.sizes ≡ []
no_sizes [] k form none e = absurd (none-some form e)
no_sizes (first ∷ rest) zero form none e = subst (λ (f : CutForm). f.sizes ≡ []) (same_Some first form e) none.0
no_sizes (first ∷ rest) (suc k) form none e = no_sizes rest k form none.1 e

-- ---- the forms of a step

pub record IsFormFor (size : Bool) (form : CutForm) : Type 0 where
  pub cut : form.cut ≤ 4294967295
  pub fits : IsForm size form

module _ (rules : List PathRule) (step : RankStep) (readable : All IsReadableRule rules)
    (fitting : AllByRecursion (IsFittingIn (ranking_of step) rules) step.rules) (ranked : limits.IsRanked step)
    (lean : IsLeanRank rules step) where
  -- the form of the cut of an end with these slots, which are taken
  by_end : (k : ℕ) (form : CutForm) (slots : List SlotForm) → slice_get step.forms k ≡ Some form → AreLow slots
      → is_taken (ranking_of step) (form_at step.forms form.cut) slots ≡ true → IsForm step.size form
  by_end k form slots at low e =
      let one : is_taken (ranking_of step) (Some form) slots ≡ true = subst
      (λ (o : Option CutForm). is_taken (ranking_of step) o slots ≡ true) (form_there 0 step.forms k form lean.rise at) e in
      let both = and_parts (have_slots slots false form.ints) (have_slots slots true (sizes_of step.size (Some form))) one in
      let own = all_at limits.IsForm step.forms k form ranked.forms at in
      let all = recursion_from_All IsLow slots low in
      let sizes = go step.size refl all own.sizes both.1 in
      record {
        constant = own.number;
        ints = multiples slots false form.ints all both.0 own.ints;
        sizes = sizes.0;
        sized = sizes.1;
      }
    where
      go : (b : Bool) → step.size ≡ b → AllByRecursion IsLow slots → limits.AreMultiples form.sizes
          → have_slots slots true (sizes_of b (Some form)) ≡ true → AreMultiples form.sizes × OnlyWith b form.sizes
      go true s all own have = (multiples slots true form.sizes all have own, tt)
      go false s all own have =
          let none = no_sizes step.forms k form (lean.linear s).1 at in
          (subst AreMultiples (sym none) (tt, λ i d w. absurd (omega (arith, w))), ap (λ (xs : List (ℕ × ℤ)). length xs) none)

  one_form : (k : ℕ) (form : CutForm) → slice_get step.forms k ≡ Some form → IsFormFor step.size form
  one_form k form at =
      let own = all_at (λ (f : CutForm). IsOwnCut rules step.rules f.cut) step.forms k form lean.own at in
      let fits = all_at (IsFittingIn (ranking_of step) rules) step.rules own.place own.one
      (All-from_recursion (IsFittingIn (ranking_of step) rules) step.rules fitting) own.at in
      let same : fits.rule ≡ own.rule = same_Some fits.rule own.rule (sym fits.is ∙ own.is) in
      let whole : IsFitting (ranking_of step) own.one own.rule = subst (IsFitting (ranking_of step) own.one) same fits.fitting in
      let good = all_at IsReadableRule rules (rule_of own.one) own.rule readable own.is in
      elim own.meets [
        | inl e ↦ record {
          cut = subst (λ (n : ℕ). n ≤ 4294967295) e good.from;
          fits = by_end k form own.rule.first at good.first
              (subst (λ (n : ℕ). is_taken (ranking_of step) (form_at step.forms n) own.rule.first ≡ true) e whole.start);
        }
        | inr e ↦ record {
          cut = subst (λ (n : ℕ). n ≤ 4294967295) e good.to;
          fits = by_end k form own.rule.last at good.last
              (subst (λ (n : ℕ). is_taken (ranking_of step) (form_at step.forms n) own.rule.last ≡ true) e whole.end);
        }
      ]

  pub forms_fit : AllByRecursion (IsFormFor step.size) step.forms
  forms_fit = all_places (IsFormFor step.size) step.forms one_form

-- their cuts rise
pub forms_rise : (size : Bool) (low : ℕ) (forms : List CutForm) → FormsRise low forms → AllByRecursion (IsFormFor size) forms
    → RisesBy (λ (f : CutForm). f.cut) low 4294967296 forms
forms_rise size low [] rise all = tt
forms_rise size low (form ∷ rest) rise all =
    let cut = all.0.cut in
    (rise.0, (omega (arith, cut), forms_rise size (suc form.cut) rest rise.1 all.1))
