-- The changes that are found are those of the definition.
use Rattle.std.proofs.Common.{◌≡◌, inl, inr, ℕ, Bool, true, false, cond, List, [], ◌∷◌, get_or, ℤ, pos, Option, Some, None, subst}
use Rattle.std.proofs.Common.{ap, refl, ◌∙◌, sym}
use Rattle.std.specs.Ordering.{int_eq}
use Rattle.std.specs.Prelude.{◌&&◌}
use Rattle.std.proofs.lemmas.Bool.{false≢true, and_parts, and_from}
use Rattle.std.proofs.lemmas.Bool.Decides.{Decides-int_eq}
use Rattle.std.proofs.lemmas.Option.{same_Some, none-some}
use Rattle.rank_forms.proofs.Fallen.{none_is}
use Rattle.list_views.proofs.Orders.{int_eq_from}
use Rattle.lin_core.specs.declared.rows.WRow.{WRow}
use Rattle.descent.specs.declared.rules.PathRule.{PathRule}
use Rattle.descent.specs.declared.rules.Place.{Place}
use Rattle.descent.specs.declared.rules.SlotForm.{SlotForm}
use Rattle.rank_forms.specs.declared.rule_links.links.Come.{Come}
use Rattle.rank_forms.specs.declared.rule_links.links.Link.{Link}
use Rattle.rank_forms.specs.declared.rule_links.links.Tie.{Tie}
use Rattle.rank_forms.specs.rule_links.Links.{IsIntLink, IsWay, total}
use Rattle.rank_forms.specs.rule_links.Changes.{IsChange}
use Rattle.rank_forms.specs.rule_links.Positions.{AreEnds, IsVariable, StandsAt, slot_at}
use Rattle.rank_forms.specs.rule_links.Ties.{InTies, Covers, IsReached, Known, has_none, only_variable, variable_of, variable_at, more_of}
use Rattle.rank_forms.specs.rule_links.inner.Searching.{IsDifference, AreIntTies}
use Rattle.rank_forms.specs.rule_links.Ties.{IsFinished, IsKnownBy, TellsChange}

-- what one variable has more than another one
abbrev pub Sound : List Tie → ℕ → Known → Type 0
Sound ties start known = (variable : ℕ) (come : Come) → get_or known variable None ≡ Some come → IsReached ties start variable come.by

abbrev pub Complete : List Tie → ℕ → Known → Type 0
Complete ties start known = (variable : ℕ) (by : ℤ) → IsReached ties start variable by → (come : Come)
    × (get_or known variable None ≡ Some come)

difference_cases : (ties : List Tie) (start finish : ℕ) (known : Known) (found : Option Come) → Sound ties start known
    → Complete ties start known → IsFinished ties start known → get_or known finish None ≡ found
    → IsDifference ties start finish (more_of found)
difference_cases ties start finish known None sound complete done e = record {
  sound = λ by m. absurd (none-some by m);
  complete = λ by r. let w = complete finish by r in absurd (none-some w.0 (sym e ∙ w.1));
  known = λ by m. absurd (none-some by m);
}
difference_cases ties start finish known (Some come) sound complete done e = record {
  sound = λ by m. subst (λ (x : ℤ). IsReached ties start finish x) (same_Some come.by by m) (sound finish come e);
  complete = λ by r. (come.by, refl);
  known = λ by m. record { known = known; finished = done; come = come; at = e; adds = same_Some come.by by m };
}

pub difference_is : (ties : List Tie) (start finish : ℕ) (known seen : Known) (come : Option Come) (more : Option ℤ)
    → Sound ties start known → Complete ties start known → IsFinished ties start known → seen ≡ known
    → come ≡ get_or seen finish None → more ≡ more_of come → IsDifference ties start finish more
difference_is ties start finish known seen come more sound complete done s c m = subst
    (λ (o : Option ℤ). IsDifference ties start finish o) (sym (m ∙ ap more_of (c ∙ ap (λ (l : Known). get_or l finish None) s)))
    (difference_cases ties start finish known (get_or known finish None) sound complete done refl)

chosen : (A : Type 0) (test : Bool) (a b : A) → test ≡ true → cond test a b ≡ a
chosen A true a b e = refl
chosen A false a b e = absurd (false≢true e)

pub variable_is : (slot : SlotForm) (variable : ℕ) → IsVariable slot variable → variable_of (Some slot) ≡ Some variable
variable_is slot variable is =
    let plain = and_from (int_eq slot.constant (pos 0)) (has_none slot.weights) (int_eq_from slot.constant (pos 0) is.constant)
    (ap has_none is.weights) in
    chosen (Option ℕ) (int_eq slot.constant (pos 0) && has_none slot.weights) (only_variable slot.terms) None plain
    ∙ ap only_variable is.terms ∙ chosen (Option ℕ) (int_eq (pos 1) (pos 1)) (Some variable) None (int_eq_from (pos 1) (pos 1) refl)

pub stands_is : (slots : List SlotForm) (size : Bool) (place : Place) (variable : ℕ) → StandsAt slots size place variable
    → variable_at slots size place ≡ Some variable
stands_is slots size place variable stands = ap variable_of stands.1 ∙ variable_is stands.0 variable stands.2

-- links of the definition and ties
covers_in : (ties : List Tie) (u v : ℕ) → Covers ties u v → (link : Link) × InTies ties link × (link.from ≡ u) × (link.to ≡ v)
covers_in [] u v h = absurd h
covers_in (tie ∷ rest) u v h = elim h as (λ o. (link : Link) × InTies (tie ∷ rest) link × (link.from ≡ u) × (link.to ≡ v)) [
  | inl s ↦ (tie.link, inl refl, s.0, s.1)
  | inr r ↦ let w = covers_in rest u v r in (w.0, inr w.1, w.2, w.3)
]

covered_way : (rows : List WRow) (ties : List Tie) (u v : ℕ) (links : List Link) → AreIntTies rows ties
    → IsWay (IsIntLink rows) u links v → (other : List Link) × IsWay (InTies ties) u other v
covered_way rows ties u v [] are way = ([], way)
covered_way rows ties u v (link ∷ rest) are way =
    let w = covers_in ties link.from link.to (are.complete link way.0.is) in
    let more = covered_way rows ties link.to v rest are way.1 in
    (w.0 ∷ more.0, (record { begins = w.2 ∙ way.0.begins; is = w.1 }, subst (λ (x : ℕ). IsWay (InTies ties) x more.0 v) (sym w.3) more.1))

int_way : (rows : List WRow) (ties : List Tie) (u v : ℕ) (links : List Link) → AreIntTies rows ties → IsWay (InTies ties) u links v
    → IsWay (IsIntLink rows) u links v
int_way rows ties u v [] are way = way
int_way rows ties u v (link ∷ rest) are way = (
  record { begins = way.0.begins; is = are.sound link way.0.is },
  int_way rows ties
      link.to v rest are way.1,
)

change_is : (rows : List WRow) (ties : List Tie) (u v : ℕ) (c : ℤ) (more : Option ℤ) → AreIntTies rows ties
    → IsDifference ties u v more → IsChange rows u v c → more ≡ Some c
change_is rows ties u v c more are difference change =
    let covered = covered_way rows ties u v change.links are change.way in
    let found = difference.complete (total covered.0) (covered.0, covered.1, refl) in
    let reached = difference.sound found.0 found.1 in
    let same : found.0 ≡ c = sym reached.2 ∙ change.each reached.0 (int_way rows ties u v reached.0 are reached.1) in
    found.1 ∙ ap Some same

-- and the other way round: the slot at the place is this variable alone
only_is : (terms : List (ℕ × ℤ)) (variable : ℕ) → only_variable terms ≡ Some variable → terms ≡ (variable, pos 1) ∷ []
only_is [] variable e = absurd (none-some variable e)
only_is (term ∷ []) variable e = only_cases (int_eq term.1 (pos 1)) term variable refl e
  where
    made : ℕ → ℤ → List (ℕ × ℤ)
    made v c = (v, c) ∷ []

    only_cases : (test : Bool) (term : ℕ × ℤ) (variable : ℕ) → int_eq term.1 (pos 1) ≡ test
        → cond test (Some term.0) None ≡ Some variable → term ∷ [] ≡ (variable, pos 1) ∷ []
    only_cases true term variable t e = ap (λ (v : ℕ). made v term.1) (same_Some term.0 variable e)
        ∙ ap (made variable) ((Decides-int_eq term.1 (pos 1)).0 t)
    only_cases false term variable t e = absurd (none-some variable e)
only_is (term ∷ more ∷ rest) variable e = absurd (none-some variable e)

slot_cases : (test : Bool) (slot : SlotForm) (variable : ℕ) → (int_eq slot.constant (pos 0) && has_none slot.weights) ≡ test
    → cond test (only_variable slot.terms) None ≡ Some variable → IsVariable slot variable
slot_cases true slot variable t e =
    let parts = and_parts (int_eq slot.constant (pos 0)) (has_none slot.weights) t in
    record {
      terms = only_is slot.terms variable e;
      constant = (Decides-int_eq slot.constant (pos 0)).0 parts.0;
      weights = none_is
          slot.weights parts.1;
    }
slot_cases false slot variable t e = absurd (none-some variable e)

pub stands_at : (slots : List SlotForm) (size : Bool) (place : Place) (variable : ℕ) → variable_at slots size place ≡ Some variable
    → StandsAt slots size place variable
stands_at slots size place variable e = by_slot (slot_at slots size place) refl e
  where
    by_slot : (found : Option SlotForm) → slot_at slots size place ≡ found → variable_of found ≡ Some variable
        → StandsAt slots size place variable
    by_slot None s e = absurd (none-some variable e)
    by_slot (Some slot) s e = (slot, s, slot_cases (int_eq slot.constant (pos 0) && has_none slot.weights) slot variable refl e)

pub change_told : (rule : PathRule) (place : Place) (ties : List Tie) (start finish : ℕ) (more : Option ℤ)
    → AreIntTies rule.rows ties → variable_at rule.first false place ≡ Some start → variable_at rule.last false place ≡ Some finish
    → IsDifference ties start finish more → TellsChange rule place more
change_told rule place ties start finish more are s f difference = record {
  told = λ c changes.
      let first : changes.start ≡ start = same_Some changes.start start
      (sym (stands_is rule.first false place changes.start changes.ends.first) ∙ s) in
      let last : changes.finish ≡ finish = same_Some changes.finish finish
      (sym (stands_is rule.last false place changes.finish changes.ends.last) ∙ f) in
      change_is rule.rows ties start finish c more are difference
      (subst (λ (x : ℕ). IsChange rule.rows x finish c) first
      (subst (λ (y : ℕ). IsChange rule.rows changes.start y c) last changes.change));
  says = λ c e.
      let reached = difference.sound c e in
      let ends : AreEnds rule false place start finish = record
      { first = stands_at rule.first false place start s; last = stands_at rule.last false place finish f } in
      record {
        start = start;
        finish = finish;
        ends = ends;
        by = subst (λ (l : List Tie). IsKnownBy l start finish c) are.is
            (difference.known c e);
        moves = record {
          start = start;
          finish = finish;
          ends = ends;
          links = reached.0;
          way = int_way rule.rows ties start finish reached.0
              are reached.1;
          adds = reached.2;
        };
      };
}

pub no_start : (rule : PathRule) (place : Place) → variable_at rule.first false place ≡ None → TellsChange rule place None
no_start rule place e = record {
  told = λ c changes. absurd
      (none-some changes.start (sym e ∙ stands_is rule.first false place changes.start changes.ends.first));
  says = λ c e. absurd
      (none-some c e);
}

pub no_finish : (rule : PathRule) (place : Place) → variable_at rule.last false place ≡ None → TellsChange rule place None
no_finish rule place e = record {
  told = λ c changes. absurd
      (none-some changes.finish (sym e ∙ stands_is rule.last false place changes.finish changes.ends.last));
  says = λ c e. absurd
      (none-some c e);
}
