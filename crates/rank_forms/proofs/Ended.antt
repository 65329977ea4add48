-- What is told of the variables at both ends of a rule is told of the rule.
use Rattle.std.proofs.Common.{◌≡◌, ℕ, Bool, true, false, List, length, ℤ, Option, Some, subst, ◌∙◌, sym}
use Rattle.std.proofs.lemmas.Option.{same_Some}
use Rattle.descent.specs.declared.rules.PathRule.{PathRule}
use Rattle.descent.specs.declared.rules.Place.{Place}
use Rattle.rank_forms.specs.declared.following.Followed.{Followed}
use Rattle.rank_forms.specs.declared.reasons.Reasons.{Reasons}
use Rattle.rank_forms.specs.declared.rule_links.links.Tie.{Tie}
use Rattle.rank_forms.specs.rule_links.Positions.{AreEnds}
use Rattle.rank_forms.specs.rule_links.Ties.{variable_at}
use Rattle.rank_forms.specs.Reasons.{TellsInt, TellsIntAt, followed_of}
use Rattle.rank_forms.specs.SizeReasons.{TellsSizeAt, TellsSizeReasons}
use Rattle.rank_forms.proofs.Changed.{stands_at, stands_is}

ends_there : (size : Bool) (rule : PathRule) (place : Place) (start finish : ℕ) → variable_at rule.first size place ≡ Some start
    → variable_at rule.last size place ≡ Some finish → AreEnds rule size place start finish
ends_there size rule place start finish s f = record
    { first = stands_at rule.first size place start s; last = stands_at rule.last size place finish f }

at_ends : (P : ℕ → ℕ → Type 0) (size : Bool) (rule : PathRule) (place : Place) (start finish : ℕ)
    → variable_at rule.first size place ≡ Some start → variable_at rule.last size place ≡ Some finish → P start finish → (u v : ℕ)
    → AreEnds rule size place u v → P u v
at_ends P size rule place start finish s f h u v ends =
    let first : u ≡ start = same_Some u start (sym (stands_is rule.first size place u ends.first) ∙ s) in
    let last : v ≡ finish = same_Some v finish (sym (stands_is rule.last size place v ends.last) ∙ f) in
    subst (λ (x : ℕ). P x v) (sym first) (subst (λ (y : ℕ). P start y) (sym last) h)

pub size_ends : (place : Place) (rule : PathRule) (start finish : ℕ) (reasons : Option Reasons) (found : Option Followed)
    → variable_at rule.first true place ≡ Some start → variable_at rule.last true place ≡ Some finish
    → TellsSizeReasons rule.rows start finish reasons → found ≡ followed_of (length rule.rows) reasons → TellsSizeAt place rule found
size_ends place rule start finish reasons found s f told e = (
  at_ends (λ (u : ℕ) (v : ℕ). (why : Option Reasons) × TellsSizeReasons rule.rows u v why
      × (found ≡ followed_of (length rule.rows) why)) true rule place start finish s f (reasons, told, e),
  λ none. absurd
      (none start finish (ends_there true rule place start finish s f)),
)

pub int_ends : (rule : PathRule) (ties : List Tie) (term : Place × ℤ) (start finish : ℕ) (found : Option Reasons)
    → variable_at rule.first false term.0 ≡ Some start → variable_at rule.last false term.0 ≡ Some finish
    → TellsInt rule.rows ties start finish term.1 found → TellsIntAt rule ties term found
int_ends rule ties term start finish found s f told = (
  at_ends (λ (u : ℕ) (v : ℕ). TellsInt rule.rows ties u v term.1 found) false rule term.0 start finish s f told,
  λ none. absurd
      (none start finish (ends_there false rule term.0 start finish s f)),
)
