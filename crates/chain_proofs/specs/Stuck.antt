-- Rules that reach each other, and that no form ranks.
use Rattle.std.specs.Prelude.{◌≡◌, ℕ, ◌<◌, IsTrue, List, length, Some, slice_get}
use Rattle.descent.specs.declared.rules.PathRule.{PathRule}
use Rattle.descent.specs.Splits.{is_followed}
use Rattle.number_graphs.specs.Graphs.{Leads}
use Rattle.rank_search.specs.Plain.{NoPlainForm}
use Rattle.rank_search.specs.Stepwise.{NoStepwiseForm}
use Rattle.chain_proofs.specs.declared.proving.LeftRule.{LeftRule}

-- neither a plain form nor a stepwise one ranks the rules
pub record HasNoForm (rules : List PathRule) : Type 0 where
  pub plain : NoPlainForm rules
  pub stepwise : NoStepwiseForm rules

-- there are rules; each reaches each, itself too, in one step or more, each followed by the next; and, as a search says of rules, no form
-- ranks them
pub record AreStuck (none : List PathRule → Type 0) (rules : List PathRule) : Type 0 where
  pub some : 0 < length rules
  pub joined : (rule other : ℕ) → rule < length rules → other < length rules → Leads (λ m n. IsTrue (is_followed rules m n)) rule other
  pub no_form : none rules

-- a rule by its number, with the cuts at its ends
pub record IsLeftRule (rules : List PathRule) (left : LeftRule) (rule : PathRule) : Type 0 where
  pub is : slice_get rules left.rule ≡ Some rule
  pub from : left.from ≡ rule.from
  pub to : left.to ≡ rule.to
