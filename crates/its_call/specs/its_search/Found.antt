-- What is found for the rules of a system.
use Rattle.std.specs.Prelude.{List}
use Rattle.descent.specs.declared.rules.PathRule.{PathRule}
use Rattle.descent.specs.Conditions.{AreSteps}
use Rattle.descent.specs.Steps.{Closed}
use Rattle.chain_proofs.specs.Answers.{LeavesStuckBy}
use Rattle.its_call.specs.declared.its_search.searching.ItsFound.{ItsFound}
use Rattle.its_call.specs.declared.its_search.searching.ItsFound.TheVariants.{Proof, Left}
use Rattle.its_call.specs.its_search.Forms.{HasNoForm}

-- What the search finds for rules: a closed proof, or steps that hold so far and the rules that they leave, which reach each other and
-- which neither a plain form nor a stepwise one ranks.
abbrev pub Finds : List PathRule → ItsFound → Type 0
Finds rules (Proof proof) = AreSteps proof.steps × Closed rules proof
Finds rules (Left proof left) = LeavesStuckBy HasNoForm rules proof.steps left
