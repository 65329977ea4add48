-- The links and rules of a valid certificate.
use Rattle.std.specs.Prelude.{◌≡◌, List, None, Result, Ok, Err}
use Rattle.descent.specs.declared.rules.PathRule.{PathRule}
use Rattle.descent.specs.Steps.{proof_fault}
use Rattle.term_graph.specs.declared.links.Links.{Links}
use Rattle.cert_check.specs.declared.refusal.Refusal.{Refusal}
use Rattle.cert_check.specs.Valid.{Case, HasGoodGraph, Tells}
use Rattle.cert_check.specs.Parts.{RulesOr}

-- the links and the rules of a valid certificate, or its refusal
abbrev pub PartsOr : Case → Result (Links × List PathRule) Refusal → Type 0
PartsOr case (Ok parts) = HasGoodGraph case parts.0.nodes
    × (RulesOr case parts.0.nodes (Ok parts.1) × (proof_fault parts.1 case.steps ≡ None))
PartsOr case (Err refusal) = Tells case (Err refusal)
