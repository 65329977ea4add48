-- The words for what keeps a graph and a state from showing that no run ends.
use Rattle.std.specs.Prelude.{ℕ, List, [], ◌∷◌, codes}
use Rattle.list_views.specs.FaultWords.{joined, number_field}
use Rattle.loop_check.specs.declared.fault.LoopFault.{LoopFault}
use Rattle.loop_check.specs.declared.fault.LoopFault.TheVariants.{Graph, EndNode, IdleCycle, NotFitting, Memory}

-- a fault in words: its name, and the node
abbrev pub named : List ℕ → ℕ → List ℕ
named name node = joined (name ∷ number_field (codes "node") node ∷ [])

-- a fault of a loop in words: its name and the node; the fault of a graph is named alone here, since it has words of its own
abbrev pub cause_text : LoopFault → List ℕ
cause_text (Graph node what) = codes "Graph"
cause_text (EndNode node) = named (codes "EndNode") node
cause_text (IdleCycle node) = named (codes "IdleCycle") node
cause_text NotFitting = codes "NotFitting"
cause_text Memory = codes "Memory"
