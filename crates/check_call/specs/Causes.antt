-- The causes of refused certificates in words.
use Rattle.std.specs.Prelude.{ℕ, List, [], ◌∷◌, codes}
use Rattle.list_views.specs.FaultWords.{joined, number_field}
use Rattle.lin_core.specs.declared.faults.LinFault.{LinFault}
use Rattle.lin_core.specs.declared.faults.LinFault.TheVariants as lin
use Rattle.descent.specs.declared.faults.DescentFault.{DescentFault}
use Rattle.descent.specs.declared.faults.DescentFault.TheVariants as proofs
use Rattle.path_rules.specs.declared.fault.PathFault.{PathFault}
use Rattle.path_rules.specs.declared.fault.PathFault.TheVariants as paths
use Rattle.cert_check.specs.graph_check.declared.fault.What.{What}
use Rattle.cert_check.specs.graph_check.declared.fault.What.TheVariants as graphs
use Rattle.cert_check.specs.declared.refusal.Cause.{Cause}
use Rattle.cert_check.specs.declared.refusal.Cause.TheVariants.{Graph, Cuts, Path, Proof}

-- two fields that hold numbers
abbrev pub two_fields : List ℕ → ℕ → List ℕ → ℕ → List ℕ
two_fields name value second other = joined (number_field name value ∷ number_field second other ∷ [])

-- ---- multipliers

-- the name of a fault of multipliers
abbrev pub lin_name : LinFault → List ℕ
lin_name (lin.BadIndex n) = codes "BadIndex"
lin_name (lin.NegativeMultiplier n) = codes "NegativeMultiplier"
lin_name (lin.Limit n) = codes "Limit"

-- the fields behind the name of a fault of multipliers: the entry that has it
abbrev pub lin_fields : LinFault → List ℕ
lin_fields (lin.BadIndex n) = number_field (codes "n") n
lin_fields (lin.NegativeMultiplier n) = number_field (codes "n") n
lin_fields (lin.Limit n) = number_field (codes "n") n

-- ---- graphs

-- the name of what is wrong with a node of a graph
abbrev pub what_name : What → List ℕ
what_name graphs.Root = codes "Root"
what_name (graphs.BadState clause) = codes "BadState"
what_name graphs.TooManyIds = codes "TooManyIds"
what_name graphs.ChildCount = codes "ChildCount"
what_name (graphs.Child n) = codes "Child"
what_name graphs.NotEnd = codes "NotEnd"
what_name graphs.BadTarget = codes "BadTarget"
what_name (graphs.Match fault) = codes "Match"

-- the fields behind that name: the clause, the child or the id that is wrong, where one is named
abbrev pub what_fields : What → List ℕ
what_fields graphs.Root = []
what_fields (graphs.BadState clause) = number_field (codes "clause") clause
what_fields graphs.TooManyIds = []
what_fields graphs.ChildCount = []
what_fields (graphs.Child n) = number_field (codes "n") n
what_fields graphs.NotEnd = []
what_fields graphs.BadTarget = []
what_fields (graphs.Match fault) = two_fields (codes "clause") fault.clause (codes "id") fault.id

-- ---- paths

-- the name of a fault of the paths between cuts
abbrev pub path_name : PathFault → List ℕ
path_name (paths.Uncut node) = codes "Uncut"
path_name paths.TooManyPaths = codes "TooManyPaths"
path_name (paths.TooManyRows path) = codes "TooManyRows"
path_name paths.Memory = codes "Memory"

-- the fields behind the name of a fault of paths: the node or the path that it is about
abbrev pub path_fields : PathFault → List ℕ
path_fields (paths.Uncut node) = number_field (codes "node") node
path_fields paths.TooManyPaths = []
path_fields (paths.TooManyRows path) = number_field (codes "path") path
path_fields paths.Memory = []

-- ---- proofs; a fault of multipliers stands for itself

-- the name of a fault of a proof; a fault of multipliers stands for itself
abbrev pub proof_name : DescentFault → List ℕ
proof_name (proofs.NotCovered rule) = codes "NotCovered"
proof_name (proofs.BackEdge from to) = codes "BackEdge"
proof_name (proofs.NotWeak rule) = codes "NotWeak"
proof_name (proofs.NotStrict rule) = codes "NotStrict"
proof_name (proofs.NotBounded rule) = codes "NotBounded"
proof_name (proofs.Loops rule) = codes "Loops"
proof_name (proofs.Lin fault) = lin_name fault
proof_name proofs.BadStep = codes "BadStep"

-- the fields behind the name of a fault of a proof: the rule that it is about, or the two rules
abbrev pub proof_fields : DescentFault → List ℕ
proof_fields (proofs.NotCovered rule) = number_field (codes "rule") rule
proof_fields (proofs.BackEdge from to) = two_fields (codes "from") from (codes "to") to
proof_fields (proofs.NotWeak rule) = number_field (codes "rule") rule
proof_fields (proofs.NotStrict rule) = number_field (codes "rule") rule
proof_fields (proofs.NotBounded rule) = number_field (codes "rule") rule
proof_fields (proofs.Loops rule) = number_field (codes "rule") rule
proof_fields (proofs.Lin fault) = lin_fields fault
proof_fields proofs.BadStep = []

-- ---- causes: the name, and then the fields

-- the name of the cause for which a certificate is refused
abbrev pub cause_name : Cause → List ℕ
cause_name (Graph what) = what_name what
cause_name Cuts = codes "Cuts"
cause_name (Path fault) = path_name fault
cause_name (Proof fault) = proof_name fault

-- the fields behind the name of a cause
abbrev pub cause_fields : Cause → List ℕ
cause_fields (Graph what) = what_fields what
cause_fields Cuts = []
cause_fields (Path fault) = path_fields fault
cause_fields (Proof fault) = proof_fields fault

-- the cause in words: its name, and then its fields
abbrev pub cause_text : Cause → List ℕ
cause_text cause = joined (cause_name cause ∷ cause_fields cause ∷ [])
