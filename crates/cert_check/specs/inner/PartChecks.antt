-- Words of the private calls that check cuts, and that turn faults of the parts into refusals.
use Rattle.std.specs.Prelude.{◌≡◌, ◌<◌, ◌≤◌, ◌+◌, ℕ, suc, List, [], ◌∷◌, Some, slice_get}
use Rattle.descent.specs.declared.faults.StepFault.{StepFault}
use Rattle.descent.specs.declared.faults.StepFault.TheVariants as proofs
use Rattle.path_rules.specs.declared.fault.PathFault.{PathFault}
use Rattle.path_rules.specs.declared.fault.PathFault.TheVariants as paths
use Rattle.graph_check.specs.declared.fault.CheckFault.{CheckFault}
use Rattle.graph_check.specs.declared.fault.CheckFault.TheVariants as graphs
use Rattle.cert_check.specs.declared.refusal.Cause.TheVariants.{Graph, Path, Proof}
use Rattle.cert_check.specs.declared.refusal.Refusal.{Refusal}
use Rattle.cert_check.specs.declared.refusal.Refusal.TheVariants.{Item, Memory}
use Rattle.cert_check.specs.Valid.{graph_item}

-- the refusal of a certificate whose graph has a fault: the item of the root, or of the node
abbrev pub graph_refusal : CheckFault → Refusal
graph_refusal (graphs.At node what) = Item (graph_item node what) (Graph what)
graph_refusal graphs.Memory = Memory

-- the refusal of a certificate whose paths have a fault: the item behind those of all nodes and of the cuts
abbrev pub path_refusal : ℕ → PathFault → Refusal
path_refusal nodes paths.Memory = Memory
path_refusal nodes fault = Item (3 + nodes) (Path fault)

-- the refusal of a certificate whose proof has a fault: the item of the step, behind that of the paths
abbrev pub proof_refusal : ℕ → StepFault → Refusal
proof_refusal nodes (proofs.At step fault) = Item (4 + nodes + step) (Proof fault)
proof_refusal nodes proofs.Memory = Memory

-- cuts rise from a number on, and are below the number of nodes
abbrev pub AreCutsFrom : ℕ → ℕ → List ℕ → Type 0
AreCutsFrom nodes low [] = Unit {0}
AreCutsFrom nodes low (cut ∷ cuts) = (low ≤ cut) × ((cut < nodes) × AreCutsFrom nodes (suc cut) cuts)

-- cuts begin with node 0, rise, and are below the number of nodes
abbrev pub AreCutsOf : ℕ → List ℕ → Type 0
AreCutsOf nodes cuts = (slice_get cuts 0 ≡ Some 0) × AreCutsFrom nodes 0 cuts
