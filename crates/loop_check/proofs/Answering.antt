-- What a check of a graph is to answer, part by part.
use Rattle.std.proofs.Common.{◌≡◌, ◌∙◌, ℕ, suc, ◌+◌, ◌-◌, ◌^◌, ◌<◌, ◌≤◌, List, [], ◌∷◌, length, map, Bool, Ok, Err, refl, sym, ap, subst, arith}
use Rattle.std.specs.Prelude.{◌↔◌, Result, OnOk, IsTrue}
use Rattle.std.specs.List.{AllZip}
use Rattle.jvm_values.specs.declared.heap.Value.{Value}
use Rattle.jvm_values.specs.TypedHeaps.{Holds}
use Rattle.class_world.specs.WorldTypes.{types_of}
use Rattle.abs_cells.specs.AbstractStates.{AbstractState}
use Rattle.class_program.specs.Programs.{Program}
use Rattle.frame_types.specs.Tables.{CodeTypes}
use Rattle.input_desc.specs.declared.desc.Desc.{Desc}
use Rattle.input_desc.specs.declared.states.StateInput.{StateInput}
use Rattle.input_desc.specs.Given.{params_of, statics_of, argument_slot}
use Rattle.input_desc.specs.Initial.{initial_of}
use Rattle.input_desc.specs.States.{IsTypedInput}
use Rattle.input_fits.specs.Givens.{IsFitting}
use Rattle.term_graph.specs.declared.links.Link.{Link}
use Rattle.term_graph.specs.Graphs.{GraphNode}
use Rattle.graph_check.specs.declared.fault.CheckFault.{CheckFault}
use Rattle.graph_check.specs.declared.fault.CheckFault.TheVariants as checks
use Rattle.graph_check.specs.Good.{GraphOk, Tells}
use Rattle.loop_check.specs.declared.fault.LoopFault.{LoopFault}
use Rattle.loop_check.specs.declared.fault.LoopFault.TheVariants.{Graph, EndNode, IdleCycle, NotFitting, Memory}
use Rattle.loop_check.specs.Loops.{idle_rows_from, idle_rows, HasNoEnd, IsLeastEnd, NeverEnds}
use Rattle.loop_check.specs.Fitting.{GivenFits, ChecksLoop}
use Rattle.loop_check.specs.inner.Words.{fault_of, Idles, Answers, FitsOr}

-- ---- rows

rows_long : (links : List (List Link)) (n : ℕ) (nodes : List GraphNode) → length (idle_rows_from links n nodes) ≡ length nodes
rows_long links n [] = refl
rows_long links n (node ∷ nodes) = ap suc (rows_long links (suc n) nodes)

-- there are few enough for ranks
pub few_rows : (nodes : List GraphNode) (links : List (List Link)) (rows : List (List ℕ)) → rows ≡ idle_rows nodes links
    → length nodes ≤ 2 ^ 32 - 16 → length rows + 1 < 2 ^ 32
few_rows nodes links rows is few =
    let long : length rows ≡ length nodes = ap (λ (r : List (List ℕ)). length r) is ∙ rows_long links 0 nodes in
    omega (arith, long, few)

-- ---- answers

pub graph_fails : (p : Program) (typing : ℕ → CodeTypes) (nodes : List GraphNode) (root : AbstractState) (fault : CheckFault)
    → Tells p typing nodes root (Err fault) → Answers p typing nodes root (Err (fault_of fault))
graph_fails p typing nodes root (checks.At node what) t = t
graph_fails p typing nodes root checks.Memory t = tt

pub end_fails : (p : Program) (typing : ℕ → CodeTypes) (nodes : List GraphNode) (root : AbstractState) (links : List (List Link)) (n : ℕ)
    → GraphOk p typing nodes root links → IsLeastEnd nodes n → Answers p typing nodes root (Err (EndNode n))
end_fails p typing nodes root links n good least = record { links = links; graph = good; least = least }

pub idling_told : (p : Program) (typing : ℕ → CodeTypes) (nodes : List GraphNode) (root : AbstractState) (links : List (List Link))
    (result : Result (Unit {0}) LoopFault) → GraphOk p typing nodes root links → HasNoEnd nodes
    → Idles nodes links result → Answers p typing nodes root result
idling_told p typing nodes root links (Ok done) good no_end idles = record {
  links = links;
  graph = good;
  no_end = no_end;
  no_idle = idles;
}
idling_told p typing nodes root links (Err (IdleCycle node)) good no_end idles = record {
  links = links;
  graph = good;
  no_end = no_end;
  least = idles;
}
idling_told p typing nodes root links (Err NotFitting) good no_end idles = absurd idles
idling_told p typing nodes root links (Err Memory) good no_end idles = tt
idling_told p typing nodes root links (Err (Graph node what)) good no_end idles = absurd idles
idling_told p typing nodes root links (Err (EndNode node)) good no_end idles = absurd idles

-- ---- with what is given

pub loop_fails : (p : Program) (typing : ℕ → CodeTypes) (desc : Desc) (nodes : List GraphNode) (given : StateInput) (fault : LoopFault)
    → Answers p typing nodes (initial_of p desc) (Err fault) → ChecksLoop p typing desc nodes given (Err fault)
loop_fails p typing desc nodes given (Graph node what) h = h
loop_fails p typing desc nodes given (EndNode node) h = h
loop_fails p typing desc nodes given (IdleCycle node) h = h
loop_fails p typing desc nodes given NotFitting h = absurd h
loop_fails p typing desc nodes given Memory h = tt

pub loop_told : (p : Program) (typing : ℕ → CodeTypes) (desc : Desc) (nodes : List GraphNode) (given : StateInput)
    (result : Result (Unit {0}) LoopFault) → NeverEnds p typing nodes (initial_of p desc) → FitsOr p desc given result
    → ChecksLoop p typing desc nodes given result
loop_told p typing desc nodes given (Ok done) never fits = (never, fits)
loop_told p typing desc nodes given (Err NotFitting) never fits = (never, fits)
loop_told p typing desc nodes given (Err Memory) never fits = tt
loop_told p typing desc nodes given (Err (Graph node what)) never fits = absurd fits
loop_told p typing desc nodes given (Err (EndNode node)) never fits = absurd fits
loop_told p typing desc nodes given (Err (IdleCycle node)) never fits = absurd fits

pub on_ok : {A E : Type 0} (result : Result A E) (P : Type 0) → P → OnOk result P
on_ok (Ok a) P h = h
on_ok (Err e) P h = tt

pub given_typed : (p : Program) (given : StateInput) (args statics : List Value) → args ≡ given.args → statics ≡ given.statics
    → IsTypedInput p given → IsTypedInput p (record { args = args; statics = statics; heap = given.heap })
given_typed p given args statics e f typed = record {
  heap_is = typed.heap_is;
  args_are = subst (λ (vs : List Value). AllZip (Holds (types_of p.world) given.heap) (map argument_slot (params_of p)) vs) (sym e)
      typed.args_are;
  statics_are = subst (λ (vs : List Value). AllZip (Holds (types_of p.world) given.heap) (statics_of p) vs) (sym f) typed.statics_are;
}

pub given_told : (p : Program) (desc : Desc) (given : StateInput) (args statics : List Value) (fitting : Bool) → args ≡ given.args
    → statics ≡ given.statics → IsTrue fitting ↔ IsFitting p desc args statics given.heap → IsTrue fitting ↔ GivenFits p desc given
given_told p desc given args statics fitting e f told =
    subst (λ (vs : List Value). IsTrue fitting ↔ IsFitting p desc vs given.statics given.heap) e
    (subst (λ (vs : List Value). IsTrue fitting ↔ IsFitting p desc args vs given.heap) f told)
