-- The check of a loop has one answer.
use Rattle.std.proofs.Common.{◌≡◌, ℕ, List, Result, Ok, Err, refl, ap, subst, ◌∙◌}
use Rattle.std.specs.Prelude.{◌≢◌}
use Rattle.list_views.proofs.Orders.{neither_below}
use Rattle.number_graphs.specs.Graphs.{IsLeastOnCycle}
use Rattle.number_graphs.specs.Lists.{Edge}
use Rattle.abs_cells.specs.AbstractStates.{AbstractState}
use Rattle.class_program.specs.Programs.{Program}
use Rattle.frame_types.specs.Tables.{CodeTypes}
use Rattle.input_desc.specs.declared.desc.Desc.{Desc}
use Rattle.input_desc.specs.declared.states.StateInput.{StateInput}
use Rattle.input_desc.specs.Initial.{initial_of}
use Rattle.term_graph.specs.declared.links.Link.{Link}
use Rattle.term_graph.specs.Graphs.{GraphNode}
use Rattle.graph_check.specs.declared.fault.What.{What}
use Rattle.graph_check.specs.Good.{IsFault}
use Rattle.graph_check.proofs.OneGraph.{links_one, fault_one, good_or_fault}
use Rattle.loop_check.specs.declared.fault.LoopFault.{LoopFault}
use Rattle.loop_check.specs.declared.fault.LoopFault.TheVariants.{Graph, EndNode, IdleCycle, NotFitting, Memory}
use Rattle.loop_check.specs.Loops.{idle_rows, NeverEnds, HasEnd, HasIdleCycle}
use Rattle.loop_check.specs.Fitting.{ChecksLoop, GivenFits}
use Rattle.loop_check.specs.OneVerdict.{LoopsHaveOneVerdict}

module _ (p : Program) (typing : ℕ → CodeTypes) (nodes : List GraphNode) (root : AbstractState) where
  never_or_end : (n : ℕ) → NeverEnds p typing nodes root → HasEnd p typing nodes root n → ⊥
  never_or_end n never h = never.no_end n h.least.ends

  never_or_idle : (n : ℕ) → NeverEnds p typing nodes root → HasIdleCycle p typing nodes root n → ⊥
  never_or_idle n never h = never.no_idle n (subst (λ (links : List (List Link)). IsLeastOnCycle (Edge (idle_rows nodes links)) n)
      (links_one p typing nodes root h.links never.links h.graph never.graph) h.least).on

  end_or_idle : (n m : ℕ) → HasEnd p typing nodes root n → HasIdleCycle p typing nodes root m → ⊥
  end_or_idle n m h k = k.no_end n h.least.ends

  end_one : (n m : ℕ) → HasEnd p typing nodes root n → HasEnd p typing nodes root m → n ≡ m
  end_one n m h k = neither_below n m (λ l. k.least.least n l h.least.ends) (λ l. h.least.least m l k.least.ends)

  idle_one : (n m : ℕ) → HasIdleCycle p typing nodes root n → HasIdleCycle p typing nodes root m → n ≡ m
  idle_one n m h k =
      let own = subst (λ (links : List (List Link)). IsLeastOnCycle (Edge (idle_rows nodes links)) n)
      (links_one p typing nodes root h.links k.links h.graph k.graph) h.least in
      neither_below n m (λ l. k.least.least n l own.on) (λ l. own.least m l k.least.on)

  graph_one : (n m : ℕ) (w v : What) → IsFault p typing nodes root n w → IsFault p typing nodes root m v → Graph n w ≡ Graph m v
  graph_one n m w v f g =
      let e = fault_one p typing nodes root n m w v f g in
      ap (λ (k : ℕ). Graph k w) e.0 ∙ ap (λ (what : What). Graph m what) e.1

-- ---- two answers

abbrev Answer : Type 0
Answer = Result (Unit {0}) LoopFault

module _ (p : Program) (typing : ℕ → CodeTypes) (desc : Desc) (nodes : List GraphNode) (given : StateInput) where
  abbrev root : AbstractState
  root = initial_of p desc

  abbrev Checks : Answer → Type 0
  Checks = ChecksLoop p typing desc nodes given

  -- one that no run ends, and another one that says why not
  never_or : (fault : LoopFault) → NeverEnds p typing nodes root → GivenFits p desc given → Checks (Err fault) → fault ≢ Memory → ⊥
  never_or (Graph n w) never fits h other = good_or_fault p typing nodes root never.links n w never.graph h
  never_or (EndNode n) never fits h other = never_or_end p typing nodes root n never h
  never_or (IdleCycle n) never fits h other = never_or_idle p typing nodes root n never h
  never_or NotFitting never fits h other = h.1 fits
  never_or Memory never fits h other = other refl

  -- one fault, and another one
  fault_is : (a b : LoopFault) → Checks (Err a) → Checks (Err b) → a ≢ Memory → b ≢ Memory → a ≡ b
  fault_is (Graph n w) (Graph m v) h k na nb = graph_one p typing nodes root n m w v h k
  fault_is (Graph n w) (EndNode m) h k na nb = absurd (good_or_fault p typing nodes root k.links n w k.graph h)
  fault_is (Graph n w) (IdleCycle m) h k na nb = absurd (good_or_fault p typing nodes root k.links n w k.graph h)
  fault_is (Graph n w) NotFitting h k na nb = absurd (good_or_fault p typing nodes root k.0.links n w k.0.graph h)
  fault_is (EndNode n) (Graph m v) h k na nb = absurd (good_or_fault p typing nodes root h.links m v h.graph k)
  fault_is (EndNode n) (EndNode m) h k na nb = ap EndNode (end_one p typing nodes root n m h k)
  fault_is (EndNode n) (IdleCycle m) h k na nb = absurd (end_or_idle p typing nodes root n m h k)
  fault_is (EndNode n) NotFitting h k na nb = absurd (never_or_end p typing nodes root n k.0 h)
  fault_is (IdleCycle n) (Graph m v) h k na nb = absurd (good_or_fault p typing nodes root h.links m v h.graph k)
  fault_is (IdleCycle n) (EndNode m) h k na nb = absurd (end_or_idle p typing nodes root m n k h)
  fault_is (IdleCycle n) (IdleCycle m) h k na nb = ap IdleCycle (idle_one p typing nodes root n m h k)
  fault_is (IdleCycle n) NotFitting h k na nb = absurd (never_or_idle p typing nodes root n k.0 h)
  fault_is NotFitting (Graph m v) h k na nb = absurd (good_or_fault p typing nodes root h.0.links m v h.0.graph k)
  fault_is NotFitting (EndNode m) h k na nb = absurd (never_or_end p typing nodes root m h.0 k)
  fault_is NotFitting (IdleCycle m) h k na nb = absurd (never_or_idle p typing nodes root m h.0 k)
  fault_is NotFitting NotFitting h k na nb = refl
  fault_is Memory b h k na nb = absurd (na refl)
  fault_is (Graph n w) Memory h k na nb = absurd (nb refl)
  fault_is (EndNode n) Memory h k na nb = absurd (nb refl)
  fault_is (IdleCycle n) Memory h k na nb = absurd (nb refl)
  fault_is NotFitting Memory h k na nb = absurd (nb refl)

  answer_one : (a b : Answer) → Checks a → Checks b → a ≢ Err Memory → b ≢ Err Memory → a ≡ b
  answer_one (Ok x) (Ok y) h k na nb = refl
  answer_one (Ok x) (Err b) h k na nb = absurd (never_or b h.0 h.1 k (λ e. nb (ap Err e)))
  answer_one (Err a) (Ok y) h k na nb = absurd (never_or a k.0 k.1 h (λ e. na (ap Err e)))
  answer_one (Err a) (Err b) h k na nb = ap Err (fault_is a b h k (λ e. na (ap Err e)) (λ e. nb (ap Err e)))

pub one_verdict : LoopsHaveOneVerdict
one_verdict p typing desc nodes given a b h k na nb = answer_one p typing desc nodes given a b h k na nb
