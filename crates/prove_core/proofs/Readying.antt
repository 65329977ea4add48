-- A whole graph is such as the rules of paths take.
use Rattle.std.proofs.Common.{◌≡◌, ◌∙◌, inl, inr, ◌<◌, ◌≤◌, ◌==◌, ℕ, suc, true, false, List, [], ◌∷◌, length, Some, None, Ok, Err}
use Rattle.std.proofs.Common.{slice_get, refl, sym, ap, subst, arith}
use Rattle.std.proofs.lemmas.Bool.{or_cases, or_right, eqb-true, eq-eqb, false≢true}
use Rattle.std.proofs.lemmas.List.Folds.{list_any_at}
use Rattle.std.proofs.lemmas.Option.{slice_get_within, get_or_from_slice_get}
use Rattle.abs_cells.specs.AbstractStates.{AbstractState}
use Rattle.class_program.specs.Programs.{Program, IsClosed}
use Rattle.class_program.specs.Widths.{HasWidths}
use Rattle.frame_types.specs.Tables.{CodeTypes}
use Rattle.term_graph.specs.declared.links.Link.{Link}
use Rattle.term_graph.specs.declared.nodes.By.TheVariants.{Instance}
use Rattle.term_graph.specs.Graphs.{GraphNode}
use Rattle.code_verify.specs.Typings.{IsTypingOf}
use Rattle.graph_build.specs.Disciplined.{IsLeftAsDue}
use Rattle.graph_check.specs.Good.{GraphOk, IsFault}
use Rattle.graph_check.specs.declared.fault.What.{What}
use Rattle.graph_check.proofs.OneGraph.{good_or_fault}
use Rattle.graph_laws.specs.Laws.{DisciplinedGraphsAreGood, TreesAreCut, HasTargetsCut}
use Rattle.plan_links.specs.Laws.{LinksFit}
use Rattle.path_rules.specs.Conditions.{CutsRise, IsReady}
use Rattle.path_rules.specs.Paths.{is_cut}
use Rattle.cert_verdict.proofs.CertCheckPreparing.{prepared}
use Rattle.cert_verdict.specs.CertCheckParts.{case_of}
use Rattle.cert_verdict.specs.CertCheckValid.{IsValid}
use Rattle.chain_proofs.specs.declared.proving.LeftRule.{LeftRule}
use Rattle.chain_proofs.specs.Answers.{LeavesStuck}
use Rattle.chain_proofs.specs.Lean.{AreLean}
use Rattle.descent.specs.Conditions.{AreSteps}
use Rattle.descent.specs.declared.proof.ProofStep.{ProofStep}
use Rattle.descent.specs.Steps.{proof_fault}
use Rattle.descent.specs.declared.rules.PathRule.{PathRule}
use Rattle.path_rules.specs.Answers.{Answers as PathAnswers}
use Rattle.prove_core.specs.PlainRules.{GoodGraphRulesArePlain}
use Rattle.rank_forms.specs.Graphs.{ArePlainRules}
use Rattle.path_rules.specs.declared.fault.PathFault.TheVariants.{Uncut, TooManyPaths, TooManyRows}
use Rattle.prove_core.specs.Cuts.{is_instance_of, is_target, AreTargets}
use Rattle.prove_core.specs.Growth.{growth_of}
use Rattle.prove_core.specs.Heads.{is_head}
use Rattle.prove_core.specs.Reasons.{Aim, IsWhole, HasLongPaths, IsComponent}
use Rattle.prove_core.specs.Reasons.{aim_of}
use Rattle.prove_core.specs.inner.Words.{CanGrow, IsProved, IsGrownGraph}

-- ---- grown graphs

module _ (p : Program) (typing : ℕ → CodeTypes) (root : AbstractState) (nodes : List GraphNode)
    (grown : IsGrownGraph (aim_of p typing root) nodes) where
  -- a grown graph is good, so it has no fault
  pub never_faulty : (law : DisciplinedGraphsAreGood) → IsClosed p → HasWidths p → CanGrow p typing root → (number : ℕ) (what : What)
      → IsFault p typing nodes root number what → ⊥
  never_faulty law closed widths can number what fault =
      let good = law p typing (is_head p) root nodes closed widths can.typing_is can.grows grown.0 grown.1 in
      good_or_fault p typing nodes root good.0 number what good.1 fault

  -- of what a node is an instance is a node
  target_within : (n target : ℕ) (state : AbstractState) (entries : List (ℕ × ℕ))
      → IsLeftAsDue (growth_of p typing) nodes grown.0.parent n state (Instance target entries) → target < length nodes
  target_within n target state entries (inl m) = slice_get_within nodes target (record { state = m.other; by = m.is.by }) m.is.is
  target_within n target state entries (inr w) =
      slice_get_within nodes target (record { state = w.wide; by = w.is_wide.by }) w.is_wide.is

  targets_cut : (cuts : List ℕ) → AreTargets nodes cuts → HasTargetsCut nodes cuts
  targets_cut cuts are n target state entries is =
      let node : GraphNode = record { state = state; by = Instance target entries } in
      let within = target_within n target state entries (grown.0.by.each n state (Instance target entries) is) in
      let marked : is_target nodes target ≡ true = list_any_at (λ (other : GraphNode). is_instance_of target other.by) nodes n node
      (slice_get_within nodes n node is)
      (ap (λ (other : GraphNode). is_instance_of target other.by) (get_or_from_slice_get nodes n node node is)
      ∙ eq-eqb target target refl) in
      are.are target within ∙ or_right (target == 0) (is_target nodes target) marked

  -- each of its cycles has a cut
  pub never_uncut : (law : TreesAreCut) (links : List (List Link)) (cuts : List ℕ) (node : ℕ) → AreTargets nodes cuts
      → PathAnswers nodes links cuts (Err (Uncut node)) → ⊥
  never_uncut law links cuts node are h =
      law nodes grown.0.parent cuts grown.0.by.tree (targets_cut cuts are) node h.uncut

-- ---- what the rules of paths take

above_0 : (low : ℕ) (cuts : List ℕ) → 0 < low → CutsRise low cuts → is_cut cuts 0 ≡ true → ⊥
above_0 low [] p r h = false≢true h
above_0 low (cut ∷ cuts) p r h = elim (or_cases (cut == 0) (is_cut cuts 0) h) as (λ o. ⊥) [
  | inl e ↦ let same = eqb-true cut 0 e in omega (arith, same, p, r.0)
  | inr more ↦ above_0 (suc cut) cuts (omega arith) r.1 more
]

first_is_0 : (cuts : List ℕ) → CutsRise 0 cuts → is_cut cuts 0 ≡ true → slice_get cuts 0 ≡ Some 0
first_is_0 [] r h = absurd (false≢true h)
first_is_0 (cut ∷ cuts) r h = elim (or_cases (cut == 0) (is_cut cuts 0) h) as (λ o. Some cut ≡ Some 0) [
  | inl e ↦ ap Some (eqb-true cut 0 e)
  | inr more ↦ absurd (above_0 (suc cut) cuts (omega arith) r.1 more)
]

pub ready : (fit : LinksFit) (p : Program) (typing : ℕ → CodeTypes) (nodes : List GraphNode) (root : AbstractState)
    (links : List (List Link)) (cuts : List ℕ) → HasWidths p → IsTypingOf p typing → GraphOk p typing nodes root links
    → AreTargets nodes cuts → IsReady nodes links cuts
ready fit p typing nodes root links cuts widths typing_is graph are =
    let is = prepared fit p typing widths nodes root links typing_is graph in
    let some : 0 < length nodes = slice_get_within nodes 0 graph.rooted.node graph.rooted.is in
    record {
      states = is.states;
      nodes = is.nodes;
      first = first_is_0 cuts are.rise (are.are 0 some);
      rise = are.rise;
      cut_nodes = are.within;
    }

pub plain : (law : GoodGraphRulesArePlain) (fit : LinksFit) (p : Program) (typing : ℕ → CodeTypes) (nodes : List GraphNode)
    (root : AbstractState) (links : List (List Link)) (cuts : List ℕ) (rules : List PathRule) → HasWidths p
    → IsTypingOf p typing → GraphOk p typing nodes root links → AreTargets nodes cuts
    → PathAnswers nodes links cuts (Ok rules) → ArePlainRules rules
plain law fit p typing nodes root links cuts rules widths typing_is graph are answers =
    law p typing nodes root links cuts rules graph (ready fit p typing nodes root links cuts widths typing_is graph are) answers

pub whole : (p : Program) (typing : ℕ → CodeTypes) (root : AbstractState) (nodes : List GraphNode) (links : List (List Link))
    (cuts : List ℕ) → IsGrownGraph (aim_of p typing root) nodes → GraphOk p typing nodes root links → AreTargets nodes cuts
    → IsWhole (aim_of p typing root) nodes links cuts
whole p typing root nodes links cuts grown graph are = record { disciplined = grown.0; closed = grown.1; good = graph; targets = are }

valid : (p : Program) (typing : ℕ → CodeTypes) (root : AbstractState) (nodes : List GraphNode) (links : List (List Link))
    (cuts : List ℕ) (rules : List PathRule) (steps : List ProofStep) → IsWhole (aim_of p typing root) nodes links cuts
    → PathAnswers nodes links cuts (Ok rules) → proof_fault rules steps ≡ None → IsValid (case_of p typing root nodes cuts steps)
valid p typing root nodes links cuts rules steps h paths closed =
    let some : 0 < length nodes = slice_get_within nodes 0 h.good.rooted.node h.good.rooted.is in
    record {
      links = links;
      graph = h.good;
      cuts = record {
        first = first_is_0 cuts h.targets.rise (h.targets.are 0 some);
        rise = h.targets.rise;
        nodes = h.targets.within;
      };
      rules = rules;
      paths = paths;
      proof = closed;
    }

pub proved : (p : Program) (typing : ℕ → CodeTypes) (root : AbstractState) (nodes : List GraphNode) (links : List (List Link))
    (cuts : List ℕ) (rules : List PathRule) (steps : List ProofStep) → IsWhole (aim_of p typing root) nodes links cuts
    → PathAnswers nodes links cuts (Ok rules) → AreSteps steps → proof_fault rules steps ≡ None → AreLean rules steps
    → IsProved (aim_of p typing root) nodes cuts steps
proved p typing root nodes links cuts rules steps h paths limits closed lean = record {
  links = links;
  whole = h;
  valid = valid p typing root nodes links cuts rules steps h paths closed;
  rules = rules;
  paths = paths;
  closed = closed;
  limits = limits;
  lean = lean;
}

pub long_paths : (aim : Aim) (nodes : List GraphNode) (links : List (List Link)) (cuts : List ℕ) → IsWhole aim nodes links cuts
    → PathAnswers nodes links cuts (Err TooManyPaths)
    → (limit : ℕ) → length nodes ≤ limit → HasLongPaths aim limit nodes
long_paths aim nodes links cuts h fails limit few = record
    { few = few; links = links; cuts = cuts; whole = h; fault = TooManyPaths; fails = fails; long = tt }

pub long_rows : (aim : Aim) (nodes : List GraphNode) (links : List (List Link)) (cuts : List ℕ) (path : ℕ)
    → IsWhole aim nodes links cuts → PathAnswers nodes links cuts (Err (TooManyRows path))
    → (limit : ℕ) → length nodes ≤ limit → HasLongPaths aim limit nodes
long_rows aim nodes links cuts path h fails limit few = record
    { few = few; links = links; cuts = cuts; whole = h; fault = TooManyRows path; fails = fails; long = tt }

pub component : (aim : Aim) (nodes : List GraphNode) (links : List (List Link)) (cuts : List ℕ) (rules : List PathRule)
    (steps : List ProofStep) (left : List LeftRule) → IsWhole aim nodes links cuts → PathAnswers nodes links cuts (Ok rules)
    → LeavesStuck rules steps left → AreLean rules steps
    → (limit : ℕ) → length nodes ≤ limit → IsComponent aim limit nodes cuts steps left
component aim nodes links cuts rules steps left h paths stuck lean limit few = record
    { few = few; links = links; whole = h; rules = rules; paths = paths; lean = lean; stuck = stuck }

-- what is answered for a graph, its cuts and rules is so for those that are equal to them
pub moved : (nodes after : List GraphNode) (links : List (List Link)) (given cuts : List ℕ) (found rules : List PathRule)
    → after ≡ nodes → given ≡ cuts → rules ≡ found → PathAnswers nodes links given (Ok found) → PathAnswers after links cuts (Ok rules)
moved nodes after links given cuts found rules e f r h =
    subst (λ (ns : List GraphNode). PathAnswers ns links cuts (Ok rules)) (sym e)
    (subst (λ (cs : List ℕ). PathAnswers nodes links cs (Ok rules)) f
    (subst (λ (rs : List PathRule). PathAnswers nodes links given (Ok rs)) (sym r) h))
