-- A certificate has one verdict: its items are asked one after another, and each holds or has one fault.
use Rattle.std.proofs.Common.{◌≡◌, ◌+◌, ◌∙◌, ◌⊎◌, ℕ, List, length, None, Some, Result, Ok, Err, inl, inr, refl, sym, ap, subst}
use Rattle.std.specs.Prelude.{◌≢◌}
use Rattle.std.proofs.lemmas.Option.{none-some}
use Rattle.jvm_values.proofs.Options.{some_is}
use Rattle.descent.specs.declared.faults.DescentFault.{DescentFault}
use Rattle.descent.specs.declared.faults.StepFault.TheVariants as proofs
use Rattle.descent.specs.declared.rules.PathRule.{PathRule}
use Rattle.descent.specs.Steps.{proof_fault}
use Rattle.term_graph.specs.declared.links.Link.{Link}
use Rattle.cert_check.specs.PathRulesPathFault.{PathFault}
use Rattle.cert_check.specs.PathRulesPathFault.TheVariants as paths
use Rattle.cert_check.specs.PathRulesAnswers.{Answers as HasRulesOr}
use Rattle.cert_check.specs.graph_check.declared.fault.What.{What}
use Rattle.cert_check.specs.graph_check.Good.{IsFault}
use Rattle.cert_check.specs.declared.refusal.Cause.{Cause}
use Rattle.cert_check.specs.declared.refusal.Cause.TheVariants.{Graph, Cuts, Path, Proof}
use Rattle.cert_check.specs.declared.refusal.Refusal.{Refusal}
use Rattle.cert_check.specs.declared.refusal.Refusal.TheVariants.{Item, Memory}
use Rattle.cert_check.specs.Valid.{Case, HasGoodGraph, AreCuts, HasPathRules, graph_item, Tells}
use Rattle.cert_verdict.specs.OneVerdict.{VerdictsAreOne}
use Rattle.cert_check.proofs.graph_check.OneGraph.{links_one, fault_one, good_or_fault}
use Rattle.cert_verdict.proofs.Rules.{path_rules_one, path_rules_or_fault, path_fault_one}

abbrev Verdict : Type 0
Verdict = Result (Unit {0}) Refusal

-- ---- items, one after another

-- an item gives one thing, or fails for one cause, and never both
record IsExact {A : Type 0} (Gives : A → Type 0) (Fails : ℕ → Cause → Type 0) : Type 0 where
  one : (a b : A) → Gives a → Gives b → a ≡ b
  apart : (a : A) (item : ℕ) (cause : Cause) → Gives a → Fails item cause → ⊥
  named : (i j : ℕ) (c d : Cause) → Fails i c → Fails j d → (i ≡ j) × (c ≡ d)

-- an item, and then the others
abbrev After : {A : Type 0} → (A → Type 0) → (ℕ → Cause → Type 0) → (A → Verdict → Type 0) → Verdict → Type 0
After {A} Gives Fails Next (Ok done) = (a : A) × (Gives a × Next a (Ok done))
After {A} Gives Fails Next (Err (Item item cause)) = Fails item cause ⊎ ((a : A) × (Gives a × Next a (Err (Item item cause))))
After Gives Fails Next (Err Memory) = Unit {0}

abbrev IsOne : (Verdict → Type 0) → Type 0
IsOne P = (r s : Verdict) → P r → P s → r ≢ Err Memory → s ≢ Err Memory → r ≡ s

module _ {A : Type 0} (Gives : A → Type 0) (Fails : ℕ → Cause → Type 0) (Next : A → Verdict → Type 0) (exact : IsExact Gives Fails)
    (next : (a : A) → Gives a → IsOne (Next a)) where
  both : (a b : A) (r s : Verdict) → Gives a → Gives b → Next a r → Next b s → r ≢ Err Memory → s ≢ Err Memory → r ≡ s
  both a b r s g h n m nr ns = next b h r s (subst (λ (c : A). Next c r) (exact.one a b g h) n) m nr ns

  after_one : IsOne (After Gives Fails Next)
  after_one (Ok x) (Ok y) h k nr ns = both h.0 k.0 (Ok x) (Ok y) h.1.0 k.1.0 h.1.1 k.1.1 nr ns
  after_one (Ok x) (Err (Item i c)) h (inl k) nr ns = absurd (exact.apart h.0 i c h.1.0 k)
  after_one (Ok x) (Err (Item i c)) h (inr k) nr ns = both h.0 k.0 (Ok x) (Err (Item i c)) h.1.0 k.1.0 h.1.1 k.1.1 nr ns
  after_one (Err (Item i c)) (Ok y) (inl h) k nr ns = absurd (exact.apart k.0 i c k.1.0 h)
  after_one (Err (Item i c)) (Ok y) (inr h) k nr ns = both h.0 k.0 (Err (Item i c)) (Ok y) h.1.0 k.1.0 h.1.1 k.1.1 nr ns
  after_one (Err (Item i c)) (Err (Item j d)) (inl h) (inl k) nr ns = let e = exact.named i j c d h k in λ t. Err (Item (e.0 t) (e.1 t))
  after_one (Err (Item i c)) (Err (Item j d)) (inl h) (inr k) nr ns = absurd (exact.apart k.0 i c k.1.0 h)
  after_one (Err (Item i c)) (Err (Item j d)) (inr h) (inl k) nr ns = absurd (exact.apart h.0 j d h.1.0 k)
  after_one (Err (Item i c)) (Err (Item j d)) (inr h) (inr k) nr ns = both h.0 k.0 (Err (Item i c)) (Err (Item j d)) h.1.0 k.1.0
      h.1.1 k.1.1 nr ns
  after_one (Ok x) (Err Memory) h k nr ns = absurd (ns refl)
  after_one (Err (Item i c)) (Err Memory) h k nr ns = absurd (ns refl)
  after_one (Err Memory) s h k nr ns = absurd (nr refl)

-- ---- the items of a certificate

module _ (case : Case) where
  abbrev GraphFails : ℕ → Cause → Type 0
  GraphFails item cause = (node : ℕ)
      × ((what : What) × (IsFault case.program case.typing case.nodes case.root node what
      × ((item ≡ graph_item node what) × (cause ≡ Graph what))))

  abbrev CutsFail : ℕ → Cause → Type 0
  CutsFail item cause = (AreCuts case → ⊥) × ((item ≡ 2 + length case.nodes) × (cause ≡ Cuts))

  abbrev PathsFail : List (List Link) → ℕ → Cause → Type 0
  PathsFail links item cause = (fault : PathFault)
      × (HasRulesOr case.nodes links case.cuts (Err fault)
      × ((fault ≡ paths.Memory → ⊥) × ((item ≡ 3 + length case.nodes) × (cause ≡ Path fault))))

  abbrev ProofFails : List PathRule → ℕ → Cause → Type 0
  ProofFails rules item cause = (step : ℕ)
      × ((fault : DescentFault)
      × ((proof_fault rules case.steps ≡ Some (proofs.At step fault)) × ((item ≡ 4 + length case.nodes + step) × (cause ≡ Proof fault))))

  abbrev WithProof : List PathRule → Verdict → Type 0
  WithProof rules = After {A = Unit {0}} (λ nothing. proof_fault rules case.steps ≡ None) (ProofFails rules)
      (λ nothing verdict. verdict ≡ Ok tt)

  abbrev WithPaths : List (List Link) → Verdict → Type 0
  WithPaths links = After {A = List PathRule} (HasPathRules case links) (PathsFail links) WithProof

  abbrev WithCuts : List (List Link) → Verdict → Type 0
  WithCuts links = After {A = Unit {0}} (λ nothing. AreCuts case) CutsFail (λ nothing. WithPaths links)

  abbrev Staged : Verdict → Type 0
  Staged = After {A = List (List Link)} (HasGoodGraph case) GraphFails WithCuts

  staged : (verdict : Verdict) → Tells case verdict → Staged verdict
  staged (Ok done) v = (v.links, (v.graph, (tt, (v.cuts, (v.rules, (v.paths, (tt, (v.proof, refl))))))))
  staged (Err (Item item (Graph what))) f = inl (f.node, (what, (f.fault, (f.item_is, refl))))
  staged (Err (Item item Cuts)) f = inr (f.links, (f.graph, inl (f.fails, (f.item_is, refl))))
  staged (Err (Item item (Path fault))) f = inr
      (f.links, (f.graph, inr (tt, (f.cuts, inl (fault, (f.fails, (f.known, (f.item_is, refl))))))))
  staged (Err (Item item (Proof fault))) f = inr
      (f.links, (f.graph, inr (tt, (f.cuts, inr (f.rules, (f.paths, inl (f.step, (fault, (f.fails, (f.item_is, refl))))))))))
  staged (Err Memory) f = tt

  -- ---- each is exact

  proof_exact : (rules : List PathRule) → IsExact {A = Unit {0}} (λ nothing. proof_fault rules case.steps ≡ None) (ProofFails rules)
  proof_exact rules = record {
    one = λ a b h k. refl;
    apart = λ nothing item cause h f. none-some (proofs.At f.0 f.1.0) (sym h ∙ f.1.1.0);
    named = λ i j c d f g.
        let same : proofs.At f.0 f.1.0 ≡ proofs.At g.0 g.1.0 = some_is (sym f.1.1.0 ∙ g.1.1.0) in
        let step : f.0 ≡ g.0 = cc in
        let fault : f.1.0 ≡ g.1.0 = cc in
        (f.1.1.1.0 ∙ (ap (λ (n : ℕ). 4 + length case.nodes + n) step ∙ sym g.1.1.1.0), f.1.1.1.1 ∙ (ap Proof fault ∙ sym g.1.1.1.1));
  }

  paths_exact : (links : List (List Link)) → IsExact (HasPathRules case links) (PathsFail links)
  paths_exact links = record {
    one = path_rules_one case.nodes links case.cuts;
    apart = λ rules item cause h f. path_rules_or_fault case.nodes links case.cuts rules f.0 f.1.1.0 h f.1.0;
    named = λ i j c d f g.
        let fault = path_fault_one case.nodes links case.cuts f.0 g.0 f.1.1.0 g.1.1.0 f.1.0 g.1.0 in
        (f.1.1.1.0 ∙ sym g.1.1.1.0, f.1.1.1.1 ∙ (ap Path fault ∙ sym g.1.1.1.1));
  }

  cuts_exact : IsExact {A = Unit {0}} (λ nothing. AreCuts case) CutsFail
  cuts_exact = record {
    one = λ a b h k. refl;
    apart = λ nothing item cause h f. f.0 h;
    named = λ i j c d f g. (f.1.0 ∙ sym g.1.0, f.1.1 ∙ sym g.1.1);
  }

  graph_exact : IsExact (HasGoodGraph case) GraphFails
  graph_exact = record {
    one = links_one case.program case.typing case.nodes case.root;
    apart = λ links item cause h f. good_or_fault case.program case.typing case.nodes case.root links f.0 f.1.0 h f.1.1.0;
    named = λ i j c d f g.
        let e = fault_one case.program case.typing case.nodes case.root f.0 g.0 f.1.0 g.1.0 f.1.1.0 g.1.1.0 in
        let item : graph_item f.0 f.1.0 ≡ graph_item g.0 g.1.0 = λ t. graph_item (e.0 t) (e.1 t) in
        (f.1.1.1.0 ∙ (item ∙ sym g.1.1.1.0), f.1.1.1.1 ∙ (ap Graph e.1 ∙ sym g.1.1.1.1));
  }

  staged_one : IsOne Staged
  staged_one =
      after_one (HasGoodGraph case) GraphFails WithCuts graph_exact (λ links graph.
      after_one {A = Unit {0}} (λ nothing. AreCuts case) CutsFail (λ nothing. WithPaths links) cuts_exact (λ nothing cuts.
      after_one (HasPathRules case links) (PathsFail links) WithProof (paths_exact links) (λ rules are.
      after_one {A = Unit {0}} (λ nothing. proof_fault rules case.steps ≡ None) (ProofFails rules)
      (λ nothing verdict. verdict ≡ Ok tt) (proof_exact rules) (λ nothing closed r s h k nr ns. h ∙ sym k))))

-- ---- the law

pub verdicts_one : VerdictsAreOne
verdicts_one case a b g h na nb = staged_one case a b (staged case a g) (staged case b h) na nb
