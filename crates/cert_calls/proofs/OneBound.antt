-- Beside a valid certificate bytes give one bound, or one thing is first in their way, and never both.
use Rattle.std.proofs.Common.{◌≡◌, ◌⊎◌, ◌∙◌, inl, inr, ℕ, ◌≤◌, Bool, true, false, List, Option, None, Some, Result, Ok, Err, refl, sym, ap, subst}
use Rattle.std.proofs.Common.{arith}
use Rattle.std.specs.Prelude.{IsTrue}
use Rattle.std.proofs.lemmas.Option.{none-some}
use Rattle.list_views.proofs.Options.{one_answer}
use Rattle.serde_json.specs.Data.{Data}
use Rattle.json_view.specs.Answers.{Reads}
use Rattle.json_view.specs.Located.{root_of}
use Rattle.json_view.specs.declared.fault.JsonFault.{JsonFault}
use Rattle.json_view.specs.declared.fault.JsonFault.TheVariants as json
use Rattle.input_text.specs.Answers.{Reader, SaysOf}
use Rattle.descent.specs.declared.rules.PathRule.{PathRule}
use Rattle.term_graph.specs.declared.links.Link.{Link}
use Rattle.cert_check.proofs.graph_check.OneGraph.{links_one}
use Rattle.path_rules.specs.Answers.{Answers as HasRulesOr}
use Rattle.cert_check.specs.Valid.{Case, IsValid}
use Rattle.check_call.proofs.CertVerdictRules.{path_rules_one}
use Rattle.bound_text.specs.declared.texts.BoundText.{BoundText}
use Rattle.bound_text.specs.Texts.{bound_text_of}
use Rattle.bound_check.specs.declared.bound.Bound.{Bound}
use Rattle.bound_check.specs.declared.bound.RootForm.{RootForm}
use Rattle.bound_check.specs.declared.fault.BoundFault.{BoundFault}
use Rattle.bound_check.specs.declared.fault.BoundFault.TheVariants as faults
use Rattle.bound_check.specs.declared.refusal.BoundRefusal.{BoundRefusal}
use Rattle.bound_check.specs.declared.refusal.BoundRefusal.TheVariants.{NoText, Faulty}
use Rattle.bound_check.specs.Entries.{bound_fault}
use Rattle.bound_check.specs.Bounds.{IsBound, terms_from}
use Rattle.bound_check.specs.Answers.{IsAnswered, SaysNone, IsFaulty, Bounded}

-- ---- texts

said_one : {A : Type 0} (reader : Reader A) (bytes : List ℕ) (a b : Result A JsonFault) → SaysOf reader bytes a
    → SaysOf reader bytes b → a ≡ b
said_one reader bytes a b h k =
    let same : h.0 ≡ k.0 = one_answer _ h.0 k.0 h.1.0.1 k.1.0.1 in
    sym h.1.1 ∙ ap (λ (v : Data). reader (root_of v)) same ∙ k.1.1

text_one : (bytes : List ℕ) (s t : BoundText) → SaysOf bound_text_of bytes (Ok s) → SaysOf bound_text_of bytes (Ok t) → s ≡ t
text_one bytes s t h k =
    let e : Ok s ≡ Ok t = said_one bound_text_of bytes (Ok s) (Ok t) h k in
    cc

-- the bytes are no JSON, or their value has this fault
abbrev NoneAs : List ℕ → JsonFault → Type 0
NoneAs bytes fault = ((fault ≡ json.NotJson) × ((value : Data) → Reads bytes value → ⊥)) ⊎ SaysOf bound_text_of bytes (Err fault)

none_as : (bytes : List ℕ) (fault : JsonFault) → SaysNone bytes fault → NoneAs bytes fault
none_as bytes json.NotJson h = inl (refl, h)
none_as bytes (json.WrongKind place) h = inr h
none_as bytes (json.MissingField place) h = inr h
none_as bytes (json.UnknownField place) h = inr h
none_as bytes (json.OutOfRange place) h = inr h
none_as bytes json.Memory h = absurd h

no_text_one : (bytes : List ℕ) (f g : JsonFault) → NoneAs bytes f → NoneAs bytes g → f ≡ g
no_text_one bytes f g (inl h) (inl k) = h.0 ∙ sym k.0
no_text_one bytes f g (inl h) (inr k) = absurd (h.1 k.0 k.1.0)
no_text_one bytes f g (inr h) (inl k) = absurd (k.1 h.0 h.1.0)
no_text_one bytes f g (inr h) (inr k) =
    let e : ◌≡◌ {A = Result BoundText JsonFault} (Err f) (Err g) = said_one bound_text_of bytes (Err f) (Err g) h k in
    cc

text_or_none : (bytes : List ℕ) (text : BoundText) (fault : JsonFault) → SaysOf bound_text_of bytes (Ok text) → NoneAs bytes fault → ⊥
text_or_none bytes text fault says (inl h) = h.1 says.0 says.1.0
text_or_none bytes text fault says (inr h) =
    let e : Ok text ≡ Err fault = said_one bound_text_of bytes (Ok text) (Err fault) says h in
    cc

-- ---- what is asked of entries

module _ (case : Case) where
  same_links : (v w : IsValid case) → v.links ≡ w.links
  same_links v w = links_one case.program case.typing case.nodes case.root v.links w.links v.graph w.graph

  same_rules : (v w : IsValid case) → v.rules ≡ w.rules
  same_rules v w = path_rules_one case.nodes w.links case.cuts v.rules w.rules
      (subst (λ (ls : List (List Link)). HasRulesOr case.nodes ls case.cuts (Ok v.rules)) (same_links v w) v.paths) w.paths

  -- the first fault is one
  fault_same : (v w : IsValid case) (s t : BoundText) → s ≡ t → bound_fault v.rules case.steps s.ranks ≡ bound_fault w.rules case.steps t.ranks
  fault_same v w s t e =
      ap (λ (rules : List PathRule). bound_fault rules case.steps s.ranks) (same_rules v w)
      ∙ ap (λ (x : BoundText). bound_fault w.rules case.steps x.ranks) e

-- ---- bounds

truths_same : (a b : Bool) → (IsTrue a → IsTrue b) → (IsTrue b → IsTrue a) → a ≡ b
truths_same true true f g = refl
truths_same false false f g = refl
truths_same true false f g = sym (f refl)
truths_same false true f g = g refl

by_parts : (a b : Bound) → a.steps ≡ b.steps → a.constant ≡ b.constant → a.terms ≡ b.terms → a ≡ b
by_parts a b s c t =
    ap (λ (x : ℕ). record { steps = x; constant = a.constant; terms = a.terms }) s
    ∙ (ap (λ (x : ℕ). record { steps = b.steps; constant = x; terms = a.terms }) c
    ∙ ap (λ (x : List (ℕ × RootForm)). record { steps = b.steps; constant = b.constant; terms = x }) t)

module _ (case : Case) (bytes : List ℕ) where
  -- by the same links and entries
  bound_of : (links : List (List Link)) (text : BoundText) (a b : Bound)
      → IsBound case.nodes links case.cuts case.root case.steps text.ranks a
      → IsBound case.nodes links case.cuts case.root case.steps text.ranks b → a ≡ b
  bound_of links text a b h k =
      let up = h.most.least b.steps k.most.enough in
      let down = k.most.least a.steps h.most.enough in
      let agree : (id : ℕ) → h.sized id ≡ k.sized id = λ id. truths_same (h.sized id) (k.sized id)
      (λ e. (k.are_sized id).1 ((h.are_sized id).0 e)) (λ e. (h.are_sized id).1 ((k.are_sized id).0 e)) in
      let sized : h.sized ≡ k.sized = λ i id. agree id i in
      by_parts a b (omega (arith, up, down)) (h.constant ∙ sym k.constant)
      (h.terms ∙ (ap (λ (s : ℕ → Bool). terms_from case.root s case.steps text.ranks 0 case.steps) sized ∙ sym k.terms))

  pub bound_one : (a b : Bound) → IsAnswered case bytes (Ok a) → IsAnswered case bytes (Ok b) → a ≡ b
  bound_one a b h k =
      let links = same_links case h.valid k.valid in
      let text = text_one bytes h.text k.text h.says k.says in
      bound_of k.valid.links k.text a b
      (subst (λ (ls : List (List Link)). IsBound case.nodes ls case.cuts case.root case.steps k.text.ranks a) links
      (subst (λ (t : BoundText). IsBound case.nodes h.valid.links case.cuts case.root case.steps t.ranks a) text h.bounds.1)) k.bounds.1

  -- ---- refusals

  record HasFault (fault : BoundFault) : Type 0 where
    pub valid : IsValid case
    pub text : BoundText
    pub says : SaysOf bound_text_of bytes (Ok text)
    pub is : bound_fault valid.rules case.steps text.ranks ≡ Some fault

  has_fault : (fault : BoundFault) → IsFaulty case bytes fault → HasFault fault
  has_fault (faults.NotRank entry step) h = record { valid = h.valid; text = h.text; says = h.says; is = h.bounds }
  has_fault (faults.BadList entry) h = record { valid = h.valid; text = h.text; says = h.says; is = h.bounds }
  has_fault (faults.Lin entry fault) h = record { valid = h.valid; text = h.text; says = h.says; is = h.bounds }
  has_fault (faults.NotWeak entry rule) h = record { valid = h.valid; text = h.text; says = h.says; is = h.bounds }
  has_fault (faults.Missing step) h = record { valid = h.valid; text = h.text; says = h.says; is = h.bounds }
  has_fault faults.Memory h = absurd h

  fault_one : (f g : BoundFault) → HasFault f → HasFault g → f ≡ g
  fault_one f g h k =
      let text = text_one bytes h.text k.text h.says k.says in
      one_answer _ f g h.is (fault_same case h.valid k.valid h.text k.text text ∙ k.is)

  pub refusal_one : (r s : BoundRefusal) → Bounded case bytes (Ok (Err r)) → Bounded case bytes (Ok (Err s)) → r ≡ s
  refusal_one (NoText f) (NoText g) h k = ap NoText (no_text_one bytes f g (none_as bytes f h.1) (none_as bytes g k.1))
  refusal_one (NoText f) (Faulty g) h k =
      let has = has_fault g k in
      absurd (text_or_none bytes has.text f has.says (none_as bytes f h.1))
  refusal_one (Faulty f) (NoText g) h k =
      let has = has_fault f h in
      absurd (text_or_none bytes has.text g has.says (none_as bytes g k.1))
  refusal_one (Faulty f) (Faulty g) h k = ap Faulty (fault_one f g (has_fault f h) (has_fault g k))

  pub bound_or_refusal : (bound : Bound) (refusal : BoundRefusal) → IsAnswered case bytes (Ok bound)
      → Bounded case bytes (Ok (Err refusal)) → ⊥
  bound_or_refusal bound (NoText fault) h k = text_or_none bytes h.text fault h.says (none_as bytes fault k.1)
  bound_or_refusal bound (Faulty fault) h k =
      let has = has_fault fault k in
      let text = text_one bytes h.text has.text h.says has.says in
      none-some fault (sym h.bounds.0 ∙ (fault_same case h.valid has.valid h.text has.text text ∙ has.is))
