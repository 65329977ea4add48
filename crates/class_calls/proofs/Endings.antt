-- A run of so many steps ends in one way.
use Rattle.std.proofs.Common.{◌≡◌, ℕ, zero, suc, ◌+◌, ◌-◌, ◌<◌, ◌≤◌, arith, Option, refl, sym, ap, ◌∙◌, subst}
use Rattle.list_views.proofs.Orders.{neither_below}
use Rattle.jvm_values.specs.declared.heap.Value.{Value}
use Rattle.jvm_values.specs.States.{MachineState}
use Rattle.class_program.specs.Programs.{Program}
use Rattle.jvm_step.specs.Running.{Step, step, step_on, run}
use Rattle.jvm_run.specs.declared.ended.Ended.{Ended}
use Rattle.jvm_run.specs.declared.ended.Ended.TheVariants as ends
use Rattle.jvm_run.specs.Runs.{EndsAs}

module _ (p : Program) (first : MachineState) where
  step_of : (count : ℕ) (s : MachineState) → run p count first ≡ Step.Going s → run p (suc count) first ≡ step p s
  unfolding step_on
  step_of count s e = ap (step_on p) e

  -- what has ended stays
  stays : (x : Step) → step_on p x ≡ x → (count more : ℕ) → run p count first ≡ x → run p (more + count) first ≡ x
  stays x fixed count zero e =
      let same : count ≡ zero + count = omega arith in
      subst (λ (n : ℕ). run p n first ≡ x) same e
  stays x fixed count (suc more) e =
      let same : suc (more + count) ≡ suc more + count = omega arith in
      subst (λ (n : ℕ). run p n first ≡ x) same (ap (step_on p) (stays x fixed count more e) ∙ fixed)

  later : (x : Step) → step_on p x ≡ x → (m n : ℕ) → m ≤ n → run p m first ≡ x → run p n first ≡ x
  later x fixed m n l e =
      let same : (n - m) + m ≡ n = omega (arith, l) in
      subst (λ (k : ℕ). run p k first ≡ x) same (stays x fixed m (n - m) e)

  returned_stays : (value : Option Value) → step_on p (Step.Returned value) ≡ Step.Returned value
  unfolding step_on
  returned_stays value = refl

  threw_stays : (r : ℕ) → step_on p (Step.Threw r) ≡ Step.Threw r
  unfolding step_on
  threw_stays r = refl

  -- the last steps of two runs that end are the same
  no_longer : (x : Step) → step_on p x ≡ x → (a b : ℕ) (s t : MachineState) → run p a first ≡ Step.Going s → step p s ≡ x
      → run p b first ≡ Step.Going t → ((k : MachineState) → x ≡ Step.Going k → ⊥) → a < b → ⊥
  no_longer x fixed a b s t e end f apart l =
      apart t (sym (later x fixed (suc a) b (omega (arith, l)) (step_of a s e ∙ end)) ∙ f)

  last_one : (x y : Step) → step_on p x ≡ x → step_on p y ≡ y → (a b : ℕ) (s t : MachineState) → run p a first ≡ Step.Going s
      → step p s ≡ x → run p b first ≡ Step.Going t → step p t ≡ y → ((k : MachineState) → x ≡ Step.Going k → ⊥)
      → ((k : MachineState) → y ≡ Step.Going k → ⊥) → s ≡ t
  last_one x y fx fy a b s t e end f stop nx ny =
      let same = neither_below a b (no_longer x fx a b s t e end f nx) (no_longer y fy b a t s f stop e ny) in
      let there : Step.Going s ≡ Step.Going t = sym e ∙ ap (λ (n : ℕ). run p n first) same ∙ f in
      cc

  -- the result of all steps
  abbrev result_of : Ended → MachineState → Step
  result_of ends.Out last = Step.Going last
  result_of (ends.Returned value) last = Step.Returned value
  result_of (ends.Threw r) last = Step.Threw r

  results : (fuel : ℕ) (ended : Ended) (last : MachineState) → EndsAs p first fuel ended last → run p fuel first ≡ result_of ended last
  results fuel ends.Out last h = h
  results fuel (ends.Returned value) last h =
      later (Step.Returned value) (returned_stays value) (suc h.0.0) fuel (omega (arith, h.0.1)) (step_of h.0.0 last h.0.2 ∙ h.1)
  results fuel (ends.Threw r) last h =
      later (Step.Threw r) (threw_stays r) (suc h.0.0) fuel (omega (arith, h.0.1)) (step_of h.0.0 last h.0.2 ∙ h.1)

  ended_one : (a b : Ended) (s t : MachineState) → result_of a s ≡ result_of b t → a ≡ b
  ended_one ends.Out ends.Out s t e = refl
  ended_one ends.Out (ends.Returned value) s t e = absurd (cc)
  ended_one ends.Out (ends.Threw r) s t e = absurd (cc)
  ended_one (ends.Returned value) ends.Out s t e = absurd (cc)
  ended_one (ends.Returned value) (ends.Returned other) s t e = let same : value ≡ other = cc in ap ends.Returned same
  ended_one (ends.Returned value) (ends.Threw r) s t e = absurd (cc)
  ended_one (ends.Threw r) ends.Out s t e = absurd (cc)
  ended_one (ends.Threw r) (ends.Returned value) s t e = absurd (cc)
  ended_one (ends.Threw r) (ends.Threw other) s t e = let same : r ≡ other = cc in ap ends.Threw same

  left_one : (fuel : ℕ) (ended : Ended) (s t : MachineState) → EndsAs p first fuel ended s → EndsAs p first fuel ended t → s ≡ t
  left_one fuel ends.Out s t h k = let e : Step.Going s ≡ Step.Going t = sym h ∙ k in cc
  left_one fuel (ends.Returned value) s t h k =
      last_one (Step.Returned value) (Step.Returned value) (returned_stays value) (returned_stays value) h.0.0 k.0.0 s t h.0.2 h.1
      k.0.2 k.1 (λ n e. cc) (λ n e. cc)
  left_one fuel (ends.Threw r) s t h k =
      last_one (Step.Threw r) (Step.Threw r) (threw_stays r) (threw_stays r) h.0.0 k.0.0 s t h.0.2 h.1 k.0.2 k.1 (λ n e. cc) (λ n e. cc)

  -- one way, and one state
  pub ends_one : (fuel : ℕ) (a b : Ended) (s t : MachineState) → EndsAs p first fuel a s → EndsAs p first fuel b t → (a ≡ b) × (s ≡ t)
  ends_one fuel a b s t h k =
      let same = ended_one a b s t (sym (results fuel a s h) ∙ results fuel b t k) in
      (same, left_one fuel b s t (subst (λ (e : Ended). EndsAs p first fuel e s) same h) k)
