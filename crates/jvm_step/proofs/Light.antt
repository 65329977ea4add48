-- Where a call of the machine wants memory, its step makes an object or a frame, or leaves a stack that is too long.
use Rattle.std.proofs.Common.{◌≡◌, ℕ, zero, suc, ◌<◌, ◌≤◌, ◌⊎◌, inl, inr, List, [], ◌∷◌, ◌++◌, length, get_or, map, take, drop}
use Rattle.std.proofs.Common.{reverse, Option, Some, None, Result, Ok, Err, refl, sym, ap, subst, ◌∙◌, arith}
use Rattle.std.specs.Prelude.{All, IsOk, OnErr, slice_get, unwrap_or}
use Rattle.std.specs.List.{find}
use Rattle.std.specs.Option.{option_and_then, option_map}
use Rattle.list_views.proofs.Options.{then_some}
use Rattle.jvm_values.specs.declared.heap.Value.{Value}
use Rattle.jvm_values.specs.declared.heap.Value.TheVariants as values
use Rattle.jvm_values.specs.declared.heap.Heap.{Heap}
use Rattle.jvm_values.specs.declared.state.Frame.{Frame}
use Rattle.jvm_values.specs.declared.state.Mode.{Mode}
use Rattle.jvm_values.specs.declared.state.Mode.TheVariants.{Normal}
use Rattle.jvm_values.specs.States.{MachineFrame, MachineState, frame_of}
use Rattle.class_program.specs.declared.op.Op.{Op}
use Rattle.class_program.specs.declared.program.CatchRange.{CatchRange}
use Rattle.class_program.specs.declared.program.Method.{Method}
use Rattle.class_program.specs.Instructions.{instruction_at}
use Rattle.class_program.specs.Programs.{Program, insn_at}
use Rattle.op_forms.specs.Forms.{Form}
use Rattle.jvm_step.specs.declared.after.After.{After}
use Rattle.jvm_step.specs.declared.after.After.TheVariants as afters
use Rattle.jvm_step.specs.declared.outcome.Outcome.{Outcome}
use Rattle.jvm_step.specs.Acts.{Did, Acts}
use Rattle.jvm_step.specs.Effects.{Effect, effect_on}
use Rattle.jvm_step.specs.Table.{Work, effect_of}
use Rattle.jvm_step.specs.Running.{Step, work_of, applied, normal_step, throwing_step, handled, goes_on, entered, invokes, returns}
use Rattle.jvm_step.specs.Running.{with_result}
use Rattle.jvm_step.specs.Steps.{HasRoom, MayFail, work_seen, with_work, effect_in, applied_in, left_to_do, IsRunning, handler_in}
use Rattle.jvm_step.specs.Steps.{handled_in}
use Rattle.jvm_step.specs.Memory.{IsShort, IsLight, TakesNone, Wants, WantsIn, CallerLacks, TopLacks, CatchLacks}
use Rattle.jvm_step.proofs.Applied.{behind, place_in}
use Rattle.jvm_step.proofs.Handlers.{throwing_is}
use Rattle.jvm_step.proofs.NormalSteps.{normal_is}
use Rattle.jvm_step.proofs.Wanted.{more_objects}

pub lacks_caller : (frames : List Frame) (caller : Frame) (value : Option Value) → 1 < length frames
    → caller ≡ get_or frames 1 caller → caller.stack.1 < length (with_result value caller.stack.0) → CallerLacks value frames
lacks_caller [] caller value l e h = absurd (omega (arith, l))
lacks_caller (frame ∷ []) caller value l e h = absurd (omega (arith, l))
lacks_caller (frame ∷ other ∷ below) caller value l e h = subst (λ (x : Frame). x.stack.1 < length (with_result value x.stack.0)) e h

pub lacks_top : (frames : List Frame) (frame : Frame) → 0 < length frames → frame ≡ get_or frames 0 frame → frame.stack.1 ≡ 0
    → TopLacks frames
lacks_top [] frame l e h = absurd (omega (arith, l))
lacks_top (first ∷ below) frame l e h = subst (λ (x : Frame). x.stack.1 ≡ 0) e h

pub wants_in : {A E : Type 0} (p : Program) (m : Method) (form : Form) (statics : List Value) (heap : Heap) (frames : List Frame)
    (frame : Frame) (result : Result A E) → 0 < length frames → frame ≡ get_or frames 0 frame
    → OnErr result (Wants frame.stack.1 (work_seen frame statics heap) (effect_of p m form (work_seen frame statics heap)))
    → OnErr result (WantsIn p m form statics heap frames)
wants_in p m form statics heap [] frame result l e h = absurd (omega (arith, l))
wants_in p m form statics heap (first ∷ below) frame result l e h = subst
    (λ (x : Frame). OnErr result (Wants x.stack.1 (work_seen x statics heap) (effect_of p m form (work_seen x statics heap)))) e h

-- a frame whose method says more than its room holds
too_long : (methods : List Method) (frame : Frame) (after : MachineFrame) (m : Method) → slice_get methods frame.method ≡ Some m
    → after.method ≡ frame.method → HasRoom methods frame → IsShort methods after → frame.stack.1 < length after.stack → ⊥
too_long methods frame after m s e room short l =
    let most : length after.stack ≤ m.max_stack = short m (ap (slice_get methods) e ∙ s) in
    let has : m.max_stack ≤ frame.stack.1 = room m s in
    omega (arith, most, has, l)

first_short : (methods : List Method) (frame : MachineFrame) (below : List MachineFrame) → All (IsShort methods) (frame ∷ below)
    → IsShort methods frame
first_short methods frame below h = h 0 frame (omega arith)

first_room : (methods : List Method) (frame : Frame) (below : List Frame) → All (HasRoom methods) (frame ∷ below) → HasRoom methods frame
first_room methods frame below h = h 0 frame (omega arith)

second_room : (methods : List Method) (frame caller : Frame) (below : List Frame) → All (HasRoom methods) (frame ∷ caller ∷ below)
    → HasRoom methods caller
second_room methods frame caller below h = h 1 caller (omega arith)

rooms_kept : (methods : List Method) (before left : List Frame) (s : MachineState) (step : Step)
    → (All (HasRoom methods) before → All (HasRoom methods) left) → TakesNone methods before s step → TakesNone methods left s step
rooms_kept methods before left s (Step.Going next) rooms t = record
    { room = rooms t.room; no_frame = t.no_frame; no_object = t.no_object; short = t.short }
rooms_kept methods before left s (Step.Returned value) rooms t = t
rooms_kept methods before left s (Step.Threw r) rooms t = t
rooms_kept methods before left s Step.Stuck rooms t = t

module _ (p : Program) (heap : Heap) (mode : Mode) (statics : List Value) where
  abbrev at : List MachineFrame → MachineState
  at frames = record { frames = frames; heap = heap; mode = mode; statics = statics }

  -- ---- steps that are not light

  heavier : (methods : List Method) (frames : List Frame) (old next : MachineState) → IsLight methods frames old next
      → length old.heap.objects < length next.heap.objects → ⊥
  heavier methods frames old next t l = let no : length next.heap.objects ≤ length old.heap.objects = t.no_object in omega (arith, no, l)

  invoked_by : (frames : List Frame) (frame caller : MachineFrame) (below : List MachineFrame) (objects : Heap)
      (others : List Value) (o : Option MachineFrame)
      → TakesNone p.methods frames (at (frame ∷ below))
      (unwrap_or (option_and_then
      (λ (begun : MachineFrame). Some
      (Step.Going (record { frames = begun ∷ caller ∷ below; heap = objects; mode = Normal; statics = others }))) o) Step.Stuck) → ⊥
  invoked_by frames frame caller below objects others None t = t
  invoked_by frames frame caller below objects others (Some begun) t =
      let no : suc (suc (length below)) ≤ suc (length below) = t.no_frame in
      omega (arith, no)

  invoked : (frames : List Frame) (frame : MachineFrame) (below : List MachineFrame) (number count : ℕ) (work : Work)
      → TakesNone p.methods frames (at (frame ∷ below)) (unwrap_or (invokes p below number count work) Step.Stuck) → ⊥
  unfolding invokes
  invoked frames frame below number count work t = invoked_by frames frame
      (record work.frame { stack = drop count work.frame.stack }) below work.heap work.statics
      (entered p number (reverse (take count work.frame.stack))) t

  raised : (frames : List Frame) (frame : MachineFrame) (below : List MachineFrame) (next : Option ℕ) (class : ℕ)
      → TakesNone p.methods frames (at (frame ∷ below))
      (unwrap_or (applied p below next (work_of (at (frame ∷ below)) frame) (Effect.Raise class)) Step.Stuck) → ⊥
  raised frames frame below next class t = heavier p.methods frames (at (frame ∷ below)) _ t (more_objects heap.objects _)

  next_wanted : (frame : Frame) (below : List Frame) (m : Method) (next : Option ℕ) (work : Work)
      → slice_get p.methods frame.method ≡ Some m → Wants frame.stack.1 (work_seen frame statics heap) (Some (Effect.Next work))
      → TakesNone p.methods (frame ∷ below) (at (map frame_of (frame ∷ below)))
      (unwrap_or (option_map (λ (place : ℕ). goes_on (map frame_of below) place work) next) Step.Stuck) → ⊥
  next_wanted frame below m None work s w t = t
  next_wanted frame below m (Some place) work s (inl l) t = heavier p.methods (frame ∷ below) _ _ t l
  next_wanted frame below m (Some place) work s (inr h) t = too_long p.methods frame (record work.frame { pc = place }) m s h.0
      (first_room p.methods frame below t.room) (first_short p.methods (record work.frame { pc = place }) (map frame_of below) t.short) h.1

  wanted : (frame : Frame) (below : List Frame) (m : Method) (next : Option ℕ) (e : Option (Effect Work))
      → slice_get p.methods frame.method ≡ Some m → Wants frame.stack.1 (work_seen frame statics heap) e
      → TakesNone p.methods (frame ∷ below) (at (map frame_of (frame ∷ below)))
      (unwrap_or (option_and_then
      (λ (x : Effect Work). applied p (map frame_of below) next (work_of (at (map frame_of (frame ∷ below))) (frame_of frame))
      x) e) Step.Stuck) → ⊥
  wanted frame below m next None s w t = t
  wanted frame below m next (Some (Effect.Next work)) s w t = next_wanted frame below m next work s w t
  wanted frame below m next (Some (Effect.Jump place work)) s w t = w
  wanted frame below m next (Some (Effect.Raise class)) s w t = raised (frame ∷ below) (frame_of frame) (map frame_of below) next class t
  wanted frame below m next (Some (Effect.Throw r)) s w t = w
  wanted frame below m next (Some (Effect.Invoke number count)) s w t = invoked (frame ∷ below) (frame_of frame)
      (map frame_of below) number count (work_seen frame statics heap) t
  wanted frame below m next (Some (Effect.Return value)) s w t = w

  -- ---- the running frame's instruction

  pub light_performs : (frames : List Frame) (m : Method) (form : Form) (next : Option ℕ)
      → IsRunning p (map frame_of frames) m form next → WantsIn p m form statics heap frames
      → TakesNone p.methods frames (at (map frame_of frames))
      (unwrap_or (normal_step p (at (map frame_of frames)) (map frame_of frames)) Step.Stuck) → ⊥
  light_performs [] m form next runs w t = absurd runs
  light_performs (frame ∷ below) m form next runs w t =
      let is = normal_is p heap mode statics (frame_of frame) (map frame_of below) m (Some (form, next)) runs.0 runs.1 in
      wanted frame below m next (effect_of p m form (work_seen frame statics heap)) runs.0 w
      (subst (λ (o : Option Step). TakesNone p.methods (frame ∷ below) (at (map frame_of (frame ∷ below)))
      (unwrap_or o Step.Stuck)) is t)

  -- ---- what is left to do after it

  same_light : (frames : List Frame) (frame : MachineFrame) (below : List MachineFrame) (next : Option ℕ) (e : Effect Work)
      (after : After) (mid : MachineState) → mid ≡ at (frame ∷ below) → left_to_do after (work_of (at (frame ∷ below)) frame) ≡ e
      → TakesNone p.methods frames (at (frame ∷ below))
      (unwrap_or (applied p below next (work_of (at (frame ∷ below)) frame) e) Step.Stuck)
      → TakesNone p.methods frames mid (applied_in p next after mid mid.frames)
  same_light frames frame below next e after mid is f t =
      let k : TakesNone p.methods frames (at (frame ∷ below)) (applied_in p next after (at (frame ∷ below)) (frame ∷ below)) = subst
      (λ (x : Effect Work). TakesNone p.methods frames (at (frame ∷ below))
      (unwrap_or (applied p below next (work_of (at (frame ∷ below)) frame) x) Step.Stuck)) (sym f) t in
      subst (λ (s : MachineState). TakesNone p.methods frames s (applied_in p next after s s.frames)) (sym is) k

  -- an effect that may fail when it is done is the same of the state as it was
  light_after : (frames : List Frame) (frame : MachineFrame) (below : List MachineFrame) (next : Option ℕ) (e : Effect Work)
      (after : After) (mid : MachineState) → MayFail after
      → Did (effect_on (with_work (at (frame ∷ below))) e) after (at (frame ∷ below)) mid
      → TakesNone p.methods frames (at (frame ∷ below))
      (unwrap_or (applied p below next (work_of (at (frame ∷ below)) frame) e) Step.Stuck)
      → TakesNone p.methods frames mid (applied_in p next after mid mid.frames)
  light_after frames frame below next e afters.Next mid f h t = absurd f
  light_after frames frame below next e (afters.Jump to) mid f h t = absurd f
  light_after frames frame below next e (afters.Throw r) mid f h t = absurd f
  light_after frames frame below next (Effect.Next x) (afters.Raise raised) mid f h t = absurd h
  light_after frames frame below next (Effect.Jump place x) (afters.Raise raised) mid f h t = absurd h
  light_after frames frame below next (Effect.Raise class) (afters.Raise raised) mid f h t = same_light frames frame below next
      (Effect.Raise class) (afters.Raise raised) mid h.1 (ap Effect.Raise h.0) t
  light_after frames frame below next (Effect.Throw r) (afters.Raise raised) mid f h t = absurd h
  light_after frames frame below next (Effect.Invoke number count) (afters.Raise raised) mid f h t = absurd h
  light_after frames frame below next (Effect.Return value) (afters.Raise raised) mid f h t = absurd h
  light_after frames frame below next (Effect.Next x) (afters.Invoke method taken) mid f h t = absurd h
  light_after frames frame below next (Effect.Jump place x) (afters.Invoke method taken) mid f h t = absurd h
  light_after frames frame below next (Effect.Raise class) (afters.Invoke method taken) mid f h t = absurd h
  light_after frames frame below next (Effect.Throw r) (afters.Invoke method taken) mid f h t = absurd h
  light_after frames frame below next (Effect.Invoke number count) (afters.Invoke method taken) mid f h t = same_light frames frame
      below next (Effect.Invoke number count) (afters.Invoke method taken) mid h.2 (ap (λ (q : ℕ). Effect.Invoke q taken) h.0
      ∙ ap (λ (q : ℕ). Effect.Invoke number q) h.1) t
  light_after frames frame below next (Effect.Return value) (afters.Invoke method taken) mid f h t = absurd h
  light_after frames frame below next (Effect.Next x) (afters.Return result) mid f h t = absurd h
  light_after frames frame below next (Effect.Jump place x) (afters.Return result) mid f h t = absurd h
  light_after frames frame below next (Effect.Raise class) (afters.Return result) mid f h t = absurd h
  light_after frames frame below next (Effect.Throw r) (afters.Return result) mid f h t = absurd h
  light_after frames frame below next (Effect.Invoke number count) (afters.Return result) mid f h t = absurd h
  light_after frames frame below next (Effect.Return value) (afters.Return result) mid f h t = same_light frames frame below next
      (Effect.Return value) (afters.Return result) mid h.1 (ap Effect.Return h.0) t

  light_acts : (frames : List Frame) (frame : MachineFrame) (below : List MachineFrame) (next : Option ℕ) (e : Option (Effect Work))
      (after : After) (mid : MachineState) → MayFail after
      → Acts (option_map (effect_on (with_work (at (frame ∷ below)))) e) after (at (frame ∷ below)) mid
      → TakesNone p.methods frames (at (frame ∷ below))
      (unwrap_or (option_and_then (λ (x : Effect Work). applied p below next (work_of (at (frame ∷ below)) frame) x) e) Step.Stuck)
      → TakesNone p.methods frames mid (applied_in p next after mid mid.frames)
  light_acts frames frame below next None after mid f a t = absurd t
  light_acts frames frame below next (Some e) after mid f a t = light_after frames frame below next e after mid f a t

  -- where what is left to do fails, the step was one that does it
  pub light_applies : {E : Type 0} (frames : List MachineFrame) (m : Method) (form : Form) (next : Option ℕ) (after : After)
      (mid : MachineState) (result : Result Outcome E) → IsRunning p frames m form next
      → Acts (effect_in p m form (at frames) frames) after (at frames) mid → (before left : List Frame)
      → (All (HasRoom p.methods) before → All (HasRoom p.methods) left) → OnErr result (MayFail after)
      → (TakesNone p.methods left mid (applied_in p next after mid mid.frames) → IsOk result)
      → TakesNone p.methods before (at frames) (unwrap_or (normal_step p (at frames) frames) Step.Stuck) → IsOk result
  light_applies [] m form next after mid result runs a before left rooms f k t = absurd runs
  light_applies (frame ∷ below) m form next after mid (Ok outcome) runs a before left rooms f k t = refl
  light_applies (frame ∷ below) m form next after mid (Err fault) runs a before left rooms f k t =
      let is = normal_is p heap mode statics frame below m (Some (form, next)) runs.0 runs.1 in
      let acts : TakesNone p.methods before mid (applied_in p next after mid mid.frames) = light_acts before frame below next
      (effect_of p m form (work_of (at (frame ∷ below)) frame)) after mid f a
      (subst (λ (o : Option Step). TakesNone p.methods before (at (frame ∷ below)) (unwrap_or o Step.Stuck)) is t) in
      k (rooms_kept p.methods before left mid (applied_in p next after mid mid.frames) rooms acts)

  -- what is left to do, said in another way
  pub as_said : (held : List Frame) (next : Option ℕ) (frames : List MachineFrame) (after said : After) → after ≡ said
      → TakesNone p.methods held (at frames) (applied_in p next after (at frames) frames)
      → TakesNone p.methods held (at frames) (applied_in p next said (at frames) frames)
  as_said held next frames after said e t = subst
      (λ (x : After). TakesNone p.methods held (at frames) (applied_in p next x (at frames) frames)) e t

  pub raise_heavy : (held : List Frame) (next : Option ℕ) (frames : List MachineFrame) (class : ℕ)
      → TakesNone p.methods held (at frames) (applied_in p next (afters.Raise class) (at frames) frames) → ⊥
  raise_heavy held next [] class t = t
  raise_heavy held next (frame ∷ below) class t = raised held frame below next class t

  pub call_heavy : (held : List Frame) (next : Option ℕ) (frames : List MachineFrame) (number count : ℕ)
      → TakesNone p.methods held (at frames) (applied_in p next (afters.Invoke number count) (at frames) frames) → ⊥
  call_heavy held next [] number count t = t
  call_heavy held next (frame ∷ below) number count t = invoked held frame below number count (work_of (at (frame ∷ below)) frame) t

  method_there : (number pc place : ℕ) → option_and_then (λ (x : Op × Option ℕ). x.1) (insn_at p.methods number pc) ≡ Some place
      → (m : Method) × (slice_get p.methods number ≡ Some m)
  unfolding insn_at
  method_there number pc place e =
      let here = then_some (λ (x : Op × Option ℕ). x.1)
      (option_and_then (λ (m : Method). instruction_at m.insns pc) (slice_get p.methods number)) place e in
      let found = then_some (λ (m : Method). instruction_at m.insns pc) (slice_get p.methods number) here.0 here.1.0 in
      (found.0, found.1.0)

  pub return_heavy : (next : Option ℕ) (frames : List Frame) (place : ℕ) (value : Option Value)
      → place_in p (map frame_of frames) ≡ Some place → CallerLacks value frames
      → TakesNone p.methods frames (at (map frame_of frames))
      (applied_in p next (afters.Return value) (at (map frame_of frames)) (map frame_of frames)) → ⊥
  unfolding returns
  return_heavy next [] place value s lacks t = lacks
  return_heavy next (frame ∷ []) place value s lacks t = lacks
  return_heavy next (frame ∷ caller ∷ below) place value s lacks t =
      let back : ℕ → Step = λ (q : ℕ). goes_on (map frame_of below) q
      (record { frame = record (frame_of caller) { stack = with_result value caller.stack.0 }; statics = statics; heap = heap }) in
      let light : TakesNone p.methods (frame ∷ caller ∷ below) (at (map frame_of (frame ∷ caller ∷ below))) (back place) = subst
      (λ (o : Option Step). TakesNone p.methods (frame ∷ caller ∷ below) (at (map frame_of (frame ∷ caller ∷ below)))
      (unwrap_or o Step.Stuck)) (behind (insn_at p.methods caller.method caller.pc) place back s) t in
      let found = method_there caller.method caller.pc place s in
      too_long p.methods caller (record (frame_of caller) { pc = place; stack = with_result value caller.stack.0 }) found.0 found.1
      refl (second_room p.methods frame caller below light.room)
      (first_short p.methods (record (frame_of caller) { pc = place; stack = with_result value caller.stack.0 })
      (map frame_of below) light.short) lacks

-- ---- throwing mode

handler_heavy : (p : Program) (s : MachineState) (r : ℕ) (frame : Frame) (below : List Frame) (m : Method) (range : CatchRange)
    → slice_get p.methods frame.method ≡ Some m → frame.stack.1 ≡ 0
    → TakesNone p.methods (frame ∷ below) s (handled s r (frame_of frame) (map frame_of below) (Some range)) → ⊥
handler_heavy p s r frame below m range there empty t =
    let short : 1 ≤ m.max_stack = first_short p.methods (record (frame_of frame) { pc = range.handler; stack = values.Ref r ∷ [] })
    (map frame_of below) t.short m there in
    let has : m.max_stack ≤ frame.stack.1 = first_room p.methods frame below t.room m there in
    omega (arith, short, has, empty)

pub catch_heavy : {E : Type 0} (p : Program) (s : MachineState) (r : ℕ) (frames : List Frame) (o : Option (Option CatchRange))
    (found : Option CatchRange) (result : Result Outcome E) → o ≡ handler_in p s r (map frame_of frames) → o ≡ Some found
    → OnErr result (CatchLacks found frames)
    → TakesNone p.methods frames s (unwrap_or (throwing_step p s r (map frame_of frames)) Step.Stuck) → IsOk result
unfolding handler_in
catch_heavy p s r frames o found (Ok outcome) e f lacks t = refl
catch_heavy p s r frames o None (Err fault) e f lacks t = absurd lacks
catch_heavy p s r [] o (Some range) (Err fault) e f lacks t = absurd lacks
catch_heavy p s r (frame ∷ below) o (Some range) (Err fault) e f lacks t =
    let is : throwing_step p s r (map frame_of (frame ∷ below)) ≡ Some
    (handled s r (frame_of frame) (map frame_of below) (Some range)) = throwing_is p s r (map frame_of (frame ∷ below))
    ∙ ap (option_map (λ (y : Option CatchRange). handled_in s r y (map frame_of (frame ∷ below)))) (sym e ∙ f) in
    let light : TakesNone p.methods (frame ∷ below) s (handled s r (frame_of frame) (map frame_of below) (Some range)) = subst
    (λ (x : Option Step). TakesNone p.methods (frame ∷ below) s (unwrap_or x Step.Stuck)) is t in
    let there = then_some _ (slice_get p.methods frame.method) (Some range) (sym e ∙ f) in
    absurd (handler_heavy p s r frame below there.0 range there.1.0 lacks light)
