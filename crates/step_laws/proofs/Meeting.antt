-- Where a good state and a typed state of the machine that fits it stand, in normal mode: the plan is the row of the form, after the test of its operands.
use Rattle.std.proofs.Common.{◌≡◌, ◌∙◌, ◌<◌, inl, inr, ℕ, zero, suc, Bool, true, List, [], ◌∷◌, length, map, Option, Some, None}
use Rattle.std.proofs.Common.{slice_get, refl, sym, ap, subst}
use Rattle.std.specs.Prelude.{All, zip, take, reverse}
use Rattle.std.specs.List.{AllZip, AllByRecursion}
use Rattle.std.specs.Option.{option_map_or}
use Rattle.std.proofs.lemmas.List.{reverse-append}
use Rattle.std.proofs.lemmas.List.Elements.{All-nil, All-cons, All-head, All-tail, All-take, All-push}
use Rattle.std.proofs.lemmas.Option.{none-some, slice_get_within}
use Rattle.jvm_values.specs.declared.heap.Value.{Value}
use Rattle.jvm_values.specs.declared.state.Mode.{Mode}
use Rattle.jvm_values.specs.declared.state.Mode.TheVariants.{Normal, Throwing}
use Rattle.jvm_values.specs.declared.typing.PlaceType.{PlaceType}
use Rattle.jvm_values.specs.declared.typing.PlaceType.TheVariants as places
use Rattle.jvm_values.specs.Heaps.{target, IsInHeap}
use Rattle.jvm_values.specs.States.{MachineFrame, MachineState, PlaceTypes}
use Rattle.jvm_values.specs.TypedHeaps.{WorldTypes, IsTypedHeap}
use Rattle.jvm_values.proofs.Options.{some_is}
use Rattle.jvm_values.proofs.Typed.{closed as closed_heap}
use Rattle.abs_cells.specs.declared.cells.Cell.{Cell}
use Rattle.abs_cells.specs.declared.cells.Cell.TheVariants as cells
use Rattle.abs_cells.specs.AbstractStates.{AbstractFrame, AbstractState}
use Rattle.abs_cells.specs.Cells.{is_int, HasCell}
use Rattle.abs_cells.specs.Fits.{Meaning, FitsFrame, FitsMode, with_statics, Describes, Fits, IsClosedState}
use Rattle.class_world.specs.lemmas.WorldLaws.{world_laws}
use Rattle.class_world.specs.WorldTypes.{types_of}
use Rattle.class_world.proofs.BuiltInLaws.{built_ins_known}
use Rattle.jvm_step.specs.class_program.declared.op.Op.{Op}
use Rattle.jvm_step.specs.class_program.declared.program.Method.{Method}
use Rattle.jvm_step.specs.class_program.Good.{IsGoodOp, IsGoodMethod}
use Rattle.jvm_step.specs.class_program.Programs.{Program, IsClosed, insn_at}
use Rattle.jvm_step.specs.class_program.Widths.{HasWidths}
use Rattle.jvm_step.proofs.class_program.Got.{all_at as good_at}
use Rattle.jvm_step.specs.op_forms.Forms.{Form, form_of}
use Rattle.jvm_step.specs.op_forms.Widths.{IsFormInWidth}
use Rattle.jvm_step.proofs.op_forms.Widths.{forms_wide}
use Rattle.frame_types.specs.Places.{IsOfWorld, IsSet, IsFrame}
use Rattle.frame_types.specs.Tables.{CodeTypes}
use Rattle.object_steps.specs.code_verify.TypedStates.{HasPlaceType, HasStack, IsRunning, AreCallers, AreTypedFrames}
use Rattle.jvm_step.specs.Running.{step}
use Rattle.object_steps.specs.jvm_run.Laws.{StepsAreTyped}
use Rattle.object_steps.proofs.jvm_run.Lists.{zip_get}
use Rattle.object_steps.proofs.jvm_run.Named.{IsNamed, named_of}
use Rattle.object_steps.proofs.jvm_run.Placed.{Placed, placed, at_has}
use Rattle.object_steps.proofs.jvm_run.Stepping.{insn_there}
use Rattle.term_graph.specs.Graphs.{GraphChild}
use Rattle.term_graph.specs.declared.links.Link.{Link}
use Rattle.term_graph.specs.Edges.{Edge, id_after}
use Rattle.object_steps.specs.abs_expand.Plans.{Plan, ends, steps, by_null, by_class, by_equal}
use Rattle.object_steps.specs.abs_expand.Needs.{operands_of}
use Rattle.object_steps.specs.abs_expand.Table.{taken_by, row_of, plan_of_form}
use Rattle.object_steps.specs.abs_expand.BadStates.{IsOfPlace, IsRunningPlaced, ArePlaced, statics_under}
use Rattle.object_steps.specs.abs_expand.Children.{IsTurnChild, IsLean}
use Rattle.object_steps.specs.abs_expand.Expansions.{plan_here, plan_in, plan_of, AreExpanded}
use Rattle.object_steps.specs.abs_expand.Laws.{IsAfter, GoesToChild, IsMet}
use Rattle.object_steps.proofs.abs_expand.ZipLists.{beside}
use Rattle.object_steps.proofs.form_steps.SomeOf.{SomeOf}
use Rattle.object_steps.specs.form_steps.inner.Lows.{DroppedKeepSized}
use Rattle.object_steps.proofs.form_steps.Steps.{FitsChild, dropped_fits, dropped_sort, sized_there}
use Rattle.object_steps.proofs.form_steps.Tops.{FitFrames, tops, from_tops}
use Rattle.object_steps.proofs.form_steps.Bottoms.{StandsOnStatics, last_of, on_statics_of}
use Rattle.object_steps.specs.form_steps.inner.Lows.{Lows}
use Rattle.object_steps.proofs.form_steps.Standing.{rests, Stands, here, held}
use Rattle.object_steps.proofs.form_steps.TurnKinds.{Fitting, FitsSplit, Meets}
use Rattle.object_steps.proofs.form_steps.Needs.{IsTypedId, tested_meets}

-- ---- children

record Found {X : Type 0} (P : X → Type 0) (xs : List X) : Type 0 where
  n : ℕ
  item : X
  is : slice_get xs n ≡ Some item
  has : P item

found_of : {X : Type 0} (P : X → Type 0) (xs : List X) → SomeOf P xs → Found P xs
found_of P [] s = absurd s
found_of P (x ∷ xs) (inl h) = record { n = 0; item = x; is = refl; has = h }
found_of P (x ∷ xs) (inr s) =
    let rest = found_of P xs s in
    record { n = suc rest.n; item = rest.item; is = rest.is; has = rest.has }

module _ (drop : DroppedKeepSized) (p : Program) (state : AbstractState) (machine : MachineState) (meaning : Meaning) where
  -- a split's child, without the ids that nothing reaches
  split_child : (children wholes : List GraphChild) → AllZip IsLean wholes children
      → FitsSplit (types_of p.world) state machine meaning wholes → GoesToChild p state machine meaning children
  split_child children wholes lean f =
      let child = beside IsLean wholes children f.n f.whole lean f.is in
      let c = f.fits_child in
      record {
        n = f.n;
        child = child.other;
        is = child.there;
        after = machine;
        is_after = subst (λ (b : Bool). IsAfter p b machine machine) (sym (ap (λ (l : Link). l.step) child.alike.link ∙ f.stays)) refl;
        meaning_after = c.meaning_after;
        fits = dropped_fits (types_of p.world) f.whole.state child.other.state machine c.meaning_after child.alike.dropped c.fits;
        edge = leaner f.whole child.other child.alike c;
      }
    where
      leaner : (whole child : GraphChild) → IsLean whole child
          → (c : FitsChild (types_of p.world) state machine meaning machine whole)
          → Edge state machine meaning child.link child.state machine c.meaning_after
      leaner whole child lean c = subst (λ (l : Link). Edge state machine meaning l child.state machine c.meaning_after)
          (sym lean.link) (record {
            ints = λ id h k. c.edge.ints id h (dropped_sort is_int whole.state child.state lean.dropped id k);
            rows = c.edge.rows;
            sizes = λ id h s. c.edge.sizes id h
                (drop whole.state child.state (id_after whole.link.merged id) lean.dropped
                (sized_there child.state (id_after whole.link.merged id) s) s);
          })

  pub to_child : (plan : Plan) (children : List GraphChild) → Meets p state machine meaning plan
      → AreExpanded (types_of p.world) state plan children → GoesToChild p state machine meaning children
  to_child ends children m x = absurd x.are
  to_child (steps turns) children m x =
      let found = found_of (Fitting p state machine meaning) turns m in
      let whole = beside (IsTurnChild (types_of p.world) state) turns x.wholes found.n found.item x.are found.is in
      let child = beside IsLean x.wholes children found.n whole.other x.lean whole.there in
      let fits = found.has.child whole.other child.other whole.alike child.alike in
      record {
        n = found.n;
        child = child.other;
        is = child.there;
        after = found.has.after;
        is_after = subst (λ (b : Bool). IsAfter p b machine found.has.after)
            (sym (ap (λ (l : Link). l.step) (child.alike.link ∙ whole.alike.link))) found.has.steps;
        meaning_after = fits.meaning_after;
        fits = fits.fits;
        edge = fits.edge;
      }
  to_child (by_null x) children m y = split_child children y.wholes y.lean (m y.wholes y.are)
  to_child (by_class x wanted) children m y = split_child children y.wholes y.lean (m y.wholes y.are)
  to_child (by_equal a b) children m y = split_child children y.wholes y.lean (m y.wholes y.are)

-- ---- lists

all_reversed : {A : Type 0} (P : A → Type 0) (xs : List A) → All P xs → All P (reverse xs)
all_reversed P [] h = h
all_reversed P (x ∷ xs) h = subst (All P) (sym (reverse-append (x ∷ []) xs))
    (All-push P (reverse xs) x (all_reversed P xs (All-tail P x xs h)) (All-head P x xs h))

front_get : {A : Type 0} (count : ℕ) (xs : List A) (n : ℕ) (x : A) → slice_get (take count xs) n ≡ Some x → slice_get xs n ≡ Some x
front_get zero xs n x e = absurd (none-some x e)
front_get (suc count) [] n x e = absurd (none-some x e)
front_get (suc count) (y ∷ xs) zero x e = e
front_get (suc count) (y ∷ xs) (suc n) x e = front_get count xs n x e

given_id : (state : AbstractState) (place : PlaceType) (local : Option ℕ) → IsSet place → IsOfPlace state place local → (x : ℕ)
    × (local ≡ Some x)
given_id state place (Some x) set h = (x, refl)
given_id state places.Unset None set h = absurd (set refl)
given_id state places.Int None set h = absurd h
given_id state places.Null None set h = absurd h
given_id state (places.Ref t) None set h = absurd h

-- what is described lies in the heap
inside_heap : (types : WorldTypes) (machine : MachineState) (meaning : Meaning) (c : Cell) (value : Value)
    → Describes types machine.heap meaning c value → IsInHeap (length machine.heap.objects) value
inside_heap types machine meaning (cells.Int interval) value d = λ a e. absurd (none-some a (sym (ap target d.1.0) ∙ e))
inside_heap types machine meaning cells.Null value d = λ a e. absurd (none-some a (sym (ap target d) ∙ e))
inside_heap types machine meaning (cells.Obj class ids) value d = λ a e. subst (λ (r : ℕ). r < length machine.heap.objects)
    (some_is (sym (ap target d.names) ∙ e)) (slice_get_within machine.heap.objects d.place d.object d.stands)
inside_heap types machine meaning (cells.Nums kind len) value d = λ a e. subst (λ (r : ℕ). r < length machine.heap.objects)
    (some_is (sym (ap target d.names) ∙ e)) (slice_get_within machine.heap.objects d.place d.object d.stands)
inside_heap types machine meaning (cells.Refs element len shape) value d = λ a e. subst (λ (r : ℕ). r < length machine.heap.objects)
    (some_is (sym (ap target d.names) ∙ e)) (slice_get_within machine.heap.objects d.place d.object d.stands)
inside_heap types machine meaning (cells.Unk bound nullable shape) value (inl d) = λ a e. absurd (none-some a (sym (ap target d.1) ∙ e))
inside_heap types machine meaning (cells.Unk bound nullable shape) value (inr d) = λ a e. subst
    (λ (r : ℕ). r < length machine.heap.objects) (some_is (sym (ap target d.names) ∙ e))
    (slice_get_within machine.heap.objects d.place d.object d.stands)

pub closed_state : (types : WorldTypes) (state : AbstractState) (machine : MachineState) (meaning : Meaning)
    → IsTypedHeap types machine.heap → Fits types state machine meaning → IsClosedState machine state meaning
closed_state types state machine meaning heap fits = record {
  heap = closed_heap types machine.heap heap;
  ids = λ id h. inside_heap types machine meaning h.cell (meaning id) (fits.cells id h.cell h.is);
}

-- ---- frames

pub record TopFrames (meaning : Meaning) (frame : AbstractFrame) (lower : List AbstractFrame) (machine : MachineState) : Type 0 where
  pub running : MachineFrame
  pub below : List MachineFrame
  pub frames_are : machine.frames ≡ running ∷ below
  pub fit : FitFrames meaning frame lower machine.statics running below

pub top_frames : (meaning : Meaning) (frame : AbstractFrame) (lower : List AbstractFrame) (machine : MachineState)
    (frames : List MachineFrame) → machine.frames ≡ frames
    → AllZip (FitsFrame meaning) (frame ∷ lower) (with_statics machine.statics frames) → TopFrames meaning frame lower machine
top_frames meaning frame lower machine [] e h = absurd h
top_frames meaning frame lower machine (running ∷ below) e h = record
    { running = running; below = below; frames_are = e; fit = tops meaning frame lower machine.statics running below h }

is_normal : (meaning : Meaning) (thrown : Option ℕ) (mode : Mode) → thrown ≡ None → FitsMode meaning thrown mode → mode ≡ Normal
is_normal meaning None Normal e h = refl
is_normal meaning None (Throwing r) e h = absurd h
is_normal meaning (Some id) mode e h = absurd (none-some id (sym e))

running_typed : (p : Program) (typing : ℕ → CodeTypes) (machine : MachineState) (running : MachineFrame) (below : List MachineFrame)
    → machine.frames ≡ running ∷ below → machine.mode ≡ Normal → AreTypedFrames p typing machine.heap machine.mode machine.frames
    → IsRunning p typing machine.heap running × AreCallers p typing machine.heap running.method below
running_typed p typing machine running below f n h =
    let k : AreTypedFrames p typing machine.heap Normal (running ∷ below) = subst
    (λ (fs : List MachineFrame). AreTypedFrames p typing machine.heap Normal fs) f
    (subst (λ (m : Mode). AreTypedFrames p typing machine.heap m machine.frames) n h) in
    k

-- ---- where they stand

module _ (lows : Lows) (typed_steps : StepsAreTyped) (p : Program) (typing : ℕ → CodeTypes) (state : AbstractState)
    (machine : MachineState) (meaning : Meaning) (closed : IsClosed p) (widths : HasWidths p)
    (met : IsMet p typing state machine meaning) (unthrown : state.throwing ≡ None) (frame : AbstractFrame)
    (lower : List AbstractFrame) (frames_are : state.frames ≡ frame ∷ lower) where
  abbrev types : WorldTypes
  types = types_of p.world

  top : TopFrames meaning frame lower machine
  top = top_frames meaning frame lower machine machine.frames refl
      (subst (λ (frames : List AbstractFrame). AllZip (FitsFrame meaning) frames (with_statics machine.statics machine.frames))
      frames_are met.fits.positions)

  normal : machine.mode ≡ Normal
  normal = is_normal meaning state.throwing machine.mode unthrown met.fits.mode

  running : IsRunningPlaced p typing state (statics_under p lower) frame
  running = (subst (ArePlaced p typing state) frames_are met.good.placed).0

  at : Placed p running.placed.method (typing frame.method) frame.pc running.there
  at = placed p running.placed.method (typing frame.method) frame.pc running.there
      ((met.typing_is.each frame.method running.placed.method running.placed.is_method).is_typing.each frame.pc running.there
      running.placed.is_there)

  limits : IsFrame types running.placed.method.max_locals running.placed.method.max_stack running.there
  limits = ((met.typing_is.each frame.method running.placed.method running.placed.is_method).is_typing.each frame.pc running.there
      running.placed.is_there).limits

  typed_running : IsRunning p typing machine.heap top.running
  typed_running = (running_typed p typing machine top.running top.below top.frames_are normal met.typed.frames).0

  bottom : StandsOnStatics p state meaning machine.statics (last_of frame lower) (top.running ∷ top.below)
  bottom = on_statics_of p typing state meaning machine.heap machine.statics frame lower running.there top.running top.below
      typed_running.there running.placed (subst (ArePlaced p typing state) frames_are met.good.placed).1 typed_running.typed
      (running_typed p typing machine top.running top.below top.frames_are normal met.typed.frames).1
      (from_tops meaning frame lower machine.statics top.running top.below top.fit)

  insn : insn_at p.methods frame.method frame.pc ≡ Some (at.op, at.next)
  insn = insn_there p frame.method frame.pc running.placed.method at.op at.next running.placed.is_method at.insn_is

  there_same : typed_running.there ≡ running.there
  there_same = some_is (sym typed_running.typed.is_there ∙ ap (λ (m : ℕ). typing m top.running.pc) top.fit.top.method
      ∙ ap (typing frame.method) top.fit.top.pc ∙ running.placed.is_there)

  named : IsNamed p running.placed.method.class at.op at.form
  named =
      let good = good_at (IsGoodMethod p) p.methods frame.method running.placed.method met.program.methods running.placed.is_method in
      let op : IsGoodOp p running.placed.method at.op = at_has (λ (o : Op). IsGoodOp p running.placed.method o)
      running.placed.method.insns frame.pc (at.op, at.next) good.insns at.insn_is in
      named_of p running.placed.method.class at.op at.form op.named at.form_is

  pub stands : Stands p typing state machine meaning
  stands = record {
    lows = lows;
    sound = met.good.sound;
    laws = world_laws p.world closed.known.linked;
    built_ins = built_ins_known p.world closed.known;
    linked = closed.known.linked;
    heap = met.typed.heap;
    closed = closed_state types state machine meaning met.typed.heap met.fits;
    fits = met.fits;
    frame = frame;
    lower = lower;
    frames_are = frames_are;
    running = top.running;
    below = top.below;
    fit = top.fit;
    on_statics = bottom;
    statics_typed = met.typed.statics;
    there = running.there;
    typed = subst (λ (t : PlaceTypes). HasStack types machine.heap t.stack top.running.stack) there_same typed_running.stack;
    set = limits.proper.set;
    of_world = limits.proper.stack;
    given = λ n place e set.
        let found = zip_get (IsOfPlace state) running.there.locals (take running.placed.method.max_locals frame.locals) n place
        running.placed.locals e in
        let id = given_id state place found.other set found.alike in
        (id.0, front_get running.placed.method.max_locals frame.locals n (Some id.0) (found.there ∙ ap Some id.1));
    method = running.placed.method;
    op = at.op;
    next = at.next;
    form = at.form;
    after = at.after;
    types_are = at.types_are;
    named = named;
    runs = record {
      frames_are = top.frames_are;
      normal = normal;
      is_method = ap (slice_get p.methods) top.fit.top.method ∙ running.placed.is_method;
      insn = ap (λ (number : ℕ). insn_at p.methods number top.running.pc) top.fit.top.method
          ∙ ap (insn_at p.methods frame.method) top.fit.top.pc ∙ insn;
      is_form = at.form_is;
    };
    goes = typed_steps p typing closed widths met.typing_is machine met.typed;
  }

  -- the instruction there
  pub stands_insn : insn_at p.methods frame.method frame.pc ≡ Some (stands.op, stands.next)
  unfolding stands
  stands_insn = insn

  -- the numbers of the form are of their fields' widths
  pub wide : IsFormInWidth stands.form
  unfolding stands
  wide = forms_wide p widths frame.method frame.pc at.op at.next insn at.form at.form_is

  -- the plan is that of the form
  plan_is : plan_of p typing state ≡ plan_of_form (here p typing state machine meaning stands) at.form
  unfolding running stands
  plan_is =
      ap (λ (t : Option ℕ). plan_in p typing state t state.frames) unthrown
      ∙ ap (λ (frames : List AbstractFrame). plan_in p typing state None frames) frames_are
      ∙ ap (λ (found : Option (Op × Option ℕ)). plan_here p typing state frame lower
      (option_map_or (λ (x : Op × Option ℕ). form_of x.0) found None) (option_map_or (λ (x : Op × Option ℕ). x.1) found None)
      (typing frame.method frame.pc)) insn
      ∙ ap (λ (found : Option Form). plan_here p typing state frame lower found at.next (typing frame.method frame.pc)) at.form_is
      ∙ ap (λ (found : Option PlaceTypes). plan_here p typing state frame lower (Some at.form) at.next found) running.placed.is_there

  -- operands are typed
  operands_typed : (places_ : List PlaceType) (stack : List Value) (ids : List ℕ) → HasStack types machine.heap places_ stack
      → All IsSet places_ → All (IsOfWorld types) places_ → stack ≡ map meaning ids → AllByRecursion (HasCell (λ _. true) state) ids
      → All (λ (o : PlaceType × ℕ). IsTypedId types state machine meaning o.0 o.1) (zip places_ ids)
  operands_typed [] stack ids t set world is h = All-nil (λ (o : PlaceType × ℕ). IsTypedId types state machine meaning o.0 o.1)
  operands_typed (q ∷ places_) stack [] t set world is h = All-nil (λ (o : PlaceType × ℕ). IsTypedId types state machine meaning o.0 o.1)
  operands_typed (q ∷ places_) [] (i ∷ ids) t set world is h = absurd t
  operands_typed (q ∷ places_) (v ∷ stack) (i ∷ ids) t set world is h =
      All-cons (λ (o : PlaceType × ℕ). IsTypedId types state machine meaning o.0 o.1) (q, i) (zip places_ ids) (record {
        own = h.0;
        typed = subst (λ (w : Value). HasPlaceType types machine.heap q (Some w)) (first_is is) t.0;
        set = All-head IsSet q places_ set;
        of_world = All-head (IsOfWorld types) q places_ world;
      })
      (operands_typed places_ stack ids t.1 (All-tail IsSet q places_ set) (All-tail (IsOfWorld types) q places_ world) (rest_is is) h.1)
    where
      first_is : v ∷ stack ≡ map meaning (i ∷ ids) → v ≡ meaning i
      first_is e = cc

      rest_is : v ∷ stack ≡ map meaning (i ∷ ids) → stack ≡ map meaning ids
      rest_is e = cc

  -- where the row is met, the plan is
  pub plan_meets : Meets p state machine meaning (row_of (here p typing state machine meaning stands) stands.form)
      → Meets p state machine meaning (plan_of p typing state)
  unfolding running stands
  plan_meets m =
      subst (Meets p state machine meaning) (sym plan_is)
      (tested_meets p state machine meaning (rests p typing state machine meaning stands)
      (operands_of (taken_by at.form) running.there.stack frame.stack) (row_of (here p typing state machine meaning stands) at.form)
      (all_reversed (λ (o : PlaceType × ℕ). IsTypedId types state machine meaning o.0 o.1)
      (take (taken_by at.form) (zip running.there.stack frame.stack))
      (All-take (λ (o : PlaceType × ℕ). IsTypedId types state machine meaning o.0 o.1) (taken_by at.form)
      (zip running.there.stack frame.stack)
      (operands_typed running.there.stack top.running.stack frame.stack stands.typed limits.proper.set limits.proper.stack
      top.fit.top.stack (held p typing state machine meaning stands).stack))) m)
