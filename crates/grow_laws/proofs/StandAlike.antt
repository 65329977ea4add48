-- Two growing states at the same positions stand alike.
use Rattle.std.proofs.Common.{◌≡◌, ◌∙◌, ◌+◌, ◌&&◌, ℕ, zero, suc, true, List, [], ◌∷◌, length, drop, map, Option}
use Rattle.std.proofs.Common.{Some, None, slice_get, refl, sym, ap, subst}
use Rattle.std.specs.List.{AllByRecursion, AllZip}
use Rattle.std.specs.Option.{option_map_or}
use Rattle.std.proofs.lemmas.Bool.{false≢true, and_from, or_left, or_right}
use Rattle.std.proofs.lemmas.List.Elements.{recursion_from_All}
use Rattle.jvm_values.specs.declared.types.Slot.{Slot}
use Rattle.jvm_values.specs.declared.typing.PlaceType.{PlaceType}
use Rattle.jvm_values.specs.declared.typing.PlaceType.TheVariants as places
use Rattle.jvm_values.specs.States.{PlaceTypes}
use Rattle.jvm_values.proofs.Options.{some_is}
use Rattle.abs_cells.specs.AbstractStates.{AbstractFrame, AbstractState}
use Rattle.abs_cells.specs.Cells.{is_int, is_of_sort, cell_at, HasCell}
use Rattle.abs_reach.specs.Instances.{is_no_int, FrameHead, head_of, is_thrown}
use Rattle.abs_widen.specs.Visits.{are_alike}
use Rattle.abs_widen.specs.Widening.{AreStacksAlike, AreFramesAlike, AreAlike}
use Rattle.class_program.specs.declared.program.Method.{Method}
use Rattle.class_program.specs.Programs.{Program, op_at}
use Rattle.frame_types.specs.Places.{IsSet}
use Rattle.frame_types.specs.Tables.{CodeTypes}
use Rattle.code_verify.specs.Typings.{IsTypingOf}
use Rattle.code_verify.specs.TypedStates.{argument_count}
use Rattle.place_sorts.specs.AbsExpandBadStates.{HasStackOf, call_takes, call_at, IsPlaced, statics_under, HasCallersStack, IsCallerPlaced}
use Rattle.place_sorts.specs.AbsExpandBadStates.{AreCallersPlaced, HasRunningStack, IsRunningPlaced, ArePlaced}
use Rattle.place_sorts.specs.Growing.{AreWaiting, WaitBelow, IsGrowing}
use Rattle.place_sorts.proofs.Waiting.{waiting_call}

-- ---- ids

module _ (a b : AbstractState) where
  pub alike_ints : (x y : ℕ) → HasCell is_int a x → HasCell is_int b y → are_alike a b x y ≡ true
  alike_ints x y h k =
      let left : is_of_sort is_int (cell_at a x) ≡ true = ap (is_of_sort is_int) h.is ∙ h.sort_is in
      let right : is_of_sort is_int (cell_at b y) ≡ true = ap (is_of_sort is_int) k.is ∙ k.sort_is in
      or_left (is_of_sort is_int (cell_at a x) && is_of_sort is_int (cell_at b y))
      (is_of_sort is_no_int (cell_at a x) && is_of_sort is_no_int (cell_at b y))
      (and_from (is_of_sort is_int (cell_at a x)) (is_of_sort is_int (cell_at b y)) left right)

  pub alike_others : (x y : ℕ) → HasCell is_no_int a x → HasCell is_no_int b y → are_alike a b x y ≡ true
  alike_others x y h k =
      let left : is_of_sort is_no_int (cell_at a x) ≡ true = ap (is_of_sort is_no_int) h.is ∙ h.sort_is in
      let right : is_of_sort is_no_int (cell_at b y) ≡ true = ap (is_of_sort is_no_int) k.is ∙ k.sort_is in
      or_right (is_of_sort is_int (cell_at a x) && is_of_sort is_int (cell_at b y))
      (is_of_sort is_no_int (cell_at a x) && is_of_sort is_no_int (cell_at b y))
      (and_from (is_of_sort is_no_int (cell_at a x)) (is_of_sort is_no_int (cell_at b y)) left right)

  stacks_alike : (wanted : List PlaceType) (stack other : List ℕ) → AllByRecursion IsSet wanted → HasStackOf a wanted stack
      → HasStackOf b wanted other → AreStacksAlike a b stack other
  stacks_alike [] [] [] s h k = tt
  stacks_alike [] [] (y ∷ other) s h k = absurd k
  stacks_alike [] (x ∷ stack) other s h k = absurd h
  stacks_alike (place ∷ wanted) [] other s h k = absurd h
  stacks_alike (place ∷ wanted) (x ∷ stack) [] s h k = absurd k
  stacks_alike (places.Unset ∷ wanted) (x ∷ stack) (y ∷ other) s h k = absurd (s.0 refl)
  stacks_alike (places.Int ∷ wanted) (x ∷ stack) (y ∷ other) s h k = (alike_ints x y h.0 k.0, stacks_alike wanted stack other s.1 h.1 k.1)
  stacks_alike (places.Null ∷ wanted) (x ∷ stack) (y ∷ other) s h k =
      (alike_others x y h.0 k.0, stacks_alike wanted stack other s.1 h.1 k.1)
  stacks_alike (places.Ref t ∷ wanted) (x ∷ stack) (y ∷ other) s h k =
      (alike_others x y h.0 k.0, stacks_alike wanted stack other s.1 h.1 k.1)

  dropped_set : (count : ℕ) (wanted : List PlaceType) → AllByRecursion IsSet wanted → AllByRecursion IsSet (drop count wanted)
  dropped_set zero wanted s = s
  dropped_set (suc count) [] s = tt
  dropped_set (suc count) (place ∷ wanted) s = dropped_set count wanted s.1

  running_alike : (t u : Option ℕ) (wanted : List PlaceType) (stack other : List ℕ) → is_thrown t ≡ is_thrown u
      → AllByRecursion IsSet wanted → HasRunningStack a t wanted stack → HasRunningStack b u wanted other → AreStacksAlike a b stack other
  running_alike None None wanted stack other e s h k = stacks_alike wanted stack other s h k
  running_alike None (Some y) wanted stack other e s h k = absurd (false≢true e)
  running_alike (Some x) None wanted stack other e s h k = absurd (false≢true (sym e))
  running_alike (Some x) (Some y) wanted stack other e s h k = subst (λ (list : List ℕ). AreStacksAlike a b list other) (sym h)
      (subst (AreStacksAlike a b []) (sym k) tt)

-- ---- frames

-- frames with the same heads are as many
pub same_statics : (p : Program) (below more : List AbstractFrame) → map head_of below ≡ map head_of more
    → statics_under p below ≡ statics_under p more
same_statics p [] [] e = refl
same_statics p [] (frame ∷ more) e = absurd (cc)
same_statics p (frame ∷ below) [] e = absurd (cc)
same_statics p (frame ∷ below) (other ∷ more) e = refl

module _ (p : Program) (typing : ℕ → CodeTypes) (typed : IsTypingOf p typing) (a b : AbstractState) where
  -- two frames at one place, of one typing
  pub record AtOnePlace (statics : List Slot) (frame other : AbstractFrame) (there over : PlaceTypes) : Type 0 where
    pub locals : length frame.locals ≡ length other.locals
    pub same : over ≡ there
    pub set : AllByRecursion IsSet there.stack

  one_place : (statics : List Slot) (frame other : AbstractFrame) (there over : PlaceTypes) → frame.method ≡ other.method
      → frame.pc ≡ other.pc → IsPlaced p typing a statics frame there → IsPlaced p typing b statics other over
      → AtOnePlace statics frame other there over
  one_place statics frame other there over m c h k =
      let method : h.method ≡ k.method = some_is (sym h.is_method ∙ ap (slice_get p.methods) m ∙ k.is_method) in
      let at : typing frame.method frame.pc ≡ typing other.method other.pc = ap (λ (n : ℕ). typing n frame.pc) m
      ∙ ap (typing other.method) c in
      record {
        locals = h.count ∙ ap (λ (x : Method). x.max_locals + length statics) method ∙ sym k.count;
        same = some_is (sym k.is_there ∙ sym at ∙ h.is_there);
        set = recursion_from_All IsSet there.stack
            ((typed.each frame.method h.method h.is_method).is_typing.each frame.pc there h.is_there).limits.proper.set;
      }

  same_call : (frame other : AbstractFrame) → frame.method ≡ other.method → frame.pc ≡ other.pc → call_at p frame ≡ call_at p other
  same_call frame other m c = ap (λ (n : ℕ). option_map_or call_takes (op_at p.methods n frame.pc) None) m
      ∙ ap (λ (n : ℕ). option_map_or call_takes (op_at p.methods other.method n) None) c

  callers_alike : (callee : ℕ) (frames others : List AbstractFrame) → map head_of frames ≡ map head_of others
      → AreCallersPlaced p typing a frames → AreCallersPlaced p typing b others → AreWaiting p callee frames
      → AllZip (AreFramesAlike a b) frames others
  callers_alike callee [] [] e h k w = tt
  callers_alike callee [] (other ∷ more) e h k w = absurd (cc)
  callers_alike callee (frame ∷ below) [] e h k w = absurd (cc)
  callers_alike callee (frame ∷ below) (other ∷ more) e h k w =
      let head : head_of frame ≡ head_of other = cc in
      let rest : map head_of below ≡ map head_of more = cc in
      let method : frame.method ≡ other.method = ap (λ (x : FrameHead). x.method) head in
      let pc : frame.pc ≡ other.pc = ap (λ (x : FrameHead). x.pc) head in
      let other_placed = subst (λ (statics : List Slot). IsCallerPlaced p typing b statics other)
      (sym (same_statics p below more rest)) k.0 in
      let one = one_place (statics_under p below) frame other h.0.there other_placed.there method pc h.0.placed other_placed.placed in
      let count = argument_count w.0.op in
      let call : call_at p frame ≡ Some count = waiting_call p callee frame w.0 in
      let first : HasStackOf a (drop count h.0.there.stack) frame.stack = subst
      (λ (o : Option ℕ). HasCallersStack a o h.0.there.stack frame.stack) call h.0.stack in
      let second : HasStackOf b (drop count h.0.there.stack) other.stack =
      subst (λ (there : PlaceTypes). HasStackOf b (drop count there.stack) other.stack) one.same
      (subst (λ (o : Option ℕ). HasCallersStack b o other_placed.there.stack other.stack) (sym (same_call frame other method pc)
      ∙ call) other_placed.stack) in (
        record {
          heads = head;
          locals = one.locals;
          stacks = stacks_alike a b (drop count h.0.there.stack) frame.stack other.stack
              (dropped_set a b count h.0.there.stack one.set) first second;
        },
        callers_alike frame.method below more rest h.1 k.1 w.1,
      )

  frames_alike : (frames others : List AbstractFrame) → map head_of frames ≡ map head_of others
      → is_thrown a.throwing ≡ is_thrown b.throwing → ArePlaced p typing a frames → ArePlaced p typing b others → WaitBelow p frames
      → AllZip (AreFramesAlike a b) frames others
  frames_alike [] [] e t h k w = tt
  frames_alike [] (other ∷ more) e t h k w = absurd (cc)
  frames_alike (frame ∷ below) [] e t h k w = absurd (cc)
  frames_alike (frame ∷ below) (other ∷ more) e t h k w =
      let head : head_of frame ≡ head_of other = cc in
      let rest : map head_of below ≡ map head_of more = cc in
      let method : frame.method ≡ other.method = ap (λ (x : FrameHead). x.method) head in
      let pc : frame.pc ≡ other.pc = ap (λ (x : FrameHead). x.pc) head in
      let other_placed = subst (λ (statics : List Slot). IsRunningPlaced p typing b statics other)
      (sym (same_statics p below more rest)) k.0 in
      let one = one_place (statics_under p below) frame other h.0.there other_placed.there method pc h.0.placed other_placed.placed in
      let second : HasRunningStack b b.throwing h.0.there.stack other.stack = subst
      (λ (there : PlaceTypes). HasRunningStack b b.throwing there.stack other.stack) one.same other_placed.stack in (
        record {
          heads = head;
          locals = one.locals;
          stacks = running_alike a b a.throwing b.throwing h.0.there.stack frame.stack
              other.stack t one.set h.0.stack second;
        },
        callers_alike frame.method below more rest h.1 k.1 w,
      )

  pub stand_alike : IsGrowing p typing a → IsGrowing p typing b → map head_of a.frames ≡ map head_of b.frames
      → is_thrown a.throwing ≡ is_thrown b.throwing → AreAlike a b
  stand_alike g h e t = record { frames = frames_alike a.frames b.frames e t g.good.placed h.good.placed g.waiting; mode = t }
