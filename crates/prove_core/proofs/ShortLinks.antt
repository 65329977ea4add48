-- The links of expansions have short equations.
use Rattle.std.proofs.Common.{ℕ, false, List, [], ◌∷◌, Option, Some, None, sym, subst, map}
use Rattle.std.specs.Prelude.{filter, slice_get}
use Rattle.std.specs.List.{AllByRecursion, AllZip, find}
use Rattle.std.specs.Option.{option_map_or}
use Rattle.std.proofs.lemmas.List.Elements.{All-from_recursion}
use Rattle.abs_heap.proofs.ChangedCells.{either}
use Rattle.jvm_values.specs.declared.types.Ty.{Ty}
use Rattle.jvm_values.specs.declared.typing.PlaceType.TheVariants as places
use Rattle.jvm_values.specs.States.{PlaceTypes}
use Rattle.jvm_values.specs.Subtyping.{class_type}
use Rattle.jvm_values.specs.TypedHeaps.{WorldTypes}
use Rattle.abs_cells.specs.declared.cells.Cell.TheVariants as cells
use Rattle.abs_cells.specs.AbstractStates.{AbstractFrame, AbstractState}
use Rattle.class_world.specs.BuiltIns.{throwable}
use Rattle.class_world.specs.WorldTypes.{types_of}
use Rattle.class_program.specs.declared.program.CatchRange.{CatchRange}
use Rattle.class_program.specs.declared.op.Op.{Op}
use Rattle.class_program.specs.declared.program.Method.{Method}
use Rattle.class_program.specs.Programs.{Program, insn_at}
use Rattle.code_verify.specs.Flows.{covers}
use Rattle.op_forms.specs.Forms.{Form, form_of}
use Rattle.frame_types.specs.Tables.{CodeTypes}
use Rattle.term_graph.specs.Graphs.{GraphChild}
use Rattle.abs_heap.specs.Answers.{AreNullChildren, AreClassChildren, AreEqualAnswers}
use Rattle.abs_heap.specs.Laws.{plain_link}
use Rattle.abs_expand.specs.Children.{IsTurnChild, IsLean}
use Rattle.abs_expand.specs.Expansions.{plan_here, plan_in, plan_of, AreChildren}
use Rattle.abs_expand.specs.Needs.{Passing, passes, fails, splits, passing_id, split_below}
use Rattle.abs_expand.specs.Plans.{Turn, Plan, ends, steps, by_null, by_class, by_equal}
use Rattle.abs_expand.specs.Throwing.{takes, handled, is_open, caught_plan, if_passes, throwing_plan}
use Rattle.prove_core.specs.ShortLinks.{IsShortRow, IsShortLink}
use Rattle.prove_core.specs.PlainRules.{LinksAreShort}
use Rattle.prove_core.proofs.ShortTurns.{IsShortTurn, IsShortPlan, form_short, split_short}

-- ---- the plan of a state

handled_short : (x : ℕ) (frame : AbstractFrame) (below : List AbstractFrame) (range : Option CatchRange)
    → IsShortPlan (handled x frame below range)
handled_short x frame below (Some range) = (λ fresh. tt, tt)
handled_short x frame [] None = tt
handled_short x frame (caller ∷ below) None = (λ fresh. tt, tt)

caught_short : (types : WorldTypes) (state : AbstractState) (x : ℕ) (frame : AbstractFrame) (below : List AbstractFrame)
    (ranges : List CatchRange) → IsShortPlan (caught_plan types state x frame below ranges)
caught_short types state x frame below ranges =
    either IsShortPlan (is_open types state x ranges) (split_below state x (places.Ref (class_type throwable)))
    (handled x frame below (find (takes types state x) ranges))
    (split_short state x (places.Ref (class_type throwable))) (handled_short x frame below (find (takes types state x) ranges))

passing_short : (passing : Passing) (plan : Plan) → IsShortPlan plan → IsShortPlan (if_passes passing plan)
passing_short passes plan h = h
passing_short fails plan h = tt
passing_short splits plan h = tt

throwing_short : (types : WorldTypes) (state : AbstractState) (x : ℕ) (frame : AbstractFrame) (below : List AbstractFrame)
    (table : List CatchRange) → IsShortPlan (throwing_plan types state x frame below table)
throwing_short types state x frame below table =
    passing_short (passing_id types state (places.Ref (class_type throwable)) x)
    (caught_plan types state x frame below (filter (covers frame.pc) table))
    (caught_short types state x frame below (filter (covers frame.pc) table))

here_short : (p : Program) (typing : ℕ → CodeTypes) (state : AbstractState) (frame : AbstractFrame) (below : List AbstractFrame)
    (form : Option Form) (next : Option ℕ) (there : Option PlaceTypes) → IsShortPlan (plan_here p typing state frame below form next there)
here_short p typing state frame below None next there = tt
here_short p typing state frame below (Some form) next None = tt
here_short p typing state frame below (Some form) next (Some there) = form_short
    (record {
      program = p;
      state = state;
      frame = frame;
      below = below;
      places = there.stack;
      next = option_map_or
          (λ (place : ℕ). place) next frame.pc;
    }) form

in_short : (p : Program) (typing : ℕ → CodeTypes) (state : AbstractState) (thrown : Option ℕ) (frames : List AbstractFrame)
    → IsShortPlan (plan_in p typing state thrown frames)
in_short p typing state None [] = tt
in_short p typing state (Some x) [] = tt
in_short p typing state (Some x) (frame ∷ below) = throwing_short (types_of p.world) state x frame below
    (option_map_or (λ (m : Method). m.table) (slice_get p.methods frame.method) [])
in_short p typing state None (frame ∷ below) =
    here_short p typing state frame below
    (option_map_or (λ (found : Op × Option ℕ). form_of found.0) (insn_at p.methods frame.method frame.pc) None)
    (option_map_or (λ (found : Op × Option ℕ). found.1) (insn_at p.methods frame.method frame.pc) None) (typing frame.method frame.pc)

-- ---- children

abbrev AreShort : List GraphChild → Type 0
AreShort children = AllByRecursion (λ (child : GraphChild). IsShortLink child.link) children

plain_short : (merged : Option (ℕ × ℕ)) → IsShortLink (plain_link false merged)
plain_short merged = All-from_recursion IsShortRow [] tt

mapped_short : {A : Type 0} (f : A → GraphChild) → ((x : A) → IsShortLink (f x).link) → (xs : List A) → AreShort (map f xs)
mapped_short f h [] = tt
mapped_short f h (x ∷ xs) = (h x, mapped_short f h xs)

turns_short : (types : WorldTypes) (state : AbstractState) (turns : List Turn) (children : List GraphChild)
    → AllByRecursion IsShortTurn turns → AllZip (IsTurnChild types state) turns children → AreShort children
turns_short types state [] [] short are = tt
turns_short types state [] (child ∷ children) short are = absurd are
turns_short types state (turn ∷ turns) [] short are = absurd are
turns_short types state (turn ∷ turns) (child ∷ children) short are = (
  subst IsShortLink (sym are.0.link) (All-from_recursion IsShortRow (turn.rows are.0.id) (short.0 are.0.id)),
  turns_short types state turns children short.1 are.1,
)

null_short : (state : AbstractState) (x : ℕ) (children : List GraphChild) → AreNullChildren state x children → AreShort children
null_short state x children are = subst (λ (cs : List GraphChild). AreShort cs) (sym are.are) (plain_short None, (plain_short None, tt))

class_short : (types : WorldTypes) (state : AbstractState) (x : ℕ) (wanted : Ty) (children : List GraphChild)
    → AreClassChildren types state x wanted children → AreShort children
class_short types state x wanted children are =
    subst (λ (cs : List GraphChild). AreShort cs) (sym are.is)
    (mapped_short (λ (s : AbstractState). record { state = s; link = plain_link false None }) (λ s. plain_short None) are.states)

equal_short : (types : WorldTypes) (state : AbstractState) (x y : ℕ) (children : List GraphChild)
    → AreEqualAnswers types.sub state x y children → AreShort children
equal_short types state x y children are =
    subst (λ (cs : List GraphChild). AreShort cs) (sym are.is)
    (mapped_short (λ (p : Option (ℕ × ℕ) × AbstractState). record { state = p.1; link = plain_link false p.0 })
    (λ p. plain_short p.0) are.pairs)

whole_short : (types : WorldTypes) (state : AbstractState) (plan : Plan) (children : List GraphChild) → IsShortPlan plan
    → AreChildren types state plan children → AreShort children
whole_short types state ends children short are = absurd are
whole_short types state (steps turns) children short are = turns_short types state turns children short are
whole_short types state (by_null x) children short are = null_short state x children are
whole_short types state (by_class x wanted) children short are = class_short types state x wanted children are
whole_short types state (by_equal x y) children short are = equal_short types state x y children are

lean_short : (wholes children : List GraphChild) → AreShort wholes → AllZip IsLean wholes children → AreShort children
lean_short [] [] short lean = tt
lean_short [] (child ∷ children) short lean = absurd lean
lean_short (whole ∷ wholes) [] short lean = absurd lean
lean_short (whole ∷ wholes) (child ∷ children) short lean =
    (subst IsShortLink (sym lean.0.link) short.0, lean_short wholes children short.1 lean.1)

pub links_are_short : LinksAreShort
links_are_short p typing state children expanded =
    lean_short expanded.wholes children
    (whole_short (types_of p.world) state (plan_of p typing state) expanded.wholes
    (in_short p typing state state.throwing state.frames) expanded.are) expanded.lean
