-- What comes to a method's start, and the classes that it catches.
use Rattle.std.proofs.Common.{◌≡◌, ◌↔◌, ℕ, ◌+◌, ◌-◌, ◌<◌, ◌≤◌, Bool, true, false, List, [], ◌∷◌, ◌++◌, length, map, replicate, take}
use Rattle.std.proofs.Common.{get_or, refl, sym, ap, subst, ◌∙◌, arith, append_assoc, append-nil}
use Rattle.std.specs.Prelude.{All, IsTrue}
use Rattle.std.proofs.lemmas.Bool.{false≢true}
use Rattle.std.proofs.lemmas.List.{map-append, take_more, replicate_more}
use Rattle.std.proofs.lemmas.List.Elements.{All-more}
use Rattle.std.proofs.Math.Seq.{take-length}
use Rattle.jvm_values.specs.declared.types.Ty.{Ty}
use Rattle.jvm_values.specs.declared.typing.FrameType.{FrameType}
use Rattle.jvm_values.specs.declared.typing.PlaceType.{PlaceType}
use Rattle.jvm_values.specs.States.{PlaceTypes, types_of as seen}
use Rattle.jvm_values.specs.Subtyping.{class_type}
use Rattle.class_program.specs.class_world.World.{World}
use Rattle.class_program.specs.class_world.Types.{is_sub}
use Rattle.class_program.specs.class_world.BuiltIns.{throwable}
use Rattle.class_program.specs.declared.program.CatchRange.{CatchRange}
use Rattle.code_verify.specs.Flows.{CanCatch, caught_class}

-- ---- what is caught

pub catches_more : (world : World) (ranges : List CatchRange) (i : ℕ) (d : CatchRange) (b : Bool) (x y : Ty) → i < length ranges
    → All (CanCatch world) (take i ranges) → b ≡ is_sub world x y → x ≡ caught_class (get_or ranges i d) → y ≡ class_type throwable
    → b ≡ true → All (CanCatch world) (take (i + 1) ranges)
catches_more world ranges i d b x y l h e p q t =
    All-more (CanCatch world) ranges i d l h
    (sym (e ∙ ap (λ (z : Ty). is_sub world z y) p ∙ ap (is_sub world (caught_class (get_or ranges i d))) q) ∙ t)

pub catches_not : (world : World) (ranges : List CatchRange) (i : ℕ) (d : CatchRange) (b : Bool) (x y : Ty) → i < length ranges
    → b ≡ is_sub world x y → x ≡ caught_class (get_or ranges i d) → y ≡ class_type throwable → b ≡ false
    → IsTrue false ↔ All (CanCatch world) ranges
catches_not world ranges i d b x y l e p q f =
    let is : b ≡ is_sub world (caught_class (get_or ranges i d)) (class_type throwable) = e ∙ ap (λ (z : Ty). is_sub world z y) p
    ∙ ap (is_sub world (caught_class (get_or ranges i d))) q in
    (λ t. absurd (false≢true t), λ h. absurd (false≢true (sym f ∙ is ∙ h i d l)))

pub catches_all : (world : World) (ranges : List CatchRange) (i : ℕ) → i ≡ length ranges → All (CanCatch world) (take i ranges)
    → IsTrue true ↔ All (CanCatch world) ranges
catches_all world ranges i e h =
    let same : take i ranges ≡ ranges = ap (λ (n : ℕ). take n ranges) e ∙ take-length ranges in
    (λ t. subst (All (CanCatch world)) same h, λ k. refl)

-- ---- the first frame

pub frame_is : (frame : FrameType) (locals stack : List PlaceType) → frame.locals ≡ locals → frame.stack.0 ≡ stack
    → seen frame ≡ record { locals = locals; stack = stack }
frame_is frame locals stack e s =
    let f : List PlaceType → List PlaceType → PlaceTypes = λ l t. record { locals = l; stack = t } in
    ap (λ (l : List PlaceType). f l frame.stack.0) e ∙ ap (f locals) s
