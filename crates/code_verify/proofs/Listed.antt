-- Typings that are kept in lists.
use Rattle.std.proofs.Common.{◌≡◌, ◌↔◌, ℕ, zero, suc, ◌+◌, ◌<◌, ◌≤◌, List, [], ◌∷◌, ◌++◌, length, map, get_or, Option, Some, None}
use Rattle.std.proofs.Common.{◌⊎◌, inl, inr, refl, sym, ap, subst, ◌∙◌, arith, length-append}
use Rattle.std.specs.Prelude.{slice_get, All, IsTrue}
use Rattle.std.specs.Option.{option_map, option_and_then, is_some}
use Rattle.std.proofs.lemmas.Option.{slice_get-map, slice_get_past, slice_get_within, slice_get-get_or, none-some}
use Rattle.std.proofs.lemmas.List.Elements.{All-weaker}
use Rattle.jvm_values.specs.declared.typing.FrameType.{FrameType}
use Rattle.jvm_values.specs.States.{PlaceTypes, types_of as seen}
use Rattle.jvm_values.specs.TypedHeaps.{WorldTypes}
use Rattle.jvm_values.proofs.Options.{some_is}
use Rattle.class_program.specs.class_world.WorldTypes.{types_of}
use Rattle.class_program.specs.declared.program.Method.{Method}
use Rattle.class_program.specs.Programs.{Program}
use Rattle.frame_types.specs.Tables.{CodeTypes, Flow, Takes, types_at}
use Rattle.code_verify.specs.declared.fault.VerifyFault.{VerifyFault}
use Rattle.code_verify.specs.declared.fault.VerifyFault.TheVariants.{NoTyping, Memory}
use Rattle.code_verify.specs.Answers.{Names}
use Rattle.code_verify.specs.Typings.{IsTyping, HasTyping, IsLeastTyping, entry_flow, IsTypingOf, IsFirstUntyped, IsRefusal, typing_at}

abbrev pub Lists : Type 0
Lists = List (List (Option FrameType))

-- as contracts see them
abbrev pub seen_lists : Lists → List (List (Option PlaceTypes))
seen_lists lists = map (map (option_map seen)) lists

one_seen : (x : Option (Option FrameType)) → option_and_then (λ (found : Option PlaceTypes). found) (option_map (option_map seen) x)
    ≡ option_and_then (option_map seen) x
one_seen None = refl
one_seen (Some x) = refl

-- the typing of a number is that of its list
pub typing_is : (lists : Lists) (number : ℕ) (types : List (Option FrameType)) → slice_get lists number ≡ Some types → (place : ℕ)
    → typing_at (seen_lists lists) number place ≡ types_at types place
typing_is lists number types e place =
    ap (option_and_then (λ (t : List (Option PlaceTypes)). option_and_then (λ (found : Option PlaceTypes). found)
    (slice_get t place))) (slice_get-map (map (option_map seen)) lists number ∙ ap (option_map (map (option_map seen))) e)
    ∙ ap (option_and_then (λ (found : Option PlaceTypes). found)) (slice_get-map (option_map seen) types place)
    ∙ one_seen (slice_get types place)

pub past_is_none : (lists : Lists) (number place : ℕ) → length lists ≤ number → typing_at (seen_lists lists) number place ≡ None
past_is_none lists number place l =
    ap (option_and_then (λ (t : List (Option PlaceTypes)). option_and_then (λ (found : Option PlaceTypes). found)
    (slice_get t place))) (slice_get-map (map (option_map seen)) lists number
    ∙ ap (option_map (map (option_map seen))) (slice_get_past lists number l))

-- ---- typings that are equal place by place

takes_same : (types : WorldTypes) (a b : CodeTypes) → ((k : ℕ) → b k ≡ a k) → (flow : Flow) → Takes types a flow → Takes types b flow
takes_same types a b same flow t = record { there = t.there; is_there = same flow.to ∙ t.is_there; wide = t.wide }

typing_same : (p : Program) (m : Method) (a b : CodeTypes) → ((k : ℕ) → b k ≡ a k) → IsTyping p m a → IsTyping p m b
typing_same p m a b same t = record {
  catches = t.catches;
  entry = takes_same (types_of p.world) a b same (entry_flow (types_of p.world) m) t.entry;
  each = λ place frame e.
      let ty = t.each place frame (sym (same place) ∙ e) in
      record {
        limits = ty.limits;
        flows = ty.flows;
        runs = ty.runs;
        taken = All-weaker (Takes (types_of p.world) a) (Takes (types_of p.world) b) (takes_same (types_of p.world) a b same)
            ty.flows ty.taken;
      };
}

pub least_same : (p : Program) (m : Method) (a b : CodeTypes) → ((k : ℕ) → b k ≡ a k) → IsLeastTyping p m a → IsLeastTyping p m b
least_same p m a b same t = record {
  is_typing = typing_same p m a b same t.is_typing;
  least = λ other o place frame e. t.least other o place frame (sym (same place) ∙ e);
  reached = λ place. (
    λ h. (t.reached place).0 (ap is_some (sym (same place)) ∙ h),
    λ r. ap is_some (same place) ∙ (t.reached place).1 r,
  );
}

not_past : (lists : Lists) (k : ℕ) → slice_get lists k ≡ None → k < length lists → ⊥
not_past lists k e l = let f : None ≡ Some (get_or lists k []) = sym e ∙ slice_get-get_or lists k [] l in cc

-- ---- the methods so far

pub record AreTyped (p : Program) (count : ℕ) (lists : Lists) : Type 0 where
  pub many : length lists ≡ count
  pub each : (k : ℕ) (m : Method) (types : List (Option FrameType)) → slice_get p.methods k ≡ Some m
      → slice_get lists k ≡ Some types → IsLeastTyping p m (types_at types)

last_of : {A : Type 0} (xs : List A) (x : A) (k : ℕ) (y : A) → slice_get (xs ++ x ∷ []) k ≡ Some y
    → (slice_get xs k ≡ Some y) ⊎ ((k ≡ length xs) × (y ≡ x))
last_of [] x zero y e = inr (refl, sym (some_is e))
last_of [] x (suc k) y e = absurd (none-some y e)
last_of (z ∷ xs) x zero y e = inl e
last_of (z ∷ xs) x (suc k) y e = elim (last_of xs x k y e) [ inl h ↦ inl h | inr h ↦ inr (ap suc h.0, h.1) ]

pub one_more_typed : (p : Program) (i : ℕ) (lists : Lists) (m : Method) (types : List (Option FrameType)) → AreTyped p i lists
    → slice_get p.methods i ≡ Some m → IsLeastTyping p m (types_at types) → AreTyped p (i + 1) (lists ++ types ∷ [])
one_more_typed p i lists m types h e t = record {
  many = length-append lists (types ∷ []) ∙ ap (λ (n : ℕ). n + 1) h.many;
  each = λ k n found f g. elim (last_of lists types k found g) [
    | inl o ↦ h.each k n found f o
    | inr o ↦
        let at : k ≡ i = o.0 ∙ h.many in
        let same : m ≡ n = some_is (sym e ∙ ap (slice_get p.methods) (sym at) ∙ f) in
        subst (λ (x : List (Option FrameType)). IsLeastTyping p n (types_at x)) (sym o.1)
        (subst (λ (x : Method). IsLeastTyping p x (types_at types)) same t)
  ];
}

pub all_typed : (p : Program) (i : ℕ) (lists : Lists) → i ≡ length p.methods → AreTyped p i lists
    → IsTypingOf p (typing_at (seen_lists lists))
all_typed p i lists e h = record {
  each = λ number m f.
      let l : number < length lists = omega (arith, h.many, e, slice_get_within p.methods number m f) in
      found number m f (slice_get lists number) refl l;
  no_more = λ number place l. past_is_none lists number place (omega (arith, h.many, e));
}
  where
    found : (number : ℕ) (m : Method) → slice_get p.methods number ≡ Some m → (x : Option (List (Option FrameType)))
        → slice_get lists number ≡ x → number < length lists → IsLeastTyping p m (typing_at (seen_lists lists) number)
    found number m f None g l = absurd (not_past lists number g l)
    found number m f (Some types) g l = least_same p m (types_at types) (typing_at (seen_lists lists) number)
        (typing_is lists number types g) (h.each number m types f g)

pub first_untyped : (p : Program) (i : ℕ) (lists : Lists) (m : Method) → AreTyped p i lists → slice_get p.methods i ≡ Some m
    → (HasTyping p m → ⊥) → IsFirstUntyped p i
first_untyped p i lists m h e never = record {
  method = m;
  there = e;
  untyped = never;
  earlier = λ k n l f. found k n f (slice_get lists k) refl (omega (arith, h.many, l));
}
  where
    found : (k : ℕ) (n : Method) → slice_get p.methods k ≡ Some n → (x : Option (List (Option FrameType))) → slice_get lists k ≡ x
        → k < length lists → HasTyping p n
    found k n f None g l = absurd (not_past lists k g l)
    found k n f (Some types) g l = (types_at types, (h.each k n types f g).is_typing)

-- ---- the loop over the methods

pub method_there : (p : Program) (i : ℕ) (m : Method) → i < length p.methods → m ≡ get_or p.methods i m → slice_get p.methods i ≡ Some m
method_there p i m l e = slice_get-get_or p.methods i m l ∙ ap Some (sym e)

pub pushed_typed : (p : Program) (i : ℕ) (lists pushed : Lists) (m : Method) (types : List (Option FrameType)) → AreTyped p i lists
    → slice_get p.methods i ≡ Some m → IsLeastTyping p m (types_at types) → pushed ≡ lists ++ types ∷ [] → AreTyped p (i + 1) pushed
pushed_typed p i lists pushed m types h e t is = subst (AreTyped p (i + 1)) (sym is) (one_more_typed p i lists m types h e t)

pub refusal_named : (p : Program) (i n : ℕ) (lists : Lists) (m : Method) (fault : VerifyFault) → AreTyped p i lists
    → n ≡ length lists → slice_get p.methods i ≡ Some m → (HasTyping p m → ⊥) → Names n fault → IsRefusal p fault
refusal_named p i n lists m (NoTyping k) h e there never is = subst (IsFirstUntyped p) (sym (is ∙ e ∙ h.many))
    (first_untyped p i lists m h there never)
refusal_named p i n lists m Memory h e there never is = tt
