-- What each rule says of one class.
use Rattle.std.proofs.Common.{◌≡◌, ◌||◌, ◌&&◌, ℕ, ◌<◌, Bool, true, false, not, cond, eqb, List, ◌∷◌, length, get_or, Option, Some}
use Rattle.std.proofs.Common.{None, sym, ap, ◌∙◌}
use Rattle.std.specs.Prelude.{option_and_then}
use Rattle.std.specs.List.{list_any}
use Rattle.std.specs.Option.{option_or, option_map_or}
use Rattle.std.proofs.lemmas.Bool.{ne_eqb, eq-eqb}
use Rattle.code_forms.specs.list_views.Results.{IsFault}
use Rattle.code_forms.proofs.list_views.Steps.{found_by}
use Rattle.class_read.specs.Content.{ClassContent, MethodContent}
use Rattle.class_world.specs.declared.fault.LinkFault.{LinkFault}
use Rattle.class_world.specs.declared.fault.LinkFault.TheVariants.{CyclicHierarchy, BadSuper, DefaultMethod}
use Rattle.class_world.specs.World.{World, is_above, is_interface, is_interface_class, super_of, interfaces_of}
use Rattle.class_world.specs.Linking.{is_memory, first_missing, missing_name, rule_at, missing_super, cyclic_hierarchy, bad_super}
use Rattle.class_world.specs.Linking.{default_method, is_default, is_bad_superclass}
use Rattle.class_world.proofs.Tables.{class_at}

pub cyclic_at : (world : World) (i : ℕ) (c : ClassContent) (name : List ℕ) → i < length world → c ≡ get_or world i c → name ≡ c.name
    → rule_at (cyclic_hierarchy world) world i ≡ cond (is_above world i i) (Some (CyclicHierarchy name)) None
unfolding cyclic_hierarchy
cyclic_at world i c name l e n =
    ap (option_and_then (cyclic_hierarchy world i)) (class_at world i c l e)
    ∙ ap (λ x. cond (is_above world i i) (Some (CyclicHierarchy x)) None) (sym n)

pub default_at : (world : World) (i : ℕ) (c : ClassContent) (flags : ℕ) (name : List ℕ) (methods : List MethodContent)
    → i < length world → c ≡ get_or world i c → flags ≡ c.flags → name ≡ c.name → methods ≡ c.methods
    → rule_at (default_method world) world i ≡ cond (is_interface flags && list_any is_default methods) (Some (DefaultMethod name)) None
unfolding default_method
default_at world i c flags name methods l e f n m =
    ap (option_and_then (default_method world i)) (class_at world i c l e)
    ∙ ap (λ x. cond (is_interface x && list_any is_default c.methods) (Some (DefaultMethod c.name)) None) (sym f)
    ∙ ap (λ x. cond (is_interface flags && list_any is_default x) (Some (DefaultMethod c.name)) None) (sym m)
    ∙ ap (λ x. cond (is_interface flags && list_any is_default methods) (Some (DefaultMethod x)) None) (sym n)

pub missing_at : (world : World) (i : ℕ) (c : ClassContent) (super : List ℕ) (names : List (List ℕ)) → i < length world
    → c ≡ get_or world i c → super ≡ c.super_name → names ≡ c.interfaces
    → rule_at (missing_super world) world i ≡ cond (eqb i 0) (first_missing world names)
    (option_or (missing_name world super) (first_missing world names))
unfolding missing_super
missing_at world i c super names l e s n =
    ap (option_and_then (missing_super world i)) (class_at world i c l e)
    ∙ by (eqb i 0)
  where
    by : (z : Bool) → option_or (cond z None (missing_name world c.super_name)) (first_missing world c.interfaces) ≡ cond z
        (first_missing world names) (option_or (missing_name world super) (first_missing world names))
    by true = ap (first_missing world) (sym n)
    by false = ap (λ x. option_or (missing_name world x) (first_missing world c.interfaces)) (sym s)
        ∙ ap (λ x. option_or (missing_name world super) (first_missing world x)) (sym n)

pub bad_at : (world : World) (i : ℕ) (c : ClassContent) (flags : ℕ) (name : List ℕ) (a b : Bool) → i < length world
    → c ≡ get_or world i c → flags ≡ c.flags → name ≡ c.name
    → a ≡ option_map_or (is_bad_superclass world flags) (super_of world i) false
    → b ≡ list_any (λ k. not (is_interface_class world k)) (interfaces_of world i)
    → rule_at (bad_super world) world i ≡ cond (a || b) (Some (BadSuper name)) None
unfolding bad_super
bad_at world i c flags name a b l e f n p q =
    ap (option_and_then (bad_super world i)) (class_at world i c l e)
    ∙ ap (λ x. cond (option_map_or (is_bad_superclass world x) (super_of world i) false || list_any
    (λ k. not (is_interface_class world k)) (interfaces_of world i)) (Some (BadSuper c.name)) None) (sym f)
    ∙ ap (λ x. cond (x || list_any (λ k. not (is_interface_class world k)) (interfaces_of world i)) (Some (BadSuper c.name)) None) (sym p)
    ∙ ap (λ x. cond (a || x) (Some (BadSuper c.name)) None) (sym q)
    ∙ ap (λ x. cond (a || b) (Some (BadSuper x)) None) (sym n)

-- whether a rule is broken decides what it says
pub says_yes : {A : Type 0} (o : Option A) (b : Bool) (x : A) → o ≡ cond b (Some x) None → b ≡ true → o ≡ Some x
says_yes o b x e f = e ∙ ap (λ y. cond y (Some x) None) f

pub says_no : {A : Type 0} (o : Option A) (b : Bool) (x : A) → o ≡ cond b (Some x) None → b ≡ false → o ≡ None
says_no o b x e f = e ∙ ap (λ y. cond y (Some x) None) f

pub missing_first : (world : World) (i : ℕ) (o a b : Option LinkFault) (fault : LinkFault) → o ≡ cond (eqb i 0) b (option_or a b)
    → (i ≡ 0 → ⊥) → IsFault is_memory fault a → IsFault is_memory fault o
missing_first world i o a b fault e n h = found_by is_memory fault a o (λ s. e ∙ ap (λ z. cond z b (option_or a b)) (ne_eqb i 0 n)
    ∙ ap (λ x. option_or x b) s) h

pub missing_rest : (i : ℕ) (o a b : Option LinkFault) → o ≡ cond (eqb i 0) b (option_or a b) → (i ≡ 0 → ⊥) → a ≡ None → o ≡ b
missing_rest i o a b e n s = e ∙ ap (λ z. cond z b (option_or a b)) (ne_eqb i 0 n) ∙ ap (λ x. option_or x b) s

pub missing_root : (i : ℕ) (o a b : Option LinkFault) → o ≡ cond (eqb i 0) b (option_or a b) → i ≡ 0 → o ≡ b
missing_root i o a b e z = e ∙ ap (λ x. cond x b (option_or a b)) (eq-eqb i 0 z)
