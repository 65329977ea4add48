-- When classes make a world, and else the first rule that they break: rule by rule, and of a rule the first class by
-- its number (JVM specification, sections 5.3 and 5.3.5).
use Rattle.std.specs.Prelude.{◌≡◌, ℕ, suc, ◌==◌, ◌||◌, ◌&&◌, not, Bool, true, false, if◌then◌else◌, List, [], ◌∷◌, length}
use Rattle.std.specs.Prelude.{slice_get, Option, Some, None, is_none, nat_lt, Result, option_and_then, codes}
use Rattle.std.specs.List.{list_any, list_all}
use Rattle.std.specs.Option.{option_map_or, option_or}
use Rattle.std.specs.Str.{bytes_eq}
use Rattle.code_forms.specs.list_views.Results as results
use Rattle.class_world.specs.declared.fault.LinkFault.{LinkFault}
use Rattle.class_world.specs.declared.fault.LinkFault.TheVariants.{DuplicateClass, MissingClass, CyclicHierarchy, BadSuper}
use Rattle.class_world.specs.declared.fault.LinkFault.TheVariants.{DefaultMethod, Memory}
use Rattle.class_world.specs.declared.linking.LinkRule.{LinkRule}
use Rattle.class_world.specs.declared.linking.LinkRule.TheVariants as rules
use Rattle.class_read.specs.Rules.{Spells}
use Rattle.class_read.specs.Content.{ClassContent, MethodContent}
use Rattle.class_world.specs.World.{World, class_of, super_of, interfaces_of, is_interface_class, is_above, is_interface}
use Rattle.class_world.specs.World.{is_abstract, is_static}

-- a rule of linking: the fault that it finds in a class, which is given with its number
abbrev pub Rule : Type 0
Rule = ℕ → ClassContent → Option LinkFault

-- the first class that breaks a rule, of classes that are numbered from `n` on
abbrev pub first_broken : Rule → ℕ → List ClassContent → Option LinkFault
first_broken rule n [] = None
first_broken rule n (c ∷ cs) = option_or (rule n c) (first_broken rule (suc n) cs)

-- The name is that of an interface that arrays implement (JVM specification, section 4.10.1.2, `isArrayInterface`). In a JVM every
-- array is below these two, and Throwable below one of them; here nothing is. So no class of a world has one of these names: else
-- `new int[1] instanceof java.io.Serializable` would answer otherwise than a JVM does (section 6.5, instanceof).
unfoldable pub is_array_interface : List ℕ → Bool
is_array_interface name = bytes_eq name (codes "java/lang/Cloneable") || bytes_eq name (codes "java/io/Serializable")

-- The rule of names: no earlier class has the name of a class, and it is not the name of an interface that arrays implement (JVM
-- specification, section 5.3.5).
unfoldable pub duplicate_class : World → Rule
duplicate_class world n c =
    if not (is_array_interface c.name) && option_map_or (λ first. first == n) (class_of world c.name) false
    then None else Some (DuplicateClass c.name)

-- the fault of a name that no class of the world has
abbrev pub missing_name : World → List ℕ → Option LinkFault
missing_name world name = if is_none (class_of world name) then Some (MissingClass name) else None

-- The fault of the name of an interface that no class of the world has. The interfaces that arrays implement are passed over: a class
-- that implements one of them needs no class file of it, and isn't below it, since no class has these names.
unfoldable pub missing_interface : World → List ℕ → Option LinkFault
missing_interface world name = if is_array_interface name then None else missing_name world name

-- the fault of the first of these names of interfaces that is missing
abbrev pub first_missing : World → List (List ℕ) → Option LinkFault
first_missing world [] = None
first_missing world (name ∷ names) = option_or (missing_interface world name) (first_missing world names)

-- the rule of presence: the superclass of a class, which class 0 has none of, and its superinterfaces are in the world
unfoldable pub missing_super : World → Rule
missing_super world n c =
    option_or (if n == 0 then None else missing_name world c.super_name) (first_missing world c.interfaces)

-- the rule against cycles: no class is above itself (JVM specification, section 5.3.5)
unfoldable pub cyclic_hierarchy : World → Rule
cyclic_hierarchy world n c = if is_above world n n then Some (CyclicHierarchy c.name) else None

-- A class with these flags can't extend this superclass: either that is an interface, or the class is an interface and its superclass
-- is another one than Object (JVM specification, sections 4.1 and 5.3.5).
abbrev pub is_bad_superclass : World → ℕ → ℕ → Bool
is_bad_superclass world flags super = is_interface_class world super || (is_interface flags && not (super == 0))

-- the rule of kinds: a class extends a class and implements interfaces, and an interface extends Object and interfaces
unfoldable pub bad_super : World → Rule
bad_super world n c =
    if option_map_or (is_bad_superclass world c.flags) (super_of world n) false
    || list_any (λ i. not (is_interface_class world i)) (interfaces_of world n)
    then Some (BadSuper c.name) else None

-- a method of an interface is a default method: it is neither abstract nor static
abbrev pub is_default : MethodContent → Bool
is_default m = not (is_abstract m.flags || is_static m.flags)

-- the rule against default methods: no interface has one
unfoldable pub default_method : World → Rule
default_method world n c =
    if is_interface c.flags && list_any is_default c.methods then Some (DefaultMethod c.name) else None

-- the fault of the first rule after the rule of names that the classes of a world break
unfoldable pub later_fault : World → Option LinkFault
later_fault world =
    option_or (first_broken (missing_super world) 0 world)
    (option_or (first_broken (cyclic_hierarchy world) 0 world)
    (option_or (first_broken (bad_super world) 0 world)
    (first_broken (default_method world) 0 world)))

-- the fault of the first rule that the classes of a world break, and of that rule the first class that breaks it
unfoldable pub link_fault : World → Option LinkFault
link_fault world = option_or (first_broken (duplicate_class world) 0 world) (later_fault world)

-- class 0 is a root of the hierarchy, as Object is: a class and no interface, which implements nothing
abbrev pub is_rooted : World → Bool
is_rooted world = option_map_or (λ c. not (is_interface c.flags) && (length c.interfaces == 0)) (slice_get world 0) false

-- the classes make a world: they keep all rules, and class 0 is a root
unfoldable pub is_linked : World → Bool
is_linked world = is_none (link_fault world) && is_rooted world

-- ---- classes that are read

-- a class can be read: some class file spells it
abbrev pub CanBeRead : ClassContent → Type 0
CanBeRead class = (bytes : List ℕ) × Spells bytes class

-- A class has fewer than 65,536 fields and as many methods, as a class file counts them in 16 bits (JVM specification, section 4.11).
abbrev pub has_few_members : ClassContent → Bool
has_few_members class = nat_lt (length class.fields) 65536 && nat_lt (length class.methods) 65536

-- the code of a method, where it has one, is of fewer than 65,536 bytes (JVM specification, section 4.7.3)
abbrev pub has_short_code : MethodContent → Bool
has_short_code m = option_map_or (λ code. nat_lt (length code.code) 65536) m.code true

-- every method of a class has a code of fewer than 65,536 bytes, or none
abbrev pub has_short_codes : ClassContent → Bool
has_short_codes class = list_all has_short_code class.methods

-- ---- answers

-- a fault that is no fault of the classes: want of memory
abbrev pub is_memory : LinkFault → Bool
is_memory Memory = true
is_memory fault = false

-- An answer agrees with the fault that the rules find: it is an error with that fault, or a success where they find none. Want of
-- memory may be answered in place of either.
abbrev pub Refuses : {A : Type 0} → Result A LinkFault → Option LinkFault → Type 0
Refuses answer fault = results.Refuses is_memory answer fault

-- the fault that a rule finds in the class of a number; none past the last class
abbrev pub rule_at : Rule → World → ℕ → Option LinkFault
rule_at rule world n = option_and_then (rule n) (slice_get world n)

-- the rules after that of names, each under its name in the code
abbrev pub rule_of : LinkRule → World → Rule
rule_of rules.MissingSuper = missing_super
rule_of rules.CyclicHierarchy = cyclic_hierarchy
rule_of rules.BadSuper = bad_super
rule_of rules.DefaultMethod = default_method
