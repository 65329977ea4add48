-- Linking, from its steps.
use Rattle.std.proofs.Common.{◌≡◌, ◌+◌, ◌<◌, ◌≤◌, ◌^◌, ◌-◌, true, List, length, take, Some, None, sym, refl, ap, ◌∙◌, subst, arith}
use Rattle.std.proofs.Common.{length-append}
use Rattle.std.specs.Prelude.{is_none}
use Rattle.std.proofs.lemmas.Bool.{and_from}
use Rattle.code_forms.specs.list_views.Results.{IsFault}
use Rattle.class_read.specs.Content.{ClassContent}
use Rattle.class_world.specs.declared.fault.LinkFault.{LinkFault}
use Rattle.class_world.specs.World.{World, built_ins, built_in_names, world_of}
use Rattle.class_world.specs.Linking.{is_memory, first_broken, duplicate_class, later_fault, link_fault, is_linked, is_rooted}
use Rattle.class_world.specs.BuiltIns.{built_in_count, IsWorld}
use Rattle.class_world.proofs.Rules.{first_says, says_along, after_none}

pub world_length : (given : List ClassContent) → length (world_of given) ≡ 15 + length given
unfolding built_in_names
world_length given = length-append built_ins given

pub rooted : (given : List ClassContent) → is_rooted (world_of given) ≡ true
unfolding built_in_names
rooted given = refl

pub enrol_fits : (given : List ClassContent) (all : World) → all ≡ world_of given → length given + 15 ≤ 2 ^ 32 - 16 → length all < 2 ^ 32
enrol_fits given all e l = omega (arith, ap length e, world_length given, l)

pub link_first : (given : List ClassContent) (all : World) (fault : LinkFault) → all ≡ world_of given
    → IsFault is_memory fault (first_broken (duplicate_class all) 0 all) → IsFault is_memory fault (link_fault (world_of given))
unfolding link_fault
link_first given all fault e h = first_says _ _ fault
    (subst (λ (w : World). IsFault is_memory fault (first_broken (duplicate_class w) 0 w)) e h)

pub link_later : (given : List ClassContent) (all world : World) (fault : LinkFault) → all ≡ world_of given → world ≡ all
    → first_broken (duplicate_class all) 0 all ≡ None → IsFault is_memory fault (later_fault world)
    → IsFault is_memory fault (link_fault (world_of given))
unfolding link_fault
link_later given all world fault e s n h =
    says_along _ _ fault (after_none _ _ (subst (λ (w : World). first_broken (duplicate_class w) 0 w ≡ None) e n))
    (subst (λ (w : World). IsFault is_memory fault (later_fault w)) (s ∙ e) h)

pub link_none : (given : List ClassContent) (all world : World) → all ≡ world_of given → world ≡ all
    → first_broken (duplicate_class all) 0 all ≡ None → later_fault world ≡ None → link_fault (world_of given) ≡ None
unfolding link_fault
link_none given all world e s n h =
    after_none _ _ (subst (λ (w : World). first_broken (duplicate_class w) 0 w ≡ None) e n)
    ∙ subst (λ (w : World). later_fault w ≡ None) (s ∙ e) h

pub linked_is : (given : List ClassContent) (all world : World) → all ≡ world_of given → world ≡ all
    → first_broken (duplicate_class all) 0 all ≡ None → later_fault world ≡ None → is_linked world ≡ true
unfolding is_linked
linked_is given all world e s n h =
    let whole : is_linked (world_of given) ≡ true = and_from _ _ (ap is_none (link_none given all world e s n h)) (rooted given) in
    subst (λ (w : World). is_linked w ≡ true) (sym (s ∙ e)) whole

pub world_is : (given : List ClassContent) (all world : World) → all ≡ world_of given → world ≡ all
    → first_broken (duplicate_class all) 0 all ≡ None → later_fault world ≡ None → IsWorld world
unfolding built_in_names
world_is given all world e s n h = record { begins = ap (take built_in_count) (s ∙ e); linked = linked_is given all world e s n h }
