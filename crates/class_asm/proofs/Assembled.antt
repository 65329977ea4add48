-- How a class is put together.
use Rattle.std.proofs.Common.{◌≡◌, ℕ, List, [], ◌∷◌, ◌++◌, map, Option, Some, None, Ok, Err, refl, sym, ap, subst, ◌∙◌}
use Rattle.std.specs.List.{AllByRecursion, flat_map}
use Rattle.class_pool.specs.Entry.{HasText}
use Rattle.class_read.specs.Writing.{HasClassText}
use Rattle.class_read.specs.declared.text.ClassText.{ClassText}
use Rattle.asm_lines.specs.declared.fault.AsmFault.{AsmFault}
use Rattle.asm_lines.specs.declared.listing.Listing.{Listing}
use Rattle.asm_lines.specs.declared.statement.ClassLine.{ClassLine}
use Rattle.asm_lines.specs.Firsts.{with_faults}
use Rattle.class_asm.specs.asm_pool.Needs.{listing_needs}
use Rattle.class_asm.specs.asm_pool.Pools.{pool_in}
use Rattle.class_asm.specs.Classes.{class_text, class_of, all_faults, unless_faulty}
use Rattle.asm_lines.proofs.Faults.{in_turn}
use Rattle.class_asm.proofs.ClassBounds.{has_text}

pub in_turns : (f g h i : Option AsmFault) (a b c : List AsmFault) → g ≡ with_faults f a → h ≡ with_faults g b → i ≡ with_faults h c
    → i ≡ with_faults f (a ++ b ++ c)
in_turns f g h i a b c p q r = in_turn f h i (a ++ b) c (in_turn f g h a b p q) r

pub faulty : (line : ℕ) (class : ClassLine) (listing : Listing) (o : Option AsmFault) (fault : AsmFault)
    → o ≡ with_faults listing.first.fault (all_faults line class listing) → o ≡ Some fault
    → class_of line class listing ≡ Err fault
unfolding class_of
faulty line class listing o fault h k = ap
    (λ x. unless_faulty x (class_text (pool_in (listing_needs line class listing)) class listing)) (sym h ∙ k)

pub faultless : (line : ℕ) (class : ClassLine) (listing : Listing) (o : Option AsmFault) (c : ClassText)
    → o ≡ with_faults listing.first.fault (all_faults line class listing) → o ≡ None
    → c ≡ class_text (pool_in (listing_needs line class listing)) class listing → class_of line class listing ≡ Ok c
unfolding class_of
faultless line class listing o c h k e = ap
    (λ x. unless_faulty x (class_text (pool_in (listing_needs line class listing)) class listing)) (sym h ∙ k)
    ∙ ap (λ (x : ClassText). Ok x) (sym e)

pub has_class_text : (line : ℕ) (class : ClassLine) (listing : Listing) (o : Option AsmFault) (c : ClassText)
    → o ≡ with_faults listing.first.fault (all_faults line class listing) → o ≡ None
    → c ≡ class_text (pool_in (listing_needs line class listing)) class listing → AllByRecursion HasText c.pool → HasClassText c
has_class_text line class listing o c h k e texts =
    subst HasClassText (sym e) (has_text line class listing (sym h ∙ k) (subst (λ (x : ClassText). AllByRecursion HasText x.pool) e texts))
