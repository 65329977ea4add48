-- What is left after a pattern is what its parts leave.
use Rattle.std.proofs.Common.{◌≡◌, ℕ, zero, suc, ◌+◌, List, [], ◌∷◌, Option, Some, None, refl, sym, ap, ◌∙◌, arith}
use Rattle.std.specs.Option.{option_map, option_and_then}
use Rattle.std.proofs.lemmas.Option.{none-some}
use Rattle.list_views.proofs.Options.{map_some, then_some}
use Rattle.jvm_values.proofs.Options.{some_is}
use Rattle.abs_cells.specs.declared.cells.Cell.{Cell}
use Rattle.abs_cells.specs.declared.cells.Cell.TheVariants.{Int, Null, Obj, Nums, Refs, Unk}
use Rattle.abs_cells.specs.Cells.{cell_in}
use Rattle.abs_cells.specs.Patterns.{Pattern, Patterns, with_first, patterns_by, pattern_of_cell, count_in, counts_in}
use Rattle.abs_cells.specs.Patterns.Pattern.{null, leaf, node, variable}
use Rattle.abs_cells.specs.Patterns.Patterns.{none, more}
use Rattle.term_enc.specs.inner.Counting.{pattern_in, one_less, left_after_all, left_after_cell, left_after, count_given}

-- what is given comes first
unfoldable pub put : Option Pattern → Patterns → Patterns
put None rest = rest
put (Some pattern) rest = more pattern rest

pub record IsSplit (first : Option (Option Pattern)) (rest : Option Patterns) (all : Patterns) : Type 0 where
  pub given : Option Pattern
  pub others : Patterns
  pub first_is : first ≡ Some given
  pub rest_is : rest ≡ Some others
  pub all_is : all ≡ put given others

pub split : (first : Option (Option Pattern)) (rest : Option Patterns) (all : Patterns) → with_first first rest ≡ Some all
    → IsSplit first rest all
unfolding put
split None rest all e = absurd (none-some all e)
split (Some None) rest all e = record { given = None; others = all; first_is = refl; rest_is = e; all_is = refl }
split (Some (Some pattern)) rest all e =
    let r = map_some (more pattern) rest all e in
    record { given = Some pattern; others = r.0; first_is = refl; rest_is = r.1.0; all_is = sym r.1.1 }

pub counts_put : (given : Option Pattern) (rest : Patterns) → counts_in (put given rest) ≡ count_given given + counts_in rest
unfolding put
counts_put None rest = omega arith
counts_put (Some pattern) rest = refl

pub with_put : (first : Option (Option Pattern)) (rest : Option Patterns) (given : Option Pattern) (others : Patterns)
    → first ≡ Some given → rest ≡ Some others →
    with_first first rest ≡ Some (put given others)
unfolding put
with_put first rest None others e f = ap (λ (o : Option (Option Pattern)). with_first o rest) e ∙ f
with_put first rest (Some pattern) others e f = ap (λ (o : Option (Option Pattern)). with_first o rest) e
    ∙ ap (option_map (more pattern)) f

-- ---- from a pattern to what is left

one_less_of : (left rest : ℕ) → left ≡ suc rest → one_less left ≡ Some rest
one_less_of left rest e = ap one_less e

-- what is given of each id leaves what its parts leave
abbrev pub Leaves : (ℕ → Option (Option Pattern)) → (ℕ → ℕ → Option ℕ) → Type 0
Leaves pattern after = (id : ℕ) (given : Option Pattern) (left rest : ℕ) → pattern id ≡ Some given → left ≡ count_given given + rest
    → after id left ≡ Some rest

all_leave : (pattern : ℕ → Option (Option Pattern)) (after : ℕ → ℕ → Option ℕ) → Leaves pattern after
    → (ids : List ℕ) (all : Patterns) (left rest : ℕ) →
    patterns_by pattern ids ≡ Some all → left ≡ counts_in all + rest → left_after_all after ids left ≡ Some rest
all_leave pattern after h [] all left rest e l =
    let same : none ≡ all = some_is e in
    let count = ap counts_in same in
    ap Some (omega (arith, l, count))
all_leave pattern after h (id ∷ ids) all left rest e l =
    let s = split (pattern id) (patterns_by pattern ids) all e in
    let count = ap counts_in s.all_is ∙ counts_put s.given s.others in
    let one : after id left ≡ Some (counts_in s.others + rest) = h id s.given left (counts_in s.others + rest) s.first_is
    (omega (arith, l, count)) in
    ap (option_and_then (left_after_all after ids)) one ∙ all_leave pattern after h ids s.others (counts_in s.others + rest) rest
    s.rest_is refl

-- one part is all
single : (pattern : Pattern) (given : Option Pattern) (left rest : ℕ) → count_in pattern ≡ 1 → Some (Some pattern) ≡ Some given
    → left ≡ count_given given + rest → one_less left ≡ Some rest
single pattern given left rest one e l =
    let count = ap count_given (some_is e) in
    one_less_of left rest (omega (arith, l, count, one))

cell_leaves : (pattern : ℕ → Option (Option Pattern)) (after : ℕ → ℕ → Option ℕ) → Leaves pattern after →
    (id : ℕ) (cell : Cell) (given : Option Pattern) (left rest : ℕ) → pattern_of_cell pattern id cell ≡ Some given
    → left ≡ count_given given + rest →
    left_after_cell after left cell ≡ Some rest
cell_leaves pattern after h id (Int interval) given left rest e l = let count = ap count_given (some_is e) in ap Some
    (omega (arith, l, count))
cell_leaves pattern after h id Null given left rest e l = single null given left rest refl e l
cell_leaves pattern after h id (Obj class ids) given left rest e l =
    let m = map_some (λ (children : Patterns). Some (node class children)) (patterns_by pattern ids) given e in
    let count = ap count_given m.1.1 in
    let one : one_less left ≡ Some (counts_in m.0 + rest) = one_less_of left (counts_in m.0 + rest) (omega (arith, l, count)) in
    ap (option_and_then (left_after_all after ids)) one ∙ all_leave pattern after h ids m.0 (counts_in m.0 + rest) rest m.1.0 refl
cell_leaves pattern after h id (Nums kind len) given left rest e l = single leaf given left rest refl e l
cell_leaves pattern after h id (Refs element len shape) given left rest e l = single leaf given left rest refl e l
cell_leaves pattern after h id (Unk bound nullable shape) given left rest e l = single (variable id) given left rest refl e l

pub leaves : (depth : ℕ) (cells : List (ℕ × Cell)) → Leaves (pattern_in depth cells) (left_after depth cells)
leaves zero cells id given left rest e l = absurd (none-some given e)
leaves (suc depth) cells id given left rest e l =
    let p = then_some (pattern_of_cell (pattern_in depth cells) id) (cell_in cells id) given e in
    ap (option_and_then (left_after_cell (left_after depth cells) left)) p.1.0
    ∙ cell_leaves (pattern_in depth cells) (left_after depth cells) (leaves depth cells) id p.0 given left rest p.1.1 l

-- ---- from what is left to a pattern

pub record HasLeft (pattern : Option (Option Pattern)) (left rest : ℕ) : Type 0 where
  pub given : Option Pattern
  pub is : pattern ≡ Some given
  pub left_is : left ≡ count_given given + rest

pub record HaveLeft (patterns : Option Patterns) (left rest : ℕ) : Type 0 where
  pub all : Patterns
  pub is : patterns ≡ Some all
  pub left_is : left ≡ counts_in all + rest

abbrev pub Tells : (ℕ → Option (Option Pattern)) → (ℕ → ℕ → Option ℕ) → Type 0
Tells pattern after = (id left rest : ℕ) → after id left ≡ Some rest → HasLeft (pattern id) left rest

all_tell : (pattern : ℕ → Option (Option Pattern)) (after : ℕ → ℕ → Option ℕ) → Tells pattern after → (ids : List ℕ) (left rest : ℕ) →
    left_after_all after ids left ≡ Some rest → HaveLeft (patterns_by pattern ids) left rest
all_tell pattern after h [] left rest e = let l = some_is e in record { all = none; is = refl; left_is = omega (arith, l) }
all_tell pattern after h (id ∷ ids) left rest e =
    let p = then_some (left_after_all after ids) (after id left) rest e in
    let one = h id left p.0 p.1.0 in
    let others = all_tell pattern after h ids p.0 rest p.1.1 in
    let count = counts_put one.given others.all in
    let a = one.left_is in
    let b = others.left_is in
    record {
      all = put one.given others.all;
      is = with_put (pattern id) (patterns_by pattern ids) one.given others.all one.is others.is;
      left_is = omega (arith, a, b, count);
    }

more_by_one : (left rest : ℕ) → one_less left ≡ Some rest → left ≡ suc rest
more_by_one zero rest e = absurd (none-some rest e)
more_by_one (suc left) rest e = ap suc (some_is e)

single_tells : (pattern : Pattern) (left rest : ℕ) → count_in pattern ≡ 1 → one_less left ≡ Some rest
    → HasLeft (Some (Some pattern)) left rest
single_tells pattern left rest one e = let l = more_by_one left rest e in record
    { given = Some pattern; is = refl; left_is = omega (arith, l, one) }

cell_tells : (pattern : ℕ → Option (Option Pattern)) (after : ℕ → ℕ → Option ℕ) → Tells pattern after
    → (id : ℕ) (cell : Cell) (left rest : ℕ) →
    left_after_cell after left cell ≡ Some rest → HasLeft (pattern_of_cell pattern id cell) left rest
cell_tells pattern after h id (Int interval) left rest e = let l = some_is e in record
    { given = None; is = refl; left_is = omega (arith, l) }
cell_tells pattern after h id Null left rest e = single_tells null left rest refl e
cell_tells pattern after h id (Obj class ids) left rest e =
    let p = then_some (left_after_all after ids) (one_less left) rest e in
    let all = all_tell pattern after h ids p.0 rest p.1.1 in
    let l = more_by_one left p.0 p.1.0 in
    let a = all.left_is in
    record {
      given = Some (node class all.all);
      is = ap (option_map (λ (children : Patterns). Some (node class children))) all.is;
      left_is = omega (arith, l, a);
    }
cell_tells pattern after h id (Nums kind len) left rest e = single_tells leaf left rest refl e
cell_tells pattern after h id (Refs element len shape) left rest e = single_tells leaf left rest refl e
cell_tells pattern after h id (Unk bound nullable shape) left rest e = single_tells (variable id) left rest refl e

pub tells : (depth : ℕ) (cells : List (ℕ × Cell)) → Tells (pattern_in depth cells) (left_after depth cells)
tells zero cells id left rest e = absurd (none-some rest e)
tells (suc depth) cells id left rest e =
    let p = then_some (left_after_cell (left_after depth cells) left) (cell_in cells id) rest e in
    let h = cell_tells (pattern_in depth cells) (left_after depth cells) (tells depth cells) id p.0 left rest p.1.1 in
    record { given = h.given; is = ap (option_and_then (pattern_of_cell (pattern_in depth cells) id)) p.1.0 ∙ h.is; left_is = h.left_is }
