-- A pattern is built level by level, its fields one after another.
use Rattle.std.proofs.Common.{◌≡◌, ℕ, zero, suc, ◌+◌, ◌-◌, ◌<◌, ◌≤◌, List, [], ◌∷◌, ◌++◌, length, drop, get_or, map, Option, Some}
use Rattle.std.proofs.Common.{None, Vec, Global, refl, sym, ap, subst, ◌∙◌, arith}
use Rattle.std.specs.Prelude.{Result, Ok, Err, IfOk}
use Rattle.std.specs.Option.{option_map, option_and_then}
use Rattle.std.proofs.lemmas.Option.{none-some}
use Rattle.std.proofs.Math.ListN.{drop_of_length-le}
use Rattle.std.proofs.Math.Seq.{drop-cons}
use Rattle.list_views.proofs.Options.{map_some}
use Rattle.jvm_values.proofs.Options.{some_is}
use Rattle.abs_cells.specs.declared.cells.Cell.{Cell}
use Rattle.abs_cells.specs.declared.cells.Cell.TheVariants as variants
use Rattle.abs_cells.specs.Cells.{cell_in}
use Rattle.abs_cells.specs.Patterns.{Pattern, Patterns, null, leaf, node, variable, none, more, patterns_by, pattern_of_cell}
use Rattle.term_enc.specs.declared.terms.PatternTerm.{PatternTerm, PatternTerm-F, fold-roll-PatternTerm}
use Rattle.term_enc.specs.declared.terms.PatternTerm.TheVariants.{Null, Leaf, Node, Var, rolls-Null, rolls-Leaf, rolls-Node, rolls-Var}
use Rattle.term_enc.specs.Encoding.{patterns_from, pattern_step, pattern_of}
use Rattle.term_enc.specs.inner.Counting.{pattern_in}
use Rattle.term_enc.proofs.Levels.{put, IsSplit, split}

-- ---- the equations of `pattern_of`, one for each variant

pub null_is : pattern_of Null ≡ null
null_is = ap pattern_of (sym rolls-Null) ∙ fold-roll-PatternTerm Pattern pattern_step PatternTerm-F.Null

pub leaf_is : pattern_of Leaf ≡ leaf
leaf_is = ap pattern_of (sym rolls-Leaf) ∙ fold-roll-PatternTerm Pattern pattern_step PatternTerm-F.Leaf

pub node_is : (class : ℕ) (children : Vec PatternTerm Global)
    → pattern_of (Node class children) ≡ node class (patterns_from (map pattern_of children.items))
node_is class children = ap pattern_of (sym (rolls-Node class children))
    ∙ fold-roll-PatternTerm Pattern pattern_step (PatternTerm-F.Node class children)

pub variable_is : (id : ℕ) → pattern_of (Var id) ≡ variable id
variable_is id = ap pattern_of (sym (rolls-Var id)) ∙ fold-roll-PatternTerm Pattern pattern_step (PatternTerm-F.Var id)

-- ---- fields that are passed

-- patterns before others
abbrev pub before : List Pattern → Patterns → Patterns
before [] rest = rest
before (first ∷ others) rest = more first (before others rest)

before_none : (ps : List Pattern) → before ps none ≡ patterns_from ps
before_none [] = refl
before_none (p ∷ ps) = ap (more p) (before_none ps)

before_last : (terms : List PatternTerm) (term : PatternTerm) (rest : Patterns)
    → before (map pattern_of terms) (more (pattern_of term) rest) ≡ before (map pattern_of (terms ++ term ∷ [])) rest
before_last [] term rest = refl
before_last (t ∷ terms) term rest = ap (more (pattern_of t)) (before_last terms term rest)

-- of some ids all patterns, of which some are done and those of the ids that are left follow
pub record IsPassed (pattern : ℕ → Option (Option Pattern)) (done : List PatternTerm) (left : List ℕ) (all : Patterns) : Type 0 where
  pub rest : Patterns
  pub rest_is : patterns_by pattern left ≡ Some rest
  pub all_is : all ≡ before (map pattern_of done) rest

-- where the ids have patterns at all
abbrev pub ArePassed : (ℕ → Option (Option Pattern)) → List ℕ → List PatternTerm → List ℕ → Type 0
ArePassed pattern ids done left = (all : Patterns) → patterns_by pattern ids ≡ Some all → IsPassed pattern done left all

pub none_passed : (pattern : ℕ → Option (Option Pattern)) (ids : List ℕ) (done : List PatternTerm) → done ≡ []
    → ArePassed pattern ids done ids
none_passed pattern ids done e all h = record
    { rest = all; rest_is = h; all_is = ap (λ (ts : List PatternTerm). before (map pattern_of ts) all) (sym e) }

put_none : (given : Option Pattern) (rest : Patterns) → given ≡ None → put given rest ≡ rest
unfolding put
put_none None rest e = refl
put_none (Some p) rest e = absurd (cc)

put_some : (given : Option Pattern) (rest : Patterns) (term : PatternTerm) → given ≡ Some (pattern_of term)
    → put given rest ≡ more (pattern_of term) rest
unfolding put
put_some None rest term e = absurd (cc)
put_some (Some p) rest term e = ap (λ (q : Pattern). more q rest) (some_is e)

module _ (pattern : ℕ → Option (Option Pattern)) (ids : List ℕ) (done : List PatternTerm) (index child : ℕ)
    (within : index < length ids) where
  next : (all : Patterns) (h : IsPassed pattern done (drop index ids) all)
      → IsSplit (pattern (get_or ids index child)) (patterns_by pattern (drop (suc index) ids)) h.rest
  next all h = split (pattern (get_or ids index child)) (patterns_by pattern (drop (suc index) ids)) h.rest
      (ap (patterns_by pattern) (sym (drop-cons ids index child within)) ∙ h.rest_is)

  int_passed : ((given : Option Pattern) → pattern (get_or ids index child) ≡ Some given → given ≡ None)
      → ArePassed pattern ids done (drop index ids) →
      ArePassed pattern ids done (drop (suc index) ids)
  int_passed is h all e =
      let p = h all e in
      let s = next all p in
      record {
        rest = s.others;
        rest_is = s.rest_is;
        all_is = p.all_is ∙ ap (before (map pattern_of done)) (s.all_is ∙ put_none s.given s.others (is s.given s.first_is));
      }

  one_passed : (term : PatternTerm) (more_done : List PatternTerm) → more_done ≡ done ++ term ∷ [] →
      ((given : Option Pattern) → pattern (get_or ids index child) ≡ Some given → given ≡ Some (pattern_of term))
      → ArePassed pattern ids done (drop index ids) →
      ArePassed pattern ids more_done (drop (suc index) ids)
  one_passed term more_done added is h all e =
      let p = h all e in
      let s = next all p in
      record {
        rest = s.others;
        rest_is = s.rest_is;
        all_is =
            p.all_is
            ∙ ap (before (map pattern_of done)) (s.all_is ∙ put_some s.given s.others term (is s.given s.first_is))
            ∙ before_last done term s.others
            ∙ ap (λ (ts : List PatternTerm). before (map pattern_of ts) s.others) (sym added);
      }

  after_it : suc index ≡ index + 1
  after_it = omega arith

  -- an int among the fields has no pattern
  pub int_more : (same_done : List PatternTerm) → same_done ≡ done → (answer : Option PatternTerm) → answer ≡ None →
      ((given : Option Pattern) → pattern (get_or ids index child) ≡ Some given → given ≡ option_map pattern_of answer)
      → ArePassed pattern ids done (drop index ids) →
      ArePassed pattern ids same_done (drop (index + 1) ids)
  int_more same_done same answer nothing is h =
      subst (λ (ts : List PatternTerm). ArePassed pattern ids ts (drop (index + 1) ids)) (sym same)
      (subst (λ (n : ℕ). ArePassed pattern ids done (drop n ids)) after_it
      (int_passed (λ given e. is given e ∙ ap (option_map pattern_of) nothing) h))

  -- a field that has one comes behind the others
  pub one_more : (term : PatternTerm) (more_done : List PatternTerm) → more_done ≡ done ++ term ∷ [] → (answer : Option PatternTerm)
      → answer ≡ Some term →
      ((given : Option Pattern) → pattern (get_or ids index child) ≡ Some given → given ≡ option_map pattern_of answer)
      → ArePassed pattern ids done (drop index ids) →
      ArePassed pattern ids more_done (drop (index + 1) ids)
  one_more term more_done added answer some is h =
      subst (λ (n : ℕ). ArePassed pattern ids more_done (drop n ids)) after_it
      (one_passed term more_done added (λ given e. is given e ∙ ap (option_map pattern_of) some) h)

-- ---- a cell's pattern

no_depth : (depth : ℕ) (cells : List (ℕ × Cell)) (id : ℕ) (given : Option Pattern) → depth ≡ 0 → pattern_in depth cells id ≡ Some given → ⊥
no_depth zero cells id given d e = none-some given e
no_depth (suc depth) cells id given d e = absurd (omega (arith, d))

pub at_no_depth : (depth : ℕ) (cells : List (ℕ × Cell)) (id : ℕ) (answer given : Option Pattern) → depth ≡ 0
    → pattern_in depth cells id ≡ Some given → given ≡ answer
at_no_depth depth cells id answer given d e = absurd (no_depth depth cells id given d e)

-- what is given of an id with a cell is what the cell gives
pub of_cell : (depth : ℕ) (cells : List (ℕ × Cell)) (id : ℕ) (given : Option Pattern) (cell : Cell) → cell_in cells id ≡ Some cell →
    pattern_in depth cells id ≡ Some given → pattern_of_cell (pattern_in (depth - 1) cells) id cell ≡ Some given
of_cell zero cells id given cell e h = absurd (none-some given h)
of_cell (suc depth) cells id given cell e h =
    ap (λ (n : ℕ). pattern_of_cell (pattern_in n cells) id cell) (less depth)
    ∙ sym (ap (option_and_then (pattern_of_cell (pattern_in depth cells) id)) e)
    ∙ h
  where
    less : (n : ℕ) → suc n - 1 ≡ n
    less n = omega arith

pub of_no_cell : (depth : ℕ) (cells : List (ℕ × Cell)) (id : ℕ) (answer given : Option Pattern) → cell_in cells id ≡ None
    → pattern_in depth cells id ≡ Some given → given ≡ answer
of_no_cell zero cells id answer given e h = absurd (none-some given h)
of_no_cell (suc depth) cells id answer given e h = absurd
    (none-some given (sym (ap (option_and_then (pattern_of_cell (pattern_in depth cells) id)) e) ∙ h))

-- all fields of an instance are passed
pub built_node : (depth : ℕ) (cells : List (ℕ × Cell)) (id class : ℕ) (ids items : List ℕ) (index : ℕ)
    (children : Vec PatternTerm Global) (given : Option Pattern) →
    cell_in cells id ≡ Some (variants.Obj class ids) → items ≡ ids → length items ≤ index →
    ArePassed (pattern_in (depth - 1) cells) items children.items (drop index items) → pattern_in depth cells id ≡ Some given →
    given ≡ Some (pattern_of (Node class children))
built_node depth cells id class ids items index children given e same l passed h =
    let m = map_some (λ (all : Patterns). Some (node class all)) (patterns_by (pattern_in (depth - 1) cells) ids) given
    (of_cell depth cells id given (variants.Obj class ids) e h) in
    let p = passed m.0 (ap (patterns_by (pattern_in (depth - 1) cells)) same ∙ m.1.0) in
    let end : none ≡ p.rest = some_is (ap (patterns_by (pattern_in (depth - 1) cells)) (sym (drop_of_length-le items l)) ∙ p.rest_is) in
    sym m.1.1
    ∙ ap (λ (all : Patterns). Some (node class all)) (p.all_is ∙ ap (before (map pattern_of children.items)) (sym end)
    ∙ before_none (map pattern_of children.items))
    ∙ ap Some (sym (node_is class children))

-- ---- answers

pub weaker : {A E : Type 0} (P Q : A → Type 0) → ((a : A) → P a → Q a) → (r : Result A E) → IfOk r P → IfOk r Q
weaker P Q h (Ok a) k = h a k
weaker P Q h (Err e) k = k
