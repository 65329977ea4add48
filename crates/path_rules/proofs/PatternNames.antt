-- The variables and the classes of an instance's pattern are those of its fields' patterns, one after another.
use Rattle.std.proofs.Common.{◌≡◌, ◌≤◌, ℕ, List, [], ◌∷◌, ◌++◌, length, map, drop, Vec, Global, refl, sym, ap, ◌∙◌}
use Rattle.std.specs.List.{flat_map}
use Rattle.std.proofs.Math.ListN.{drop_of_length-le}
use Rattle.std.proofs.lemmas.List.{append_assoc, append-nil}
use Rattle.abs_cells.specs.Patterns.{Pattern}
use Rattle.term_enc.specs.declared.terms.PatternTerm.{PatternTerm}
use Rattle.term_enc.specs.declared.terms.PatternTerm.TheVariants.{Node}
use Rattle.term_enc.specs.Encoding.{patterns_from, pattern_of}
use Rattle.term_enc.specs.Sizes.{variables_in, variables_among, classes_in, classes_among}
use Rattle.term_enc.proofs.Built.{node_is}

map_both : (place : ℕ → ℕ) (xs ys : List ℕ) → map place (xs ++ ys) ≡ map place xs ++ map place ys
map_both place [] ys = refl
map_both place (x ∷ xs) ys = ap (λ (zs : List ℕ). place x ∷ zs) (map_both place xs ys)

fields_variables : (place : ℕ → ℕ) (terms : List PatternTerm) → map place (variables_among (patterns_from (map pattern_of terms)))
    ≡ flat_map (λ (t : PatternTerm). map place (variables_in (pattern_of t))) terms
fields_variables place [] = refl
fields_variables place (t ∷ terms) =
    map_both place (variables_in (pattern_of t)) (variables_among (patterns_from (map pattern_of terms)))
    ∙ ap (λ (zs : List ℕ). map place (variables_in (pattern_of t)) ++ zs) (fields_variables place terms)

pub node_variables : (place : ℕ → ℕ) (class : ℕ) (children : Vec PatternTerm Global)
    → map place (variables_in (pattern_of (Node class children))) ≡ flat_map
    (λ (t : PatternTerm). map place (variables_in (pattern_of t))) children.items
node_variables place class children = ap (λ (p : Pattern). map place (variables_in p)) (node_is class children)
    ∙ fields_variables place children.items

fields_classes : (terms : List PatternTerm) → classes_among (patterns_from (map pattern_of terms)) ≡ flat_map
    (λ (t : PatternTerm). classes_in (pattern_of t)) terms
fields_classes [] = refl
fields_classes (t ∷ terms) = ap (λ (zs : List ℕ). classes_in (pattern_of t) ++ zs) (fields_classes terms)

pub node_classes : (class : ℕ) (children : Vec PatternTerm Global) → classes_in (pattern_of (Node class children)) ≡ class
    ∷ flat_map (λ (t : PatternTerm). classes_in (pattern_of t)) children.items
node_classes class children = ap (λ (p : Pattern). classes_in p) (node_is class children)
    ∙ ap (λ (zs : List ℕ). class ∷ zs) (fields_classes children.items)

-- ---- all fields are passed

pub all_variables : (place : ℕ → ℕ) (pattern : PatternTerm) (class : ℕ) (children : Vec PatternTerm Global)
    (items : List PatternTerm) (i : ℕ) (names before : List ℕ) → pattern ≡ Node class children → items ≡ children.items
    → length items ≤ i →
    names ++ flat_map (λ (t : PatternTerm). map place (variables_in (pattern_of t))) (drop i items) ≡ before ++ flat_map
    (λ (t : PatternTerm). map place (variables_in (pattern_of t))) items →
    names ≡ before ++ map place (variables_in (pattern_of pattern))
all_variables place pattern class children items i names before is same l so =
    sym (append-nil names)
    ∙ ap (λ (ts : List PatternTerm). names ++ flat_map (λ (t : PatternTerm). map place (variables_in (pattern_of t))) ts)
    (sym (drop_of_length-le items l))
    ∙ so
    ∙ ap (λ (ts : List PatternTerm). before ++ flat_map (λ (t : PatternTerm). map place (variables_in (pattern_of t))) ts) same
    ∙ ap (λ (zs : List ℕ). before ++ zs) (sym (node_variables place class children))
    ∙ ap (λ (p : PatternTerm). before ++ map place (variables_in (pattern_of p))) (sym is)

pub all_classes : (pattern : PatternTerm) (class : ℕ) (children : Vec PatternTerm Global) (items : List PatternTerm) (i : ℕ)
    (names first before : List ℕ) → pattern ≡ Node class children → items ≡ children.items → length items ≤ i →
    first ≡ before ++ class ∷ [] → names ++ flat_map (λ (t : PatternTerm). classes_in (pattern_of t)) (drop i items) ≡ first
    ++ flat_map (λ (t : PatternTerm). classes_in (pattern_of t)) items →
    names ≡ before ++ classes_in (pattern_of pattern)
all_classes pattern class children items i names first before is same l pushed so =
    sym (append-nil names)
    ∙ ap (λ (ts : List PatternTerm). names ++ flat_map (λ (t : PatternTerm). classes_in (pattern_of t)) ts)
    (sym (drop_of_length-le items l))
    ∙ so
    ∙ ap (λ (ts : List PatternTerm). first ++ flat_map (λ (t : PatternTerm). classes_in (pattern_of t)) ts) same
    ∙ ap (λ (xs : List ℕ). xs ++ flat_map (λ (t : PatternTerm). classes_in (pattern_of t)) children.items) pushed
    ∙ append_assoc before (class ∷ []) (flat_map (λ (t : PatternTerm). classes_in (pattern_of t)) children.items)
    ∙ ap (λ (zs : List ℕ). before ++ zs) (sym (node_classes class children))
    ∙ ap (λ (p : PatternTerm). before ++ classes_in (pattern_of p)) (sym is)
