-- The cases of a split by class, one after another.
use Rattle.std.proofs.Common.{◌≡◌, ℕ, zero, suc, ◌+◌, ◌<◌, ◌≤◌, ◌&&◌, ◌||◌, Bool, true, false, List, [], ◌∷◌, ◌++◌, length, map}
use Rattle.std.proofs.Common.{get_or, take, Option, Some, None, Result, Ok, Err, inl, inr, refl, sym, ap, subst, ◌∙◌, arith}
use Rattle.std.proofs.Common.{append_assoc, append-nil}
use Rattle.std.specs.Prelude.{◌↔◌, nat_lt, filter}
use Rattle.std.specs.List.{AllZip, list_any}
use Rattle.std.proofs.lemmas.Bool.{false≢true, cases_Bool, or_parts, lt-ltb, cond-true, cond-false}
use Rattle.std.proofs.lemmas.List.{take_more, take_all, get_or_default, map-append}
use Rattle.std.proofs.lemmas.List.Elements.{filter-append}
use Rattle.std.proofs.lemmas.Option.{none-some}
use Rattle.std.proofs.lemmas.List.Folds.{list_any-append}
use Rattle.list_views.proofs.Zipped.{zip_joined}
use Rattle.list_views.proofs.Truths.{or_false}
use Rattle.jvm_values.specs.declared.types.Ty.{Ty}
use Rattle.jvm_values.specs.declared.shape.Shape.{Shape}
use Rattle.jvm_values.specs.declared.types.Kind.{Kind}
use Rattle.jvm_values.specs.Subtyping.{class_type, array_of_numbers}
use Rattle.jvm_values.specs.TypedHeaps.{WorldTypes}
use Rattle.jvm_values.proofs.Options.{some_is}
use Rattle.abs_cells.specs.declared.cells.Cell.{Cell}
use Rattle.abs_cells.specs.declared.cells.Cell.TheVariants as cells
use Rattle.abs_cells.specs.AbstractStates.{AbstractState}
use Rattle.abs_cells.specs.Cells.{cell_at, is_comparable}
use Rattle.term_graph.specs.declared.links.Link.{Link}
use Rattle.term_graph.specs.Graphs.{GraphChild}
use Rattle.abs_heap.specs.Answers.{AreClassChildren, IsFirstTooManyChild}
use Rattle.abs_heap.specs.Counts.{case_counts, IsFirstTooMany}
use Rattle.abs_heap.specs.declared.fault.SplitFault.{SplitFault}
use Rattle.abs_heap.specs.declared.fault.SplitFault.TheVariants.{TooManyIds}
use Rattle.list_views.specs.Lists.{numbers_from}
use Rattle.abs_heap.specs.Refining.{Case, instance, numbers, references, IsCase, IsArrayChild, lower_of, listed, cases_below, cases_of}
use Rattle.abs_heap.specs.inner.Splitting.{instances_among, numbers_among, crowds, plain_child, AddsCases, IsCaseAnswer, IsArrayAnswer}

-- ---- some of a list

pub any_three : {X : Type 0} (p : X → Bool) (xs ys zs : List X)
    → list_any p (xs ++ (ys ++ zs)) ≡ (list_any p xs || (list_any p ys || list_any p zs))
any_three p xs ys zs = list_any-append p xs (ys ++ zs) ∙ ap (λ (b : Bool). list_any p xs || b) (list_any-append p ys zs)

pub none_first : {X : Type 0} (p : X → Bool) (xs ys zs : List X) → list_any p (xs ++ (ys ++ zs)) ≡ false → list_any p xs ≡ false
none_first p xs ys zs f = (or_parts (list_any p xs) (list_any p ys || list_any p zs) (sym (any_three p xs ys zs) ∙ f)).0

none_rest : {X : Type 0} (p : X → Bool) (xs ys zs : List X) → list_any p (xs ++ (ys ++ zs)) ≡ false
    → (list_any p ys ≡ false) × (list_any p zs ≡ false)
none_rest p xs ys zs f = or_parts (list_any p ys) (list_any p zs)
    (or_parts (list_any p xs) (list_any p ys || list_any p zs) (sym (any_three p xs ys zs) ∙ f)).1

pub none_second : {X : Type 0} (p : X → Bool) (xs ys zs : List X) → list_any p (xs ++ (ys ++ zs)) ≡ false → list_any p ys ≡ false
none_second p xs ys zs f = (none_rest p xs ys zs f).0

pub none_third : {X : Type 0} (p : X → Bool) (xs ys zs : List X) → list_any p (xs ++ (ys ++ zs)) ≡ false → list_any p zs ≡ false
none_third p xs ys zs f = (none_rest p xs ys zs f).1

-- ---- those of a list that pass a test, made into cases

module _ {X : Type 0} (make : X → Case) (test : X → Bool) (p : Case → Bool) where
  abbrev among : List X → List Case
  among xs = map make (filter test xs)

  pub among_joined : (xs ys : List X) → among (xs ++ ys) ≡ among xs ++ among ys
  among_joined xs ys = ap (map make) (filter-append test xs ys) ∙ map-append make (filter test xs) (filter test ys)

  pub among_yes : (x : X) → test x ≡ true → among (x ∷ []) ≡ make x ∷ []
  among_yes x t = ap (map make) (cond-true (test x) (x ∷ []) [] t)

  pub among_no : (x : X) → test x ≡ false → among (x ∷ []) ≡ []
  among_no x t = ap (map make) (cond-false (test x) (x ∷ []) [] t)

  pub any_one : (x : X) → list_any p (among (x ∷ [])) ≡ (test x && p (make x))
  any_one x = elim (cases_Bool (test x)) [
    | inl t ↦ ap (list_any p) (among_yes x t) ∙ or_false (p (make x)) ∙ ap (λ (b : Bool). b && p (make x)) (sym t)
    | inr t ↦ ap (list_any p) (among_no x t) ∙ ap (λ (b : Bool). b && p (make x)) (sym t)
  ]

  pub among_more : (xs : List X) (i : ℕ) (x : X) → i < length xs → x ≡ get_or xs i x
      → among (take (i + 1) xs) ≡ among (take i xs) ++ among (x ∷ [])
  among_more xs i x l e = ap among (take_more xs i x l) ∙ among_joined (take i xs) (get_or xs i x ∷ [])
      ∙ ap (λ (y : X). among (take i xs) ++ among (y ∷ [])) (sym e)

  pub none_there : (xs : List X) (i : ℕ) (x : X) → i < length xs → x ≡ get_or xs i x → list_any p (among xs) ≡ false
      → list_any p (among (x ∷ [])) ≡ false
  none_there [] i x l e f = absurd (omega (arith, l))
  none_there (y ∷ xs) zero x l e f = ap (λ (z : X). list_any p (among (z ∷ []))) e
      ∙ (or_parts (list_any p (among (y ∷ []))) (list_any p (among xs)) (sym (list_any-append p (among (y ∷ [])) (among xs))
      ∙ ap (list_any p) (sym (among_joined (y ∷ []) xs)) ∙ f)).0
  none_there (y ∷ xs) (suc i) x l e f = none_there xs i x (omega (arith, l)) e
      (or_parts (list_any p (among (y ∷ []))) (list_any p (among xs)) (sym (list_any-append p (among (y ∷ [])) (among xs))
      ∙ ap (list_any p) (sym (among_joined (y ∷ []) xs)) ∙ f)).1

  -- a child of a case that is listed has room
  pub room_of : (x : X) (b : Bool) → b ≡ test x → b ≡ true → list_any p (among (x ∷ [])) ≡ false → p (make x) ≡ false
  room_of x b e t f = ap (λ (c : Bool). c && p (make x)) (sym t ∙ e) ∙ sym (any_one x) ∙ f

  -- the same where the code reads the element
  pub none_there_at : (xs : List X) (i : ℕ) (d : X) → i < length xs → list_any p (among xs) ≡ false
      → list_any p (among (get_or xs i d ∷ [])) ≡ false
  none_there_at xs i d l f = none_there xs i (get_or xs i d) l (get_or_default xs i d (get_or xs i d) l) f

-- ---- the numbers from 0 on

pub numbers_length : (from count : ℕ) → length (numbers_from from count) ≡ count
numbers_length from zero = refl
numbers_length from (suc count) = ap suc (numbers_length (suc from) count)

number_there : (from count n d : ℕ) → n < count → get_or (numbers_from from count) n d ≡ from + n
number_there from zero n d l = absurd (omega (arith, l))
number_there from (suc count) zero d l = omega arith
number_there from (suc count) (suc n) d l = let h = number_there (suc from) count n d (omega (arith, l)) in omega (arith, h)

pub number_at : (count n : ℕ) → n < count → n ≡ get_or (numbers_from 0 count) n n
number_at count n l = let h = number_there 0 count n n l in omega (arith, h)

pub below_length : (count n m : ℕ) → m ≡ count → n < m → n < length (numbers_from 0 count)
below_length count n m e l = let h = numbers_length 0 count in omega (arith, h, e, l)

pub past_length : (count n m : ℕ) → m ≡ count → m ≤ n → length (numbers_from 0 count) ≤ n
past_length count n m e l = let h = numbers_length 0 count in omega (arith, h, e, l)

-- ---- children added

module _ (types : WorldTypes) (state : AbstractState) (x : ℕ) (shape : Shape) where
  pub adds_none : (old : List GraphChild) → AddsCases types state x shape [] old old
  adds_none old = record { states = []; are = tt; is = sym (append-nil old) }

  pub adds_both : (first second : List Case) (old mid new : List GraphChild) → AddsCases types state x shape first old mid
      → AddsCases types state x shape second mid new → AddsCases types state x shape (first ++ second) old new
  adds_both first second old mid new a b = record {
    states = a.states ++ b.states;
    are = zip_joined (IsCase types state x shape) first second a.states b.states a.are b.are;
    is = b.is
        ∙ ap (λ (cs : List GraphChild). cs ++ map plain_child b.states) a.is
        ∙ append_assoc old (map plain_child a.states) (map plain_child b.states)
        ∙ ap (λ (cs : List GraphChild). old ++ cs) (sym (map-append plain_child a.states b.states));
  }

  adds_one : (case : Case) (child : GraphChild) (old new : List GraphChild) → IsCaseAnswer types state x shape case child
      → new ≡ old ++ child ∷ [] → AddsCases types state x shape (case ∷ []) old new
  adds_one case child old new a e = record {
    states = child.state ∷ [];
    are = (a.is, tt);
    is = e ∙ ap (λ (l : Link). old ++ record { state = child.state; link = l } ∷ []) a.link;
  }

  pub adds_this : (cases : List Case) (case : Case) (child : GraphChild) (old new : List GraphChild) → cases ≡ case ∷ []
      → IsCaseAnswer types state x shape case child → new ≡ old ++ child ∷ [] → AddsCases types state x shape cases old new
  adds_this cases case child old new are a e = subst (λ (cs : List Case). AddsCases types state x shape cs old new) (sym are)
      (adds_one case child old new a e)

  pub array_is : (case : Case) (cell : ℕ → Cell) (child : GraphChild)
      → ((after : AbstractState) → IsArrayChild state x cell after → IsCase types state x shape case after)
      → IsArrayAnswer state x cell child → IsCaseAnswer types state x shape case child
  array_is case cell child to a = record { is = to child.state a.is; link = a.link }

  pub adds_nothing : (cases : List Case) (old : List GraphChild) → cases ≡ [] → AddsCases types state x shape cases old old
  adds_nothing cases old are = subst (λ (cs : List Case). AddsCases types state x shape cs old old) (sym are) (adds_none old)

  module _ {X : Type 0} (make : X → Case) (test : X → Bool) where
    pub adds_next : (xs : List X) (i : ℕ) (y : X) (old mid new : List GraphChild) → i < length xs → y ≡ get_or xs i y
        → AddsCases types state x shape (map make (filter test (take i xs))) old mid
        → AddsCases types state x shape (map make (filter test (y ∷ []))) mid new
        → AddsCases types state x shape (map make (filter test (take (i + 1) xs))) old new
    adds_next xs i y old mid new l e a b = subst (λ (cs : List Case). AddsCases types state x shape cs old new)
        (sym (among_more make test (λ _. true) xs i y l e))
        (adds_both (map make (filter test (take i xs))) (map make (filter test (y ∷ []))) old mid new a b)

    pub adds_next_at : (xs : List X) (i : ℕ) (d : X) (old mid new : List GraphChild) → i < length xs
        → AddsCases types state x shape (map make (filter test (take i xs))) old mid
        → AddsCases types state x shape (map make (filter test (get_or xs i d ∷ []))) mid new
        → AddsCases types state x shape (map make (filter test (take (i + 1) xs))) old new
    adds_next_at xs i d old mid new l a b = adds_next xs i (get_or xs i d) old mid new l (get_or_default xs i d (get_or xs i d) l) a b

    pub adds_all : (xs : List X) (i : ℕ) (old new : List GraphChild) → length xs ≤ i
        → AddsCases types state x shape (map make (filter test (take i xs))) old new
        → AddsCases types state x shape (map make (filter test xs)) old new
    adds_all xs i old new l a = subst (λ (ys : List X). AddsCases types state x shape (map make (filter test ys)) old new)
        (take_all i xs l) a

-- ---- too many ids

pub has_room_for : (count more : ℕ) → nat_lt 512 (count + more) ≡ false → count + more ≤ 512
has_room_for count more e = let h : 512 < count + more → ⊥ = λ l. false≢true (sym e ∙ lt-ltb 512 (count + more) l) in omega (arith, h)

-- the case of one class, and of one kind
module _ (types : WorldTypes) (state : AbstractState) (bound : Ty) where
  pub instance_yes : (class : ℕ) (b : Bool) → b ≡ (types.can_be_made class && types.sub (class_type class) bound) → b ≡ true
      → instances_among types bound (class ∷ []) ≡ instance class ∷ []
  instance_yes class b e t = among_yes instance (λ n. types.can_be_made n && types.sub (class_type n) bound) (crowds types state)
      class (sym e ∙ t)

  pub instance_no : (class : ℕ) (b : Bool) → b ≡ (types.can_be_made class && types.sub (class_type class) bound) → b ≡ false
      → instances_among types bound (class ∷ []) ≡ []
  instance_no class b e f = among_no instance (λ n. types.can_be_made n && types.sub (class_type n) bound) (crowds types state)
      class (sym e ∙ f)

  pub instance_room : (class : ℕ) (b : Bool) → b ≡ (types.can_be_made class && types.sub (class_type class) bound) → b ≡ true
      → list_any (crowds types state) (instances_among types bound (class ∷ [])) ≡ false
      → length state.cells + length (types.fields class) ≤ 512
  instance_room class b e t f = has_room_for (length state.cells) (length (types.fields class))
      (room_of instance (λ n. types.can_be_made n && types.sub (class_type n) bound) (crowds types state) class b e t f)

  pub numbers_yes : (kind : Kind) (b : Bool) → b ≡ types.sub (array_of_numbers kind) bound → b ≡ true
      → numbers_among types bound (kind ∷ []) ≡ numbers kind ∷ []
  numbers_yes kind b e t = among_yes numbers (λ k. types.sub (array_of_numbers k) bound) (crowds types state) kind (sym e ∙ t)

  pub numbers_no : (kind : Kind) (b : Bool) → b ≡ types.sub (array_of_numbers kind) bound → b ≡ false
      → numbers_among types bound (kind ∷ []) ≡ []
  numbers_no kind b e f = among_no numbers (λ k. types.sub (array_of_numbers k) bound) (crowds types state) kind (sym e ∙ f)

  pub numbers_room : (kind : Kind) (b : Bool) → b ≡ types.sub (array_of_numbers kind) bound → b ≡ true
      → list_any (crowds types state) (numbers_among types bound (kind ∷ [])) ≡ false → length state.cells + 1 ≤ 512
  numbers_room kind b e t f = has_room_for (length state.cells) 1
      (room_of numbers (λ k. types.sub (array_of_numbers k) bound) (crowds types state) kind b e t f)

pub listed_is : (o given : Option Ty) (t : Ty) → given ≡ o → given ≡ Some t → listed o ≡ references t ∷ []
listed_is o given t e f = ap listed (sym e ∙ f)

pub listed_none : (o given : Option Ty) → given ≡ o → given ≡ None → listed o ≡ []
listed_none o given e f = ap listed (sym e ∙ f)

pub listed_room : (p : Case → Bool) (o given : Option Ty) (t : Ty) → given ≡ o → given ≡ Some t → list_any p (listed o) ≡ false
    → p (references t) ≡ false
listed_room p o given t e f h = sym (or_false (p (references t))) ∙ ap (list_any p) (sym (listed_is o given t e f)) ∙ h

-- ---- the answers

not_err : {A E : Type 0} (x : A) (y : E) → Ok x ≡ Err y → ⊥
not_err x y e = cc

module _ (types : WorldTypes) (state : AbstractState) (x : ℕ) (bound wanted : Ty) (shape : Shape)
    (at : cell_at state x ≡ Some (cells.Unk bound false shape)) where
  abbrev bound_of : Cell → Ty
  bound_of (cells.Int interval) = bound
  bound_of cells.Null = bound
  bound_of (cells.Obj class ids) = bound
  bound_of (cells.Nums kind len) = bound
  bound_of (cells.Refs element len s) = bound
  bound_of (cells.Unk own nullable s) = own

  one_bound : (n : ℕ) (h : IsFirstTooManyChild types state x wanted n) → h.bound ≡ bound
  one_bound n h = ap bound_of (some_is (sym h.was ∙ at))

  are_cases : (b : Bool) → b ≡ is_comparable types.sub bound wanted → b ≡ true
      → cases_of types bound wanted ≡ cases_below types (lower_of types.sub bound wanted)
  are_cases b e t = cond-true (is_comparable types.sub bound wanted) _ _ (sym e ∙ t)

  are_none : (b : Bool) → b ≡ is_comparable types.sub bound wanted → b ≡ false → cases_of types bound wanted ≡ []
  are_none b e f = cond-false (is_comparable types.sub bound wanted) _ _ (sym e ∙ f)

  pub apart_children : (b : Bool) (children : List GraphChild) → b ≡ is_comparable types.sub bound wanted → b ≡ false
      → children ≡ [] → AreClassChildren types state x wanted children
  apart_children b children e f empty = record {
    bound = bound;
    shape = shape;
    was = at;
    states = [];
    are = subst (λ (cs : List Case). AllZip (IsCase types state x shape) cs []) (sym (are_none b e f)) tt;
    is = empty;
  }

  many_below : (n : ℕ) → IsFirstTooManyChild types state x wanted n
      → IsFirstTooMany (case_counts types state (cases_of types bound wanted)) n
  many_below n h = subst (λ (t : Ty). IsFirstTooMany (case_counts types state (cases_of types t wanted)) n) (one_bound n h) h.first

  apart_not_many : (b : Bool) (n : ℕ) → b ≡ is_comparable types.sub bound wanted → b ≡ false
      → IsFirstTooManyChild types state x wanted n → ⊥
  apart_not_many b n e f h =
      let none : IsFirstTooMany [] n = subst (λ (cs : List Case). IsFirstTooMany (case_counts types state cs) n) (are_none b e f)
      (many_below n h) in
      none-some none.count none.is

  pub split_children : (b : Bool) (low : Ty) (children : List GraphChild) → b ≡ is_comparable types.sub bound wanted → b ≡ true
      → low ≡ lower_of types.sub bound wanted → AddsCases types state x shape (cases_below types low) [] children
      → AreClassChildren types state x wanted children
  split_children b low children e t l a = record {
    bound = bound;
    shape = shape;
    was = at;
    states = a.states;
    are = subst (λ (cs : List Case). AllZip (IsCase types state x shape) cs a.states)
        (ap (cases_below types) l ∙ sym (are_cases b e t)) a.are;
    is = a.is;
  }

  pub split_many : (b : Bool) (low : Ty) (fault : Type 0) (n : ℕ) → b ≡ is_comparable types.sub bound wanted → b ≡ true
      → low ≡ lower_of types.sub bound wanted → fault ↔ IsFirstTooMany (case_counts types state (cases_below types low)) n
      → fault ↔ IsFirstTooManyChild types state x wanted n
  split_many b low fault n e t l k = (
    λ h. record {
      bound = bound;
      shape = shape;
      was = at;
      first = subst
          (λ (cs : List Case). IsFirstTooMany (case_counts types state cs) n) (ap (cases_below types) l ∙ sym (are_cases b e t)) (k.0 h);
    },
    λ h. k.1 (subst (λ (cs : List Case). IsFirstTooMany (case_counts types state cs) n)
        (are_cases b e t ∙ ap (cases_below types) (sym l)) (many_below n h)),
  )

  pub apart_many : {A : Type 0} (b : Bool) (r : Result A SplitFault) (given : A) (n : ℕ) → b ≡ is_comparable types.sub bound wanted
      → b ≡ false → r ≡ Ok given → (r ≡ Err (TooManyIds n)) ↔ IsFirstTooManyChild types state x wanted n
  apart_many b r given n e f ok = (λ h. absurd (not_err given (TooManyIds n) (sym ok ∙ h)), λ h. absurd (apart_not_many b n e f h))
