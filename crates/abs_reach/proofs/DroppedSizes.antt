-- What stays when ids are dropped names the same ids, has the same closure and the same pattern.
use Rattle.std.proofs.Common.{◌≡◌, ℕ, zero, suc, List, [], ◌∷◌, Option, Some, None, true, refl, sym, ap, subst, ◌∙◌, if◌then◌else◌}
use Rattle.std.specs.Prelude.{slice_get}
use Rattle.std.specs.Option.{option_map, option_and_then}
use Rattle.std.proofs.lemmas.Option.{none-some}
use Rattle.abs_cells.proofs.list_views.Options.{same_answer, then_some}
use Rattle.jvm_values.proofs.Options.{some_is}
use Rattle.jvm_values.specs.Paths.{follow, IsDagFrom}
use Rattle.jvm_values.proofs.PathLaws.{here, one_more, onward}
use Rattle.abs_cells.specs.declared.cells.Cell.{Cell}
use Rattle.abs_cells.specs.declared.cells.Cell.TheVariants.{Int, Null, Obj, Nums, Refs, Unk}
use Rattle.abs_cells.specs.AbstractStates.{AbstractState}
use Rattle.abs_cells.specs.Cells.{is_reference, ids_of, ids_in, cell_at, HasCell}
use Rattle.abs_cells.specs.Closures.{cell_steps, counted, counted_steps, KnownFrom, IsFiniteId}
use Rattle.abs_cells.specs.Patterns.{Pattern, Patterns, with_first, patterns_by, pattern_of_cell, pattern_within, IsSized}
use Rattle.abs_cells.specs.Patterns.Pattern.{node}
use Rattle.abs_reach.specs.Reached.{named_steps, IsReached, IsDropped}
use Rattle.abs_reach.specs.Laws.{DroppedIdsKeepSizes}
use Rattle.abs_reach.proofs.Walks.{counted_reaches}

-- ---- patterns of ids that give the same

same_patterns : (f g : ℕ → Option (Option Pattern)) (ids : List ℕ) → ((i id : ℕ) → slice_get ids i ≡ Some id → f id ≡ g id)
    → patterns_by f ids ≡ patterns_by g ids
same_patterns f g [] h = refl
same_patterns f g (id ∷ ids) h = ap (λ (first : Option (Option Pattern)). with_first first (patterns_by f ids)) (h 0 id refl)
    ∙ ap (with_first (g id)) (same_patterns f g ids (λ i x e. h (suc i) x e))

same_of_cell : (f g : ℕ → Option (Option Pattern)) (id : ℕ) (cell : Cell)
    → ((i y : ℕ) → slice_get (ids_of cell) i ≡ Some y → f y ≡ g y) → pattern_of_cell f id cell ≡ pattern_of_cell g id cell
same_of_cell f g id (Int interval) h = refl
same_of_cell f g id Null h = refl
same_of_cell f g id (Obj class ids) h = ap (option_map (λ (children : Patterns). Some (node class children))) (same_patterns f g ids h)
same_of_cell f g id (Nums kind len) h = refl
same_of_cell f g id (Refs element len shape) h = refl
same_of_cell f g id (Unk bound nullable shape) h = refl

-- the ids that a known cell names are among those that a cell names
known_are_named : (cell : Cell) (i y : ℕ) → slice_get (ids_of cell) i ≡ Some y → slice_get (ids_in cell) i ≡ Some y
known_are_named (Int interval) i y e = e
known_are_named Null i y e = e
known_are_named (Obj class ids) i y e = e
known_are_named (Nums kind len) i y e = e
known_are_named (Refs element len shape) i y e = absurd (none-some y e)
known_are_named (Unk bound nullable shape) i y e = e

-- ---- what stays

module _ (whole part : AbstractState) (d : IsDropped whole part) where
  next : (x i y : ℕ) → IsReached whole x → cell_steps whole x i ≡ Some y → IsReached whole y
  next x i y r e =
      let p = then_some (λ (cell : Cell). slice_get (ids_of cell) i) (cell_at whole x) y e in
      let step : named_steps whole x i ≡ Some y = ap (option_and_then (λ (cell : Cell). slice_get (ids_in cell) i)) p.1.0
      ∙ known_are_named p.0 i y p.1.1 in
      record {
        place = r.place;
        start = r.start;
        stands = r.stands;
        reaches = onward (named_steps whole) r.start x y r.reaches
            (one_more (named_steps whole) x i y y step (here (named_steps whole) y y refl));
      }

  along : (path : List ℕ) (x y : ℕ) → IsReached whole x → follow (cell_steps whole) path x ≡ Some y → IsReached whole y
  along [] x y r e = subst (IsReached whole) (some_is e) r
  along (i ∷ path) x y r e = let p = then_some (follow (cell_steps whole) path) (cell_steps whole x i) y e in along path p.0 y
      (next x i p.0 r p.1.0) p.1.1

  same_steps : (x i : ℕ) → IsReached whole x → cell_steps part x i ≡ cell_steps whole x i
  same_steps x i r = ap (option_and_then (λ (cell : Cell). slice_get (ids_of cell) i)) (d.kept x r)

  same_follow : (path : List ℕ) (x : ℕ) → IsReached whole x → follow (cell_steps part) path x ≡ follow (cell_steps whole) path x
  same_follow [] x r = refl
  same_follow (i ∷ path) x r =
      ap (option_and_then (follow (cell_steps part) path)) (same_steps x i r)
      ∙ same_answer (follow (cell_steps part) path) (follow (cell_steps whole) path) (cell_steps whole x i)
      (λ y e. same_follow path y (next x i y r e))

  same_counted : (x : ℕ) → IsReached whole x → counted part x ≡ counted whole x
  same_counted x r = ap (option_and_then (λ (cell : Cell). if is_reference cell then Some x else None)) (d.kept x r)

  same_counted_steps : (x i : ℕ) → IsReached whole x → counted_steps part x i ≡ counted_steps whole x i
  same_counted_steps x i r =
      ap (option_and_then (counted part)) (same_steps x i r)
      ∙ same_answer (counted part) (counted whole) (cell_steps whole x i) (λ y e. same_counted y (next x i y r e))

  along_counted : (path : List ℕ) (x y : ℕ) → IsReached whole x → follow (counted_steps whole) path x ≡ Some y → IsReached whole y
  along_counted path x y r e = let k = counted_reaches whole path x y e in along k.path x y r k.leads

  same_counted_paths : (path : List ℕ) (x : ℕ) → IsReached whole x
      → follow (counted_steps part) path x ≡ follow (counted_steps whole) path x
  same_counted_paths [] x r = refl
  same_counted_paths (i ∷ path) x r =
      ap (option_and_then (follow (counted_steps part) path)) (same_counted_steps x i r)
      ∙ same_answer (follow (counted_steps part) path) (follow (counted_steps whole) path) (counted_steps whole x i)
      (λ y e. same_counted_paths path y (along_counted (i ∷ []) x y r (ap (option_and_then (follow (counted_steps whole) [])) e)))

  same_within : (depth x : ℕ) → IsReached whole x → pattern_within depth part x ≡ pattern_within depth whole x
  same_within zero x r = refl
  same_within (suc depth) x r =
      ap (option_and_then (pattern_of_cell (pattern_within depth part) x)) (d.kept x r)
      ∙ same_answer (pattern_of_cell (pattern_within depth part) x) (pattern_of_cell (pattern_within depth whole) x) (cell_at whole x)
      (λ cell e. same_of_cell (pattern_within depth part) (pattern_within depth whole) x cell
      (λ i y f. same_within depth y (next x i y r (ap (option_and_then (λ (c : Cell). slice_get (ids_of c) i)) e ∙ f))))

  dag_before : (x : ℕ) → IsReached whole x → IsDagFrom (counted_steps part) x → IsDagFrom (counted_steps whole) x
  dag_before x r h p b e q f = h p b (same_counted_paths p x r ∙ e) q (same_counted_paths q b (along_counted p x b r e) ∙ f)

  dag_after : (x : ℕ) → IsReached whole x → IsDagFrom (counted_steps whole) x → IsDagFrom (counted_steps part) x
  dag_after x r h p b e q f =
      let before = sym (same_counted_paths p x r) ∙ e in
      h p b before q (sym (same_counted_paths q b (along_counted p x b r before)) ∙ f)

  known_before : (x y : ℕ) → IsReached whole x → KnownFrom part x y → KnownFrom whole x y
  known_before x y r k = record { path = k.path; leads = sym (same_follow k.path x r) ∙ k.leads }

  finite_before : (x : ℕ) → IsReached whole x → IsFiniteId part x → IsFiniteId whole x
  finite_before x r h = record {
    acyclic = dag_before x r h.acyclic;
    hazy = λ q cell k c. h.hazy q cell (record { path = k.path; leads = same_follow k.path x r ∙ k.leads })
        (d.kept q (along k.path x q r k.leads) ∙ c);
  }

  finite_after : (x : ℕ) → IsReached whole x → IsFiniteId whole x → IsFiniteId part x
  finite_after x r h = record {
    acyclic = dag_after x r h.acyclic;
    hazy = λ q cell k c. let before = known_before x q r k in h.hazy q cell before
        (sym (d.kept q (along before.path x q r before.leads)) ∙ c);
  }

pub sized_alike : DroppedIdsKeepSizes
sized_alike whole part id d there =
    let r = d.gone id there in
    record {
      finite = (finite_before whole part d id r, finite_after whole part d id r);
      pattern = λ pattern. (
        λ p. record { depth = p.depth; is = sym (same_within whole part d p.depth id r) ∙ p.is },
        λ p. record { depth = p.depth; is = same_within whole part d p.depth id r ∙ p.is },
      );
    }

-- an id that has a pattern has a cell
pattern_has_cell : (state : AbstractState) (id depth : ℕ) (given : Option Pattern) → pattern_within depth state id ≡ Some given
    → HasCell (λ _. true) state id
pattern_has_cell state id zero given e = absurd (none-some given e)
pattern_has_cell state id (suc depth) given e = let p = then_some (pattern_of_cell (pattern_within depth state) id)
    (cell_at state id) given e in record { cell = p.0; is = p.1.0; sort_is = refl }

-- an id that is sized after was sized before, by the same pattern
pub sized_before : (whole part : AbstractState) (id : ℕ) → IsDropped whole part → IsSized part id → IsSized whole id
sized_before whole part id d s =
    let alike = sized_alike whole part id d (pattern_has_cell part id s.is.depth (Some s.pattern) s.is.is) in
    record { finite = alike.finite.0 s.finite; pattern = s.pattern; is = (alike.pattern s.pattern).0 s.is; small = s.small }
