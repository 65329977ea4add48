-- The tests over known cells are sound for the regions of a heap.
use Rattle.std.proofs.Common.{◌≡◌, ◌≢◌, ℕ, true, List, [], ◌∷◌, ◌++◌, Some, ◌⊎◌, inl, inr, refl, sym, ap, subst, ◌∙◌}
use Rattle.std.proofs.lemmas.Bool.{cases_eq, false≢true}
use Rattle.std.proofs.lemmas.List.{append-nil, append_cancel_left}
use Rattle.jvm_values.specs.declared.shape.Shape.{Shape}
use Rattle.jvm_values.specs.declared.shape.Shape.TheVariants.{Tree, Dag, Any}
use Rattle.jvm_values.specs.Paths.{follow}
use Rattle.jvm_values.specs.Heaps.{target, heap_steps, Region, IsTree, IsDag, HasShape}
use Rattle.jvm_values.specs.States.{MachineState}
use Rattle.jvm_values.specs.TypedHeaps.{WorldTypes}
use Rattle.jvm_values.proofs.Options.{some_is}
use Rattle.jvm_values.proofs.PathLaws.{joined}
use Rattle.abs_cells.specs.declared.cells.Cell.{Cell}
use Rattle.abs_cells.specs.declared.cells.Cell.TheVariants as cells
use Rattle.abs_cells.specs.AbstractStates.{AbstractState}
use Rattle.abs_cells.specs.Cells.{is_known, is_hazy, shape_of, HasCell, Share}
use Rattle.abs_cells.specs.Closures.{counted_steps, KnownFrom, MayMeet, MayBeIn, IsFiniteId, IsTreeId}
use Rattle.abs_cells.specs.Sound.{IsWellFormed}
use Rattle.abs_cells.specs.Fits.{Meaning, Fits}
use Rattle.abs_cells.proofs.Fitting.{known_apart}
use Rattle.abs_cells.proofs.PairLaws.{has_swapped}
use Rattle.abs_reach.specs.Ways.{GoesThrough, Way}
use Rattle.abs_reach.specs.Laws.{ClosuresAreWays, MeetingRegionsMayMeet, KnownIdsInsideMayBeIn, FiniteIdsHaveNoCycles, TreeIdsHaveTrees}
use Rattle.abs_reach.proofs.Walks.{way, path_back, counted_reaches, known_is_reference, hazy_is_reference, some_cell, not_one}

pub ways : ClosuresAreWays
ways types state machine meaning good h path x a b c e f = way types state machine meaning good h path x a b c e f

module _ (types : WorldTypes) (state : AbstractState) (machine : MachineState) (meaning : Meaning) (good : IsWellFormed state)
    (h : Fits types state machine meaning) where
  -- the known ids of one object are one
  known_one : (a b o : ℕ) → HasCell is_known state a → HasCell is_known state b → target (meaning a) ≡ Some o
      → target (meaning b) ≡ Some o → a ≡ b
  known_one a b o ka kb ta tb = elim (cases_eq a b) [
    | inl e ↦ e
    | inr d ↦ absurd (known_apart types state machine meaning good h a b o ka kb d ta tb)
  ]

  in_region : {x : ℕ} {path : List ℕ} {b : ℕ} (w : GoesThrough state machine.heap meaning x path b) → Region machine.heap (meaning w.q) b
  in_region w = record { start = w.c; names = w.names; reaches = record { path = w.back; leads = w.rest } }

  turned : (a b : ℕ) → Share state a b → Share state b a
  turned a b s = has_swapped a b state.share ∙ s

  meets : (x y o : ℕ) → (p q : List ℕ) → Way state machine.heap meaning x p o → Way state machine.heap meaning y q o → MayMeet state x y
  meets x y o p q (inl v) (inl w) = record {
    p = v.y;
    q = w.y;
    from_x = counted_reaches state p x v.y v.leads;
    from_y = counted_reaches state q y w.y w.leads;
    p_counts = known_is_reference state v.y v.known;
    q_counts = known_is_reference state w.y w.known;
    meet = inl (known_one v.y w.y o v.known w.known v.names w.names);
  }
  meets x y o p q (inl v) (inr w) = record {
    p = v.y;
    q = w.q;
    from_x = counted_reaches state p x v.y v.leads;
    from_y = counted_reaches state w.front y w.q w.leads;
    p_counts = known_is_reference state v.y v.known;
    q_counts = hazy_is_reference state w.q w.hazy;
    meet = inr (h.inside v.y w.q o v.known w.hazy v.names (in_region w));
  }
  meets x y o p q (inr v) (inl w) = record {
    p = v.q;
    q = w.y;
    from_x = counted_reaches state v.front x v.q v.leads;
    from_y = counted_reaches state q y w.y w.leads;
    p_counts = hazy_is_reference state v.q v.hazy;
    q_counts = known_is_reference state w.y w.known;
    meet = inr (turned w.y v.q (h.inside w.y v.q o w.known v.hazy w.names (in_region v)));
  }
  meets x y o p q (inr v) (inr w) = record {
    p = v.q;
    q = w.q;
    from_x = counted_reaches state v.front x v.q v.leads;
    from_y = counted_reaches state w.front y w.q w.leads;
    p_counts = hazy_is_reference state v.q v.hazy;
    q_counts = hazy_is_reference state w.q w.hazy;
    meet = one_or_share (cases_eq v.q w.q);
  }
    where
      one_or_share : (v.q ≡ w.q) ⊎ (v.q ≢ w.q) → (v.q ≡ w.q) ⊎ Share state v.q w.q
      one_or_share (inl e) = inl e
      one_or_share (inr d) = inr (h.meeting v.q w.q o v.hazy w.hazy d (in_region v) (in_region w))

  lies : (k x o : ℕ) → HasCell is_known state k → target (meaning k) ≡ Some o → (p : List ℕ) → Way state machine.heap meaning x p o
      → MayBeIn state k x
  lies k x o c t p (inl w) = record {
    counts = known_is_reference state k c;
    there = inl (subst (KnownFrom state x) (known_one w.y k o w.known c w.names t) (counted_reaches state p x w.y w.leads));
  }
  lies k x o c t p (inr w) = record {
    counts = known_is_reference state k c;
    there = inr (record {
      q = w.q;
      from_x = counted_reaches state w.front x w.q w.leads;
      hazy = w.hazy;
      share = h.inside k w.q o c
          w.hazy t (in_region w);
    });
  }

  -- the region of a hazy id that may have no cycle has none
  calm : (c : ℕ) (shape : Shape) → shape ≢ Any → HasShape shape machine.heap (meaning c) → IsDag machine.heap (meaning c)
  calm c Any d s = absurd (d refl)
  calm c Dag d s = s
  calm c Tree d s = λ a t p b f q g.
      let one : p ≡ p ++ q = s a t p (p ++ q) b f (joined (heap_steps machine.heap) p q a b b f g) in
      sym (append_cancel_left p [] q (append-nil p ∙ one))

  hazy_shape : (cell : Cell) → is_hazy cell ≡ true → (shape : Shape) × (shape_of cell ≡ Some shape)
  hazy_shape (cells.Int interval) t = absurd (false≢true t)
  hazy_shape cells.Null t = absurd (false≢true t)
  hazy_shape (cells.Obj class ids) t = absurd (false≢true t)
  hazy_shape (cells.Nums kind len) t = absurd (false≢true t)
  hazy_shape (cells.Refs element len shape) t = (shape, refl)
  hazy_shape (cells.Unk bound nullable shape) t = (shape, refl)

  hazy_dag : (x q : ℕ) → IsFiniteId state x → KnownFrom state x q → HasCell is_hazy state q → IsDag machine.heap (meaning q)
  hazy_dag x q fin k c =
      let shape = hazy_shape c.cell c.sort_is in
      calm q shape.0 (λ e. fin.hazy q c.cell k c.is (shape.1 ∙ ap Some e)) (h.shapes q c.cell shape.0 c.is shape.1)

  hazy_tree : (x q : ℕ) → IsTreeId state x → KnownFrom state x q → HasCell is_hazy state q → IsTree machine.heap (meaning q)
  hazy_tree x q tree k c =
      let shape = hazy_shape c.cell c.sort_is in
      let is : shape.0 ≡ Tree = tree.hazy q c.cell shape.0 k c.is shape.1 in
      subst (λ (s : Shape). HasShape s machine.heap (meaning q)) is (h.shapes q c.cell shape.0 c.is shape.1)

  turned_nil : (p q : List ℕ) → q ++ p ≡ [] → p ++ q ≡ []
  turned_nil [] [] e = refl
  turned_nil [] (i ∷ q) e = absurd (cc)
  turned_nil (i ∷ p) [] e = absurd (cc)
  turned_nil (i ∷ p) (j ∷ q) e = absurd (cc)

  no_cycle : (x a b : ℕ) (p q : List ℕ) → IsFiniteId state x → target (meaning x) ≡ Some a → Way state machine.heap meaning x p b
      → follow (heap_steps machine.heap) q b ≡ Some b → q ≡ []
  no_cycle x a b p q fin t (inr w) g = hazy_dag x w.q fin (counted_reaches state w.front x w.q w.leads) w.hazy w.c w.names w.back b
      w.rest q g
  no_cycle x a b p q fin t (inl v) g = round (way types state machine meaning good h q v.y b b (some_cell state v.y v.known) v.names g)
    where
      round : Way state machine.heap meaning v.y q b → q ≡ []
      round (inl w) = fin.acyclic p v.y v.leads q (w.leads ∙ ap Some (known_one w.y v.y b w.known v.known w.names v.names))
      round (inr w) =
          let there : KnownFrom state x w.q = counted_reaches state (p ++ w.front) x w.q
          (joined (counted_steps state) p w.front x v.y w.q v.leads w.leads) in
          let front : follow (heap_steps machine.heap) w.front b ≡ Some w.c = path_back types state machine meaning good h w.front
          v.y b w.q w.c v.names w.leads w.names in
          let cycle : follow (heap_steps machine.heap) (w.back ++ w.front) w.c ≡ Some w.c = joined (heap_steps machine.heap) w.back
          w.front w.c b w.c w.rest front in
          let nil : w.back ++ w.front ≡ [] = hazy_dag x w.q fin there w.hazy w.c w.names [] w.c refl (w.back ++ w.front) cycle in
          w.splits ∙ turned_nil w.front w.back nil

  one_path : (x b : ℕ) (p q : List ℕ) → IsTreeId state x → Way state machine.heap meaning x p b
      → Way state machine.heap meaning x q b → p ≡ q
  one_path x b p q tree (inl v) (inl w) =
      let same : v.y ≡ w.y = known_one v.y w.y b v.known w.known v.names w.names in
      tree.one_path p q w.y (v.leads ∙ ap Some same) w.leads
  one_path x b p q tree (inl v) (inr w) =
      absurd (tree.apart v.y w.q (counted_reaches state p x v.y v.leads) (counted_reaches state w.front x w.q w.leads)
      (not_one state v.y w.q v.known w.hazy) (h.inside v.y w.q b v.known w.hazy v.names (in_region w)))
  one_path x b p q tree (inr v) (inl w) =
      absurd (tree.apart w.y v.q (counted_reaches state q x w.y w.leads) (counted_reaches state v.front x v.q v.leads)
      (not_one state w.y v.q w.known v.hazy) (h.inside w.y v.q b w.known v.hazy w.names (in_region v)))
  one_path x b p q tree (inr v) (inr w) = decide (cases_eq v.q w.q)
    where
      decide : (v.q ≡ w.q) ⊎ (v.q ≢ w.q) → p ≡ q
      decide (inr d) = absurd
          (tree.apart v.q w.q (counted_reaches state v.front x v.q v.leads) (counted_reaches state w.front x w.q w.leads) d
          (h.meeting v.q w.q b v.hazy w.hazy d (in_region v) (in_region w)))
      decide (inl e) =
          let fronts : v.front ≡ w.front = tree.one_path v.front w.front w.q (v.leads ∙ ap Some e) w.leads in
          let starts : v.c ≡ w.c = some_is (sym v.names ∙ ap (λ (z : ℕ). target (meaning z)) e ∙ w.names) in
          let backs : v.back ≡ w.back = hazy_tree x w.q tree (counted_reaches state w.front x w.q w.leads) w.hazy w.c w.names v.back
          w.back b (ap (follow (heap_steps machine.heap) v.back) (sym starts) ∙ v.rest) w.rest in
          v.splits ∙ ap (λ (r : List ℕ). r ++ v.back) fronts ∙ ap (λ (r : List ℕ). w.front ++ r) backs ∙ sym w.splits

pub may_meet : MeetingRegionsMayMeet
may_meet types state machine meaning good h x y o cx cy rx ry =
    meets types state machine meaning good h x y o rx.reaches.path ry.reaches.path
    (way types state machine meaning good h rx.reaches.path x rx.start o cx rx.names rx.reaches.leads)
    (way types state machine meaning good h ry.reaches.path y ry.start o cy ry.names ry.reaches.leads)

pub may_be_in : KnownIdsInsideMayBeIn
may_be_in types state machine meaning good h k x o ck cx t r =
    lies types state machine meaning good h k x o ck t r.reaches.path
    (way types state machine meaning good h r.reaches.path x r.start o cx r.names r.reaches.leads)

pub finite : FiniteIdsHaveNoCycles
finite types state machine meaning good h x cx fin a t p b f q g = no_cycle types state machine meaning good h x a b p q fin t
    (way types state machine meaning good h p x a b cx t f) g

pub tree : TreeIdsHaveTrees
tree types state machine meaning good h x cx is a t p q b f g =
    one_path types state machine meaning good h x b p q is (way types state machine meaning good h p x a b cx t f)
    (way types state machine meaning good h q x a b cx t g)
