-- The states that were read have few ids.
use Rattle.std.proofs.Common.{◌≡◌, ◌≤◌, ℕ, Bool, true, false, List, length, Some, None, Ok, codes, reverse, sym, ◌∙◌, subst}
use Rattle.list_views.proofs.Steps.{bind_ok}
use Rattle.json_view.specs.Located.{Located}
use Rattle.abs_cells.specs.AbstractStates.{AbstractState}
use Rattle.abs_cells.specs.declared.cells.Cell.{Cell}
use Rattle.term_graph.specs.Graphs.{GraphPart}
use Rattle.cert_form.specs.Cells.{cell_in}
use Rattle.cert_form.specs.Certificates.{whole_node, named_node, node_with, node_in, lacks_state}
use Rattle.cert_form.specs.Fields.{◌>>=◌, only, field, entries_of, maybe_id}
use Rattle.cert_form.specs.States.{state_names, cells_of, frames_of, pairs_of, state_of}
use Rattle.cert_form.specs.Ways.{by_of}
use Rattle.cert_form.proofs.Binds.{at_most_ok, field_ok, items_counted}
use Rattle.cert_form.proofs.Keeping.{entries_count}
use Rattle.cert_form.specs.cert_limits.Limits.{HasFewIds}
use Rattle.cert_form.proofs.LimitNumbers.{not_more}

cells_few : (names : List (List ℕ)) (here : Located) (cells : List (ℕ × Cell)) → cells_of names here ≡ Ok cells → length cells ≤ 512
unfolding cells_of
cells_few names here cells e =
    let m = at_most_ok 512 (entries_of (cell_in names)) here cells e in
    let same : m.0 ≡ length cells = items_counted here m.0 m.1.0 ∙ sym (entries_count (cell_in names) here cells m.1.1.1) in
    subst (λ (n : ℕ). n ≤ 512) same (not_more 512 m.0 m.1.1.0)

state_few : (names : List (List ℕ)) (here : Located) (state : AbstractState) → state_of names here ≡ Ok state → length state.cells ≤ 512
unfolding state_of
state_few names here state e =
    let l = bind_ok (only state_names here) (λ listed. field (codes "cells") (cells_of names) here >>= λ cells. field (codes "eq") pairs_of
    here >>= λ eq. field (codes "frames") frames_of here >>= λ frames. field (codes "share") pairs_of here >>= λ share. field
    (codes "throw") maybe_id here >>= λ throwing. Ok
    (record { frames = reverse frames; throwing = throwing; cells = cells; eq = eq; share = share })) state e in
    let c = bind_ok (field (codes "cells") (cells_of names) here) (λ cells. field (codes "eq") pairs_of
    here >>= λ eq. field (codes "frames") frames_of here >>= λ frames. field (codes "share") pairs_of here >>= λ share. field
    (codes "throw") maybe_id here >>= λ throwing. Ok
    (record { frames = reverse frames; throwing = throwing; cells = cells; eq = eq; share = share })) state l.2 in
    let q = bind_ok (field (codes "eq") pairs_of here) (λ eq. field (codes "frames") frames_of here >>= λ frames. field (codes "share")
    pairs_of here >>= λ share. field (codes "throw") maybe_id here >>= λ throwing. Ok
    (record { frames = reverse frames; throwing = throwing; cells = c.0; eq = eq; share = share })) state c.2 in
    let f = bind_ok (field (codes "frames") frames_of here) (λ frames. field (codes "share") pairs_of here >>= λ share. field
    (codes "throw") maybe_id here >>= λ throwing. Ok
    (record { frames = reverse frames; throwing = throwing; cells = c.0; eq = q.0; share = share })) state q.2 in
    let s = bind_ok (field (codes "share") pairs_of here) (λ share. field (codes "throw") maybe_id here >>= λ throwing. Ok
    (record { frames = reverse f.0; throwing = throwing; cells = c.0; eq = q.0; share = share })) state f.2 in
    let t = bind_ok (field (codes "throw") maybe_id here) (λ throwing. Ok
    (record { frames = reverse f.0; throwing = throwing; cells = c.0; eq = q.0; share = s.0 })) state s.2 in
    let own : AbstractState = record { frames = reverse f.0; throwing = t.0; cells = c.0; eq = q.0; share = s.0 } in
    let same : own ≡ state = let u = t.2 in cc in
    let cells = field_ok (codes "cells") (cells_of names) here c.0 c.1 in
    subst (λ (x : AbstractState). length x.cells ≤ 512) same (cells_few names cells.0 c.0 cells.1.1)

-- ---- nodes

whole_few : (names : List (List ℕ)) (there : Located) (part : GraphPart) → whole_node names there ≡ Ok part → HasFewIds part.state
unfolding whole_node
whole_few names there part e =
    let l = bind_ok (only (codes "by state") there)
    (λ listed. field (codes "by") by_of there >>= λ by. field (codes "state") (state_of names) there >>= λ state. Ok
    (record { state = Some state; by = by })) part e in
    let b = bind_ok (field (codes "by") by_of there)
    (λ by. field (codes "state") (state_of names) there >>= λ state. Ok (record { state = Some state; by = by })) part l.2 in
    let s = bind_ok (field (codes "state") (state_of names) there) (λ state. Ok (record { state = Some state; by = b.0 })) part b.2 in
    let own : GraphPart = record { state = Some s.0; by = b.0 } in
    let same : own ≡ part = let t = s.2 in cc in
    let state = field_ok (codes "state") (state_of names) there s.0 s.1 in
    subst (λ (p : GraphPart). HasFewIds p.state) same (state_few names state.0 s.0 state.1.1)

named_few : (there : Located) (part : GraphPart) → named_node there ≡ Ok part → HasFewIds part.state
unfolding named_node
named_few there part e =
    let l = bind_ok (only (codes "by") there) (λ listed. field (codes "by") by_of there >>= λ by. Ok (record { state = None; by = by })) part e in
    let b = bind_ok (field (codes "by") by_of there) (λ by. Ok (record { state = None; by = by })) part l.2 in
    let own : GraphPart = record { state = None; by = b.0 } in
    let same : own ≡ part = let t = b.2 in cc in
    subst (λ (p : GraphPart). HasFewIds p.state) same tt

with_few : (names : List (List ℕ)) (lacks : Bool) (there : Located) (part : GraphPart) → node_with names lacks there ≡ Ok part
    → HasFewIds part.state
with_few names true there part e = named_few there part e
with_few names false there part e = whole_few names there part e

pub node_few : (names : List (List ℕ)) (second : Bool) (front : List GraphPart) (there : Located) (part : GraphPart)
    → node_in names second front there ≡ Ok part → HasFewIds part.state
unfolding node_in
node_few names second front there part e = with_few names (lacks_state second front) there part e
