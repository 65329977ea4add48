use Rattle.std.proofs.Common.{◌≡◌, ◌∙◌, true, sym}
use Rattle.std.proofs.lemmas.Bool.{false≢true}
use Rattle.abs_widen.specs.Visits.{are_alike}
use Rattle.abs_widen.proofs.Standing.{all_turned}
use Rattle.abs_widen.proofs.Zips.{all_reversed_as}
use Rattle.abs_widen.proofs.stands.is_frame_alike.Goals as goal

pub returns-then-not-is_same_head : goal.returns-then-not-is_same_head
returns-then-not-is_same_head g c =
    (λ t. absurd (false≢true t), λ h. absurd (false≢true (sym c.if-not-is_same_head.true ∙ c.is_same_head.ensures.1 h.heads)))

pub returns-then-not-is_as_wide : goal.returns-then-not-is_as_wide
returns-then-not-is_as_wide g c =
    (λ t. absurd (false≢true t), λ h. absurd (false≢true (sym c.if-not-is_as_wide.true ∙ c.is_as_wide.ensures.1 h.locals)))

pub returns : goal.returns
returns g c = (
  λ t. record {
    heads = c.is_same_head.ensures.0 c.if-not-is_same_head.false;
    locals = c.is_as_wide.ensures.0 c.if-not-is_as_wide.false;
    stacks = all_turned (λ x y. are_alike c.args.a.now c.args.b.now x y ≡ true) c.args.frame.now.stack c.stack.result.now
        c.args.other.now.stack c.stack-2.result.now c.stack.ensures c.stack-2.ensures (c.are_ids_alike.ensures.0 t);
  },
  λ h. c.are_ids_alike.ensures.1 (all_reversed_as (λ x y. are_alike c.args.a.now c.args.b.now x y ≡ true) c.args.frame.now.stack
      c.args.other.now.stack c.stack.result.now c.stack-2.result.now c.stack.ensures c.stack-2.ensures h.stacks),
)
