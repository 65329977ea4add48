use Rattle.std.proofs.Common.{refl, sym, ap, subst, arith}
use Rattle.std.specs.Prelude.{IfOk}
use Rattle.jvm_values.specs.TypedHeaps.{WorldTypes, world_types}
use Rattle.abs_plans.specs.abs_turns.Plans.{Act}
use Rattle.abs_plans.specs.abs_turns.PlansSeen.{act_seen, goal_seen, write_seen}
use Rattle.abs_expand.specs.Children.{IsActed}
use Rattle.abs_expand.proofs.Acting.{makes_asks, writes_asks, item_asks, object_asks, array_asks, nothing_goes, writing_goes}
use Rattle.abs_expand.proofs.Acting.{stands_anyway}
use Rattle.abs_expand.proofs.making.acted.Goals as goal

pub made-requires : goal.made-requires
made-requires g c =
    let t : WorldTypes = world_types (g.T.Types.sub c.args.types.now) (g.T.Types.erase c.args.types.now)
    (g.T.Types.classes c.args.types.now) (g.T.Types.fields c.args.types.now)
    (g.T.Types.can_be_made c.args.types.now) in
    let asks = makes_asks t c.args.state (act_seen c.args.act) (goal_seen c.args.goal) c.requires.few c.requires.act c.in-Makes.cell
    (ap act_seen c.in-Makes.is) in
    record { good = c.requires.good; few = asks.0; names = asks.1 }

pub written-requires : goal.written-requires
written-requires g c =
    let t : WorldTypes = world_types (g.T.Types.sub c.args.types.now) (g.T.Types.erase c.args.types.now)
    (g.T.Types.classes c.args.types.now) (g.T.Types.fields c.args.types.now)
    (g.T.Types.can_be_made c.args.types.now) in
    let asks = writes_asks t c.args.state (act_seen c.args.act) (goal_seen c.args.goal) c.requires.few c.requires.act
    (write_seen c.in-Writes.write) (ap act_seen c.in-Writes.is) in
    record { good = c.requires.good; few = omega (arith, asks.0); object = asks.1.0; value = asks.1.1 }

pub loaded-requires : goal.loaded-requires
loaded-requires g c =
    let t : WorldTypes = world_types (g.T.Types.sub c.args.types.now) (g.T.Types.erase c.args.types.now)
    (g.T.Types.classes c.args.types.now) (g.T.Types.fields c.args.types.now)
    (g.T.Types.can_be_made c.args.types.now) in
    let asks = item_asks t c.args.state (act_seen c.args.act) (goal_seen c.args.goal) c.requires.few c.requires.act c.in-Item.k
    (ap act_seen c.in-Item.is) in
    record { good = c.requires.good; few = asks.0; array = asks.1 }

pub with_object-requires : goal.with_object-requires
with_object-requires g c =
    let t : WorldTypes = world_types (g.T.Types.sub c.args.types.now) (g.T.Types.erase c.args.types.now)
    (g.T.Types.classes c.args.types.now) (g.T.Types.fields c.args.types.now)
    (g.T.Types.can_be_made c.args.types.now) in
    let asks = object_asks t c.args.state (act_seen c.args.act) (goal_seen c.args.goal) c.requires.few c.requires.act
    c.in-Object.class (ap act_seen c.in-Object.is) in
    record { good = c.requires.good; few = asks.0; class = asks.1 }

pub with_array-requires : goal.with_array-requires
with_array-requires g c =
    let t : WorldTypes = world_types (g.T.Types.sub c.args.types.now) (g.T.Types.erase c.args.types.now)
    (g.T.Types.classes c.args.types.now) (g.T.Types.fields c.args.types.now)
    (g.T.Types.can_be_made c.args.types.now) in
    let asks = array_asks t c.args.state (act_seen c.args.act) (goal_seen c.args.goal) c.requires.few c.requires.act c.in-Array.slot
    c.in-Array.len (ap act_seen c.in-Array.is) in
    record { good = c.requires.good; few = asks.0; len = asks.1 }

pub returns-in-Nothing : goal.returns-in-Nothing
returns-in-Nothing g c =
    let t : WorldTypes = world_types (g.T.Types.sub c.args.types.now) (g.T.Types.erase c.args.types.now)
    (g.T.Types.classes c.args.types.now) (g.T.Types.fields c.args.types.now)
    (g.T.Types.can_be_made c.args.types.now) in
    let is = ap act_seen c.in-Nothing.is in
    record {
      acted = subst (λ (a : Act). IsActed t a 0 c.args.state c.args.state) (sym is) refl;
      good = c.requires.good;
      there = nothing_goes t c.args.state (act_seen c.args.act) (goal_seen c.args.goal) c.requires.few c.requires.act is c.args.state 0;
      never = λ e. cc;
    }

pub returns-in_ok-written-in-Writes-clause-acted : goal.returns-in_ok-written-in-Writes-clause-acted
returns-in_ok-written-in-Writes-clause-acted g c =
    let t : WorldTypes = world_types (g.T.Types.sub c.args.types.now) (g.T.Types.erase c.args.types.now)
    (g.T.Types.classes c.args.types.now) (g.T.Types.fields c.args.types.now)
    (g.T.Types.can_be_made c.args.types.now) in
    subst (λ (a : Act). IsActed t a 0 c.args.state c.in_ok-written-in-Writes.field-0) (sym (ap act_seen c.in-Writes.is))
    c.in_ok-written-in-Writes.ensures.acted

pub returns-in_ok-written-in-Writes-clause-there : goal.returns-in_ok-written-in-Writes-clause-there
returns-in_ok-written-in-Writes-clause-there g c =
    let t : WorldTypes = world_types (g.T.Types.sub c.args.types.now) (g.T.Types.erase c.args.types.now)
    (g.T.Types.classes c.args.types.now) (g.T.Types.fields c.args.types.now)
    (g.T.Types.can_be_made c.args.types.now) in
    writing_goes t c.args.state (act_seen c.args.act) (goal_seen c.args.goal) c.requires.few c.requires.act
    (write_seen c.in-Writes.write) (ap act_seen c.in-Writes.is)
    c.in_ok-written-in-Writes.field-0 0

pub returns-in-Makes : goal.returns-in-Makes
returns-in-Makes g c =
    let t : WorldTypes = world_types (g.T.Types.sub c.args.types.now) (g.T.Types.erase c.args.types.now)
    (g.T.Types.classes c.args.types.now) (g.T.Types.fields c.args.types.now)
    (g.T.Types.can_be_made c.args.types.now) in
    record {
      acted = subst (λ (a : Act). IfOk c.made.result (λ r. IsActed t a r.1 c.args.state r.0)) (sym (ap act_seen c.in-Makes.is))
          c.made.ensures.acted;
      good = c.made.ensures.good;
      there = stands_anyway (goal_seen c.args.goal) c.made.result c.made.ensures.there;
      never = c.made.ensures.never;
    }

pub returns-in-Item : goal.returns-in-Item
returns-in-Item g c =
    let t : WorldTypes = world_types (g.T.Types.sub c.args.types.now) (g.T.Types.erase c.args.types.now)
    (g.T.Types.classes c.args.types.now) (g.T.Types.fields c.args.types.now)
    (g.T.Types.can_be_made c.args.types.now) in
    record {
      acted = subst (λ (a : Act). IfOk c.loaded.result (λ r. IsActed t a r.1 c.args.state r.0)) (sym (ap act_seen c.in-Item.is))
          c.loaded.ensures.acted;
      good = c.loaded.ensures.good;
      there = stands_anyway (goal_seen c.args.goal) c.loaded.result c.loaded.ensures.there;
      never = c.loaded.ensures.never;
    }

pub returns-in-Object : goal.returns-in-Object
returns-in-Object g c =
    let t : WorldTypes = world_types (g.T.Types.sub c.args.types.now) (g.T.Types.erase c.args.types.now)
    (g.T.Types.classes c.args.types.now) (g.T.Types.fields c.args.types.now)
    (g.T.Types.can_be_made c.args.types.now) in
    record {
      acted = subst (λ (a : Act). IfOk c.with_object.result (λ r. IsActed t a r.1 c.args.state r.0))
          (sym (ap act_seen c.in-Object.is)) c.with_object.ensures.acted;
      good = c.with_object.ensures.good;
      there = stands_anyway (goal_seen c.args.goal) c.with_object.result c.with_object.ensures.there;
      never = c.with_object.ensures.never;
    }

pub returns-in-Array : goal.returns-in-Array
returns-in-Array g c =
    let t : WorldTypes = world_types (g.T.Types.sub c.args.types.now) (g.T.Types.erase c.args.types.now)
    (g.T.Types.classes c.args.types.now) (g.T.Types.fields c.args.types.now)
    (g.T.Types.can_be_made c.args.types.now) in
    record {
      acted = subst (λ (a : Act). IfOk c.with_array.result (λ r. IsActed t a r.1 c.args.state r.0)) (sym (ap act_seen c.in-Array.is))
          c.with_array.ensures.acted;
      good = c.with_array.ensures.good;
      there = stands_anyway (goal_seen c.args.goal) c.with_array.result c.with_array.ensures.there;
      never = c.with_array.ensures.never;
    }
