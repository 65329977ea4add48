use Rattle.std.proofs.Common.{◌≡◌, length, arith, refl}
use Rattle.std.specs.Vec.{vec_capacity}
use Rattle.list_views.proofs.Reversed.{changed, under}
use Rattle.list_views.proofs.stack.Stack.at_mut.Goals as goal

pub returns : goal.returns
returns g c =
    let all : c.len.result ≡ length c.self.inside.items.items = omega arith in (
      (
        refl,
        λ w. changed c.self.inside.items.items (vec_capacity c.self.inside.items) c.args.self.now c.len.result c.args.depth w
            all c.self.view_is c.requires,
      ),
      record {
        item = under _ _ (vec_capacity c.self.inside.items) c.len.result _ c.args.depth
            _ all refl c.self.view_is c.requires c.index_mut.ensures.value;
        lends = tt;
      },
    )
