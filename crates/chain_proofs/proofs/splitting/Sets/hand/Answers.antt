use Rattle.std.proofs.Common.{Some}
use Rattle.chain_proofs.proofs.Closing.{dealt_more, give_next, next_free, short_given}
use Rattle.chain_proofs.proofs.splitting.Sets.hand.Goals as goal

pub invariant_of-self : goal.invariant_of-self
invariant_of-self c =
    let free = next_free c.args.self.now.given.items c.args.self.now.next c.args.self.now.dealt c.requires.room in
    record {
      dealt = dealt_more c.args.self.now.given.items c.args.self.now.next c.args.set c.args.self.now.dealt free;
      short = short_given c.args.self.now.given.items c.args.self.now.next (Some c.args.set) c.args.self.now.short;
    }

pub returns : goal.returns
returns c =
    let free = next_free c.args.self.now.given.items c.args.self.now.next c.args.self.now.dealt c.requires.room in
    give_next c.args.number c.args.self.now.next c.args.set c.args.self.now.given.items c.requires.later free
