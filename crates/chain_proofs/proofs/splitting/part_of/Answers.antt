use Rattle.std.proofs.Common.{ℕ, Some, slice_get, ◌≡◌}
use Rattle.std.proofs.lemmas.Option.{slice_get-get_or}
use Rattle.chain_proofs.proofs.Owning.{zip_more}
use Rattle.chain_proofs.proofs.splitting.part_of.Goals as goal

pub loop-place-preserved : goal.loop-place-preserved
loop-place-preserved c =
    zip_more (λ (place n : ℕ). slice_get c.args.set.now place ≡ Some n) c.args.class.now c.loop-place.part _
    c.loop-place.place-index _ c.number_at.result
    (slice_get-get_or c.args.class.now c.loop-place.place-index 0 c.loop-place-test.true) c.loop-place.invariant
    c.number_at.ensures c.in_ok-push.ensures.items
