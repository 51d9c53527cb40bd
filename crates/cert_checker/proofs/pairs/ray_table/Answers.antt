use Rattle.std.proofs.lemmas.Option.{slice_get-get_or}
use Rattle.cert_checker.proofs.Known.{rays_more}
use Rattle.cert_checker.proofs.pairs.ray_table.Goals as goal

pub loop-one-preserved : goal.loop-one-preserved
loop-one-preserved c = rays_more c.args.count c.loop-one.one-index c.args.rays.now _ c.loop-one.pairs c.set.new.self (slice_get-get_or c.args.rays.now c.loop-one.one-index _ c.loop-one-test.true) (c.requires c.loop-one.one-index _ (slice_get-get_or c.args.rays.now c.loop-one.one-index _ c.loop-one-test.true)) c.loop-one.invariant c.set.ensures.bit c.set.ensures.pairs
