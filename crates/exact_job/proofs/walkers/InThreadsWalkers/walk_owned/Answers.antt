use Rattle.std.proofs.Common.{◌<◌, arith}
use Rattle.exact_job.proofs.walkers.InThreadsWalkers.walk_owned.Goals as goal

pub shared_told-requires-after_bounds : goal.shared_told-requires-after_bounds
shared_told-requires-after_bounds g c κs within = λ i lt.
    let l : i < c.args.walks.now.known.count = (let e = c.from-count.ensures in omega (arith, lt, e)) in
    (l, c.requires.sized, c.requires.room, (c.requires.walkable.0, c.requires.walkable.1 i l))
