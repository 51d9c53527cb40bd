use Rattle.std.proofs.Common.{ℕ, subst, sym}
use Rattle.sight_workers.specs.Watches.{AreSeenBelow}
use Rattle.sight_workers.proofs.Watches.{seen_told}
use Rattle.sight_workers.proofs.watch.WatchNotice.settled.Goals as goal

pub next_unset-next-requires-clause-before : goal.next_unset-next-requires-clause-before
next_unset-next-requires-clause-before c =
    let watch = c.args.self.now in
    let seen = watch.seat.now.seat.me.0.seen in
    subst (λ (a : ℕ). AreSeenBelow watch.components.now a watch.next seen) (sym c.if-a-self.false)
    (seen_told watch.components.now watch.source watch.next seen watch.before)
