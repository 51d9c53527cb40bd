use Rattle.std.proofs.Common.{arith}
use Rattle.pair_budget.specs.PairRays.{toward}
use Rattle.exact_job.proofs.Rounds.{note_end, note_next}
use Rattle.exact_job.proofs.settling.note_found.Goals as goal

pub loop-reached-preserved : goal.loop-reached-preserved
loop-reached-preserved c = note_next (toward c.args.source) c.args.found.now c.loop-reached.reached-index _ c.args.rays.now.items c.loop-reached.rays.items _ c.toward.result c.loop-reached-test.true c.loop-reached.invariant c.toward.ensures c.in_ok-push.ensures.items

pub returns : goal.returns
returns c = note_end (toward c.args.source) c.args.found.now c.loop-reached.reached-index c.args.rays.now.items c.loop-reached.rays.items (omega arith) c.loop-reached.invariant
