use Rattle.map_maker.proofs.Hashed.{after_line}
use Rattle.map_maker.proofs.points.points.Goals as goal

pub loop-line-preserved : goal.loop-line-preserved
loop-line-preserved c = after_line c.args.lines.now c.loop-line.line-index _ c.loop-line.points.keys c.insert.new.self.keys c.insert-in-loop-line.new.self.keys c.loop-line-test.true c.loop-line.invariant c.in_ok-insert.ensures.keys c.in_ok-insert-2.ensures.keys
