use Rattle.std.proofs.Common.{rules}
use Rattle.listeners.proofs.Filling.{at_end_part, end_put, filled_full, filling_more, filling_on}
use Rattle.listeners.proofs.report.pieces.Goals as goal

pub returns-then-filled-buf : goal.returns-then-filled-buf
returns-then-filled-buf g c =
    let now = c.loop-listener.buf in
    let part = c.words_of-written.new.buf in
    let a = c.loop-listener.filled in
    filled_full _ c.args.at c.args.buf.now now _ _ c.loop-listener.at a
    (filling_on _ c.args.list.now c.loop-listener.listener-index c.listener-item.result c.loop-listener-test.true c.listener-item.is _ _ _ _ _ _ c.loop-listener.invariant)
    c.words_of-written.result part _ (at_end_part _ _ now part a _ c.words_of-written.ensures.words) (end_put now part a) (search rules) (search rules)

pub loop-listener-preserved : goal.loop-listener-preserved
loop-listener-preserved g c =
    let now = c.loop-listener.buf in
    let part = c.words_of-written.new.buf in
    let a = c.loop-listener.filled in
    rw c.place_behind-at.ensures (filling_more _ c.args.at c.args.buf.now now _ _ c.loop-listener.at a
    (filling_on _ c.args.list.now c.loop-listener.listener-index c.listener-item.result c.loop-listener-test.true c.listener-item.is _ _ _ _ _ _ c.loop-listener.invariant)
    c.words_of-written.result part _ (at_end_part _ _ now part a _ c.words_of-written.ensures.words) (end_put now part a) (search rules))
