use Rattle.gate_floods.proofs.RowJudge.Meeting.{cleared_short, put_kept, put_row}
use Rattle.gate_floods.proofs.row_judge.words.put_both.Goals as goal

pub returns-then-mask-width-clause-put : goal.returns-then-mask-width-clause-put
returns-then-mask-width-clause-put c = put_row c.args.rows.now c.args.mask.now c.meet_words.new.rows c.clear_words.new.rows c.args.at c.args.width c.requires.mask c.requires.room c.meet_words.ensures c.clear_words.ensures

pub returns-else-mask-width-clause-kept : goal.returns-else-mask-width-clause-kept
returns-else-mask-width-clause-kept c = put_kept c.args.rows.now c.args.mask.now c.meet_words.new.rows c.meet_words.new.rows c.args.at c.args.width c.requires.mask c.requires.room c.meet_words.ensures (cleared_short c.meet_words.new.rows _ c.args.width _ c.if-mask-width.false)

pub returns-else-mask-width-clause-put : goal.returns-else-mask-width-clause-put
returns-else-mask-width-clause-put c = put_row c.args.rows.now c.args.mask.now c.meet_words.new.rows c.meet_words.new.rows c.args.at c.args.width c.requires.mask c.requires.room c.meet_words.ensures (cleared_short c.meet_words.new.rows _ c.args.width _ c.if-mask-width.false)
