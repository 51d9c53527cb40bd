use Rattle.exact_checker.proofs.Fitting.{put_more}
use Rattle.exact_checker.proofs.masking.put_words.Goals as goal

pub loop-place-preserved : goal.loop-place-preserved
loop-place-preserved c = put_more c.args.row.now c.args.words.now.items c.loop-place.words.items c.push.new.self.items c.loop-place.place c.word_at.result c.loop-place.invariant c.word_at.ensures c.in_ok-push.ensures.items
