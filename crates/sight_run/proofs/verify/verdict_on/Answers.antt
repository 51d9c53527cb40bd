use Rattle.sight_run.proofs.Verifying.{verify_shows}
use Rattle.sight_run.specs.Reply.{asked_seen, replied}
use Rattle.sight_run.proofs.verify.verdict_on.Goals as goal

pub returns-clause-shows : goal.returns-clause-shows
returns-clause-shows g c =
    verify_shows c.args.report.now c.args.large (asked_seen c.args.asked.now) c.in_ok-verdict.verdict (replied c.in_ok-reply.reply) (rw (c.deref.ensures.value, c.deref-2.ensures.value, c.spelling_in.ensures) at c.in_ok-verdict.ensures) c.in_ok-reply.ensures.reply
