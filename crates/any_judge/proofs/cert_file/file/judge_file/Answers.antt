use Rattle.std.proofs.lemmas.Result.{err_from_is_err_and}
use Rattle.shelf_io.specs.Shelf.{content_of}
use Rattle.any_judge.proofs.CertFile.Whole.{all_judged, is_fed, none_judged}
use Rattle.any_judge.proofs.cert_file.file.judge_file.Goals as goal

pub feed_all-requires : goal.feed_all-requires
feed_all-requires g c = record { fresh = record { plan = c.args.plan.now; table = c.args.table.now; fed = c.new-judge.ensures.fed } }

pub returns-in_err-feed_all-clause-told : goal.returns-in_err-feed_all-clause-told
returns-in_err-feed_all-clause-told g c =
    let p = err_from_is_err_and c.from_residual.result c.from_residual.ensures.1 in
    λ files e. rw (p.1, p.2) (none_judged c.args.plan.now c.args.table.now _ (content_of (files c.args.name.now) 9223372036854775807) (c.in_err-feed_all.ensures.told files e))

pub judgement_of-requires-clause-fed : goal.judgement_of-requires-clause-fed
judgement_of-requires-clause-fed g c =
    is_fed c.args.plan.now c.args.table.now (g.S.Shelf.state c.args.shelf.now).files c.args.name.now c.feed_all.new.judge (c.in_ok-feed_all.ensures.fed c.args.plan.now c.args.table.now c.new-judge.ensures.fed) c.requires.table

pub returns-clause-told : goal.returns-clause-told
returns-clause-told g c =
    λ files e. all_judged c.args.plan.now c.args.table.now (g.S.Shelf.state c.args.shelf.now).files c.args.name.now c.feed_all.new.judge (c.in_ok-feed_all.ensures.fed c.args.plan.now c.args.table.now c.new-judge.ensures.fed)
    c.in_ok-judgement_of.field-0 (λ bytes fed. c.in_ok-judgement_of.ensures c.args.table.now bytes fed) files e
