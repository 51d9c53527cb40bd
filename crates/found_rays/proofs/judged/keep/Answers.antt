use Rattle.found_rays.proofs.Judging.{kept_more}
use Rattle.found_rays.proofs.judged.keep.Goals as goal

pub returns : goal.returns
returns c = kept_more c.args.over.now.plan c.args.one.now c.args.kept.now.items c.add.new.rays.items (c.is_found.ensures c.if-not-is_found.false) c.requires.kept c.in_ok-add.ensures
