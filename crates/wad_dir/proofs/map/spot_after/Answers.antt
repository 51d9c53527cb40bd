use Rattle.std.proofs.Common.{sym, ◌∙◌}
use Rattle.wad_dir.proofs.Names.{cut_is, whole_is}
use Rattle.wad_dir.proofs.map.spot_after.Goals as goal

pub returns-then-lacks_end-clause-spot : goal.returns-then-lacks_end-clause-spot
returns-then-lacks_end-clause-spot c =
    cut_is c.begins_with-text.result c.args.marker c.run_at_front.result c.args.after.now c.split_at.result.0.now c.split_at.result.1.now
    c.begins_with-text.ensures c.run_at_front.ensures.len c.run_at_front.ensures.run c.split_at.ensures.front c.split_at.ensures.back
    (sym c.lacks_end.ensures ∙ c.if-lacks_end.true)

pub returns-clause-spot : goal.returns-clause-spot
returns-clause-spot c =
    whole_is c.begins_with-text.result c.args.marker c.run_at_front.result c.args.after.now c.split_at.result.0.now c.split_at.result.1.now
    c.begins_with-text.ensures c.run_at_front.ensures.len c.run_at_front.ensures.run c.split_at.ensures.front c.split_at.ensures.back
    c.format_by.result c.spot.result (sym c.lacks_end.ensures ∙ c.if-lacks_end.false) c.format_by.ensures c.spot.ensures.spot
