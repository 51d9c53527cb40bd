use Rattle.std.proofs.Common.{◌∙◌, subst}
use Rattle.gate_floods.specs.RowJudge.Judged.{StandsAt}
use Rattle.gate_floods.specs.RowJudge.Masks.{rows_of}
use Rattle.row_trees.specs.Walkable.{row_scene_of}
use Rattle.row_trees.proofs.Thinning.{stands_thinned}
use Rattle.row_trees.proofs.Skipping.{some_asked, both_thinned, skip_thinned, less_left}
use Rattle.row_trees.proofs.rows.skip_unwanted.Goals as goal

pub skip-init : goal.skip-init
skip-init c = record {
  stands = λ first ps at. stands_thinned (rows_of c.args.masks.now) first c.args.terrain.now.roots.now.roots.items c.args.walk.now c.meet_present.new.walk ps c.meet_present.ensures.same c.meet_present.ensures.thinner at;
  present = c.meet_present.ensures.present;
  source = c.meet_present.ensures.same.source;
}

pub meet_present-requires-in-skip : goal.meet_present-requires-in-skip
meet_present-requires-in-skip c =
    let ms = rows_of c.args.masks.now in
    let roots = c.args.terrain.now.roots.now.roots.items in
    let r = c.requires.stands in
    let i = c.skip.invariant.stands r.0 r.1 r.2 in
    let a = some_asked ms i.0 roots c.skip.walk i.1 i.2 (c.is_unwanted.ensures c.skip-test.true) in
    record { room = (c.skip-in-skip.ensures.stands i.0 a.0 a.1 (subst (StandsAt ms i.0 roots c.skip.walk) a.2 i.2)).row_room }

pub skip-smaller : goal.skip-smaller
skip-smaller c =
    let k = row_scene_of c.args.terrain.now c.args.masks.now in
    let r = c.requires.stands in
    let i = c.skip.invariant.stands r.0 r.1 r.2 in
    less_left k c.skip.walk c.skip-in-skip.new.walk c.meet_present-in-skip.new.walk i.0 i.1 i.2 (c.is_unwanted.ensures c.skip-test.true) c.skip-in-skip.ensures.stands
    (λ first ps at. stands_thinned k.masks first k.roots c.skip-in-skip.new.walk c.meet_present-in-skip.new.walk ps c.meet_present-in-skip.ensures.same c.meet_present-in-skip.ensures.thinner at)

pub skip-preserved : goal.skip-preserved
skip-preserved c =
    let ms = rows_of c.args.masks.now in
    let roots = c.args.terrain.now.roots.now.roots.items in
    let mid = c.skip-in-skip.new.walk in
    let new = c.meet_present-in-skip.new.walk in
    record {
      stands = both_thinned ms roots c.args.walk.now c.skip.walk new c.skip.invariant.stands
          (both_thinned ms roots c.skip.walk mid new (skip_thinned ms roots c.skip.walk mid (c.is_unwanted.ensures c.skip-test.true) c.skip-in-skip.ensures.stands)
          (λ first ps at. stands_thinned ms first roots mid new ps c.meet_present-in-skip.ensures.same c.meet_present-in-skip.ensures.thinner at));
      present = c.meet_present-in-skip.ensures.present;
      source = c.meet_present-in-skip.ensures.same.source ∙ c.skip-in-skip.ensures.source ∙ c.skip.invariant.source;
    }
