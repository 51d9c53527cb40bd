use Rattle.row_trees.specs.Walkable.{row_scene_of}
use Rattle.row_trees.proofs.Going.{going_thinned, after_present}
use Rattle.row_trees.proofs.walk.Walk.come_back.Goals as goal

pub skip_unwanted-requires : goal.skip_unwanted-requires
skip_unwanted-requires c = let a = c.requires.after.2 in record { stands = (a.going.first, a.going.asked, a.going.at) }

pub returns-then-may_have_found-clause-going : goal.returns-then-may_have_found-clause-going
returns-then-may_have_found-clause-going c = λ s n a.
    let w = c.args.self.now in
    going_thinned (row_scene_of c.args.terrain.now c.args.masks.now) s w.root w.ends w.judged c.skip_unwanted.new.walk c.args.made.now.found.items n a.going c.skip_unwanted.ensures.source (c.may_have_found.ensures.some c.if-may_have_found.true)
    (c.skip_unwanted.ensures.stands a.going.first a.going.asked a.going.at)

pub returns-else-may_have_found-clause-present : goal.returns-else-may_have_found-clause-present
returns-else-may_have_found-clause-present c =
    let w = c.args.self.now in
    let r = c.requires.after in
    after_present (row_scene_of c.args.terrain.now c.args.masks.now) r.0 w.root w.ends w.judged c.args.made.now.found.items r.1 c.args.depth r.2 (c.may_have_found.ensures.none c.if-may_have_found.false)
