use Rattle.std.proofs.Common.{ℕ, ◌+◌, option_copied, sym, ◌∙◌, ap, subst}
use Rattle.row_trees.specs.Going.{IsAfter}
use Rattle.row_trees.specs.Left.{row_walk_left}
use Rattle.row_trees.specs.Walkable.{row_scene_of}
use Rattle.row_trees.proofs.Going.{tried, with_limit, depth_within}
use Rattle.row_trees.proofs.walk.Walk.step.Goals as goal

pub cut-requires : goal.cut-requires
cut-requires c =
    let w = c.args.self.now in
    let r = c.requires.going in
    depth_within (row_scene_of c.args.terrain.now c.args.masks.now) r.0 w.root w.ends w.judged c.args.made.now.found.items r.1 c.args.number r.2 c.requires.asked

pub try_edge-requires-clause-tried : goal.try_edge-requires-clause-tried
try_edge-requires-clause-tried c =
    let w = c.args.self.now in
    let r = c.requires.going in (
      r.0,
      r.1,
      tried (row_scene_of c.args.terrain.now c.args.masks.now) r.0 w.root c.root_at-self.result c.args.number w.ends c.cut.new.self w.judged c.args.made.now.found.items c.unwrap-edge.result.now r.1 r.2 c.requires.asked c.requires.present
          (sym c.get.ensures ∙ ap option_copied c.unwrap-edge.ensures) c.cut.ensures c.root_at-self.ensures,
    )

pub come_back-requires : goal.come_back-requires
come_back-requires c =
    let w = c.args.self.now in
    let k = row_scene_of c.args.terrain.now c.args.masks.now in
    let found = c.args.made.now.found.items in
    let r = c.requires.going in
    let v = c.try_edge.new in
    let t = tried k r.0 w.root c.root_at-self.result c.args.number w.ends c.cut.new.self w.judged found c.unwrap-edge.result.now (row_walk_left k w.judged + 1) (with_limit k r.0 w.root w.ends w.judged found r.1 r.2) c.requires.asked c.requires.present
    (sym c.get.ensures ∙ ap option_copied c.unwrap-edge.ensures) c.cut.ensures c.root_at-self.ensures in
    record {
      after = (r.0, row_walk_left k w.judged, subst (λ (d : ℕ). IsAfter k r.0 v.self.root v.self.ends v.self.judged v.made.found.items (row_walk_left k w.judged) d) (sym t.depth) (c.in_ok-try_edge.ensures.after r.0 (row_walk_left k w.judged) t));
    }

pub returns-clause-going : goal.returns-clause-going
returns-clause-going c = λ s n g.
    let w = c.args.self.now in
    let k = row_scene_of c.args.terrain.now c.args.masks.now in
    let found = c.args.made.now.found.items in
    let v = c.try_edge.new in
    let t = tried k s w.root c.root_at-self.result c.args.number w.ends c.cut.new.self w.judged found c.unwrap-edge.result.now (n + 1) g c.requires.asked c.requires.present
    (sym c.get.ensures ∙ ap option_copied c.unwrap-edge.ensures) c.cut.ensures c.root_at-self.ensures in
    c.come_back.ensures.going s n (subst (λ (d : ℕ). IsAfter k s v.self.root v.self.ends v.self.judged v.made.found.items n d) (sym t.depth) (c.in_ok-try_edge.ensures.after s n t))

pub returns-clause-made : goal.returns-clause-made
returns-clause-made c = λ row source h. c.come_back.ensures.made row source (c.in_ok-try_edge.ensures.made row source h)
