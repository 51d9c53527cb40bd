use Rattle.std.proofs.Common.{List, All, length, map, reverse, None, sym, ap, ◌∙◌, subst, arith}
use Rattle.std.proofs.lemmas.List.{reverse-reverse}
use Rattle.sight_lift.specs.SequenceLaws.Ways.{root_alone}
use Rattle.portal_walk.specs.declared.roots.Root.{Root}
use Rattle.portal_walk.proofs.RootOrder.{all_reversed, alone_each}
use Rattle.portal_walk.specs.Frames.{PathParts}
use Rattle.portal_walk.specs.Roots.{roots_in, side_of_root}
use Rattle.portal_walk.specs.Scene.{SceneParts}
use Rattle.portal_walk.specs.Sides.{IsRootOf}
use Rattle.portal_walk.specs.Walk.{IsWalk}
use Rattle.portal_walk.proofs.Paths.{ready_none, walk_over, walk_begins}
use Rattle.portal_walk.proofs.walk.Walk.through.Goals as goal

pub of_source-requires : goal.of_source-requires
of_source-requires c = omega (arith, ap length c.roots.ensures, c.requires.terrain.roots.len, c.requires.source)

pub invariant_of-result : goal.invariant_of-result
invariant_of-result c =
    let p : SceneParts = record { plan = c.args.plan.now; mesh = c.args.mesh.now; labels = c.args.labels.now; source = c.args.source; edges = c.args.terrain.now.edges } in
    let roots = c.in_ok-roots.roots.items in
    let is = c.in_ok-roots.ensures ∙ ap (λ (xs : List (List Root)). reverse (roots_in xs c.args.source)) c.roots.ensures in
    let exits = subst (All (IsRootOf c.args.plan.now c.args.source)) (sym is) (all_reversed (IsRootOf c.args.plan.now c.args.source) (roots_in c.args.terrain.now.roots c.args.source) (c.requires.terrain.roots.exits c.args.source c.requires.source)) in
    record {
      walk = subst (λ (q : SceneParts). IsWalk (walk_over q roots None c.new.result.frames c.new.result.ends c.in_ok-nodes.nodes)) (sym c.of.ensures)
          (walk_begins p roots c.new.result.frames c.new.result.ends c.in_ok-nodes.nodes c.requires.audited c.lines-lines.ensures.plan c.requires.good c.requires.source c.few_triangles.ensures exits (ap (λ (q : PathParts). q.frames) c.new.ensures) (ap (λ (q : PathParts). q.ends) c.new.ensures) c.in_ok-nodes.ensures);
      ready = ready_none c.new.result.frames (ap (λ (q : PathParts). q.frames) c.new.ensures);
    }

pub returns-clause-pending : goal.returns-clause-pending
returns-clause-pending c =
    let is = c.in_ok-roots.ensures ∙ ap (λ (xs : List (List Root)). reverse (roots_in xs c.args.source)) c.roots.ensures in
    alone_each (reverse c.in_ok-roots.roots.items) ∙ ap (λ (rs : List Root). map root_alone (map side_of_root rs)) (ap reverse is ∙ reverse-reverse (roots_in c.args.terrain.now.roots c.args.source)) ∙ ap (map root_alone) (c.requires.terrain.roots.order c.args.source c.requires.source)
