use Rattle.std.proofs.Common.{List, length, ◌+◌, sym, ◌∙◌, subst}
use Rattle.block_evidence.specs.declared.sight_tree.Node.{Node}
use Rattle.pair_budget.specs.declared.results.Reached.{Reached}
use Rattle.gate_floods.specs.RowJudge.Judged.{StandsAt, IsTreeWalkedInRow, tree_with}
use Rattle.gate_floods.specs.RowJudge.Masks.{rows_of}
use Rattle.row_trees.specs.Going.{IsAfter}
use Rattle.row_trees.specs.Walkable.{row_scene_of}
use Rattle.row_trees.proofs.Going.{head_of, turned, blocked_walked}
use Rattle.row_trees.proofs.walk.Walk.turn_back.Goals as goal

pub returns-clause-after : goal.returns-clause-after
returns-clause-after c = λ s n edge bars t.
    let w = c.args.self.now in
    let found = c.args.made.now.found.items in
    let k = row_scene_of c.args.terrain.now c.args.masks.now in
    let h = head_of k s w.root w.ends w.judged found edge (n + 1) t in
    let new = c.skip.new.walk in
    subst (λ (rs : List Reached). IsAfter k s w.root w.ends new rs n (length w.ends)) (sym c.keep.ensures.found)
    (turned k s w.root w.ends w.judged new found edge n t c.skip.ensures.source
    (c.skip.ensures.stands t.going.first h.head h.rest (subst (StandsAt k.masks t.going.first k.roots w.judged) h.all t.going.at)))

pub returns-clause-made : goal.returns-clause-made
returns-clause-made c = λ row source h none.
    let w = c.args.self.now in
    let t = c.args.terrain.now in
    let made = c.args.made.now in
    let k = row_scene_of c.args.terrain.now c.args.masks.now in
    let r = c.requires.tried in
    let e = sym c.keep.ensures.found ∙ none in
    subst (λ (ns : List Node). IsTreeWalkedInRow t.edges.now (rows_of c.args.masks.now) row t.roots.now.roots.items t.roots.now.first.items (tree_with source ns) c.skip.new.walk) (sym (c.in_ok-keep.ensures.nodes e))
    (blocked_walked k r.0 w.root w.ends w.judged c.skip.new.walk made.found.items r.2 r.1 c.args.evidence r.4 r.3 c.skip.ensures.source c.skip.ensures.stands row t.roots.now.first.items (tree_with source made.nodes) (h e))
