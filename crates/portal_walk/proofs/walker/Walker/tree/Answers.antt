use Rattle.std.proofs.Common.{◌≡◌, ℕ, List, sym, subst}
use Rattle.sight_names.specs.Map.{map_of}
use Rattle.block_evidence.specs.SightTree.WholeTree.{IsWholeTree}
use Rattle.portal_walk.specs.Walk.{WalkParts, sequences_left}
use Rattle.portal_walk.proofs.Answering.{whole_tree}
use Rattle.portal_walk.proofs.walker.Walker.tree.Goals as goal

pub returns-clause-whole : goal.returns-clause-whole
returns-clause-whole c =
    let w = c.self.inside.walk in
    let none = subst (λ (v : WalkParts). sequences_left v ≡ 0) (sym c.self.view_is) c.requires in
    subst (λ (v : WalkParts). (opened : List ℕ) × IsWholeTree (map_of v.plan) v.mesh.triangles v.labels c.tree.result opened) c.self.view_is
    (whole_tree w c.tree.result c.self.invariant none c.tree.ensures.source c.tree.ensures.nodes)
