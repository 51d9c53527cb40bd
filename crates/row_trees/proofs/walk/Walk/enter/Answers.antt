use Rattle.block_evidence.specs.declared.sight_tree.Node.TheVariants.{Open}
use Rattle.gate_floods.specs.RowJudge.Judged.{tree_with}
use Rattle.gate_floods.specs.RowJudge.Masks.{rows_of}
use Rattle.row_trees.proofs.Keeping.{always, kept_made}
use Rattle.row_trees.proofs.walk.Walk.enter.Goals as goal

pub go-requires-clause-room : goal.go-requires-clause-room
go-requires-clause-room c = c.requires.stands.2.depth_room

pub go-requires-clause-row : goal.go-requires-clause-row
go-requires-clause-row c = c.requires.stands.2.row_room

pub returns-clause-stands : goal.returns-clause-stands
returns-clause-stands c = λ first ps qs at answers. always c.keep.result (c.in_ok-go.ensures.stands first ps qs at answers)

pub returns-clause-made : goal.returns-clause-made
returns-clause-made c = λ row source h.
    let t = c.args.terrain.now in
    kept_made t.edges.now (rows_of c.args.masks.now) row t.roots.now.roots.items t.roots.now.first.items source c.go.new.self c.args.made.now c.keep.new.made Open c.keep.result c.keep.ensures.found c.keep.ensures.nodes
    (λ none. c.in_ok-go.ensures.answered row (tree_with source c.args.made.now.nodes) (h none))
