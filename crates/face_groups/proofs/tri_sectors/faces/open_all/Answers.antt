use Rattle.std.proofs.Common.{◌+◌, ◌<◌, List, Bool, length, refl, sym, ap, ◌∙◌, subst, arith}
use Rattle.std.proofs.lemmas.Bool.{false≢true}
use Rattle.std.proofs.lemmas.Option.{slice_get-get_or}
use Rattle.mesh_shape.proofs.IndexLemmas.{any_triangle}
use Rattle.face_groups.proofs.TriSectors.FaceLemmas.{any_walls, AreOpenBefore, none_opened, gap_if, gap_only, gap_opened, gap_passed, all_opened}
use Rattle.face_groups.proofs.tri_sectors.faces.open_all.Goals as goal
use Rattle.face_groups.proofs.tri_sectors.faces.open_all.Goals.{then-has_gap, else-has_gap}
use Rattle.math_base.proofs.Lists.{item_there}

pub loop-k-init : goal.loop-k-init
loop-k-init c = none_opened c.args.mesh.now.triangles c.args.walls.now c.args.faces.now c.args.marks.now c.requires.len c.requires.none

pub loop-k-preserved : goal.loop-k-preserved
loop-k-preserved c =
    let e = ap length c.triangles-t-items.ensures.list in let f = c.loop-k-test.true in
    let lt : c.loop-k.k < length c.args.mesh.now.triangles = omega (arith, e, f) in
    let there = item_there c.triangles-t-items.result.now c.args.mesh.now.triangles c.loop-k.k any_triangle c.triangles-t-items.ensures.list c.loop-k-test.true in
    let marks = slice_get-get_or c.args.walls.now c.loop-k.k any_walls (let l = c.requires.walls in omega (arith, lt, l)) in
    elim c.if-has_gap.branch [
      | then-has_gap w ↦ subst (λ (os : List Bool). AreOpenBefore c.args.mesh.now.triangles c.args.walls.now c.args.faces.now (c.loop-k.k + 1) os) (sym w.marks-is)
          (gap_opened c.args.mesh.now.triangles c.args.walls.now c.args.faces.now c.loop-k.k _ c.loop-k.marks lt refl (c.requires.range c.loop-k.k 0 (let l = c.requires.faces in omega (arith, lt, l)))
          (gap_if c.args.mesh.now.triangles c.args.walls.now c.loop-k.k _ _ there marks (c.has_gap.ensures.0 w.if-has_gap.true)) c.loop-k.invariant)
      | else-has_gap w ↦ subst (λ (os : List Bool). AreOpenBefore c.args.mesh.now.triangles c.args.walls.now c.args.faces.now (c.loop-k.k + 1) os) (sym w.marks-is)
          (gap_passed c.args.mesh.now.triangles c.args.walls.now c.args.faces.now c.loop-k.k c.loop-k.marks
          (λ g. false≢true (sym w.if-has_gap.false ∙ c.has_gap.ensures.1 (gap_only c.args.mesh.now.triangles c.args.walls.now c.loop-k.k _ _ there marks g))) c.loop-k.invariant)
    ]

pub returns : goal.returns
returns c = all_opened c.args.mesh.now.triangles c.args.walls.now c.args.faces.now c.loop-k.k c.loop-k.marks (let e = ap length c.triangles-t-items.ensures.list in let f = c.loop-k-test.false in omega (arith, e, f)) c.loop-k.invariant
