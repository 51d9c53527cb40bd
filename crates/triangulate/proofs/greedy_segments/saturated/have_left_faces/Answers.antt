use Rattle.std.proofs.Common.{ℕ, ◌-◌, sym, subst, ◌∙◌, arith}
use Rattle.std.proofs.lemmas.Bool.{OnTrue_at}
use Rattle.sight_names.specs.Map.{map_of}
use Rattle.triangulate.specs.GreedySegments.Saturated.{HasFaceLeft}
use Rattle.triangulate.proofs.IncidentSegments.KeptEdges.{any_segment}
use Rattle.triangulate.proofs.IncidentSegments.AroundPoint.{walk_start, walk_step, walk_end}
use Rattle.triangulate.proofs.greedy_segments.saturated.have_left_faces.Goals as goal

pub loop-at-init : goal.loop-at-init
loop-at-init c = record {
  faces = walk_start c.args.incident.now.segments c.args.a (λ (v : ℕ). HasFaceLeft (map_of c.args.plan.now) c.args.incident.now.segments c.args.a v) _ c.last-at.ensures;
  searched = c.requires.searched;
}

pub loop-at-preserved : goal.loop-at-preserved
loop-at-preserved c =
    let m = map_of c.args.plan.now in
    let segs = c.args.incident.now.segments in
    let shut : HasFaceLeft m segs c.args.a c.other.result = OnTrue_at c.if-not-has_face_left.false c.has_face_left.ensures.face in
    record {
      faces = walk_step segs c.args.a (λ (v : ℕ). HasFaceLeft m segs c.args.a v) (λ (v : ℕ). HasFaceLeft m segs c.args.a v) c.loop-at.at (c.loop-at.at - 1) _ c.loop-at.invariant.faces (omega arith) (λ v h. h)
          (λ v e. subst (λ (v : ℕ). HasFaceLeft m segs c.args.a v) (c.other.ensures.end any_segment ∙ sym (e any_segment)) shut) c.earlier-at.ensures;
      searched = c.has_face_left.ensures.searched;
    }

pub returns-clause-faces : goal.returns-clause-faces
returns-clause-faces c = λ v s. walk_end c.args.incident.now.segments c.args.a (λ (v : ℕ). HasFaceLeft (map_of c.args.plan.now) c.args.incident.now.segments c.args.a v) c.loop-at.at c.loop-at.invariant.faces (omega arith) v s
