use Rattle.std.proofs.Common.{◌<◌, ◌++◌, ◌∷◌, [], ◌∙◌, subst, sym, ap, ℕ, List, get_or, map}
use Rattle.std.proofs.lemmas.List.{take_more, take_all}
use Rattle.triangulate.specs.declared.incident_segments.segments.Segment.{Segment}
use Rattle.triangulate.specs.IncidentSegments.Kept.{edge_of}
use Rattle.triangulate.specs.IncidentSegments.Incident.{IncidentParts}
use Rattle.triangulate.proofs.IncidentSegments.KeptEdges.{edge_there, any_segment}
use Rattle.triangulate.proofs.triangles.incident_of.Goals as goal

pub push-requires-clause-from : goal.push-requires-clause-from
push-requires-clause-from c = let e = edge_there c.args.points _ _ c.loop-segment.segment-index any_segment c.as_slice-segment-items.ensures c.requires c.loop-segment-test.true in let i = c.loop-segment.invariant.points in subst (λ (n : ℕ). (get_or c.as_slice-segment-items.result.now c.loop-segment.segment-index any_segment).from < n) (sym i) e.from

pub push-requires-clause-to : goal.push-requires-clause-to
push-requires-clause-to c = let e = edge_there c.args.points _ _ c.loop-segment.segment-index any_segment c.as_slice-segment-items.ensures c.requires c.loop-segment-test.true in let i = c.loop-segment.invariant.points in subst (λ (n : ℕ). (get_or c.as_slice-segment-items.result.now c.loop-segment.segment-index any_segment).to < n) (sym i) e.to

pub push-requires-clause-differ : goal.push-requires-clause-differ
push-requires-clause-differ c = let e = edge_there c.args.points _ _ c.loop-segment.segment-index any_segment c.as_slice-segment-items.ensures c.requires c.loop-segment-test.true in let i = c.loop-segment.invariant.points in e.differ

pub loop-segment-preserved : goal.loop-segment-preserved
loop-segment-preserved c = record {
  points = ap (λ (w : IncidentParts). w.points) c.in_ok-push.ensures.kept ∙ c.loop-segment.invariant.points;
  segments = ap (λ (w : IncidentParts). w.segments) c.in_ok-push.ensures.kept
      ∙ ap (λ (xs : List Segment). xs ++ get_or c.as_slice-segment-items.result.now c.loop-segment.segment-index any_segment ∷ []) c.loop-segment.invariant.segments
      ∙ sym (take_more c.as_slice-segment-items.result.now c.loop-segment.segment-index any_segment c.loop-segment-test.true);
}

pub returns-clause-segments : goal.returns-clause-segments
returns-clause-segments c = ap (map edge_of) (c.loop-segment.invariant.segments ∙ take_all c.loop-segment.segment-index c.as_slice-segment-items.result.now c.loop-segment-test.false) ∙ c.as_slice-segment-items.ensures
