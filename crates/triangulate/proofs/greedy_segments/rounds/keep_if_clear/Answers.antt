use Rattle.std.proofs.Common.{List, inr, refl, subst, sym, ap}
use Rattle.std.proofs.lemmas.Bool.{OnTrue_at, OnFalse_at}
use Rattle.sight_names.specs.Map.{map_of}
use Rattle.triangulate.specs.declared.incident_segments.segments.Segment.{Segment}
use Rattle.triangulate.specs.IncidentSegments.Incident.{IncidentParts}
use Rattle.triangulate.specs.GreedySegments.Extents.{AreExtents}
use Rattle.triangulate.specs.IncidentSegments.Kept.{edges_of}
use Rattle.triangulate.proofs.GreedySegments.Crossed.{bar_turned, meet_turned}
use Rattle.triangulate.proofs.greedy_segments.rounds.keep_if_clear.Goals as goal

pub returns-then-is_crossed-2-clause-keeps : goal.returns-then-is_crossed-2-clause-keeps
returns-then-is_crossed-2-clause-keeps c = inr (bar_turned (map_of c.args.plan.now) (edges_of c.args.incident.now.segments) c.args.pair.from c.args.pair.to (OnTrue_at c.if-is_crossed-2.true c.is_crossed-2.ensures.crossed), refl)

pub returns-clause-extents : goal.returns-clause-extents
returns-clause-extents c = subst (λ (ss : List Segment). AreExtents (map_of c.args.plan.now) ss c.add.new.self.extents.items) (ap (λ (w : IncidentParts). w.segments) (sym c.in_ok-push.ensures.kept)) (c.add.ensures c.args.incident.now.segments c.requires.extents)

pub is_clear-requires-clause-near : goal.is_clear-requires-clause-near
is_clear-requires-clause-near c = OnFalse_at c.if-is_crossed.false c.is_crossed.ensures.meet

pub is_clear-requires-clause-far : goal.is_clear-requires-clause-far
is_clear-requires-clause-far c = meet_turned (map_of c.args.plan.now) c.args.incident.now.segments c.args.pair.to c.args.pair.from c.args.pair.to (OnFalse_at c.if-is_crossed-2.false c.is_crossed-2.ensures.meet)
