use Rattle.std.proofs.Common.{◌<◌, ℕ, length, get_or, sym, subst, arith}
use Rattle.std.proofs.lemmas.Option.{slice_get-get_or}
use Rattle.sight_names.specs.Map.{map_of}
use Rattle.sight_names.proofs.Lists.{contains_of_get}
use Rattle.triangulate.specs.IncidentSegments.Kept.{edges_of}
use Rattle.triangulate.proofs.GreedySegments.Starting.{OpenUpTo, open_none, open_next, open_all}
use Rattle.triangulate.proofs.greedy_segments.rounds.unsaturated_points.Goals as goal

pub loop-k-init : goal.loop-k-init
loop-k-init c = record {
  opened = subst (OpenUpTo (map_of c.args.plan.now) (edges_of c.args.incident.now.segments) (length c.args.plan.now.points) c.args.unsaturated.now 0) (sym c.new-others.ensures.items) (open_none (map_of c.args.plan.now) (edges_of c.args.incident.now.segments) (length c.args.plan.now.points) c.args.unsaturated.now);
  searched = c.requires.searched;
}

pub push_if_unsaturated-requires-clause-within : goal.push_if_unsaturated-requires-clause-within
push_if_unsaturated-requires-clause-within c =
    subst (λ (n : ℕ). get_or c.args.unsaturated.now c.loop-k.k-index 0 < n) (sym c.requires.points)
    (c.requires.unsaturated.within (get_or c.args.unsaturated.now c.loop-k.k-index 0) (contains_of_get c.args.unsaturated.now (get_or c.args.unsaturated.now c.loop-k.k-index 0) c.loop-k.k-index (slice_get-get_or c.args.unsaturated.now c.loop-k.k-index 0 c.loop-k-test.true)))

pub loop-k-preserved : goal.loop-k-preserved
loop-k-preserved c = record {
  opened = open_next (map_of c.args.plan.now) (edges_of c.args.incident.now.segments) (length c.args.plan.now.points) c.args.unsaturated.now c.loop-k.k-index (get_or c.args.unsaturated.now c.loop-k.k-index 0) c.loop-k.others.items _ c.requires.unsaturated (slice_get-get_or c.args.unsaturated.now c.loop-k.k-index 0 c.loop-k-test.true) c.in_ok-push_if_unsaturated.ensures.adds c.loop-k.invariant.opened;
  searched = c.in_ok-push_if_unsaturated.ensures.searched;
}

pub returns-clause-left : goal.returns-clause-left
returns-clause-left c = open_all (map_of c.args.plan.now) (edges_of c.args.incident.now.segments) (length c.args.plan.now.points) c.args.unsaturated.now c.loop-k.k-index c.loop-k.others.items (omega (arith, c.loop-k-test.false)) c.loop-k.invariant.opened
