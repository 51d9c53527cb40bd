use Rattle.triangulate.proofs.IncidentSegments.Chains.{seen_from, seen_to}
use Rattle.triangulate.proofs.incident_segments.incident.IncidentSegments.earlier.Goals as goal

pub returns-then-index-u : goal.returns-then-index-u
returns-then-index-u c = seen_from _ _ _ _ c.args.self.now c.args.k c.args.u c.index.result.now c.index-then-index-u.result.now c.self.view_is c.self.invariant c.requires.here c.index.ensures c.index-then-index-u.ensures c.if-index-u.true

pub returns-else-index-u : goal.returns-else-index-u
returns-else-index-u c = seen_to _ _ _ _ c.args.self.now c.args.k c.args.u c.index.result.now c.index-else-index-u.result.now c.self.view_is c.self.invariant c.requires.here c.index.ensures c.index-else-index-u.ensures c.if-index-u.false c.requires.end
