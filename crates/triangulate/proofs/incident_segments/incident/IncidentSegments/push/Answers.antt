use Rattle.std.proofs.Common.{◌≡◌, ◌++◌, ◌∷◌, [], arith, ap, length}
use Rattle.std.proofs.lemmas.Grind.{common_steps}
use Rattle.triangulate.specs.IncidentSegments.Incident.{IncidentParts}
use Rattle.triangulate.proofs.IncidentSegments.Chains.{push_made}
use Rattle.triangulate.proofs.incident_segments.incident.IncidentSegments.push.Goals as goal

pub invariant_of-self-2 : goal.invariant_of-self-2
invariant_of-self-2 c =
    let es : c.push.new.self.items ≡ c.self.inside.segments.items ++ (record { from = c.args.from; to = c.args.to }) ∷ [] = c.in_ok-push.ensures.items in
    let el : c.push-2.new.self.items ≡ c.self.inside.links.items ++ (record { from = c.index.result.now; to = c.index-2.result.now }) ∷ [] = grind (arith, common_steps) in
    let en : c.len-count.result ≡ length c.push.new.self.items = grind (arith, common_steps) in
    let f : c.self.inside.points ≡ c.args.self.now.points = ap (λ (w : IncidentParts). w.points) c.self.view_is in
    push_made c.self.inside.points c.self.inside.segments.items c.self.inside.last.items c.self.inside.links.items c.args.from c.args.to c.len-count.result c.index.result.now c.index-2.result.now _ _
    c.self.invariant (let h = c.requires.from in omega arith) (let h = c.requires.to in omega arith) c.requires.differ es en c.index.ensures c.index-2.ensures el
