use Rattle.std.proofs.Common.{refl}
use Rattle.sight_names.specs.Map.{map_of}
use Rattle.mesh_shape.proofs.RuleLemmas.{all_fair, numbered_apart}
use Rattle.sight_names.specs.Map.{looked_up}
use Rattle.mesh_shape.proofs.rules.edges_meet_fairly.Goals as goal
use Rattle.mesh_base.proofs.CleanMesh.{edge_rp, edge_qr, edge_pq}

pub returns-then-is_numbered_apart : goal.returns-then-is_numbered_apart
returns-then-is_numbered_apart c = (λ h. numbered_apart c.args.plan.now c.requires.plan c.args.t c.args.line c.requires.triangle c.requires.line (c.is_numbered_apart.ensures.0 c.if-is_numbered_apart.true), λ h. refl)

pub returns : goal.returns
returns c = (
  λ h. let a = c.all.ensures.0 h in all_fair (map_of c.args.plan.now) c.args.t (looked_up c.args.plan.now.points c.args.line) (c.meets_fairly.ensures.0 a.0) (c.meets_fairly-2.ensures.0 a.1) (c.meets_fairly-3.ensures.0 a.2),
  λ h. c.all.ensures.1 (c.meets_fairly.ensures.1 (h _ (edge_pq c.args.t)), c.meets_fairly-2.ensures.1 (h _ (edge_qr c.args.t)), c.meets_fairly-3.ensures.1 (h _ (edge_rp c.args.t))),
)
