use Rattle.std.proofs.Common.{sym, subst}
use Rattle.mesh_shape.specs.declared.half_edges.table.HalfEdge.{HalfEdge}
use Rattle.portal_walk.specs.Walk.{WalkParts, IsTop}
use Rattle.portal_walk.proofs.walker.Walker.here.Goals as goal

pub here-requires : goal.here-requires
here-requires c = subst (λ (w : WalkParts). (edge : HalfEdge) × IsTop w edge) (sym c.self.view_is) c.requires
