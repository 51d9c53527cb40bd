-- What the trees of a certificate of version 3 are judged by.
use Rattle.std.specs.Prelude.{◌≡◌, ◌*◌, ◌≤◌, List, length}
use Rattle.sight_names.specs.declared.names.Triangle.{Triangle}
use Rattle.sight_names.specs.Map.{map_of}
use Rattle.sight_names.specs.Mesh.{IsGoodMesh}
use Rattle.sight_names.specs.Plan.{PlanParts, IsPlan}
use Rattle.mesh_shape.specs.declared.half_edges.table.HalfEdge.{HalfEdge}
use Rattle.mesh_shape.specs.HalfEdges.HalfEdges.{AreHalfEdges}
use Rattle.cert_checker.specs.TreeJudge.Roots.{AreRootChains}
use Rattle.face_groups.specs.TriSectors.Components.{AreComponents}
use Rattle.cert_format.specs.Accepted.{triangles_of, labels_of}
use Rattle.certificates.specs.declared.cert_exact.cert.ExactParts.{ExactParts}
use Rattle.certificates.specs.CertExact.Grammar.{as_two}
use Rattle.gate_floods.specs.Exact.{IsClaimedBlind}
use Rattle.gate_floods.specs.RowJudge.Laws.{AreHalfEdgeMasks}
use Rattle.gate_floods.specs.RowJudge.Masks.{MaskRows}
use Rattle.exact_checker.specs.Owning.{OwningParts, IsSized, KnowsOwning}
use Rattle.any_judge.specs.declared.exact_judge.ground.Ground.{Ground}

abbrev pub masks_in : Ground → MaskRows
masks_in g = record { width = g.masks.width; places = g.masks.places.items; words = g.masks.words.items }

abbrev pub owning_in : Ground → OwningParts
owning_in g = record { count = g.count; components = g.components.items; ranks = g.ranks.items; joined = g.joined.items }

-- there is what each group needs
pub record IsSizedGround (g : Ground) : Type 0 where
  pub sized : IsSized (owning_in g)
  pub room : g.count ≤ 64 * g.masks.width

-- triangles and half-edges are those of the certificate, whose triangles are a good mesh of its map of groups
pub record IsMeshOver (c : ExactParts) (p : PlanParts) (ts : List Triangle) (xs : List HalfEdge) : Type 0 where
  pub plan : IsPlan p
  pub sectors : p.sectors ≡ length c.groups
  pub triangles : ts ≡ triangles_of (as_two c).cert
  pub good : IsGoodMesh (map_of p) (triangles_of (as_two c).cert) (labels_of (as_two c).cert)
  pub edges : AreHalfEdges p (triangles_of (as_two c).cert) (labels_of (as_two c).cert) xs

-- and so are roots, masks, components, ranks and rows
pub record IsExactGroundOf (p : PlanParts) (c : ExactParts) (g : Ground) : Type 0 where
  pub over : IsMeshOver c p (triangles_of (as_two c).cert) g.edges
  pub count : g.count ≡ p.sectors
  pub roots : AreRootChains (map_of p) (triangles_of (as_two c).cert) g.edges g.roots.roots.items g.roots.first.items
  pub masks : AreHalfEdgeMasks (map_of p) (IsClaimedBlind (map_of p) (as_two c).cert) g.edges (masks_in g)
  pub components : AreComponents (map_of p) g.components.items
  pub knows : KnowsOwning c.rays (owning_in g)
