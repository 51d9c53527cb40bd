-- What the parts that were heard are of a certificate: its triangles, rays, listed pairs and trees so far.
use Rattle.std.specs.Prelude.{ℕ, List, [], ◌∷◌, ◌++◌, Option, Some, None, map, option_map, Bool, true, false, if◌then◌else◌}
use Rattle.std.specs.Option.{option_to_list}
use Rattle.sight_names.specs.declared.names.Pair.{Pair}
use Rattle.sight_names.specs.declared.names.PairRay.{PairRay}
use Rattle.block_evidence.specs.declared.sight_tree.Node.{Node}
use Rattle.block_evidence.specs.declared.sight_tree.Tree.{Tree}
use Rattle.cert_format.specs.declared.cert.Labelled.{Labelled}
use Rattle.certificates.specs.declared.cert_parts.part.Part.{Part}
use Rattle.certificates.specs.declared.cert_parts.part.Part.TheVariants.{Triangle, Ray, Listed, Tree as OfTree, Node as OfNode}
use Rattle.cert_checker.specs.TreeJudge.Walked.{begun, with_node}

-- the triangles before any other part, whether another part has come, and the trees, the last one apart
pub record PartsHeard : Type 0 where
  pub triangles : List Labelled
  pub closed : Bool
  pub rays : List PairRay
  pub listed : List Pair
  pub front : List Tree
  pub tree : Option Tree

abbrev pub nothing_heard : PartsHeard
nothing_heard = record { triangles = []; closed = false; rays = []; listed = []; front = []; tree = None }

-- another part than a triangle comes
abbrev pub closed_at : PartsHeard → PartsHeard
closed_at h = record { triangles = h.triangles; closed = true; rays = h.rays; listed = h.listed; front = h.front; tree = h.tree }

abbrev pub with_triangle : Labelled → PartsHeard → PartsHeard
with_triangle l h = record { triangles = (if h.closed then h.triangles else h.triangles ++ l ∷ []); closed = h.closed; rays = h.rays; listed = h.listed; front = h.front; tree = h.tree }

abbrev pub with_ray : PairRay → PartsHeard → PartsHeard
with_ray r h = record { triangles = h.triangles; closed = h.closed; rays = h.rays ++ r ∷ []; listed = h.listed; front = h.front; tree = h.tree }

abbrev pub with_listed : Pair → PartsHeard → PartsHeard
with_listed p h = record { triangles = h.triangles; closed = h.closed; rays = h.rays; listed = h.listed ++ p ∷ []; front = h.front; tree = h.tree }

-- the last tree has ended, and one of this source begins
abbrev pub with_tree : ℕ → PartsHeard → PartsHeard
with_tree source h = record { triangles = h.triangles; closed = h.closed; rays = h.rays; listed = h.listed; front = h.front ++ option_to_list h.tree; tree = Some (begun source) }

-- a node of the last tree
abbrev pub with_next : Node → PartsHeard → PartsHeard
with_next n h = record { triangles = h.triangles; closed = h.closed; rays = h.rays; listed = h.listed; front = h.front; tree = option_map (with_node n) h.tree }

abbrev pub with_part : PartsHeard → Part → PartsHeard
with_part h (Triangle l) = with_triangle l h
with_part h (Ray r) = with_ray r (closed_at h)
with_part h (Listed p) = with_listed p (closed_at h)
with_part h (OfTree source nodes) = with_tree source (closed_at h)
with_part h (OfNode n) = with_next n (closed_at h)

-- nodes as parts
abbrev pub node_parts : List Node → List Part
node_parts ns = map (λ n. OfNode n) ns

-- one part after another
abbrev pub heard_from : PartsHeard → List Part → PartsHeard
heard_from h [] = h
heard_from h (part ∷ parts) = heard_from (with_part h part) parts
