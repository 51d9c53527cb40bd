-- What the parts that were heard are of a certificate of version 3: its triangles, rays and trees so far.
use Rattle.std.specs.Prelude.{ℕ, List, [], ◌∷◌, ◌++◌, None, Bool, true, false, if◌then◌else◌}
use Rattle.sight_names.specs.declared.names.PairRay.{PairRay}
use Rattle.block_evidence.specs.declared.sight_tree.Node.{Node}
use Rattle.cert_format.specs.declared.cert.Labelled.{Labelled}
use Rattle.certificates.specs.declared.exact_parts.part.Part.{Part}
use Rattle.certificates.specs.declared.exact_parts.part.Part.TheVariants.{Triangle, Ray, Length, Node as OfNode}
use Rattle.any_judge.specs.ExactJudge.Trees.{Begun, at_source}

abbrev pub Groups : Type 0
Groups = List (List ℕ)

-- the triangles and rays before any other part, whether another part has come, and the trees that have begun
pub record ExactHeard : Type 0 where
  pub triangles : List Labelled
  pub closed : Bool
  pub rays : List PairRay
  pub trees : Begun

abbrev pub nothing_exact : ExactHeard
nothing_exact = record { triangles = []; closed = false; rays = []; trees = ([], None) }

-- another part than a triangle or a ray comes
abbrev pub closed_at : ExactHeard → ExactHeard
closed_at h = record { triangles = h.triangles; closed = true; rays = h.rays; trees = h.trees }

abbrev pub with_triangle : Labelled → ExactHeard → ExactHeard
with_triangle l h = record { triangles = (if h.closed then h.triangles else h.triangles ++ l ∷ []); closed = h.closed; rays = h.rays; trees = h.trees }

abbrev pub with_ray : PairRay → ExactHeard → ExactHeard
with_ray r h = record { triangles = h.triangles; closed = h.closed; rays = (if h.closed then h.rays else h.rays ++ r ∷ []); trees = h.trees }

abbrev pub with_node_of : ℕ → Node → ExactHeard → ExactHeard
with_node_of f n h = record { triangles = h.triangles; closed = h.closed; rays = h.rays; trees = at_source f n h.trees }

abbrev pub with_exact_part : ExactHeard → Part → ExactHeard
with_exact_part h (Triangle l) = with_triangle l h
with_exact_part h (Ray r) = with_ray r h
with_exact_part h Length = closed_at h
with_exact_part h (OfNode f n) = with_node_of f n (closed_at h)

-- one part after another
abbrev pub heard_from : ExactHeard → List Part → ExactHeard
heard_from h [] = h
heard_from h (part ∷ parts) = heard_from (with_exact_part h part) parts
