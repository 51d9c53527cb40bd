-- A certificate of version 3 as the list of its parts.
use Rattle.std.specs.Prelude.{ℕ, suc, List, [], ◌∷◌, ◌++◌, map, Result, Ok}
use Rattle.sight_names.specs.declared.faults.CertFault.{CertFault}
use Rattle.block_evidence.specs.declared.sight_tree.Node.{Node}
use Rattle.cert_format.specs.declared.cert.Sizes.{Sizes}
use Rattle.cert_format.specs.Reading.{◌>>=◌}
use Rattle.certificates.specs.declared.cert_exact.cert.ExactParts.{ExactParts}
use Rattle.certificates.specs.CertExact.Reading.{exact_at}
use Rattle.certificates.specs.declared.exact_parts.part.Part.{Part}
use Rattle.certificates.specs.declared.exact_parts.part.Part.TheVariants as parts

-- nodes of the tree of a group
abbrev pub node_parts : ℕ → List Node → List Part
node_parts f ns = map (λ n. parts.Node f n) ns

-- the nodes of all trees from that of one group on
abbrev pub tree_parts : ℕ → List (List Node) → List Part
tree_parts f [] = []
tree_parts f (ns ∷ trees) = node_parts f ns ++ tree_parts (suc f) trees

-- triangles, rays, a length for each tree, and then all nodes, as the bytes have them
abbrev pub parts_of_exact : ExactParts → List Part
parts_of_exact c = map (λ t. parts.Triangle t) c.triangles ++ (map (λ r. parts.Ray r) c.rays ++ (map (λ (ns : List Node). parts.Length) c.trees ++ tree_parts 0 c.trees))

-- the groups, and the parts
abbrev pub ThreeParts : Type 0
ThreeParts = List (List ℕ) × List Part

abbrev pub three_parts_of : ExactParts → ThreeParts
three_parts_of c = (c.groups, parts_of_exact c)

-- those of the certificate that all of the bytes spell, or the first fault
abbrev pub reading_three_parts : Sizes → List ℕ → Result ThreeParts CertFault
reading_three_parts sizes bytes = exact_at sizes bytes >>= λ c. Ok (three_parts_of c)
