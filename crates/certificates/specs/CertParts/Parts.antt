-- A certificate as the list of its parts.
use Rattle.std.specs.Prelude.{ℕ, List, ◌∷◌, ◌++◌, map, length, flat_map, Option, Some, None, Result, Ok}
use Rattle.sight_names.specs.declared.faults.CertFault.{CertFault}
use Rattle.block_evidence.specs.declared.sight_tree.Tree.{Tree}
use Rattle.block_evidence.specs.SightTree.Spelling.{IsPackable}
use Rattle.cert_format.specs.declared.cert.Sizes.{Sizes}
use Rattle.cert_format.specs.Parts.{CertParts}
use Rattle.cert_format.specs.Reading.{◌>>=◌, reading}
use Rattle.cert_format.specs.declared.cert_groups.cert.CertTwo.{CertTwo}
use Rattle.cert_format.specs.declared.cert_groups.cert.AnyCert.{AnyCert}
use Rattle.cert_format.specs.declared.cert_groups.cert.AnyCert.TheVariants.{One, Two}
use Rattle.cert_format.specs.CertGroups.Reading.{any_at}
use Rattle.certificates.specs.declared.cert_parts.part.Part.{Part}
use Rattle.certificates.specs.declared.cert_parts.part.Part.TheVariants as parts

-- a tree: its source, how many nodes it has, and then those
abbrev pub tree_parts : Tree → List Part
tree_parts t = parts.Tree t.source (length t.nodes) ∷ map (λ n. parts.Node n) t.nodes

-- triangles, rays, listed pairs, and then trees, as the bytes have them
abbrev pub parts_of_listing : CertParts → List Part
parts_of_listing c = map (λ t. parts.Triangle t) c.triangles ++ (map (λ r. parts.Ray r) c.rays ++ (map (λ p. parts.Listed p) c.listed ++ flat_map tree_parts c.trees))

-- the parts of the certificate that all of the bytes spell, or the first fault
abbrev pub reading_parts : Sizes → List ℕ → Result (List Part) CertFault
reading_parts sizes bytes = reading sizes bytes >>= λ c. Ok (parts_of_listing c)

-- nothing of a node is lost where it is kept as its spelling
abbrev pub IsPackablePart : Part → Type 0
IsPackablePart (parts.Node n) = IsPackable n
IsPackablePart part = Unit {0}

-- ---- of version 1 or 2

-- in version 2 triangles, rays and trees have groups in the place of sectors
abbrev pub two_parts_of : CertTwo → List Part
two_parts_of c = map (λ t. parts.Triangle t) c.cert.triangles ++ (map (λ r. parts.Ray r) c.cert.rays ++ (map (λ p. parts.Listed p) c.listed ++ flat_map tree_parts c.cert.trees))

-- the groups of version 2, and the parts
abbrev pub AnyParts : Type 0
AnyParts = Option (List (List ℕ)) × List Part

abbrev pub any_parts_of : AnyCert → AnyParts
any_parts_of (One c) = (None, parts_of_listing c)
any_parts_of (Two c sizes) = (Some c.groups, two_parts_of c)

abbrev pub reading_any_parts : Sizes → List ℕ → Result AnyParts CertFault
reading_any_parts sizes bytes = any_at sizes bytes >>= λ c. Ok (any_parts_of c)
