-- The words in which it is said when a certificate is accepted for a table. None names a budget or a greedy mesh.
use Rattle.std.specs.Prelude.{◌≡◌, ℕ, ◌⊎◌, List, Option, Some, map, Contains}
use Rattle.sight_names.specs.declared.names.PairRay.{PairRay}
use Rattle.sight_names.specs.declared.names.Side.{Side}
use Rattle.sight_names.specs.declared.names.Triangle.{Triangle}
use Rattle.sight_names.specs.Map.{Map, Names}
use Rattle.sight_names.specs.Table.{Rejected}
use Rattle.block_evidence.specs.declared.sight_tree.Tree.{Tree}
use Rattle.block_evidence.specs.SightTree.WholeTree.{KeepsFrom}
use Rattle.cert_format.specs.declared.cert.Labelled.{Labelled}
use Rattle.cert_format.specs.Parts.{CertParts}

abbrev pub triangles_of : CertParts → List Triangle
triangles_of c = map (λ (l : Labelled). l.triangle) c.triangles

abbrev pub labels_of : CertParts → List (Option ℕ)
labels_of c = map (λ (l : Labelled). Some l.sector) c.triangles

-- the bit of the one order or of the other
abbrev pub EitherSet : ℕ → List ℕ → ℕ → ℕ → Type 0
EitherSet n t a b = Rejected n t a b ⊎ Rejected n t b a

abbrev pub EitherClear : ℕ → List ℕ → ℕ → ℕ → Type 0
EitherClear n t a b = ¬ Rejected n t a b ⊎ ¬ Rejected n t b a

abbrev pub IsNamed : Map → ℕ → Type 0
IsNamed m a = (s : Side) × Names m s a

-- the certificate has a ray for the pair
abbrev pub HasRay : CertParts → ℕ → ℕ → Type 0
HasRay c a b = (r : PairRay) × Contains c.rays r × (r.pair ≡ record { a = a; b = b })

-- a tree of a has no open node whose triangle has b as its label
abbrev pub HasTreeWithout : Map → CertParts → ℕ → ℕ → Type 0
HasTreeWithout m c a b = (t : Tree) × Contains c.trees t × (t.source ≡ a) × KeepsFrom m (triangles_of c) (labels_of c) t b
