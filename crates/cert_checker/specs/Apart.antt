-- What is judged of a certificate's lists apart from the certificate.
use Rattle.std.specs.Prelude.{◌≡◌, ℕ, List, Option, Some, map}
use Rattle.sight_names.specs.declared.names.Pair.{Pair}
use Rattle.sight_names.specs.declared.names.PairRay.{PairRay}
use Rattle.sight_names.specs.declared.names.Triangle.{Triangle}
use Rattle.cert_format.specs.declared.cert.Labelled.{Labelled}
use Rattle.cert_format.specs.Grammar.{IsOneInOrder}
use Rattle.cert_format.specs.Parts.{CertParts}

-- the triangles, and their sectors as labels
abbrev pub triangles_in : List Labelled → List Triangle
triangles_in ls = map (λ (l : Labelled). l.triangle) ls

abbrev pub labels_in : List Labelled → List (Option ℕ)
labels_in ls = map (λ (l : Labelled). Some l.sector) ls

-- the list and the rays of some certificate in order, of a map with so many sectors
pub record AreListsOf (n : ℕ) (listed : List Pair) (rays : List PairRay) : Type 0 where
  pub cert : CertParts
  pub in_order : IsOneInOrder cert
  pub sectors : cert.sizes.sectors ≡ n
  pub listed_is : listed ≡ cert.listed
  pub rays_are : rays ≡ cert.rays
