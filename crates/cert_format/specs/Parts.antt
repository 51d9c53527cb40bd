-- The value that contracts see of a certificate: plain data.
use Rattle.std.specs.Prelude.{List}
use Rattle.sight_names.specs.declared.names.Pair.{Pair}
use Rattle.sight_names.specs.declared.names.PairRay.{PairRay}
use Rattle.block_evidence.specs.declared.sight_tree.Tree.{Tree}
use Rattle.cert_format.specs.declared.cert.Sizes.{Sizes}
use Rattle.cert_format.specs.declared.cert.Labelled.{Labelled}

pub record CertParts : Type 0 where
  pub sizes : Sizes
  pub triangles : List Labelled
  pub rays : List PairRay
  pub listed : List Pair
  pub trees : List Tree
