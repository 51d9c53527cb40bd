-- What a printer still has to give.
use Rattle.std.specs.Prelude.{ℕ, List, ◌++◌, flat_map}
use Rattle.sight_names.specs.declared.names.Pair.{Pair}
use Rattle.sight_names.specs.declared.names.PairRay.{PairRay}
use Rattle.block_evidence.specs.declared.sight_tree.Tree.{Tree}
use Rattle.cert_format.specs.declared.cert.Labelled.{Labelled}
use Rattle.cert_format.specs.Grammar.{triangle_bytes, ray_bytes, pair_bytes, tree_bytes}

-- bytes of a record, bytes of a tree's nodes, and whole records
pub record LeftParts : Type 0 where
  pub begun : List ℕ
  pub nodes : List ℕ
  pub triangles : List Labelled
  pub rays : List PairRay
  pub listed : List Pair
  pub trees : List Tree

abbrev pub left_bytes : LeftParts → List ℕ
left_bytes l = l.begun ++ l.nodes ++ flat_map triangle_bytes l.triangles ++ flat_map ray_bytes l.rays ++ flat_map pair_bytes l.listed ++ flat_map tree_bytes l.trees
