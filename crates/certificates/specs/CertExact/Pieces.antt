-- What a printer still has to give of a certificate of version 3.
use Rattle.std.specs.Prelude.{ℕ, List, ◌++◌, flat_map}
use Rattle.sight_names.specs.declared.names.PairRay.{PairRay}
use Rattle.block_evidence.specs.declared.sight_tree.Node.{Node}
use Rattle.block_evidence.specs.SightTree.Spelling.{u16}
use Rattle.cert_format.specs.declared.cert.Labelled.{Labelled}
use Rattle.cert_format.specs.Grammar.{triangle_bytes, ray_bytes}
use Rattle.cert_format.specs.CertGroups.Grammar.{group_bytes}
use Rattle.certificates.specs.CertExact.Grammar.{length_bytes, nodes_bytes}

-- bytes of a record, sectors of a group, whole records, and trees whose lengths are still to give
pub record FrontParts : Type 0 where
  pub begun : List ℕ
  pub sectors : List ℕ
  pub groups : List (List ℕ)
  pub triangles : List Labelled
  pub rays : List PairRay
  pub lengths : List (List Node)

abbrev pub front_left : FrontParts → List ℕ
front_left f = f.begun ++ flat_map u16 f.sectors ++ flat_map group_bytes f.groups ++ flat_map triangle_bytes f.triangles ++ flat_map ray_bytes f.rays ++ flat_map length_bytes f.lengths

-- bytes of the nodes of a tree, and whole trees
pub record TreesParts : Type 0 where
  pub nodes : List ℕ
  pub trees : List (List Node)

abbrev pub trees_left : TreesParts → List ℕ
trees_left t = t.nodes ++ flat_map nodes_bytes t.trees
