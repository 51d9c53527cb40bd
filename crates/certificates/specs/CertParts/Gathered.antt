-- What the parts that have come are of a certificate: its triangles, rays, listed pairs and trees so far.
use Rattle.std.specs.Prelude.{ℕ, List, [], ◌∷◌, ◌++◌, Option, Some, None, option_map, Result, Ok}
use Rattle.std.specs.Option.{option_to_list}
use Rattle.sight_names.specs.declared.faults.CertFault.{CertFault}
use Rattle.sight_names.specs.declared.names.Pair.{Pair}
use Rattle.sight_names.specs.declared.names.PairRay.{PairRay}
use Rattle.block_evidence.specs.declared.sight_tree.Node.{Node}
use Rattle.block_evidence.specs.declared.sight_tree.Tree.{Tree}
use Rattle.cert_format.specs.declared.cert.Sizes.{Sizes}
use Rattle.cert_format.specs.declared.cert.Labelled.{Labelled}
use Rattle.cert_format.specs.Parts.{CertParts}
use Rattle.cert_format.specs.Reading.{◌>>=◌}
use Rattle.cert_format.specs.CertGroups.Grammar.{grouped_sizes}
use Rattle.cert_format.specs.declared.cert_groups.cert.CertTwo.{CertTwo}
use Rattle.cert_format.specs.declared.cert_groups.cert.AnyCert.{AnyCert}
use Rattle.cert_format.specs.declared.cert_groups.cert.AnyCert.TheVariants.{One, Two}
use Rattle.certificates.specs.declared.cert_parts.part.Part.{Part}
use Rattle.certificates.specs.declared.cert_parts.part.Part.TheVariants as parts
use Rattle.certificates.specs.CertParts.Left.{ReaderState, parts_left}

-- the last tree apart, of which more nodes may come
pub record GatheredParts : Type 0 where
  pub triangles : List Labelled
  pub rays : List PairRay
  pub listed : List Pair
  pub trees : List Tree
  pub tree : Option Tree

abbrev pub nothing_gathered : GatheredParts
nothing_gathered = record { triangles = []; rays = []; listed = []; trees = []; tree = None }

-- the last tree has ended
abbrev pub tree_ended : GatheredParts → GatheredParts
tree_ended g = record g { trees = g.trees ++ option_to_list g.tree; tree = None }

abbrev pub with_node : Node → Tree → Tree
with_node n t = record { source = t.source; nodes = t.nodes ++ n ∷ [] }

abbrev pub with_gathered : GatheredParts → Part → GatheredParts
with_gathered g (parts.Triangle t) = record g { triangles = g.triangles ++ t ∷ [] }
with_gathered g (parts.Ray r) = record g { rays = g.rays ++ r ∷ [] }
with_gathered g (parts.Listed p) = record g { listed = g.listed ++ p ∷ [] }
with_gathered g (parts.Tree source nodes) = record g { trees = g.trees ++ option_to_list g.tree; tree = Some (record { source = source; nodes = [] }) }
with_gathered g (parts.Node n) = record g { tree = option_map (with_node n) g.tree }

abbrev pub with_parts : GatheredParts → List Part → GatheredParts
with_parts g [] = g
with_parts g (part ∷ others) = with_parts (with_gathered g part) others

-- ---- what a reader still gives

-- behind these the parts of a list, of which none is left then; or the fault
abbrev pub all_with : GatheredParts → Result (List Part) CertFault → Result GatheredParts CertFault
all_with g left = left >>= λ others. Ok (tree_ended (with_parts g others))

-- those that are still to come, where these are all bytes that are still to come
abbrev pub gathered_from : GatheredParts → ReaderState → List ℕ → Result GatheredParts CertFault
gathered_from g reader bytes = all_with g (parts_left reader bytes)

-- ---- the certificate

-- of version 1, or that of version 2 without its groups and its listed pairs
abbrev pub core_in : Sizes → Option (List (List ℕ)) → GatheredParts → CertParts
core_in sizes None g = record { sizes = sizes; triangles = g.triangles; rays = g.rays; listed = g.listed; trees = g.trees }
core_in sizes (Some groups) g = record { sizes = grouped_sizes sizes groups; triangles = g.triangles; rays = g.rays; listed = []; trees = g.trees }

abbrev pub two_in : Sizes → List (List ℕ) → GatheredParts → CertTwo
two_in sizes groups g = record { groups = groups; cert = core_in sizes (Some groups) g; listed = g.listed }

-- for a map of these sizes; of version 2 where there are groups
abbrev pub gathered_cert : Sizes → Option (List (List ℕ)) → GatheredParts → AnyCert
gathered_cert sizes None g = One (core_in sizes None g)
gathered_cert sizes (Some groups) g = Two (two_in sizes groups g) sizes
