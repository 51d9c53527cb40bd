-- The parts of a certificate, heard one after another, are the certificate.
use Rattle.std.proofs.Common.{◌≡◌, ℕ, List, [], ◌∷◌, ◌++◌, Option, Some, None, map, Bool, true, false, refl, sym, ◌∙◌, ap}
use Rattle.std.specs.List.{flat_map}
use Rattle.std.specs.Option.{option_to_list}
use Rattle.std.specs.Prelude.{option_map}
use Rattle.std.proofs.lemmas.List.{append-nil, append_assoc}
use Rattle.sight_names.specs.declared.names.Pair.{Pair}
use Rattle.sight_names.specs.declared.names.PairRay.{PairRay}
use Rattle.block_evidence.specs.declared.sight_tree.Node.{Node}
use Rattle.block_evidence.specs.declared.sight_tree.Tree.{Tree}
use Rattle.cert_format.specs.declared.cert.Labelled.{Labelled}
use Rattle.certificates.specs.declared.cert_parts.part.Part.{Part}
use Rattle.certificates.specs.declared.cert_parts.part.Part.TheVariants.{Triangle, Ray, Listed, Node as OfNode}
use Rattle.cert_format.specs.Parts.{CertParts}
use Rattle.cert_format.specs.declared.cert_groups.cert.AnyCert.{AnyCert}
use Rattle.cert_format.specs.declared.cert_groups.cert.AnyCert.TheVariants.{One, Two}
use Rattle.certificates.specs.CertParts.Parts.{tree_parts, parts_of_listing, any_parts_of}
use Rattle.cert_checker.specs.TreeJudge.Walked.{with_node, with_nodes}
use Rattle.cert_judge.specs.Heard.{PartsHeard, nothing_heard, with_part, node_parts, heard_from}
use Rattle.cert_judge.specs.Whole.{IsAllOf}

pub heard_one_more : (h : PartsHeard) (parts : List Part) (part : Part) → heard_from h (parts ++ part ∷ []) ≡ with_part (heard_from h parts) part
heard_one_more h [] part = refl
heard_one_more h (first ∷ parts) part = heard_one_more (with_part h first) parts part

pub heard_both : (h : PartsHeard) (parts more : List Part) → heard_from h (parts ++ more) ≡ heard_from (heard_from h parts) more
heard_both h [] more = refl
heard_both h (part ∷ parts) more = heard_both (with_part h part) parts more

abbrev made : List Labelled → Bool → List PairRay → List Pair → List Tree → Option Tree → PartsHeard
made ts b rs ps front tree = record { triangles = ts; closed = b; rays = rs; listed = ps; front = front; tree = tree }

triangles_heard : (ts ls : List Labelled) (rs : List PairRay) (ps : List Pair) (front : List Tree) (tree : Option Tree) → heard_from (made ts false rs ps front tree) (map (λ t. Triangle t) ls) ≡ made (ts ++ ls) false rs ps front tree
triangles_heard ts [] rs ps front tree = ap (λ (us : List Labelled). made us false rs ps front tree) (sym (append-nil ts))
triangles_heard ts (l ∷ ls) rs ps front tree = triangles_heard (ts ++ l ∷ []) ls rs ps front tree ∙ ap (λ (us : List Labelled). made us false rs ps front tree) (append_assoc ts (l ∷ []) ls)

rays_heard : (b : Bool) (ts : List Labelled) (rs more : List PairRay) (ps : List Pair) (front : List Tree) (tree : Option Tree) → (c : Bool) × (heard_from (made ts b rs ps front tree) (map (λ r. Ray r) more) ≡ made ts c (rs ++ more) ps front tree)
rays_heard b ts rs [] ps front tree = (b, ap (λ (us : List PairRay). made ts b us ps front tree) (sym (append-nil rs)))
rays_heard b ts rs (r ∷ more) ps front tree = let h = rays_heard true ts (rs ++ r ∷ []) more ps front tree in (h.0, h.1 ∙ ap (λ (us : List PairRay). made ts h.0 us ps front tree) (append_assoc rs (r ∷ []) more))

listed_heard : (b : Bool) (ts : List Labelled) (rs : List PairRay) (ps more : List Pair) (front : List Tree) (tree : Option Tree) → (c : Bool) × (heard_from (made ts b rs ps front tree) (map (λ p. Listed p) more) ≡ made ts c rs (ps ++ more) front tree)
listed_heard b ts rs ps [] front tree = (b, ap (λ (us : List Pair). made ts b rs us front tree) (sym (append-nil ps)))
listed_heard b ts rs ps (p ∷ more) front tree = let h = listed_heard true ts rs (ps ++ p ∷ []) more front tree in (h.0, h.1 ∙ ap (λ (us : List Pair). made ts h.0 rs us front tree) (append_assoc ps (p ∷ []) more))

abbrev grown : ℕ → List Node → Tree
grown source ns = record { source = source; nodes = ns }

nodes_heard : (ts : List Labelled) (rs : List PairRay) (ps : List Pair) (front : List Tree) (source : ℕ) (done ns : List Node) → heard_from (made ts true rs ps front (Some (grown source done))) (map (λ n. OfNode n) ns) ≡ made ts true rs ps front (Some (grown source (done ++ ns)))
nodes_heard ts rs ps front source done [] = ap (λ (us : List Node). made ts true rs ps front (Some (grown source us))) (sym (append-nil done))
nodes_heard ts rs ps front source done (n ∷ ns) = nodes_heard ts rs ps front source (done ++ n ∷ []) ns ∙ ap (λ (us : List Node). made ts true rs ps front (Some (grown source us))) (append_assoc done (n ∷ []) ns)

-- some list of trees that have ended, and a last one, are these trees
record TreesHeard (ts : List Labelled) (rs : List PairRay) (ps : List Pair) (trees : List Tree) (h : PartsHeard) : Type 0 where
  closed : Bool
  front : List Tree
  tree : Option Tree
  is : h ≡ made ts closed rs ps front tree
  all : front ++ option_to_list tree ≡ trees

trees_heard : (b : Bool) (ts : List Labelled) (rs : List PairRay) (ps : List Pair) (front : List Tree) (tree : Option Tree) (more : List Tree)
    → TreesHeard ts rs ps ((front ++ option_to_list tree) ++ more) (heard_from (made ts b rs ps front tree) (flat_map tree_parts more))
trees_heard b ts rs ps front tree [] = record { closed = b; front = front; tree = tree; is = refl; all = sym (append-nil (front ++ option_to_list tree)) }
trees_heard b ts rs ps front tree (t ∷ more) =
    let h = trees_heard true ts rs ps (front ++ option_to_list tree) (Some t) more in
    record {
      closed = h.closed;
      front = h.front;
      tree = h.tree;
      is = heard_both (made ts b rs ps front tree) (tree_parts t) (flat_map tree_parts more) ∙ ap (λ (g : PartsHeard). heard_from g (flat_map tree_parts more)) (nodes_heard ts rs ps (front ++ option_to_list tree) t.source [] t.nodes) ∙ h.is;
      all = h.all ∙ append_assoc (front ++ option_to_list tree) (t ∷ []) more;
    }

-- the triangles, rays, listed pairs and trees of these lists
record AreListsHeard (c : CertParts) (h : PartsHeard) : Type 0 where
  triangles : h.triangles ≡ c.triangles
  rays : h.rays ≡ c.rays
  listed : h.listed ≡ c.listed
  trees : h.front ++ option_to_list h.tree ≡ c.trees

lists_heard : (c : CertParts) → AreListsHeard c (heard_from nothing_heard (parts_of_listing c))
lists_heard c = record {
  triangles = ap (λ (h : PartsHeard). h.triangles) all;
  rays = ap (λ (h : PartsHeard). h.rays) all;
  listed = ap (λ (h : PartsHeard). h.listed) all;
  trees = ap (λ (h : PartsHeard). h.front ++ option_to_list h.tree) all ∙ trees.all;
}
  where
    rays : (b : Bool) × (heard_from (made c.triangles false [] [] [] None) (map (λ r. Ray r) c.rays) ≡ made c.triangles b c.rays [] [] None)
    rays = rays_heard false c.triangles [] c.rays [] [] None

    listed : (b : Bool) × (heard_from (made c.triangles rays.0 c.rays [] [] None) (map (λ p. Listed p) c.listed) ≡ made c.triangles b c.rays c.listed [] None)
    listed = listed_heard rays.0 c.triangles c.rays [] c.listed [] None

    trees : TreesHeard c.triangles c.rays c.listed c.trees (heard_from (made c.triangles listed.0 c.rays c.listed [] None) (flat_map tree_parts c.trees))
    trees = trees_heard listed.0 c.triangles c.rays c.listed [] None c.trees

    all : heard_from nothing_heard (parts_of_listing c) ≡ made c.triangles trees.closed c.rays c.listed trees.front trees.tree
    all = heard_both nothing_heard (map (λ t. Triangle t) c.triangles) (map (λ r. Ray r) c.rays ++ (map (λ p. Listed p) c.listed ++ flat_map tree_parts c.trees))
        ∙ ap (λ (h : PartsHeard). heard_from h (map (λ r. Ray r) c.rays ++ (map (λ p. Listed p) c.listed ++ flat_map tree_parts c.trees))) (triangles_heard [] c.triangles [] [] [] None)
        ∙ heard_both (made c.triangles false [] [] [] None) (map (λ r. Ray r) c.rays) (map (λ p. Listed p) c.listed ++ flat_map tree_parts c.trees)
        ∙ ap (λ (h : PartsHeard). heard_from h (map (λ p. Listed p) c.listed ++ flat_map tree_parts c.trees)) rays.1
        ∙ heard_both (made c.triangles rays.0 c.rays [] [] None) (map (λ p. Listed p) c.listed) (flat_map tree_parts c.trees)
        ∙ ap (λ (h : PartsHeard). heard_from h (flat_map tree_parts c.trees)) listed.1
        ∙ trees.is

pub all_heard : (c : AnyCert) → IsAllOf c (heard_from nothing_heard (any_parts_of c).1)
all_heard (One c) = let h = lists_heard c in record { triangles = h.triangles; rays = h.rays; listed = h.listed; trees = h.trees }
all_heard (Two c sizes) =
    let h = lists_heard (record { sizes = c.cert.sizes; triangles = c.cert.triangles; rays = c.cert.rays; listed = c.listed; trees = c.cert.trees }) in
    record { triangles = h.triangles; rays = h.rays; listed = h.listed; trees = h.trees }

-- ---- nodes of the last tree

module _ (ns : List Node) where
  -- what was heard with these nodes of the last tree
  abbrev pub with_all : PartsHeard → PartsHeard
  with_all h = record { triangles = h.triangles; closed = true; rays = h.rays; listed = h.listed; front = h.front; tree = option_map (with_nodes ns) h.tree }

abbrev same_but : PartsHeard → Bool → Option Tree → PartsHeard
same_but h closed tree = record { triangles = h.triangles; closed = closed; rays = h.rays; listed = h.listed; front = h.front; tree = tree }

none_more : (o : Option Tree) → option_map (with_nodes []) o ≡ o
none_more None = refl
none_more (Some t) = ap (λ (ns : List Node). let u : Option Tree = Some (record { source = t.source; nodes = ns }) in u) (append-nil t.nodes)

more_then : (n : Node) (ns : List Node) (o : Option Tree) → option_map (with_nodes ns) (option_map (with_node n) o) ≡ option_map (with_nodes (n ∷ ns)) o
more_then n ns None = refl
more_then n ns (Some t) = ap (λ (us : List Node). let u : Option Tree = Some (record { source = t.source; nodes = us }) in u) (append_assoc t.nodes (n ∷ []) ns)

pub last_nodes_heard : (h : PartsHeard) (ns : List Node) → h.closed ≡ true → heard_from h (node_parts ns) ≡ with_all ns h
last_nodes_heard h [] e = ap (λ (b : Bool). same_but h b h.tree) e ∙ ap (same_but h true) (sym (none_more h.tree))
last_nodes_heard h (n ∷ ns) e = last_nodes_heard (with_part h (OfNode n)) ns refl ∙ ap (same_but h true) (more_then n ns h.tree)

pub same_triangles : (h : PartsHeard) (ns : List Node) → (heard_from h (node_parts ns)).triangles ≡ h.triangles
same_triangles h [] = refl
same_triangles h (n ∷ ns) = same_triangles (with_part h (OfNode n)) ns

pub same_rays : (h : PartsHeard) (ns : List Node) → (heard_from h (node_parts ns)).rays ≡ h.rays
same_rays h [] = refl
same_rays h (n ∷ ns) = same_rays (with_part h (OfNode n)) ns

pub same_listed : (h : PartsHeard) (ns : List Node) → (heard_from h (node_parts ns)).listed ≡ h.listed
same_listed h [] = refl
same_listed h (n ∷ ns) = same_listed (with_part h (OfNode n)) ns
