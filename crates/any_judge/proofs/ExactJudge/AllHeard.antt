-- The parts of a certificate of version 3, heard one after another, are the certificate.
use Rattle.std.proofs.Common.{◌≡◌, ℕ, suc, ◌+◌, ◌-◌, ◌≤◌, List, [], ◌∷◌, ◌++◌, map, Some, None, Bool, true, false, length, refl, sym, ◌∙◌, ap, append_assoc, arith}
use Rattle.std.proofs.lemmas.List.{append-nil, length-append}
use Rattle.sight_names.specs.declared.names.PairRay.{PairRay}
use Rattle.block_evidence.specs.declared.sight_tree.Node.{Node}
use Rattle.cert_format.specs.declared.cert.Labelled.{Labelled}
use Rattle.certificates.specs.declared.cert_exact.cert.ExactParts.{ExactParts}
use Rattle.certificates.specs.declared.exact_parts.part.Part.{Part}
use Rattle.certificates.specs.declared.exact_parts.part.Part.TheVariants.{Triangle, Ray, Length, Node as OfNode}
use Rattle.certificates.specs.ExactParts.Parts.{node_parts, tree_parts, parts_of_exact}
use Rattle.any_judge.specs.ExactJudge.Heard.{ExactHeard, nothing_exact, with_exact_part, heard_from}
use Rattle.any_judge.specs.ExactJudge.Trees.{Begun, all_begun, next_begun, many_begun, begun_all, put_node}
use Rattle.any_judge.proofs.ExactJudge.Begun.{many_more, last_begun}

pub heard_one_more : (h : ExactHeard) (parts : List Part) (part : Part) → heard_from h (parts ++ part ∷ []) ≡ with_exact_part (heard_from h parts) part
heard_one_more h [] part = refl
heard_one_more h (first ∷ parts) part = heard_one_more (with_exact_part h first) parts part

pub heard_both : (h : ExactHeard) (parts more : List Part) → heard_from h (parts ++ more) ≡ heard_from (heard_from h parts) more
heard_both h [] more = refl
heard_both h (part ∷ parts) more = heard_both (with_exact_part h part) parts more

abbrev made : List Labelled → Bool → List PairRay → Begun → ExactHeard
made ts closed rs b = record { triangles = ts; closed = closed; rays = rs; trees = b }

triangles_heard : (ts ls : List Labelled) (rs : List PairRay) (b : Begun) → heard_from (made ts false rs b) (map (λ t. Triangle t) ls) ≡ made (ts ++ ls) false rs b
triangles_heard ts [] rs b = ap (λ (us : List Labelled). made us false rs b) (sym (append-nil ts))
triangles_heard ts (l ∷ ls) rs b = triangles_heard (ts ++ l ∷ []) ls rs b ∙ ap (λ (us : List Labelled). made us false rs b) (append_assoc ts (l ∷ []) ls)

rays_heard : (ts : List Labelled) (rs more : List PairRay) (b : Begun) → heard_from (made ts false rs b) (map (λ r. Ray r) more) ≡ made ts false (rs ++ more) b
rays_heard ts rs [] b = ap (λ (us : List PairRay). made ts false us b) (sym (append-nil rs))
rays_heard ts rs (r ∷ more) b = rays_heard ts (rs ++ r ∷ []) more b ∙ ap (λ (us : List PairRay). made ts false us b) (append_assoc rs (r ∷ []) more)

lengths_heard : (closed : Bool) (ts : List Labelled) (rs : List PairRay) (b : Begun) (trees : List (List Node)) → (after : Bool) × (heard_from (made ts closed rs b) (map (λ (ns : List Node). Length) trees) ≡ made ts after rs b)
lengths_heard closed ts rs b [] = (closed, refl)
lengths_heard closed ts rs b (ns ∷ trees) = lengths_heard true ts rs b trees

-- ---- nodes

-- no more trees begin where as many have
none_more : (f : ℕ) (b : Begun) → length (all_begun b) ≡ f → begun_all f b ≡ b
none_more f b e = let z : f - length (all_begun b) ≡ 0 = omega (arith, e) in ap (λ (k : ℕ). many_begun k b) z

-- the open tree, with these nodes
rest_heard : (closed : Bool) (ts : List Labelled) (rs : List PairRay) (front : List (List Node)) (f : ℕ) (done ns : List Node) → length front ≡ f
    → heard_from (made ts true rs (front, Some done)) (node_parts f ns) ≡ made ts true rs (front, Some (done ++ ns))
rest_heard closed ts rs front f done [] e = ap (λ (us : List Node). made ts true rs (front, Some us)) (sym (append-nil done))
rest_heard closed ts rs front f done (n ∷ ns) e =
    let open_ : Begun = (front, Some done) in
    let as_many : length (all_begun open_) ≡ suc f = length-append front (done ∷ []) ∙ (let h : length front + 1 ≡ suc f = omega (arith, e) in h) in
    ap (λ (b : Begun). heard_from (made ts true rs (put_node n b)) (node_parts f ns)) (none_more (suc f) open_ as_many)
    ∙ rest_heard closed ts rs front f (done ++ n ∷ []) ns e
    ∙ ap (λ (us : List Node). made ts true rs (front, Some us)) (append_assoc done (n ∷ []) ns)

-- as many trees as were to come
record NodesHeard (ts : List Labelled) (rs : List PairRay) (count : ℕ) (trees : List (List Node)) (h : ExactHeard) : Type 0 where
  closed : Bool
  begun : Begun
  is : h ≡ made ts closed rs begun
  all : all_begun (begun_all count begun) ≡ trees

one_begun : (f : ℕ) (b : Begun) → length (all_begun b) ≤ f → begun_all (suc f) b ≡ next_begun (begun_all f b)
one_begun f b le = let k : suc f - length (all_begun b) ≡ suc (f - length (all_begun b)) = omega (arith, le) in ap (λ (n : ℕ). many_begun n b) k ∙ last_begun (f - length (all_begun b)) b

nodes_heard : (closed : Bool) (ts : List Labelled) (rs : List PairRay) (b : Begun) (f : ℕ) (trees : List (List Node)) → length (all_begun b) ≤ f
    → NodesHeard ts rs (f + length trees) (all_begun (begun_all f b) ++ trees) (heard_from (made ts closed rs b) (tree_parts f trees))
nodes_heard closed ts rs b f [] le = record {
  closed = closed;
  begun = b;
  is = refl;
  all = let same : f + 0 ≡ f = omega arith in ap (λ (n : ℕ). all_begun (begun_all n b)) same ∙ sym (append-nil (all_begun (begun_all f b)));
}
nodes_heard closed ts rs b f ([] ∷ trees) le =
    let h = nodes_heard closed ts rs b (suc f) trees (omega (arith, le)) in
    let same : f + length ([] ∷ trees) ≡ suc f + length trees = omega arith in
    record {
      closed = h.closed;
      begun = h.begun;
      is = h.is;
      all = ap (λ (n : ℕ). all_begun (begun_all n h.begun)) same ∙ h.all ∙ ap (λ (c : Begun). all_begun c ++ trees) (one_begun f b le) ∙ append_assoc (all_begun (begun_all f b)) ([] ∷ []) trees;
    }
nodes_heard closed ts rs b f ((n ∷ ns) ∷ trees) le =
    let front = all_begun (begun_all f b) in
    let open_ : Begun = (front, Some (n ∷ ns)) in
    let long : length front ≡ f = omega (arith, many_more (f - length (all_begun b)) b, le) in
    let as_many : length (all_begun open_) ≡ suc f = length-append front ((n ∷ ns) ∷ []) ∙ (let e : length front + 1 ≡ suc f = omega (arith, long) in e) in
    let first : heard_from (made ts closed rs b) (node_parts f (n ∷ ns)) ≡ made ts true rs open_ =
    ap (λ (c : Begun). heard_from (made ts true rs (put_node n c)) (node_parts f ns)) (one_begun f b le) ∙ rest_heard closed ts rs front f (n ∷ []) ns long in
    let h = nodes_heard true ts rs open_ (suc f) trees (omega (arith, as_many)) in
    let same : f + length ((n ∷ ns) ∷ trees) ≡ suc f + length trees = omega arith in
    record {
      closed = h.closed;
      begun = h.begun;
      is = heard_both (made ts closed rs b) (node_parts f (n ∷ ns)) (tree_parts (suc f) trees) ∙ ap (λ (g : ExactHeard). heard_from g (tree_parts (suc f) trees)) first ∙ h.is;
      all = ap (λ (k : ℕ). all_begun (begun_all k h.begun)) same ∙ h.all ∙ ap (λ (c : Begun). all_begun c ++ trees) (none_more (suc f) open_ as_many) ∙ append_assoc front ((n ∷ ns) ∷ []) trees;
    }

-- what was heard is the whole of the certificate
pub record IsAllOf (c : ExactParts) (h : ExactHeard) : Type 0 where
  pub triangles : h.triangles ≡ c.triangles
  pub rays : h.rays ≡ c.rays
  pub trees : all_begun (begun_all (length c.trees) h.trees) ≡ c.trees

pub all_heard : (c : ExactParts) → IsAllOf c (heard_from nothing_exact (parts_of_exact c))
all_heard c = record {
  triangles = ap (λ (h : ExactHeard). h.triangles) all;
  rays = ap (λ (h : ExactHeard). h.rays) all;
  trees = ap (λ (h : ExactHeard). all_begun (begun_all (length c.trees) h.trees)) all ∙ (let same : length c.trees ≡ 0 + length c.trees = omega arith in ap (λ (n : ℕ). all_begun (begun_all n nodes.begun)) same) ∙ nodes.all;
}
  where
    no_trees : Begun
    no_trees = ([], None)

    lengths : (after : Bool) × (heard_from (made c.triangles false c.rays no_trees) (map (λ (ns : List Node). Length) c.trees) ≡ made c.triangles after c.rays no_trees)
    lengths = lengths_heard false c.triangles c.rays no_trees c.trees

    nodes : NodesHeard c.triangles c.rays (0 + length c.trees) c.trees (heard_from (made c.triangles lengths.0 c.rays no_trees) (tree_parts 0 c.trees))
    nodes = nodes_heard lengths.0 c.triangles c.rays no_trees 0 c.trees (omega arith)

    all : heard_from nothing_exact (parts_of_exact c) ≡ made c.triangles nodes.closed c.rays nodes.begun
    all = heard_both nothing_exact (map (λ t. Triangle t) c.triangles) (map (λ r. Ray r) c.rays ++ (map (λ (ns : List Node). Length) c.trees ++ tree_parts 0 c.trees))
        ∙ ap (λ (h : ExactHeard). heard_from h (map (λ r. Ray r) c.rays ++ (map (λ (ns : List Node). Length) c.trees ++ tree_parts 0 c.trees))) (triangles_heard [] c.triangles [] no_trees)
        ∙ heard_both (made c.triangles false [] no_trees) (map (λ r. Ray r) c.rays) (map (λ (ns : List Node). Length) c.trees ++ tree_parts 0 c.trees)
        ∙ ap (λ (h : ExactHeard). heard_from h (map (λ (ns : List Node). Length) c.trees ++ tree_parts 0 c.trees)) (rays_heard c.triangles [] c.rays no_trees)
        ∙ heard_both (made c.triangles false c.rays no_trees) (map (λ (ns : List Node). Length) c.trees) (tree_parts 0 c.trees)
        ∙ ap (λ (h : ExactHeard). heard_from h (tree_parts 0 c.trees)) lengths.1
        ∙ nodes.is

-- nodes change the trees alone
pub same_but_trees : (h : ExactHeard) (f : ℕ) (ns : List Node) → ((heard_from h (node_parts f ns)).triangles ≡ h.triangles) × ((heard_from h (node_parts f ns)).rays ≡ h.rays)
same_but_trees h f [] = (refl, refl)
same_but_trees h f (n ∷ ns) = same_but_trees (with_exact_part h (OfNode f n)) f ns
