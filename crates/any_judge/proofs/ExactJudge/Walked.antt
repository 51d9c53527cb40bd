-- What a judge of trees has heard, from tree to tree and from node to node.
use Rattle.std.proofs.Common.{◌≡◌, ℕ, zero, suc, ◌+◌, ◌-◌, ◌<◌, ◌≤◌, ◌^◌, inl, inr, List, [], ◌∷◌, ◌++◌, Option, Some, None, is_some, length, true, false, refl, sym, ◌∙◌, ap, subst, arith}
use Rattle.std.specs.List.{slice_get}
use Rattle.std.specs.Option.{option_to_list}
use Rattle.std.specs.Prelude.{option_map}
use Rattle.std.proofs.lemmas.List.{append-nil, length-append, take-append-le}
use Rattle.std.proofs.lemmas.Option.{slice_get_within, same_Some}
use Rattle.math_base.proofs.Lists.{get_pushed}
use Rattle.math_base.proofs.Numbers.{below_or_last}
use Rattle.block_evidence.specs.declared.sight_tree.Node.{Node}
use Rattle.block_evidence.specs.declared.sight_tree.Tree.{Tree}
use Rattle.mesh_shape.specs.declared.half_edges.table.HalfEdge.{HalfEdge}
use Rattle.gate_floods.specs.RowJudge.Asked.{Pending, IsFirstWrongInRow}
use Rattle.gate_floods.specs.RowJudge.Masks.{MaskRows}
use Rattle.gate_floods.specs.RowJudge.Judged.{tree_with, IsFirstWrongFrom, IsTreeWalkedInRow, IsWholeFrom}
use Rattle.sight_names.specs.declared.names.PairRay.{PairRay}
use Rattle.gate_floods.specs.declared.gate_masks.masks.Row.{Row}
use Rattle.gate_floods.specs.RowJudge.Words.{AreBitsOf}
use Rattle.exact_checker.specs.declared.trees.WrongNode.{WrongNode}
use Rattle.exact_checker.specs.Owning.{OwningParts, IsOwnedBit, KnowsOwning}
use Rattle.any_judge.specs.declared.exact_judge.ground.Ground.{Ground}
use Rattle.any_judge.specs.declared.exact_judge.trees.RowTrees.{RowTrees}
use Rattle.any_judge.specs.ExactJudge.Ground.{masks_in, owning_in}
use Rattle.any_judge.specs.ExactJudge.Trees.{Begun, all_begun, one_node, next_begun, many_begun, begun_all, put_node, IsOwnedRow, IsTreeTold, AreTreesTold, IsWrongIn, IsOpenTreeFollowed, AreEnded, IsExactTreeJudged, AreTreesCountable, HasHeardRowTrees}
use Rattle.any_judge.proofs.ExactJudge.Begun.{one_more, as_many, counted_many, counted_less, last_counted}

-- ---- places in a list with one more behind

module _ {X : Type 0} where
  get_front : (front : List X) (x : X) (f : ℕ) → f < length front → slice_get (front ++ x ∷ []) f ≡ slice_get front f
  get_front [] x f lt = absurd (omega (arith, lt))
  get_front (y ∷ front) x zero lt = refl
  get_front (y ∷ front) x (suc f) lt = get_front front x f (omega (arith, lt))

-- ---- a wrong node stays the first one

module _ (xs : List HalfEdge) (ms : MaskRows) (source : ℕ) where
  get_there : (ns more : List Node) (k : ℕ) → k < length ns → slice_get (ns ++ more) k ≡ slice_get ns k
  get_there [] more k lt = absurd (omega (arith, lt))
  get_there (n ∷ ns) more zero lt = refl
  get_there (n ∷ ns) more (suc k) lt = get_there ns more k (omega (arith, lt))

  wrong_stays : (ps : List Pending) (ns more : List Node) (k : ℕ) → k < length ns → IsFirstWrongInRow xs ms source ps ns k → IsFirstWrongInRow xs ms source ps (ns ++ more) k
  wrong_stays ps ns more k lt w = record {
    left = w.left;
    within = omega (arith, lt, length-append ns more);
    before = rw (take-append-le k ns more (omega (arith, lt))) w.before;
    wrong = λ n there qs. w.wrong n (sym (get_there ns more k lt) ∙ there) qs;
    missing = λ e. absurd (omega (arith, lt, e, length-append ns more));
  }

module _ (g : Ground) where
  told_stays : (f : ℕ) (ns : List Node) (n : Node) (k : ℕ) → k < length ns → IsTreeTold g f ns (Some k) → IsTreeTold g f (ns ++ n ∷ []) (Some k)
  told_stays f ns n k lt t = record {
    row = t.row;
    own = t.own;
    tells = record { wrong = λ es chain. wrong_stays g.edges (masks_in g) f _ ns (n ∷ []) k lt (t.tells.wrong es chain) };
  }

  told_front : (front : List (List Node)) (ns : List Node) (m : ℕ) → m ≤ length front → AreTreesTold g front m → AreTreesTold g (front ++ ns ∷ []) m
  told_front front ns m le t f us lt there = t f us lt (sym (get_front front ns f (omega (arith, lt, le))) ∙ there)

  told_back : (front : List (List Node)) (ns : List Node) (m : ℕ) → m ≤ length front → AreTreesTold g (front ++ ns ∷ []) m → AreTreesTold g front m
  told_back front ns m le t f us lt there = t f us lt (get_front front ns f (omega (arith, lt, le)) ∙ there)

  told_more : (front : List (List Node)) (ns : List Node) → AreTreesTold g front (length front) → IsTreeTold g (length front) ns None → AreTreesTold g (front ++ ns ∷ []) (length (front ++ ns ∷ []))
  told_more front ns t last f us lt there = elim (below_or_last f (length front) (omega (arith, lt, length-append front (ns ∷ [])))) [
    | inl less ↦ t f us less (sym (get_front front ns f less) ∙ there)
    | inr same ↦ subst (λ (k : ℕ). IsTreeTold g k us None) (sym same) (subst (λ (vs : List Node). IsTreeTold g (length front) vs None) (same_Some ns us (sym (get_pushed front ns) ∙ ap (slice_get (front ++ ns ∷ [])) (sym same) ∙ there)) last)
  ]

  -- ---- a tree that is wrong

  -- the open tree ends
  wrong_ended : (b : Begun) (w : WrongNode) → IsWrongIn g b w → IsWrongIn g (all_begun b, None) w
  wrong_ended b w h =
      let same = append-nil (all_begun b) in
      record {
        nodes = h.nodes;
        there = rw same h.there;
        told = h.told;
        before = rw same h.before;
        ended = inl (slice_get_within (all_begun b) w.source h.nodes h.there);
      }

  -- another begins
  wrong_next : (b : Begun) (w : WrongNode) → IsWrongIn g b w → IsWrongIn g (next_begun b) w
  wrong_next b w h =
      let within = slice_get_within (all_begun b) w.source h.nodes h.there in
      record {
        nodes = h.nodes;
        there = get_front (all_begun b) [] w.source within ∙ h.there;
        told = h.told;
        before = told_front (all_begun b) [] w.source (omega (arith, within)) h.before;
        ended = inl within;
      }

  wrong_many : (k : ℕ) (b : Begun) (w : WrongNode) → IsWrongIn g b w → IsWrongIn g (many_begun k b) w
  wrong_many zero b w h = h
  wrong_many (suc k) b w h = wrong_many k (next_begun b) w (wrong_next b w h)

  -- another node of the open one comes
  wrong_node : (front : List (List Node)) (o : Option (List Node)) (n : Node) (w : WrongNode) → IsWrongIn g (front, o) w → IsWrongIn g (front, option_map (one_node n) o) w
  wrong_node front None n w h = h
  wrong_node front (Some ns) n w h = elim (below_or_last w.source (length front) (let l = slice_get_within (front ++ ns ∷ []) w.source h.nodes h.there in omega (arith, l, length-append front (ns ∷ [])))) [
    | inl less ↦ record {
      nodes = h.nodes;
      there = get_front front (ns ++ n ∷ []) w.source less ∙ sym (get_front front ns w.source less) ∙ h.there;
      told = h.told;
      before = told_front front (ns ++ n ∷ []) w.source (omega (arith, less)) (told_back front ns w.source (omega (arith, less)) h.before);
      ended = inl less;
    }
    | inr same ↦ record {
      nodes = ns ++ n ∷ [];
      there = ap (slice_get (front ++ (ns ++ n ∷ []) ∷ [])) same ∙ get_pushed front (ns ++ n ∷ []);
      told = told_stays w.source ns n w.node (long same) (subst (λ (us : List Node). IsTreeTold g w.source us (Some w.node)) (its same) h.told);
      before = told_front front (ns ++ n ∷ []) w.source (omega (arith, same)) (told_back front ns w.source (omega (arith, same)) h.before);
      ended = inr (omega (arith, long same, length-append ns (n ∷ [])));
    }
  ]
    where
      its : w.source ≡ length front → h.nodes ≡ ns
      its same = sym (same_Some ns h.nodes (sym (get_pushed front ns) ∙ ap (slice_get (front ++ ns ∷ [])) (sym same) ∙ h.there))

      long : w.source ≡ length front → w.node < length ns
      long same = elim h.ended [
        | inl less ↦ absurd (omega (arith, less, same))
        | inr lt ↦ omega (arith, lt, ap length (its same))
      ]

-- ---- the judge

-- it is under way only with an open tree, and has found nothing wrong
pub not_under_way : (front : List (List Node)) (o : Option (List Node)) (r : Option WrongNode) (j : RowTrees) → j.under_way ≡ false → IsExactTreeJudged (front, o) r j → IsExactTreeJudged (all_begun (front, o), None) r j
not_under_way front o (Some w) j e h = (h.0, wrong_ended j.ground (front, o) w h.1)
not_under_way front None None j e h =
    let same = append-nil front in
    record { going = h.going; begun = h.begun ∙ ap length (sym same); told = rw same h.told }
not_under_way front (Some ns) None j e h = absurd (let clash : true ≡ false = sym h.going ∙ e in cc)

pub node_not_under_way : (front : List (List Node)) (o : Option (List Node)) (r : Option WrongNode) (n : Node) (j : RowTrees) → j.under_way ≡ false → IsExactTreeJudged (front, o) r j → IsExactTreeJudged (front, option_map (one_node n) o) r j
node_not_under_way front o (Some w) n j e h = (h.0, wrong_node j.ground front o n w h.1)
node_not_under_way front None None n j e h = h
node_not_under_way front (Some ns) None n j e h = absurd (let clash : true ≡ false = sym h.going ∙ e in cc)

-- with a tree under way it has one open, and nothing wrong
pub record IsOpen (b : Begun) (r : Option WrongNode) (j : RowTrees) : Type 0 where
  pub nodes : List Node
  pub is : b.1 ≡ Some nodes
  pub none : r ≡ None
  pub followed : IsOpenTreeFollowed b.0 nodes j

pub under_way : (front : List (List Node)) (o : Option (List Node)) (r : Option WrongNode) (j : RowTrees) → j.under_way ≡ true → IsExactTreeJudged (front, o) r j → IsOpen (front, o) r j
under_way front o (Some w) j e h = absurd (let clash : true ≡ false = sym e ∙ h.0 in cc)
under_way front None None j e h = absurd (let clash : true ≡ false = sym e ∙ h.going in cc)
under_way front (Some ns) None j e h = record { nodes = ns; is = refl; none = refl; followed = h }

-- ---- the open tree ends

module _ (b : Begun) (r : Option WrongNode) (j k : RowTrees) (o : IsOpen b r j) (ground : k.ground ≡ j.ground) (going : k.under_way ≡ false) where
  abbrev tree : Tree
  tree = tree_with (length b.0) o.nodes

  last_is : all_begun b ≡ b.0 ++ o.nodes ∷ []
  last_is = ap (λ (x : Option (List Node)). b.0 ++ option_to_list x) o.is

  pub ended_whole : k.begun ≡ j.begun → k.wrong ≡ r → IsWholeFrom j.ground.edges (masks_in j.ground) o.followed.row j.ground.roots.roots.items j.ground.roots.first.items tree → IsExactTreeJudged (all_begun b, None) k.wrong k
  ended_whole begun wrong whole =
      let f = o.followed in
      let last : IsTreeTold j.ground (length b.0) o.nodes None = record { row = f.row; own = f.own; tells = whole } in
      let all : AreTreesTold j.ground (b.0 ++ o.nodes ∷ []) (length (b.0 ++ o.nodes ∷ [])) = told_more j.ground b.0 o.nodes f.told last in
      let ended : AreEnded (all_begun b) k = subst (λ (ts : List (List Node)). AreEnded ts k) (sym last_is) (record {
        going = going;
        begun = begun ∙ f.begun ∙ sym (length-append b.0 (o.nodes ∷ []));
        told = subst (λ (g : Ground). AreTreesTold g (b.0 ++ o.nodes ∷ []) (length (b.0 ++ o.nodes ∷ []))) (sym ground) all;
      }) in
      subst (λ (x : Option WrongNode). IsExactTreeJudged (all_begun b, None) x k) (sym (wrong ∙ o.none)) ended

  pub ended_wrong : k.wrong ≡ Some (record { source = j.source; node = j.nodes }) → IsFirstWrongFrom j.ground.edges (masks_in j.ground) o.followed.row j.ground.roots.roots.items j.ground.roots.first.items tree (length o.nodes) → IsExactTreeJudged (all_begun b, None) k.wrong k
  ended_wrong wrong first =
      let f = o.followed in
      let w : WrongNode = record { source = length b.0; node = length o.nodes } in
      let found : WrongNode = record { source = j.source; node = j.nodes } in
      let same : w ≡ found = rw (f.source, f.number) refl in
      let all = b.0 ++ o.nodes ∷ [] in
      let is : all ≡ all_begun (all_begun b, None) = sym last_is ∙ sym (append-nil (all_begun b)) in
      let within : w.source < length (all_begun b) = omega (arith, ap length last_is, length-append b.0 (o.nodes ∷ [])) in
      let here : IsWrongIn j.ground (all_begun b, None) w = record {
        nodes = o.nodes;
        there = ap (λ (ts : List (List Node)). slice_get ts (length b.0)) (sym is) ∙ get_pushed b.0 o.nodes;
        told = record { row = f.row; own = f.own; tells = first };
        before = subst (λ (ts : List (List Node)). AreTreesTold j.ground ts (length b.0)) is (told_front j.ground b.0 o.nodes (length b.0) (omega arith) f.told);
        ended = inl within;
      } in
      let moved : IsWrongIn k.ground (all_begun b, None) found = subst (λ (x : WrongNode). IsWrongIn k.ground (all_begun b, None) x) same (subst (λ (g : Ground). IsWrongIn g (all_begun b, None) w) (sym ground) here) in
      subst (λ (x : Option WrongNode). IsExactTreeJudged (all_begun b, None) x k) (sym wrong) (going, moved)

-- ---- more nodes of it come

-- these nodes behind those of the open tree
abbrev pub put_nodes : List Node → Begun → Begun
put_nodes ns b = (b.0, option_map (λ (os : List Node). os ++ ns) b.1)

module _ (b : Begun) (r : Option WrongNode) (j : RowTrees) (o : IsOpen b r j) (ns : List Node) where
  abbrev longer : List Node
  longer = o.nodes ++ ns

  opened : put_nodes ns b ≡ (b.0, Some longer)
  opened = ap (λ (x : Option (List Node)). let c : Begun = (b.0, x) in put_nodes ns c) o.is

  -- fewer than their count can tell
  pub few : AreTreesCountable j.ground (put_nodes ns b) → length o.nodes + length ns < 2 ^ 64
  few counted = let l : length longer < 2 ^ 64 = last_counted j.ground b.0 longer (subst (AreTreesCountable j.ground) opened counted) in omega (arith, l, length-append o.nodes ns)

  module _ (k : RowTrees) (ground : k.ground ≡ j.ground) where
    -- all of them answer
    pub nodes_followed : k.begun ≡ j.begun → k.under_way ≡ true → k.source ≡ j.source → k.wrong ≡ r → k.nodes ≡ length o.nodes + length ns
        → IsTreeWalkedInRow j.ground.edges (masks_in j.ground) o.followed.row j.ground.roots.roots.items j.ground.roots.first.items (tree_with (length b.0) longer) k.walk → IsExactTreeJudged (put_nodes ns b) k.wrong k
    nodes_followed begun going source wrong number walked =
        let f = o.followed in
        let here : IsOpenTreeFollowed b.0 longer k = record {
          going = going;
          begun = begun ∙ f.begun;
          source = source ∙ f.source;
          told = subst (λ (g : Ground). AreTreesTold g b.0 (length b.0)) (sym ground) f.told;
          row = f.row;
          own = subst (λ (g : Ground). IsOwnedRow g (length b.0) f.row) (sym ground) f.own;
          walked = subst (λ (g : Ground). IsTreeWalkedInRow g.edges (masks_in g) f.row g.roots.roots.items g.roots.first.items (tree_with (length b.0) longer) k.walk) (sym ground) walked;
          number = number ∙ sym (length-append o.nodes ns);
        } in
        subst (λ (c : Begun). IsExactTreeJudged c k.wrong k) (sym opened) (subst (λ (x : Option WrongNode). IsExactTreeJudged (b.0, Some longer) x k) (sym (wrong ∙ o.none)) here)

    -- one of them doesn't
    pub nodes_refused : (at node : ℕ) → node ≡ at → at < length o.nodes + length ns → k.under_way ≡ false → k.wrong ≡ Some (record { source = j.source; node = node })
        → IsFirstWrongFrom j.ground.edges (masks_in j.ground) o.followed.row j.ground.roots.roots.items j.ground.roots.first.items (tree_with (length b.0) longer) at → IsExactTreeJudged (put_nodes ns b) k.wrong k
    nodes_refused at node node_is within going wrong first =
        let f = o.followed in
        let w : WrongNode = record { source = length b.0; node = at } in
        let found : WrongNode = record { source = j.source; node = node } in
        let same : w ≡ found = rw (f.source, node_is) refl in
        let here : IsWrongIn j.ground (b.0, Some longer) w = record {
          nodes = longer;
          there = get_pushed b.0 longer;
          told = record { row = f.row; own = f.own; tells = first };
          before = told_front j.ground b.0 longer (length b.0) (omega arith) f.told;
          ended = inr (omega (arith, within, length-append o.nodes ns));
        } in
        let moved : IsWrongIn k.ground (b.0, Some longer) found = subst (λ (g : Ground). IsWrongIn g (b.0, Some longer) found) (sym ground) (subst (λ (x : WrongNode). IsWrongIn j.ground (b.0, Some longer) x) same here) in
        subst (λ (c : Begun). IsExactTreeJudged c k.wrong k) (sym opened) (subst (λ (x : Option WrongNode). IsExactTreeJudged (b.0, Some longer) x k) (sym wrong) (going, moved))

-- ---- another tree begins

pub wrong_begins : (b : Begun) (r : Option WrongNode) (j : RowTrees) → is_some r ≡ true → IsExactTreeJudged (all_begun b, None) r j → IsExactTreeJudged (next_begun b) r j
wrong_begins b None j e h = absurd cc
wrong_begins b (Some w) j e h = (h.0, subst (λ (ts : List (List Node)). IsWrongIn j.ground (ts, Some []) w) (append-nil (all_begun b)) (wrong_next j.ground (all_begun b, None) w h.1))

pub ended_where : (trees : List (List Node)) (r : Option WrongNode) (j : RowTrees) → is_some r ≡ false → IsExactTreeJudged (trees, None) r j → AreEnded trees j
ended_where trees None j e h = h
ended_where trees (Some w) j e h = absurd cc

pub tree_begins : (b : Begun) (j k : RowTrees) (row : List ℕ) → AreEnded (all_begun b) j → k.ground ≡ j.ground → k.begun ≡ j.begun + 1 → k.under_way ≡ true → k.source ≡ j.begun → k.nodes ≡ 0 → k.wrong ≡ None → IsOwnedRow j.ground j.begun row
    → IsTreeWalkedInRow j.ground.edges (masks_in j.ground) row j.ground.roots.roots.items j.ground.roots.first.items (tree_with j.begun []) k.walk → IsExactTreeJudged (next_begun b) k.wrong k
tree_begins b j k row e ground begun going source nodes wrong own walked =
    let trees = all_begun b in
    let here : IsOpenTreeFollowed trees [] k = record {
      going = going;
      begun = begun ∙ ap (λ (n : ℕ). n + 1) e.begun;
      source = source ∙ e.begun;
      told = subst (λ (g : Ground). AreTreesTold g trees (length trees)) (sym ground) e.told;
      row = row;
      own = subst (λ (g : Ground). IsOwnedRow g (length trees) row) (sym ground) (subst (λ (n : ℕ). IsOwnedRow j.ground n row) e.begun own);
      walked = subst (λ (g : Ground). IsTreeWalkedInRow g.edges (masks_in g) row g.roots.roots.items g.roots.first.items (tree_with (length trees) []) k.walk) (sym ground)
          (subst (λ (n : ℕ). IsTreeWalkedInRow j.ground.edges (masks_in j.ground) row j.ground.roots.roots.items j.ground.roots.first.items (tree_with n []) k.walk) e.begun walked);
      number = nodes;
    } in
    subst (λ (x : Option WrongNode). IsExactTreeJudged (next_begun b) x k) (sym wrong) here

-- ---- as many as are to have begun

begun_of : (b : Begun) (r : Option WrongNode) (j : RowTrees) → is_some r ≡ false → IsExactTreeJudged b r j → j.begun ≡ length (all_begun b)
begun_of (front, None) None j e h = h.begun ∙ ap length (sym (append-nil front))
begun_of (front, Some ns) None j e h = h.begun ∙ sym (length-append front (ns ∷ []))
begun_of b (Some w) j e h = absurd cc

pub all_begin : (count : ℕ) (b : Begun) (j k : RowTrees) → is_some j.wrong ≡ false → HasHeardRowTrees b j → k.ground ≡ j.ground → HasHeardRowTrees (many_begun (count - j.begun) b) k → HasHeardRowTrees (begun_all count b) k
all_begin count b j k e w ground h = record {
  sized = h.sized;
  judged = λ counted.
      let before : AreTreesCountable j.ground b = counted_many j.ground (count - length (all_begun b)) b (subst (λ (g : Ground). AreTreesCountable g (begun_all count b)) ground counted) in
      let same : count - j.begun ≡ count - length (all_begun b) = ap (λ (n : ℕ). count - n) (begun_of b j.wrong j e (w.judged before)) in
      subst (λ (n : ℕ). IsExactTreeJudged (many_begun n b) k.wrong k) same (h.judged (subst (λ (n : ℕ). AreTreesCountable k.ground (many_begun n b)) (sym same) counted));
}

pub wrong_all : (count : ℕ) (b : Begun) (j : RowTrees) → is_some j.wrong ≡ true → HasHeardRowTrees b j → HasHeardRowTrees (begun_all count b) j
wrong_all count b j e w = record { sized = w.sized; judged = λ counted. by j.wrong e (w.judged (counted_many j.ground (count - length (all_begun b)) b counted)) }
  where
    by : (r : Option WrongNode) → is_some r ≡ true → IsExactTreeJudged b r j → IsExactTreeJudged (begun_all count b) r j
    by None e h = absurd cc
    by (Some x) e h = (h.0, wrong_many j.ground (count - length (all_begun b)) b x h.1)

-- no certificate has so many
pub too_many : (g : Ground) (f : ℕ) (n : Node) (b : Begun) → g.count ≤ f → AreTreesCountable g (put_node n (begun_all (suc f) b)) → ⊥
too_many g f n b le c =
    let before = counted_less g (begun_all (suc f) b).0 (begun_all (suc f) b).1 n c in
    omega (arith, le, before.few, as_many (suc f) b)

-- ---- what a call with the lists of a ground tells

owning_same : (g : Ground) (components ranks : List ℕ) (joined : List Row) → components ≡ g.components.items → ranks ≡ g.ranks.items → joined ≡ g.joined.items
    → (let k : OwningParts = record { count = g.count; components = components; ranks = ranks; joined = joined } in k) ≡ owning_in g
owning_same g components ranks joined p q r = rw (p, q, r) refl

pub own_row : (g : Ground) (f : ℕ) (components ranks row slice : List ℕ) (joined : List Row) → components ≡ g.components.items → ranks ≡ g.ranks.items → joined ≡ g.joined.items → slice ≡ row
    → ((rays : List PairRay) → KnowsOwning rays (record { count = g.count; components = components; ranks = ranks; joined = joined }) → AreBitsOf row (IsOwnedBit rays components g.count f)) → IsOwnedRow g f slice
own_row g f components ranks row slice joined p q r same h =
    subst (IsOwnedRow g f) (sym same) (subst (λ (k : OwningParts). (rays : List PairRay) → KnowsOwning rays k → AreBitsOf row (IsOwnedBit rays k.components k.count f)) (owning_same g components ranks joined p q r) h)

-- as many trees as there may be have begun
pub all_there : (g : Ground) (b : Begun) → g.count ≤ length (all_begun b) → AreTreesCountable g (next_begun b) → ⊥
all_there g b le c = omega (arith, le, c.few, one_more b)
