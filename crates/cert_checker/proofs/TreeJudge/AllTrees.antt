-- The trees of a certificate, one after another: each is whole, and exactly what a source's nodes enter is noted.
use Rattle.std.proofs.Common.{◌≡◌, ℕ, zero, suc, ◌+◌, ◌<◌, ◌≤◌, ◌⊎◌, inl, inr, List, [], ◌∷◌, Option, Some, None, length, map, Contains, Bool, true, refl, sym, ◌∙◌, ap, subst, arith}
use Rattle.std.specs.List.{slice_get, AllByRecursion}
use Rattle.std.proofs.lemmas.Bool.{cases_lt}
use Rattle.std.proofs.lemmas.Option.{none-some, slice_get_within, slice_get-get_or, slice_get-map, get_or_from_slice_get, same_Some}
use Rattle.std.specs.Prelude.{option_and_then, option_map}
use Rattle.sight_names.specs.declared.names.Triangle.{Triangle}
use Rattle.sight_names.specs.Plan.{PlanParts, IsPlan}
use Rattle.sight_names.specs.Mesh.{IsGoodMesh, label_of}
use Rattle.cert_format.specs.declared.cert.Labelled.{Labelled}
use Rattle.sight_names.specs.Map.{Map, map_of}
use Rattle.block_evidence.specs.declared.sight_tree.Tree.{Tree}
use Rattle.block_evidence.specs.SightTree.WholeTree.{IsWholeTree}
use Rattle.reject_bits.specs.Parts.{TableParts, Rejects}
use Rattle.cert_format.specs.Parts.{CertParts}
use Rattle.cert_format.specs.Grammar.{IsOneInOrder, IsTreeInRange}
use Rattle.sight_names.specs.Order.{Ascends}
use Rattle.cert_format.specs.Accepted.{triangles_of, labels_of, HasTreeWithout}
use Rattle.mesh_shape.specs.declared.half_edges.table.HalfEdge.{HalfEdge}
use Rattle.cert_checker.specs.declared.tree_judge.roots.Root.{Root}
use Rattle.cert_checker.specs.TreeJudge.Marks.{IsFlagSet, Marks, HasNoMark}
use Rattle.cert_checker.specs.TreeJudge.Trees.{IsFirstTreeNotWhole, AreTreesWhole, TellsReach}
use Rattle.mesh_shape.specs.HalfEdges.HalfEdges.{AreHalfEdges, AreOfGoodMesh}
use Rattle.cert_checker.specs.TreeJudge.Path.{Pending, root_pending, longest_of}
use Rattle.cert_checker.specs.TreeJudge.Roots.{first_at, root_edges, AreRootChains}
use Rattle.cert_checker.specs.TreeJudge.Whole.{AreAnswered, IsFirstWrongNode, Notes, IsFirstWrongFrom, IsFirstWrongTree, IsWholeFrom, IsWholeOver, HasTreeAway, HasTreeInto, AreWholeOver, HasNoBit, HaveSourcesBelow}
use Rattle.cert_checker.proofs.TreeJudge.WholeTrees.{whole_tree, whole_answers, none_reached, none_entered}
use Rattle.cert_checker.proofs.TreeJudge.Meshed.{AreAllNamed}
use Rattle.cert_checker.proofs.TreeJudge.OneAnswer.{same_sectors}
use Rattle.cert_checker.proofs.TreeJudge.Refuting.{not_whole}
use Rattle.math_base.proofs.Options.{some_is_same}

module _ (m : Map) (ts : List Triangle) (xs : List HalfEdge) (trees : List Tree) (walked : List Bool) (reached : TableParts) where
  -- the trees below k
  pub record AreWholeBelow (k : ℕ) (walked_new : List Bool) (reached_new : TableParts) : Type 0 where
    pub size : reached_new.n ≡ reached.n
    pub len : length walked_new ≡ length walked
    pub each : (i : ℕ) (t : Tree) → i < k → slice_get trees i ≡ Some t → (sectors : List ℕ) × IsWholeOver m ts xs t sectors
    pub away : (a b : ℕ) → a < reached.n → b < reached.n → IsFlagSet walked_new a → ¬ Rejects reached_new a b → IsFlagSet walked a ⊎ HasTreeAway m ts xs trees a b
    pub marked : (i : ℕ) (t : Tree) → i < k → slice_get trees i ≡ Some t → t.source < length walked → IsFlagSet walked_new t.source
    pub entered : (a b : ℕ) → a < reached.n → b < reached.n → Rejects reached_new a b → Rejects reached a b ⊎ HasTreeInto m ts xs trees a b

  pub none_yet : AreWholeBelow 0 walked reached
  none_yet = record { size = refl; len = refl; each = λ i t l e. absurd (omega (arith, l)); away = λ a b g h n r. inl n; marked = λ i t l e h. absurd (omega (arith, l)); entered = λ a b g h s. inl s }

  pub one_more : (k : ℕ) (t : Tree) (roots : List Root) (firsts : List (Option ℕ)) (w w_new : List Bool) (r r_new : TableParts) → AreRootChains m ts xs roots firsts → t.source < m.sectors → slice_get trees k ≡ Some t
      → AreWholeBelow k w r → IsWholeFrom xs roots (first_at firsts t.source) t r r_new → Marks (Some t.source) w w_new → AreWholeBelow (k + 1) w_new r_new
  one_more k t roots firsts w w_new r r_new are low is f g marks = go (g.whole (root_edges ts xs m t.source) (are.chains t.source low))
    where
      there : Contains trees t
      there = (k, slice_get_within trees k t is, get_or_from_slice_get trees k t t is)

      this : (i : ℕ) (u : Tree) → k ≤ i → i < k + 1 → slice_get trees i ≡ Some u → t ≡ u
      this i u h l e = one (sym is ∙ ap (slice_get trees) here ∙ e)
        where
          here : k ≡ i
          here = omega (arith, h, l)

          one : ◌≡◌ {A = Option Tree} (Some t) (Some u) → t ≡ u
          one s = cc

      go : (sectors : List ℕ) × AreAnswered xs t.source (map root_pending (root_edges ts xs m t.source)) t.nodes [] sectors × Notes t.source sectors r r_new → AreWholeBelow (k + 1) w_new r_new
      go (sectors, answered, notes) = record { size = notes.size ∙ f.size; len = marks.len ∙ f.len; each = each; away = away; marked = marked; entered = entered }
        where
          each : (i : ℕ) (u : Tree) → i < k + 1 → slice_get trees i ≡ Some u → (sectors : List ℕ) × IsWholeOver m ts xs u sectors
          each i u l e = elim (cases_lt i k) as (λ _. (sectors : List ℕ) × IsWholeOver m ts xs u sectors) [
            | inl h ↦ f.each i u h e
            | inr h ↦ subst (λ (v : Tree). (sectors : List ℕ) × IsWholeOver m ts xs v sectors) (this i u h l e) (sectors, answered)
          ]

          marked : (i : ℕ) (u : Tree) → i < k + 1 → slice_get trees i ≡ Some u → u.source < length walked → IsFlagSet w_new u.source
          marked i u l e s = elim (cases_lt i k) as (λ _. IsFlagSet w_new u.source) [
            | inl h ↦ (marks.flags u.source (omega (arith, s, f.len))).1 (inl (f.marked i u h e s))
            | inr h ↦ (marks.flags u.source (omega (arith, s, f.len))).1 (inr (ap (λ (v : Tree). let o : Option ℕ = Some v.source in o) (this i u h l e)))
          ]

          within : (a : ℕ) → a < reached.n → a < r.n
          within a l = subst (λ (n : ℕ). a < n) (sym f.size) l

          entered : (a b : ℕ) → a < reached.n → b < reached.n → Rejects r_new a b → Rejects reached a b ⊎ HasTreeInto m ts xs trees a b
          entered a b la lb set = by ((notes.bits a b (within a la) (within b lb)).0 set)
            where
              by : Rejects r a b ⊎ ((a ≡ t.source) × Contains sectors b) → Rejects reached a b ⊎ HasTreeInto m ts xs trees a b
              by (inl h) = f.entered a b la lb h
              by (inr h) = inr (t, sectors, there, sym h.0, answered, h.1)

          away : (a b : ℕ) → a < reached.n → b < reached.n → IsFlagSet w_new a → ¬ Rejects r_new a b → IsFlagSet walked a ⊎ HasTreeAway m ts xs trees a b
          away a b la lb n clear = by ((marks.flags a (let l : a < length w_new = slice_get_within w_new a true n in omega (arith, l, marks.len))).0 n)
            where
              bits : (Rejects r_new a b → Rejects r a b ⊎ ((a ≡ t.source) × Contains sectors b)) × (Rejects r a b ⊎ ((a ≡ t.source) × Contains sectors b) → Rejects r_new a b)
              bits = notes.bits a b (within a la) (within b lb)

              by : IsFlagSet w a ⊎ (◌≡◌ {A = Option ℕ} (Some t.source) (Some a)) → IsFlagSet walked a ⊎ HasTreeAway m ts xs trees a b
              by (inl h) = f.away a b la lb h (λ s. clear (bits.1 (inl s)))
              by (inr e) = inr (t, sectors, there, same_Some t.source a e, answered, λ c. clear (bits.1 (inr (sym (same_Some t.source a e), c))))

  -- the next tree has a wrong node
  pub wrong_tree : (k n : ℕ) (t : Tree) (roots : List Root) (firsts : List (Option ℕ)) (w : List Bool) (r : TableParts) → AreRootChains m ts xs roots firsts → t.source < m.sectors → slice_get trees k ≡ Some t
      → AreWholeBelow k w r → IsFirstWrongFrom xs roots (first_at firsts t.source) t n → IsFirstWrongTree m ts xs trees t.source n
  wrong_tree k n t roots firsts w r are low is f g = record { place = k; tree = t; is = is; of = refl; wrong = g.wrong (root_edges ts xs m t.source) (are.chains t.source low); before = f.each }

  pub all_whole : (k : ℕ) (walked_new : List Bool) (reached_new : TableParts) → length trees ≤ k → AreWholeBelow k walked_new reached_new → AreWholeOver m ts xs trees walked walked_new reached reached_new
  all_whole k walked_new reached_new l f = record { each = λ t c. f.each c.0 t (below t c) (there t c); away = f.away; marked = λ t c. f.marked c.0 t (below t c) (there t c); entered = f.entered }
    where
      below : (t : Tree) (c : Contains trees t) → c.0 < k
      below t c = omega (arith, l, c.1)

      there : (t : Tree) (c : Contains trees t) → slice_get trees c.0 ≡ Some t
      there t c = slice_get-get_or trees c.0 t c.1 ∙ ap Some c.2

-- a source has one tree at most
one_tree : (trees : List Tree) (t u : Tree) → Ascends (λ (t u : Tree). t.source < u.source) trees → Contains trees t → Contains trees u → t.source ≡ u.source → t ≡ u
one_tree trees t u up (i, li, ei) (j, lj, ej) e = elim (cases_lt i j) as (λ _. t ≡ u) [
  | inl h ↦ (let l : t.source < u.source = up i j t u h at_i at_j in absurd (omega (arith, l, e)))
  | inr h ↦ elim (cases_lt j i) as (λ _. t ≡ u) [
    | inl k ↦ (let l : u.source < t.source = up j i u t k at_j at_i in absurd (omega (arith, l, e)))
    | inr k ↦ one (sym at_i ∙ ap (slice_get trees) (same h k) ∙ at_j)
  ]
]
  where
    at_i : slice_get trees i ≡ Some t
    at_i = slice_get-get_or trees i t li ∙ ap Some ei

    at_j : slice_get trees j ≡ Some u
    at_j = slice_get-get_or trees j u lj ∙ ap Some ej

    same : j ≤ i → i ≤ j → i ≡ j
    same h k = omega (arith, h, k)

    one : ◌≡◌ {A = Option Tree} (Some t) (Some u) → t ≡ u
    one s = cc

-- and it doesn't enter what it keeps from
not_into : (m : Map) (ts : List Triangle) (xs : List HalfEdge) (trees : List Tree) (a b : ℕ) → Ascends (λ (t u : Tree). t.source < u.source) trees → HasTreeAway m ts xs trees a b → HasTreeInto m ts xs trees a b → ⊥
not_into m ts xs trees a b up (t, sectors, there, e, whole, none) (u, others, here, f, also, enters) = none (subst (λ (ss : List ℕ). Contains ss b) (sym (same_sectors xs t.source t.nodes (asked t) [] [] sectors others whole moved)) enters)
  where
    asked : Tree → List Pending
    asked v = map root_pending (root_edges ts xs m v.source)

    moved : IsWholeOver m ts xs t others
    moved = subst (λ (v : Tree). IsWholeOver m ts xs v others) (sym (one_tree trees t u up there here (e ∙ sym f))) also

-- no tree is longer than the longest
pub longest_has : (us : List Tree) (k : ℕ) (t : Tree) → slice_get us k ≡ Some t → length t.nodes ≤ longest_of us
longest_has [] k t e = absurd (cc)
longest_has (u ∷ us) zero t e = let h : u ≡ t = some_is_same u t e in let l : length u.nodes ≡ length t.nodes = ap (λ (v : Tree). length v.nodes) h in omega (arith, l)
longest_has (u ∷ us) (suc k) t e = let l : length t.nodes ≤ longest_of us = longest_has us k t e in omega (arith, l)

-- each triangle of a certificate has a sector
all_named : (c : CertParts) → AreAllNamed (triangles_of c) (labels_of c)
all_named c k t e = at (slice_get c.triangles k) refl
  where
    at : (o : Option Labelled) → slice_get c.triangles k ≡ o → (a : ℕ) × (label_of (labels_of c) k ≡ Some a)
    at None h = absurd (none-some t (sym (slice_get-map (λ (l : Labelled). l.triangle) c.triangles k ∙ ap (option_map (λ (l : Labelled). l.triangle)) h) ∙ e))
    at (Some u) h = (u.sector, ap (option_and_then (λ (o : Option ℕ). o)) (slice_get-map (λ (l : Labelled). let o : Option ℕ = Some l.sector in o) c.triangles k ∙ ap (option_map (λ (l : Labelled). let o : Option ℕ = Some l.sector in o)) h))

-- what the judge of trees shows, of the plan's map and of the certificate
module _ (p : PlanParts) (c : CertParts) (ts : List Triangle) (xs : List HalfEdge) (trees : List Tree) (old new : List Bool) (reached reached_new : TableParts) where
  pub record AreTreesJudged : Type 0 where
    pub plan : IsPlan p
    pub triangles : ts ≡ triangles_of c
    pub good : IsGoodMesh (map_of p) ts (labels_of c)
    pub edges : AreHalfEdges p ts (labels_of c) xs
    pub list : trees ≡ c.trees

  abbrev mesh_of : AreTreesJudged → AreOfGoodMesh p (triangles_of c) xs
  mesh_of j = record {
    labels = labels_of c;
    plan = j.plan;
    good = subst (λ (us : List Triangle). IsGoodMesh (map_of p) us (labels_of c)) j.triangles j.good;
    edges = subst (λ (us : List Triangle). AreHalfEdges p us (labels_of c) xs) j.triangles j.edges;
  }

  tree_over_mesh : AreTreesJudged → (t : Tree) (sectors : List ℕ) → IsWholeOver (map_of p) (triangles_of c) xs t sectors → (opened : List ℕ) × IsWholeTree (map_of p) (triangles_of c) (labels_of c) t opened
  tree_over_mesh j t sectors whole = let f = whole_tree p (triangles_of c) xs (mesh_of j) (all_named c) t.source t.nodes sectors whole in (f.0, f.1)

  tree_away : AreTreesJudged → (a b : ℕ) → HasTreeAway (map_of p) (triangles_of c) xs c.trees a b → HasTreeWithout (map_of p) c a b
  tree_away j a b (t, sectors, there, e, whole, none) = let f = whole_tree p (triangles_of c) xs (mesh_of j) (all_named c) t.source t.nodes sectors whole in
      (t, there, e, (f.0, f.1, none_reached (labels_of c) b f.0 sectors f.2 none))

  tree_without : AreTreesJudged → (a b : ℕ) → HasTreeWithout (map_of p) c a b → HasTreeAway (map_of p) (triangles_of c) xs c.trees a b
  tree_without j a b (t, there, e, (opened, whole, none)) = let f = whole_answers p (triangles_of c) xs (mesh_of j) (all_named c) t.source t.nodes opened whole in
      (t, f.0, there, e, f.1, none_entered (labels_of c) b opened f.0 f.2 none)

  over_mesh : AreTreesJudged → AreWholeOver (map_of p) ts xs trees old new reached reached_new → AreWholeOver (map_of p) (triangles_of c) xs c.trees old new reached reached_new
  over_mesh j over = subst (λ (us : List Triangle). AreWholeOver (map_of p) us xs c.trees old new reached reached_new) j.triangles (subst (λ (us : List Tree). AreWholeOver (map_of p) ts xs us old new reached reached_new) j.list over)

  pub trees_whole : AreTreesJudged → AreWholeOver (map_of p) ts xs trees old new reached reached_new → AreTreesWhole (map_of p) c
  trees_whole j over t there = let f = (over_mesh j over).each t there in tree_over_mesh j t f.0 f.1

  abbrev IsKept : List Bool → ℕ → ℕ → Type 0
  IsKept now a b = IsFlagSet now a × ¬ Rejects reached_new a b

  -- flags and bits show exactly which pairs a tree keeps apart
  pub keeps_away : (none now : List Bool) → AreTreesJudged → AreWholeOver (map_of p) ts xs trees old new reached reached_new → IsOneInOrder c → HasNoMark p.sectors none → HasNoBit reached → old ≡ none → now ≡ new → reached.n ≡ p.sectors
      → TellsReach (map_of p) c now reached_new
  keeps_away none now j over order unmarked clear e f g a b la lb = (λ kept. shown (whole.away a b (omega (arith, la, g)) (omega (arith, lb, g)) (subst (λ (bs : List Bool). IsFlagSet bs a) f kept.0) kept.1), λ has. kept (tree_without j a b has))
    where
      whole : AreWholeOver (map_of p) (triangles_of c) xs c.trees old new reached reached_new
      whole = over_mesh j over

      shown : IsFlagSet old a ⊎ HasTreeAway (map_of p) (triangles_of c) xs c.trees a b → HasTreeWithout (map_of p) c a b
      shown (inl m) = absurd (unmarked.none a la (subst (λ (bs : List Bool). IsFlagSet bs a) e m))
      shown (inr t) = tree_away j a b t

      many : length old ≡ p.sectors
      many = ap length e ∙ unmarked.len

      none_set : HasTreeAway (map_of p) (triangles_of c) xs c.trees a b → Rejects reached a b ⊎ HasTreeInto (map_of p) (triangles_of c) xs c.trees a b → ⊥
      none_set t (inl h) = clear a b h
      none_set t (inr h) = not_into (map_of p) (triangles_of c) xs c.trees a b order.trees_ascend t h

      kept : HasTreeAway (map_of p) (triangles_of c) xs c.trees a b → IsKept now a b
      kept t = (
        subst (λ (bs : List Bool). IsFlagSet bs a) (sym f) (subst (IsFlagSet new) t.3 (whole.marked t.0 t.2 (let h : t.0.source ≡ a = t.3 in omega (arith, h, la, many)))),
        λ set. none_set t (whole.entered a b (omega (arith, la, g)) (omega (arith, lb, g)) set),
      )

  not_whole_over : AreTreesJudged → (t : Tree) (k : ℕ) → IsFirstWrongNode xs t.source (map root_pending (root_edges (triangles_of c) xs (map_of p) t.source)) t.nodes k → (opened : List ℕ) → ¬ IsWholeTree (map_of p) (triangles_of c) (labels_of c) t opened
  not_whole_over j t k wrong opened whole = let f = whole_answers p (triangles_of c) xs (mesh_of j) (all_named c) t.source t.nodes opened whole in
      not_whole xs t.source (map root_pending (root_edges (triangles_of c) xs (map_of p) t.source)) t.nodes k f.0 wrong f.1

  first_not_whole : AreTreesJudged → (s k : ℕ) → IsFirstWrongTree (map_of p) (triangles_of c) xs c.trees s k → IsFirstTreeNotWhole (map_of p) c s k
  first_not_whole j s k f = record {
    place = f.place;
    tree = f.tree;
    is = f.is;
    of = f.of;
    not_whole = not_whole_over j f.tree k f.wrong;
    before = λ i t l e. let g = f.before i t l e in tree_over_mesh j t g.0 g.1;
    plan = p;
    of_map = refl;
    edges = xs;
    are_edges = (mesh_of j).edges;
    node = f.wrong;
  }

  -- the first tree with a wrong node is the first one that isn't whole
  pub wrong_told : AreTreesJudged → (s k : ℕ) → IsFirstWrongTree (map_of p) ts xs trees s k → IsFirstTreeNotWhole (map_of p) c s k
  wrong_told j s k wrong = first_not_whole j s k (subst (λ (us : List Triangle). IsFirstWrongTree (map_of p) us xs c.trees s k) j.triangles (subst (λ (us : List Tree). IsFirstWrongTree (map_of p) ts xs us s k) j.list wrong))

-- ---- the sources of a certificate's trees

pub sources_below : (c : CertParts) (n : ℕ) (trees : List Tree) → IsOneInOrder c → c.sizes.sectors ≡ n → trees ≡ c.trees → HaveSourcesBelow n trees
sources_below c n trees order e f t there = go c.trees order.trees (subst (λ (us : List Tree). Contains us t) f there)
  where
    go : (us : List Tree) → AllByRecursion (IsTreeInRange c.sizes) us → Contains us t → t.source < n
    go [] all (i, l, h) = absurd (omega (arith, l))
    go (u ∷ us) all (zero, l, h) = let k : IsTreeInRange c.sizes t = subst (IsTreeInRange c.sizes) h all.0 in let j : t.source < c.sizes.sectors = k.0 in omega (arith, j, e)
    go (u ∷ us) all (suc i, l, h) = go us all.1 (i, omega (arith, l), h)
