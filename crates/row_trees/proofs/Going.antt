-- Steps of a walk by a row: what is still to be asked goes on with portal sequences of the source.
use Rattle.std.proofs.Common.{◌≡◌, ◌≢◌, ℕ, ◌+◌, ◌<◌, ◌≤◌, ◌⊎◌, inl, inr, min, List, [], ◌∷◌, ◌++◌, Option, Some, None, Bool, true, false, length, take, slice_get, if◌then◌else◌, option_and_then, refl, sym, ◌∙◌, ap, subst, arith}
use Rattle.std.specs.List.{AllByRecursion}
use Rattle.std.proofs.lemmas.List.{length-append, length-take, take-append-le, take-take, take_all}
use Rattle.math_base.proofs.Lists.{all_join, all_so}
use Rattle.math_base.proofs.Options.{one_value, some_is_same}
use Rattle.sight_names.specs.Splitting.{EndPoints, IsSplittable}
use Rattle.block_evidence.specs.declared.Evidence.{Evidence}
use Rattle.block_evidence.specs.Stuck.{BlocksEnds}
use Rattle.stab_hull.specs.Answer.{IsBarredBy}
use Rattle.block_evidence.specs.declared.sight_tree.Node.TheVariants.{Open, Blocked}
use Rattle.block_evidence.specs.declared.sight_tree.Tree.{Tree}
use Rattle.mesh_shape.specs.declared.half_edges.table.HalfEdge.{HalfEdge}
use Rattle.mesh_shape.specs.HalfEdges.HalfEdges.{way_outside}
use Rattle.cert_checker.specs.declared.tree_judge.roots.Root.{Root}
use Rattle.cert_checker.specs.declared.tree_judge.trees.Frame.{Frame}
use Rattle.cert_checker.specs.TreeJudge.Path.{path_ends}
use Rattle.cert_checker.specs.TreeJudge.Walked.{with_node}
use Rattle.portal_walk.specs.declared.scene.Way.TheVariants.{Left, Right}
use Rattle.portal_walk.specs.Scene.{IsNumber}
use Rattle.portal_walk.specs.Walk.{half_edge_ends}
use Rattle.pair_budget.specs.declared.results.Reached.{Reached}
use Rattle.gate_floods.specs.RowJudge.Masks.{MaskRows}
use Rattle.gate_floods.specs.declared.row_judge.follow.Wait.{Wait}
use Rattle.gate_floods.specs.declared.row_judge.walk.RowWalk.{RowWalk}
use Rattle.gate_floods.specs.RowJudge.Words.{row_in_words, is_away}
use Rattle.gate_floods.specs.RowJudge.Asked.{Pending, pending_way, pending_roots, with_rest, leaves, mask_of_edge, row_behind, row_through, way_asked, ways_behind, ways_through, ends_through, AnswersFirstInRow, AreAnswered}
use Rattle.gate_floods.specs.RowJudge.Path.{AreWaiting}
use Rattle.gate_floods.specs.RowJudge.Judged.{StandsAt, IsTreeWalkedInRow}
use Rattle.gate_floods.proofs.RowJudge.Walking.{answered_more}
use Rattle.row_trees.specs.Walkable.{Scene, Search, IsWalkable}
use Rattle.row_trees.specs.Thinner.{IsRowWithin, IsPresent, IsThinned, AreThinned}
use Rattle.row_trees.specs.Path.{HasEndOfLast}
use Rattle.row_trees.specs.Left.{most, weight, weight_at, row_walk_left}
use Rattle.row_trees.specs.Going.{root_of_path, GoesOnByRoot, IsToCome, IsGoing, IsTried, IsAfter}
use Rattle.row_trees.proofs.Thin.{left_within, away_more, out_of, within_through}
use Rattle.row_trees.proofs.Thinning.{all_thinned, weight_thinned}
use Rattle.row_trees.proofs.Weights.{front_long, weight_join, weighs, ways_weigh_less, remaining_is}
use Rattle.row_trees.proofs.Coming.{OnBy, way_on, not_long}

-- ---- what is asked first, and how long the paths of the others are

abbrev pub present : MaskRows → RowWalk → ℕ → Pending
present ms w number = record { path = path_ends (take w.follow.depth w.path.items); row = row_in_words w.rows.items ms.width w.follow.row; edge = number }

abbrev pub AreShorter : ℕ → List Pending → Type 0
AreShorter d ps = AllByRecursion (λ (q : Pending). length q.path ≤ d) ps

ways_shorter : (path : List Frame) (rows : List ℕ) (w : ℕ) (waits : List Wait) (depth r d : ℕ) (ps : List Pending) → depth ≤ length path → depth ≤ d → AreWaiting path rows w waits depth r ps → AreShorter d ps
ways_shorter path rows w waits depth r d [] l m h = tt
ways_shorter path rows w waits depth r d (p ∷ ps) l m (front, x, split, low, low_too, this, more) = (
  (let e : length p.path ≡ x.depth = ap (λ (q : Pending). length q.path) this ∙ front_long path x.depth (omega (arith, l, low)) in omega (arith, e, low, m)),
  ways_shorter path rows w front x.depth x.row d ps (omega (arith, l, low)) (omega (arith, low, m)) more,
)

way_shorter : (row : List ℕ) (o : Option ℕ) (d : ℕ) (ps : List Pending) → AreShorter d ps → AreShorter d (pending_way [] row o ++ ps)
way_shorter row None d ps h = h
way_shorter row (Some i) d ps h = (omega arith, h)

roots_shorter : (ms : MaskRows) (row es : List ℕ) (d : ℕ) → AreShorter d (pending_roots ms row es)
roots_shorter ms row [] d = tt
roots_shorter ms row (e ∷ es) d = way_shorter row (with_rest ms row e) d (pending_roots ms row es) (roots_shorter ms row es d)

pub record AsksFirst (ms : MaskRows) (w : RowWalk) (number : ℕ) (ps : List Pending) : Type 0 where
  pub rest : List Pending
  pub all : ps ≡ present ms w number ∷ rest
  pub shorter : AreShorter w.follow.depth rest
  pub long : length (path_ends (take w.follow.depth w.path.items)) ≡ w.follow.depth

pub asks_first : (ms : MaskRows) (first : List ℕ) (roots : List Root) (w : RowWalk) (ps : List Pending) (number : ℕ) → StandsAt ms first roots w ps → w.follow.asked ≡ Some number → AsksFirst ms w number ps
asks_first ms first roots w ps number a e = record {
  rest = a.ways ++ pending_roots ms first a.es;
  all = a.all ∙ ap (λ (o : Option ℕ). pending_way (path_ends (take w.follow.depth w.path.items)) (row_in_words w.rows.items ms.width w.follow.row) o ++ (a.ways ++ pending_roots ms first a.es)) e;
  shorter = all_join (λ (q : Pending). length q.path ≤ w.follow.depth) a.ways (pending_roots ms first a.es) (ways_shorter w.path.items w.rows.items ms.width w.waits.items w.follow.depth w.follow.row w.follow.depth a.ways a.depth_room (omega arith) a.waiting) (roots_shorter ms first a.es w.follow.depth);
  long = front_long w.path.items w.follow.depth a.depth_room;
}

-- ---- lists of ends

pub root_of_more : (es : List EndPoints) (e : EndPoints) (i root : ℕ) → root_of_path (es ++ e ∷ []) i root ≡ root
root_of_more [] e i root = refl
root_of_more (f ∷ es) e i root = refl

module _ (c : Scene) (s : Search) where
  -- ---- what is still to be asked, while path, root and rows change

  pub come_thinned : (root : ℕ) (ends : List EndPoints) (p q : Pending) → IsThinned p q → IsToCome c s root ends p → IsToCome c s root ends q
  come_thinned root ends p q t h = subst (IsToCome c s root ends) (λ i. let u : Pending = record { path = sym t.path i; row = q.row; edge = sym t.edge i } in u) (record {
    edge = h.edge;
    there = h.there;
    goes_on = h.goes_on;
    number_is = h.number_is;
    joins = h.joins;
    front = h.front;
    short = h.short;
    away = λ free. away_more q.row p.row h.edge.sector t.row (h.away free);
    within = within_through q.row p.row s.row t.row h.within;
  })

  front_length : (root : ℕ) (ends : List EndPoints) (p : Pending) → IsToCome c s root ends p → length p.path ≤ length ends
  front_length root ends p h = let e : length p.path ≡ min (length p.path) (length ends) = ap (λ (es : List EndPoints). length es) h.front ∙ length-take (length p.path) ends in omega (arith, e)

  -- behind one more portal
  come_longer : (root : ℕ) (ends : List EndPoints) (e : EndPoints) (p : Pending) → IsToCome c s root ends p → IsToCome c s root (ends ++ e ∷ []) p
  come_longer root ends e p h = record {
    edge = h.edge;
    there = h.there;
    goes_on = h.goes_on;
    number_is = h.number_is;
    joins = h.joins;
    front = h.front ∙ sym (take-append-le (length p.path) ends (e ∷ []) (front_length root ends p h));
    short = h.short;
    away = h.away;
    within = h.within;
  }

  root_kept : (es : List EndPoints) (i root later d : ℕ) → length es ≤ d → (d ≡ 0) ⊎ (later ≡ root) → root_of_path es i later ≡ root_of_path es i root
  root_kept [] i root later d l h = refl
  root_kept (e ∷ es) i root later d l (inl none) = absurd (omega (arith, l, none))
  root_kept (e ∷ es) i root later d l (inr same) = same

  -- behind fewer portals, where the root is another only if there is none
  come_cut : (root later d : ℕ) (ends : List EndPoints) (p : Pending) → (d ≡ 0) ⊎ (later ≡ root) → length p.path ≤ d → IsToCome c s root ends p → IsToCome c s later (take d ends) p
  come_cut root later d ends p same l h = record {
    edge = h.edge;
    there = h.there;
    goes_on = subst (λ (r : ℕ). GoesOnByRoot c s r p.path h.edge) (sym (root_kept p.path p.edge root later d l same)) h.goes_on;
    number_is = h.number_is;
    joins = h.joins;
    front = h.front ∙ sym (take-take (length p.path) d ends l);
    short = h.short;
    away = h.away;
    within = h.within;
  }

  all_cut : (root later d : ℕ) (ends : List EndPoints) (ps : List Pending) → (d ≡ 0) ⊎ (later ≡ root) → AreShorter d ps → AllByRecursion (IsToCome c s root ends) ps → AllByRecursion (IsToCome c s later (take d ends)) ps
  all_cut root later d ends [] same l h = tt
  all_cut root later d ends (p ∷ ps) same l h = (come_cut root later d ends p same l.0 h.0, all_cut root later d ends ps same l.1 h.1)

  -- ---- the half-edge that is tried

  pub record HeadOf (root : ℕ) (ends : List EndPoints) (w : RowWalk) (x : HalfEdge) (ps : List Pending) : Type 0 where
    pub head : Pending
    pub rest : List Pending
    pub all : ps ≡ head ∷ rest
    pub path_is : head.path ≡ ends
    pub row_is : head.row ≡ row_in_words w.rows.items c.masks.width w.follow.row
    pub there : slice_get c.edges head.edge ≡ Some x
    pub number_is : IsNumber s.ground.triangles head.edge
    pub goes_on : GoesOnByRoot c s root ends x
    pub joins : HasEndOfLast ends x.left_at x.right_at
    pub away : x.entered ≡ None → is_away head.row x.sector ≡ true
    pub short : length ends ≤ length s.ground.triangles
    pub within : IsRowWithin head.row s.row
    pub shorter : AreShorter (length ends) rest
    pub others : AllByRecursion (IsToCome c s root ends) rest

  pub head_of : (root : ℕ) (ends : List EndPoints) (w : RowWalk) (found : List Reached) (x : HalfEdge) (n : ℕ) (t : IsTried c s root ends w found x n) → HeadOf root ends w x t.going.asked
  head_of root ends w found x n t = record {
    head = p;
    rest = a.rest;
    all = a.all;
    path_is = path_is;
    row_is = refl;
    there = t.there;
    number_is = h.number_is;
    goes_on = subst (λ (y : HalfEdge). GoesOnByRoot c s root ends y) same (subst (λ (r : ℕ). GoesOnByRoot c s r ends h.edge) t.begun (subst (λ (es : List EndPoints). GoesOnByRoot c s (root_of_path es t.number root) es h.edge) path_is h.goes_on));
    joins = subst (λ (y : HalfEdge). HasEndOfLast ends y.left_at y.right_at) same (subst (λ (es : List EndPoints). HasEndOfLast es h.edge.left_at h.edge.right_at) path_is h.joins);
    away = subst (λ (y : HalfEdge). y.entered ≡ None → is_away p.row y.sector ≡ true) same h.away;
    short = subst (λ (es : List EndPoints). length es ≤ length s.ground.triangles) path_is h.short;
    within = h.within;
    shorter = subst (λ (d : ℕ). AreShorter d a.rest) t.depth a.shorter;
    others = parts.1;
  }
    where
      a : AsksFirst c.masks w t.number t.going.asked
      a = asks_first c.masks t.going.first c.roots w t.going.asked t.number t.going.at t.is_asked

      p : Pending
      p = present c.masks w t.number

      parts : AllByRecursion (IsToCome c s root ends) (present c.masks w t.number ∷ a.rest)
      parts = subst (AllByRecursion (IsToCome c s root ends)) a.all t.going.each

      h : IsToCome c s root ends (present c.masks w t.number)
      h = parts.0

      path_is : path_ends (take w.follow.depth w.path.items) ≡ ends
      path_is = h.front ∙ ap (λ (k : ℕ). take k ends) (a.long ∙ t.depth) ∙ take_all (length ends) ends (omega arith)

      same : h.edge ≡ x
      same = one_value (slice_get c.edges t.number) h.edge x h.there t.there

  -- ---- the ways behind it

  with_rest_is : (row : List ℕ) (i : ℕ) (b : Bool) → leaves row (mask_of_edge c.masks i) ≡ b → with_rest c.masks row i ≡ (let o : Option ℕ = if b then Some i else None in o)
  with_rest_is row i b h = ap (λ (d : Bool). let o : Option ℕ = if d then Some i else None in o) h

  way_holds : (P : Pending → Type 0) (ends : List EndPoints) (row : List ℕ) (o : Option ℕ) → ((i : ℕ) → o ≡ Some i → P (record { path = ends; row = row; edge = i })) → AllByRecursion P (pending_way ends row (option_and_then (with_rest c.masks row) o))
  way_holds P ends row None h = tt
  way_holds P ends row (Some i) h = by (leaves row (mask_of_edge c.masks i)) refl
    where
      by : (b : Bool) → leaves row (mask_of_edge c.masks i) ≡ b → AllByRecursion P (pending_way ends row (with_rest c.masks row i))
      by true e = subst (λ (o : Option ℕ). AllByRecursion P (pending_way ends row o)) (sym (with_rest_is row i true e)) (h i refl, tt)
      by false e = subst (λ (o : Option ℕ). AllByRecursion P (pending_way ends row o)) (sym (with_rest_is row i false e)) tt

  way_weighs : (d : ℕ) (ends : List EndPoints) (row : List ℕ) (o : Option ℕ) → weight d (pending_way ends row o) ≤ weight_at d (length ends)
  way_weighs d ends row None = omega arith
  way_weighs d ends row (Some i) = omega arith

  module _ (root : ℕ) (ends : List EndPoints) (x : HalfEdge) (w : IsWalkable s.ground c.edges c.roots c.firsts s.source) (ps : List Pending) (old : RowWalk) (h : HeadOf root ends old x ps) (splits : IsSplittable (ends ++ half_edge_ends x ∷ []))
      (free : is_away (row_in_words old.rows.items c.masks.width old.follow.row) x.sector ≡ true) where
    abbrev longer : List EndPoints
    longer = ends ++ half_edge_ends x ∷ []

    abbrev behind_row : List ℕ
    behind_row = row_through c.masks h.head

    row_less : IsRowWithin behind_row h.head.row
    row_less = left_within h.head.row (mask_of_edge c.masks h.head.edge)

    pub away_behind : is_away (row_through c.masks h.head) x.sector ≡ true
    away_behind = away_more behind_row h.head.row x.sector row_less (subst (λ (r : List ℕ). is_away r x.sector ≡ true) (sym h.row_is) free)

    by_way : (i : ℕ) → OnBy c s w i root longer x → IsToCome c s root longer (record { path = longer; row = behind_row; edge = i })
    by_way i o = record {
      edge = o.edge;
      there = o.there;
      goes_on = subst (λ (r : ℕ). GoesOnByRoot c s r longer o.edge) (sym (root_of_more ends (half_edge_ends x) i root)) o.goes_on;
      number_is = o.number_is;
      joins = o.joins;
      front = sym (take_all (length longer) longer (omega arith));
      short = not_long c s w root ends x h.goes_on splits;
      away = λ none. o.away none behind_row away_behind;
      within = within_through behind_row h.head.row s.row row_less h.within;
    }

    through_ends : ends_through h.head x ≡ longer
    through_ends = ap (λ (es : List EndPoints). es ++ half_edge_ends x ∷ []) h.path_is

    abbrev ways : List EndPoints → List Pending
    ways es = ways_behind c.edges c.masks s.source es (row_through c.masks h.head) x

    ways_come : AllByRecursion (IsToCome c s root longer) (ways longer)
    ways_come = all_join (IsToCome c s root longer) (pending_way longer behind_row (way_asked c.edges c.masks s.source behind_row x.left_way)) (pending_way longer behind_row (way_asked c.edges c.masks s.source behind_row x.right_way))
        (way_holds (IsToCome c s root longer) longer behind_row (way_outside c.edges s.source x.left_way) (λ i e. by_way i (way_on c s w h.head.edge root ends x h.there h.number_is h.goes_on Left i e)))
        (way_holds (IsToCome c s root longer) longer behind_row (way_outside c.edges s.source x.right_way) (λ i e. by_way i (way_on c s w h.head.edge root ends x h.there h.number_is h.goes_on Right i e)))

    others_come : AllByRecursion (IsToCome c s root longer) h.rest
    others_come = all_so (IsToCome c s root ends) (IsToCome c s root longer) h.rest (λ q k. come_longer root ends (half_edge_ends x) q k) h.others

    pub all_come : AllByRecursion (IsToCome c s root longer) (ways_through c.edges c.masks s.source h.head x ++ h.rest)
    all_come = all_join (IsToCome c s root longer) (ways (ends_through h.head x)) h.rest (subst (λ (es : List EndPoints). AllByRecursion (IsToCome c s root longer) (ways es)) (sym through_ends) ways_come) others_come

    -- what is deeper has a row that has no more than the present one
    abbrev LessBehind : Pending → Type 0
    LessBehind q = length ends < length q.path → IsRowWithin q.row h.head.row

    ways_less : AllByRecursion LessBehind (ways (ends_through h.head x))
    ways_less = all_join LessBehind (pending_way (ends_through h.head x) behind_row (way_asked c.edges c.masks s.source behind_row x.left_way)) (pending_way (ends_through h.head x) behind_row (way_asked c.edges c.masks s.source behind_row x.right_way))
        (way_holds LessBehind (ends_through h.head x) behind_row (way_outside c.edges s.source x.left_way) (λ i e l. row_less))
        (way_holds LessBehind (ends_through h.head x) behind_row (way_outside c.edges s.source x.right_way) (λ i e l. row_less))

    not_deeper : (q : Pending) → length q.path ≤ length ends → LessBehind q
    not_deeper q l k = absurd (omega (arith, l, k))

    pub all_less : AllByRecursion LessBehind (ways_through c.edges c.masks s.source h.head x ++ h.rest)
    all_less = all_join LessBehind (ways (ends_through h.head x)) h.rest ways_less (all_so (λ (q : Pending). length q.path ≤ length ends) LessBehind h.rest not_deeper h.shorter)

    pub all_weigh_less : weight (most c) (ways_through c.edges c.masks s.source h.head x ++ h.rest) < weight (most c) ps
    all_weigh_less =
        let d : ℕ = most c in
        let us : List Pending = ways (ends_through h.head x) in
        let a : weight d (us ++ h.rest) ≡ weight d us + weight d h.rest = weight_join d us h.rest in
        let l : List Pending = pending_way (ends_through h.head x) behind_row (way_asked c.edges c.masks s.source behind_row x.left_way) in
        let r : List Pending = pending_way (ends_through h.head x) behind_row (way_asked c.edges c.masks s.source behind_row x.right_way) in
        let b : weight d us ≡ weight d l + weight d r = weight_join d l r in
        let e : weight d l ≤ weight_at d (length (ends_through h.head x)) = way_weighs d (ends_through h.head x) behind_row (way_asked c.edges c.masks s.source behind_row x.left_way) in
        let f : weight d r ≤ weight_at d (length (ends_through h.head x)) = way_weighs d (ends_through h.head x) behind_row (way_asked c.edges c.masks s.source behind_row x.right_way) in
        let g : length (ends_through h.head x) ≡ length ends + 1 = ap (λ (es : List EndPoints). length es) through_ends ∙ length-append ends (half_edge_ends x ∷ []) in
        let k : weight_at d (length (ends_through h.head x)) ≡ weight_at d (length ends + 1) = ap (weight_at d) g in
        let m : weight_at d (length ends + 1) + weight_at d (length ends + 1) < weight_at d (length ends) = ways_weigh_less d (length ends) in_depth in
        let n : weight d ps ≡ weight_at d (length ends) + weight d h.rest = ap (weight d) h.all ∙ ap (λ (es : List EndPoints). weight_at d (length es) + weight d h.rest) h.path_is in
        less (weight d (us ++ h.rest)) (weight d us) (weight d h.rest) (weight d l) (weight d r) (weight_at d (length (ends_through h.head x))) (weight_at d (length ends + 1)) (weight_at d (length ends)) (weight d ps) a b e f k m n
      where
        in_depth : length ends < most c
        in_depth = let l : length ends ≤ length s.ground.triangles = h.short in let e = w.edges.len in omega (arith, l, e)

        less : (a b c d e f g h i : ℕ) → a ≡ b + c → b ≡ d + e → d ≤ f → e ≤ f → f ≡ g → g + g < h → i ≡ h + c → a < i
        less a b c d e f g h i p q r s t u v = omega (arith, p, q, r, s, t, u, v)

  -- ---- the walk behind a node

  -- the present row has only what the wanted row has, and so has the first row while nothing is found
  pub unfound_present : (root : ℕ) (ends : List EndPoints) (w : RowWalk) (found : List Reached) (n k : ℕ) → IsGoing c s root ends w found n → w.follow.asked ≡ Some k → found ≡ [] → IsPresent c.masks.width w
  unfound_present root ends w found n k g e none =
      let a = asks_first c.masks g.first c.roots w g.asked k g.at e in
      let h : AllByRecursion (IsToCome c s root ends) (present c.masks w k ∷ a.rest) = subst (AllByRecursion (IsToCome c s root ends)) a.all g.each in
      subst (IsRowWithin (row_in_words w.rows.items c.masks.width w.follow.row)) (sym (g.at.base ∙ g.whole none)) h.0.within

  pub opened : (root : ℕ) (ends : List EndPoints) (old new : RowWalk) (found : List Reached) (x : HalfEdge) (n : ℕ) → (t : IsTried c s root ends old found x (n + 1)) → IsSplittable (ends ++ half_edge_ends x ∷ []) → is_away (row_in_words old.rows.items c.masks.width old.follow.row) x.sector ≡ true → new.source ≡ old.source
      → StandsAt c.masks t.going.first c.roots new (ways_through c.edges c.masks s.source (head_of root ends old found x (n + 1) t).head x ++ (head_of root ends old found x (n + 1) t).rest) → IsAfter c s root (ends ++ half_edge_ends x ∷ []) new found n (length ends)
  opened root ends old new found x n t splits free same at = record {
    going = record {
      walkable = t.going.walkable;
      source_is = same ∙ t.going.source_is;
      first = t.going.first;
      asked = next;
      at = at;
      each = all_come root ends x t.going.walkable t.going.asked old h splits free;
      fewer = let l : weight (most c) next < weight (most c) t.going.asked = all_weigh_less root ends x t.going.walkable t.going.asked old h splits free in let m : weight (most c) t.going.asked < n + 1 = t.going.fewer in below (weight (most c) next) (weight (most c) t.going.asked) n l m;
      kept = t.going.kept;
      gone = t.going.gone;
      whole = t.going.whole;
      seen = t.going.seen;
      wanted = t.going.wanted;
    };
    deeper = λ k e deep.
        let a = asks_first c.masks t.going.first c.roots new next k at e in
        let q : AllByRecursion (λ (r : Pending). length ends < length r.path → IsRowWithin r.row h.head.row) (present c.masks new k ∷ a.rest) = subst (AllByRecursion (λ (r : Pending). length ends < length r.path → IsRowWithin r.row h.head.row)) a.all (all_less root ends x t.going.walkable t.going.asked old h splits free) in
        let long : length (path_ends (take new.follow.depth new.path.items)) ≡ new.follow.depth = a.long in
        let less : IsRowWithin (row_in_words new.rows.items c.masks.width new.follow.row) h.head.row = q.0 (omega (arith, long, deep)) in
        within_through (row_in_words new.rows.items c.masks.width new.follow.row) h.head.row (row_in_words new.rows.items c.masks.width 0) less
        (subst (IsRowWithin h.head.row) (t.going.at.base ∙ sym at.base) (subst (λ (r : List ℕ). IsRowWithin r (row_in_words old.rows.items c.masks.width 0)) (sym h.row_is) t.present));
  }
    where
      h : HeadOf root ends old x t.going.asked
      h = head_of root ends old found x (n + 1) t

      next : List Pending
      next = ways_through c.edges c.masks s.source h.head x ++ h.rest

      below : (a b n : ℕ) → a < b → b < n + 1 → a < n
      below a b n l m = omega (arith, l, m)

  pub turned : (root : ℕ) (ends : List EndPoints) (old new : RowWalk) (found : List Reached) (x : HalfEdge) (n : ℕ) → (t : IsTried c s root ends old found x (n + 1)) → new.source ≡ old.source
      → StandsAt c.masks t.going.first c.roots new (head_of root ends old found x (n + 1) t).rest → IsAfter c s root ends new found n (length ends)
  turned root ends old new found x n t same at = record {
    going = record {
      walkable = t.going.walkable;
      source_is = same ∙ t.going.source_is;
      first = t.going.first;
      asked = h.rest;
      at = at;
      each = h.others;
      fewer = let e : weight (most c) t.going.asked ≡ weight_at (most c) (length h.head.path) + weight (most c) h.rest = ap (weight (most c)) h.all in let l : 0 < weight_at (most c) (length h.head.path) = weighs (most c) (length h.head.path) in let m : weight (most c) t.going.asked < n + 1 = t.going.fewer in
          below (weight (most c) t.going.asked) (weight_at (most c) (length h.head.path)) (weight (most c) h.rest) n e l m;
      kept = t.going.kept;
      gone = t.going.gone;
      whole = t.going.whole;
      seen = t.going.seen;
      wanted = t.going.wanted;
    };
    deeper = λ k e deep.
        let a = asks_first c.masks t.going.first c.roots new h.rest k at e in
        let q : AreShorter (length ends) (present c.masks new k ∷ a.rest) = subst (AreShorter (length ends)) a.all h.shorter in
        let l : length (path_ends (take new.follow.depth new.path.items)) ≤ length ends = q.0 in
        let long : length (path_ends (take new.follow.depth new.path.items)) ≡ new.follow.depth = a.long in
        absurd (no (length (path_ends (take new.follow.depth new.path.items))) (length ends) new.follow.depth l long deep);
  }
    where
      h : HeadOf root ends old x t.going.asked
      h = head_of root ends old found x (n + 1) t

      below : (a b d n : ℕ) → a ≡ b + d → 0 < b → a < n + 1 → d < n
      below a b d n e l m = omega (arith, e, l, m)

      no : (a b d : ℕ) → a ≤ b → a ≡ d → b < d → ⊥
      no a b d l e k = omega (arith, l, e, k)

  -- rows without what is out of the first one
  pub going_thinned : (root : ℕ) (ends : List EndPoints) (old new : RowWalk) (found : List Reached) (n : ℕ) → (g : IsGoing c s root ends old found n) → new.source ≡ old.source → found ≢ []
      → (later : List ℕ) × (qs : List Pending) × StandsAt c.masks later c.roots new qs × AreThinned g.asked qs × IsRowWithin later g.first → IsGoing c s root ends new found n
  going_thinned root ends old new found n g same some (later, qs, at, thinned, less) = record {
    walkable = g.walkable;
    source_is = same ∙ g.source_is;
    first = later;
    asked = qs;
    at = at;
    each = all_thinned (IsToCome c s root ends) (come_thinned root ends) g.asked qs thinned g.each;
    fewer = let l : weight (most c) qs ≤ weight (most c) g.asked = weight_thinned (most c) g.asked qs thinned in let m : weight (most c) g.asked < n = g.fewer in below (weight (most c) qs) (weight (most c) g.asked) n l m;
    kept = within_through later g.first s.row less g.kept;
    gone = λ r there. out_of later g.first r.to less (g.gone r there);
    whole = λ none. absurd (some none);
    seen = g.seen;
    wanted = g.wanted;
  }
    where
      below : (a b n : ℕ) → a ≤ b → b < n → a < n
      below a b n l m = omega (arith, l, m)

  -- ---- what is asked is tried

  pub tried : (root later number : ℕ) (ends cut : List EndPoints) (w : RowWalk) (found : List Reached) (x : HalfEdge) (n : ℕ) → IsGoing c s root ends w found n → w.follow.asked ≡ Some number → IsPresent c.masks.width w → slice_get c.edges number ≡ Some x
      → cut ≡ take w.follow.depth ends → ((w.follow.depth ≡ 0) × (later ≡ number)) ⊎ ((w.follow.depth ≢ 0) × (later ≡ root)) → IsTried c s later cut w found x n
  tried root later number ends cut w found x n g e here there cut_is which = record {
    going = record {
      walkable = g.walkable;
      source_is = g.source_is;
      first = g.first;
      asked = g.asked;
      at = g.at;
      each = subst (λ (es : List EndPoints). AllByRecursion (IsToCome c s later es) g.asked) (sym cut_is) (all_cut root later w.follow.depth ends g.asked kept all_shorter g.each);
      fewer = g.fewer;
      kept = g.kept;
      gone = g.gone;
      whole = g.whole;
      seen = g.seen;
      wanted = g.wanted;
    };
    number = number;
    is_asked = e;
    there = there;
    depth = depth;
    begun = begun cut number later which depth;
    present = here;
  }
    where
      a : AsksFirst c.masks w number g.asked
      a = asks_first c.masks g.first c.roots w g.asked number g.at e

      kept : (w.follow.depth ≡ 0) ⊎ (later ≡ root)
      kept = elim which as (λ _. (w.follow.depth ≡ 0) ⊎ (later ≡ root)) [ inl h ↦ inl h.0 | inr h ↦ inr h.1 ]

      all_shorter : AreShorter w.follow.depth g.asked
      all_shorter = subst (AreShorter w.follow.depth) (sym a.all) (let l : length (path_ends (take w.follow.depth w.path.items)) ≡ w.follow.depth = a.long in omega (arith, l), a.shorter)

      head : IsToCome c s root ends (present c.masks w number)
      head = (subst (AllByRecursion (IsToCome c s root ends)) a.all g.each).0

      depth : w.follow.depth ≡ length cut
      depth =
          let l : length (path_ends (take w.follow.depth w.path.items)) ≤ length ends = front_length root ends (present c.masks w number) head in
          let m : length (path_ends (take w.follow.depth w.path.items)) ≡ w.follow.depth = a.long in
          let k : length cut ≡ min w.follow.depth (length ends) = ap (λ (es : List EndPoints). length es) cut_is ∙ length-take w.follow.depth ends in
          omega (arith, l, m, k)

      begun : (es : List EndPoints) (number later : ℕ) → ((w.follow.depth ≡ 0) × (later ≡ number)) ⊎ ((w.follow.depth ≢ 0) × (later ≡ root)) → w.follow.depth ≡ length es → root_of_path es number later ≡ later
      begun [] number later (inl h) d = sym h.1
      begun [] number later (inr h) d = absurd (h.0 d)
      begun (f ∷ es) number later h d = refl

  -- ---- the limit is what the state says

  pub remaining_less : (root : ℕ) (ends : List EndPoints) (w : RowWalk) (found : List Reached) (n : ℕ) → IsGoing c s root ends w found n → row_walk_left c w < n
  remaining_less root ends w found n g = let e : row_walk_left c w ≡ weight (most c) g.asked = remaining_is c g.first w g.asked g.at in let l : weight (most c) g.asked < n = g.fewer in omega (arith, e, l)

  pub with_limit : (root : ℕ) (ends : List EndPoints) (w : RowWalk) (found : List Reached) (n : ℕ) → IsGoing c s root ends w found n → IsGoing c s root ends w found (row_walk_left c w + 1)
  with_limit root ends w found n g = record {
    walkable = g.walkable;
    source_is = g.source_is;
    first = g.first;
    asked = g.asked;
    at = g.at;
    each = g.each;
    fewer = let e : row_walk_left c w ≡ weight (most c) g.asked = remaining_is c g.first w g.asked g.at in omega (arith, e);
    kept = g.kept;
    gone = g.gone;
    whole = g.whole;
    seen = g.seen;
    wanted = g.wanted;
  }

  -- ---- answers

  -- the judge's walk stands behind it, whose nodes that one blocks too
  pub blocked_walked : (root : ℕ) (ends : List EndPoints) (w new : RowWalk) (found : List Reached) (x : HalfEdge) (n : ℕ) (e : Evidence) (t : IsTried c s root ends w found x n) → IsBarredBy (ends ++ half_edge_ends x ∷ []) e → new.source ≡ w.source
      → ((first : List ℕ) (p : Pending) (rest : List Pending) → StandsAt c.masks first c.roots w (p ∷ rest) → StandsAt c.masks first c.roots new rest) → (row : List ℕ) (firsts : List (Option ℕ)) (tree : Tree) → IsTreeWalkedInRow c.edges c.masks row c.roots firsts tree w → IsTreeWalkedInRow c.edges c.masks row c.roots firsts (with_node (Blocked e) tree) new
  unfolding head_of
  blocked_walked root ends w new found x n e t bars same moves row firsts tree walked = record {
    source_is = same ∙ walked.source_is;
    each = λ es chain. go es (walked.each es chain);
  }
    where
      path_is : path_ends (take w.follow.depth w.path.items) ≡ ends
      path_is = (head_of root ends w found x n t).path_is

      blocks : BlocksEnds (path_ends (take w.follow.depth w.path.items) ++ half_edge_ends x ∷ []) e
      blocks = subst (λ (es : List EndPoints). BlocksEnds (es ++ half_edge_ends x ∷ []) e) (sym path_is) bars.blocks

      go : (es : List ℕ) → (ps : List Pending) × AreAnswered c.edges c.masks tree.source (pending_roots c.masks row es) tree.nodes ps × StandsAt c.masks row c.roots w ps
          → (ps : List Pending) × AreAnswered c.edges c.masks tree.source (pending_roots c.masks row es) (tree.nodes ++ Blocked e ∷ []) ps × StandsAt c.masks row c.roots new ps
      go es (ps, answered, at) =
          let a = asks_first c.masks row c.roots w ps t.number at t.is_asked in
          (a.rest, answered_more c.edges c.masks tree.source tree.nodes (Blocked e) (pending_roots c.masks row es) ps a.rest answered (present c.masks w t.number, a.rest, x, a.all, t.there, blocks, refl), moves row (present c.masks w t.number) a.rest (subst (StandsAt c.masks row c.roots w) a.all at))

  pub open_right : (root : ℕ) (ends : List EndPoints) (w : RowWalk) (found : List Reached) (x : HalfEdge) (n : ℕ) (t : IsTried c s root ends w found x n) → is_away (row_in_words w.rows.items c.masks.width w.follow.row) x.sector ≡ true
      → AnswersFirstInRow c.edges c.masks w.source t.going.asked Open (ways_through c.edges c.masks s.source (head_of root ends w found x n t).head x ++ (head_of root ends w found x n t).rest)
  open_right root ends w found x n t free =
      let h = head_of root ends w found x n t in (
        h.head,
        h.rest,
        x,
        h.all,
        h.there,
        away_more (row_through c.masks h.head) h.head.row x.sector (left_within h.head.row (mask_of_edge c.masks h.head.edge)) (subst (λ (r : List ℕ). is_away r x.sector ≡ true) (sym h.row_is) free),
        ap (λ (a : ℕ). ways_through c.edges c.masks a h.head x ++ h.rest) (sym t.going.source_is),
      )

  -- what is asked is the half-edge that is tried
  pub asked_there : (root : ℕ) (ends : List EndPoints) (w : RowWalk) (found : List Reached) (x : HalfEdge) (n number : ℕ) → IsTried c s root ends w found x n → w.follow.asked ≡ Some number → slice_get c.edges number ≡ Some x
  asked_there root ends w found x n number t e = subst (λ (i : ℕ). slice_get c.edges i ≡ Some x) (some_is_same t.number number (sym t.is_asked ∙ e)) t.there

  -- what the row before a half-edge hasn't, the row behind it hasn't
  pub away_asked : (w : RowWalk) (x : HalfEdge) (number : ℕ) → is_away (row_in_words w.rows.items c.masks.width w.follow.row) x.sector ≡ true → is_away (row_behind c.masks w.rows.items w.follow.row number) x.sector ≡ true
  away_asked w x number free = away_more (row_behind c.masks w.rows.items w.follow.row number) (row_in_words w.rows.items c.masks.width w.follow.row) x.sector (left_within (row_in_words w.rows.items c.masks.width w.follow.row) (mask_of_edge c.masks number)) free

  pub after_moved : (root later : ℕ) (ends other : List EndPoints) (w : RowWalk) (found more : List Reached) (n d : ℕ) → later ≡ root → other ≡ ends → more ≡ found → IsAfter c s root ends w found n d → IsAfter c s later other w more n d
  after_moved root later ends other w found more n d e f g h = rw (e, f, g) h

  -- so many portals are there as lead to it
  pub depth_within : (root : ℕ) (ends : List EndPoints) (w : RowWalk) (found : List Reached) (n number : ℕ) → IsGoing c s root ends w found n → w.follow.asked ≡ Some number → w.follow.depth ≤ length ends
  depth_within root ends w found n number g e =
      let a = asks_first c.masks g.first c.roots w g.asked number g.at e in
      let l : length (path_ends (take w.follow.depth w.path.items)) ≤ length ends = front_length root ends (present c.masks w number) (subst (AllByRecursion (IsToCome c s root ends)) a.all g.each).0 in
      let m : length (path_ends (take w.follow.depth w.path.items)) ≡ w.follow.depth = a.long in
      omega (arith, l, m)

  pub joins_there : (root : ℕ) (ends : List EndPoints) (w : RowWalk) (found : List Reached) (x : HalfEdge) (n : ℕ) → IsTried c s root ends w found x n → HasEndOfLast ends x.left_at x.right_at
  joins_there root ends w found x n t = (head_of root ends w found x n t).joins

  -- it came back to no row that may have what was found
  pub after_present : (root : ℕ) (ends : List EndPoints) (w : RowWalk) (found : List Reached) (n d : ℕ) → IsAfter c s root ends w found n d → (d < w.follow.depth) ⊎ (found ≡ []) → (k : ℕ) → w.follow.asked ≡ Some k → IsPresent c.masks.width w
  after_present root ends w found n d a (inl l) k e = a.deeper k e l
  after_present root ends w found n d a (inr none) k e = unfound_present root ends w found n k a.going e none
