-- What a judge of trees tells is one: the half-edges of a good mesh, and the first wrong node of the first tree that isn't whole.
use Rattle.std.proofs.Common.{◌≡◌, ℕ, zero, suc, ◌+◌, ◌*◌, ◌<◌, ◌≤◌, ◌⊎◌, inl, inr, List, [], ◌∷◌, ◌++◌, Option, Some, None, Bool, true, false, length, take, map, refl, sym, ◌∙◌, ap, subst, arith, ◌==◌, if◌then◌else◌, ◌/◌, ◌%◌}
use Rattle.std.specs.List.{slice_get, filter_map, cons_option}
use Rattle.std.proofs.lemmas.Option.{none-some, same_Some, slice_get_within, slice_get-map}
use Rattle.std.proofs.lemmas.List.{length-map}
use Rattle.std.specs.Prelude.{option_and_then, option_map}
use Rattle.sight_names.specs.declared.names.Triangle.{Triangle}
use Rattle.sight_names.specs.declared.names.Side.{Side}
use Rattle.sight_names.specs.Map.{Map, map_of}
use Rattle.sight_names.specs.Points.{Edge, place}
use Rattle.sight_names.specs.Plan.{PlanParts}
use Rattle.sight_names.specs.Mesh.{IsGoodMesh, HasEdge, triangle_at, label_of}
use Rattle.sight_names.specs.Sequence.{Portal, apex as apex_of, entry_edge, names_it, root_portal, roots as roots_of, IsSolidLine}
use Rattle.mesh_base.proofs.GoodMesh.{some_position, same_or_not, found_at}
use Rattle.block_evidence.specs.declared.sight_tree.Node.{Node}
use Rattle.block_evidence.specs.declared.sight_tree.Node.TheVariants.{Open, Blocked}
use Rattle.block_evidence.specs.Stuck.{BlocksEnds}
use Rattle.block_evidence.specs.declared.sight_tree.Tree.{Tree}
use Rattle.cert_format.specs.Parts.{CertParts}
use Rattle.cert_format.specs.Accepted.{triangles_of, labels_of}
use Rattle.mesh_shape.specs.declared.half_edges.table.HalfEdge.{HalfEdge}
use Rattle.mesh_shape.specs.HalfEdges.Numbers.{edge, corner_of, half_edge_number}
use Rattle.mesh_shape.specs.HalfEdges.Kinds.{portal_on}
use Rattle.mesh_shape.specs.HalfEdges.HalfEdges.{portal_into, entering, way_outside, IsHalfEdge, AreHalfEdges}
use Rattle.mesh_shape.proofs.HalfEdges.Numbers.{number_at}
use Rattle.mesh_shape.proofs.HalfEdges.Reached.{reached, not_reached}
use Rattle.cert_checker.specs.TreeJudge.Path.{Pending, pending_way, root_pending, list_of}
use Rattle.cert_checker.specs.TreeJudge.Roots.{way_out_of, root_edge, root_edges}
use Rattle.cert_checker.specs.TreeJudge.Whole.{ends_through, ways_through, AnswersFirst, AreAnswered, IsFirstWrongNode}
use Rattle.cert_checker.specs.TreeJudge.Trees.{IsFirstTreeNotWhole}
use Rattle.cert_checker.proofs.TreeJudge.OneAnswer.{one_answer}
use Rattle.math_base.proofs.Numbers.{tells_other, tells_same, below_same_or_above}
use Rattle.math_base.proofs.Lists.{get_there}
use Rattle.math_base.proofs.Options.{one_value}
use Rattle.mesh_base.proofs.CleanMesh.{edge_rp, edge_qr, edge_pq}

-- ---- each number is that of an edge

same_lists : {X : Type 0} (xs ys : List X) → length xs ≡ length ys → ((i : ℕ) (x y : X) → slice_get xs i ≡ Some x → slice_get ys i ≡ Some y → x ≡ y) → xs ≡ ys
same_lists [] [] e h = refl
same_lists [] (y ∷ ys) e h = absurd (omega (arith, e))
same_lists (x ∷ xs) [] e h = absurd (omega (arith, e))
same_lists (x ∷ xs) (y ∷ ys) e h = λ i. h 0 x y refl refl i ∷ same_lists xs ys (omega (arith, e)) (λ j. h (suc j)) i

module _ (m : Map) (ts : List Triangle) (ls : List (Option ℕ)) (good : IsGoodMesh m ts ls) where
  -- a directed edge of a triangle is found there
  found_there : (k : ℕ) (t : Triangle) (e : Edge) → slice_get ts k ≡ Some t → HasEdge t e → triangle_at ts e ≡ Some k
  found_there k t e is has = elim (same_or_not j.0 k) as (λ _. triangle_at ts e ≡ Some k) [
    | inl q ↦ j.1 ∙ ap Some q
    | inr n ↦ (let f = found_at ts e j.0 j.1 in absurd (good.plain.once j.0 k f.0 t e n f.1 is f.2 has))
  ]
    where
      j : (j : ℕ) × (triangle_at ts e ≡ Some j)
      j = some_position ts e k t is has

  at_corner : (k c d : ℕ) → c ≡ d → ◌≡◌ {A = Option ℕ} (Some (k * 3 + c)) (Some (k * 3 + d))
  at_corner k c d e = ap (λ (n : ℕ). let o : Option ℕ = Some (k * 3 + n) in o) e

  -- each number of the three of a triangle is that of an edge
  number_there : (k c : ℕ) (t : Triangle) → slice_get ts k ≡ Some t → c < 3 → (e : Edge) × (half_edge_number ts e ≡ Some (k * 3 + c))
  number_there k zero t is l = (edge t.p t.q, number_at ts (edge t.p t.q) k t (found_there k t (edge t.p t.q) is (edge_pq t)) is ∙ at_corner k (corner_of (edge t.p t.q) t) 0 (ap (λ (b : Bool). let n : ℕ = if b then 0 else (if t.q == t.p then 1 else 2) in n) (tells_same t.p t.p refl)))
  number_there k (suc zero) t is l = (edge t.q t.r, number_at ts (edge t.q t.r) k t (found_there k t (edge t.q t.r) is (edge_qr t)) is ∙ at_corner k (corner_of (edge t.q t.r) t) 1 (ap (λ (b : Bool). let n : ℕ = if b then 0 else (if t.q == t.q then 1 else 2) in n) (tells_other t.p t.q (λ e. let n = (good.plain.triangles.each k t is).least in omega (arith, n, e))) ∙ ap (λ (b : Bool). let n : ℕ = if b then 1 else 2 in n) (tells_same t.q t.q refl)))
  number_there k (suc (suc zero)) t is l = (edge t.r t.p, number_at ts (edge t.r t.p) k t (found_there k t (edge t.r t.p) is (edge_rp t)) is ∙ at_corner k (corner_of (edge t.r t.p) t) 2 (ap (λ (b : Bool). let n : ℕ = if b then 0 else (if t.q == t.r then 1 else 2) in n) (tells_other t.p t.r (λ e. let n = (good.plain.triangles.each k t is).least_too in omega (arith, n, e))) ∙ ap (λ (b : Bool). let n : ℕ = if b then 1 else 2 in n) (tells_other t.q t.r (good.plain.triangles.each k t is).differ)))
  number_there k (suc (suc (suc c))) t is l = absurd (omega (arith, l))

  -- a number below three times the triangles, by its triangle and its corner
  parts_of : (i n : ℕ) → i < n * 3 → (k : ℕ) × (c : ℕ) × (k < n) × (c < 3) × (i ≡ k * 3 + c)
  parts_of i n l = (i / 3, i % 3, omega arith, omega arith, omega arith)

  pub edge_of_number : (i : ℕ) → i < length ts * 3 → (e : Edge) × (half_edge_number ts e ≡ Some i)
  edge_of_number i l =
      let p = parts_of i (length ts) l in
      let t = get_there ts p.0 p.2 in
      let q = number_there p.0 p.1 t.0 t.1 p.3 in
      (q.0, q.1 ∙ ap (λ (n : ℕ). let o : Option ℕ = Some n in o) (sym p.4))

-- ---- the half-edges of a mesh are one list but for the sides of lines, of which several may lie on one edge

abbrev pub plain : HalfEdge → HalfEdge
plain x = record { left = x.left; right = x.right; apex = x.apex; left_at = x.left_at; right_at = x.right_at; triangle = x.triangle; sector = x.sector; solid = x.solid; entered = None; left_way = x.left_way; right_way = x.right_way }

plain_at : (xs : List HalfEdge) (i : ℕ) → slice_get (map plain xs) i ≡ option_map plain (slice_get xs i)
plain_at xs i = slice_get-map plain xs i

-- what is asked of a list doesn't look at those sides
plain_outside : (xs : List HalfEdge) (source : ℕ) (way : Option ℕ) → way_outside (map plain xs) source way ≡ way_outside xs source way
plain_outside xs source None = refl
plain_outside xs source (Some i) = ap (option_and_then (λ (x : HalfEdge). let o : Option ℕ = if names_it x.sector source then None else Some i in o)) (plain_at xs i) ∙ same (slice_get xs i)
  where
    same : (o : Option HalfEdge) → option_and_then (λ (x : HalfEdge). let o : Option ℕ = if names_it x.sector source then None else Some i in o) (option_map plain o) ≡ option_and_then (λ (x : HalfEdge). let o : Option ℕ = if names_it x.sector source then None else Some i in o) o
    same None = refl
    same (Some x) = refl

plain_entering : (ts : List Triangle) (xs : List HalfEdge) (e : Edge) → entering ts (map plain xs) e ≡ entering ts xs e
plain_entering ts xs e = at (half_edge_number ts e)
  where
    into : List HalfEdge → ℕ → Option ℕ
    into ys i = option_and_then (λ (x : HalfEdge). let o : Option ℕ = if x.solid then None else Some i in o) (slice_get ys i)

    same : (i : ℕ) (o : Option HalfEdge) → option_and_then (λ (x : HalfEdge). let n : Option ℕ = if x.solid then None else Some i in n) (option_map plain o) ≡ option_and_then (λ (x : HalfEdge). let n : Option ℕ = if x.solid then None else Some i in n) o
    same i None = refl
    same i (Some x) = refl

    at : (o : Option ℕ) → option_and_then (into (map plain xs)) o ≡ option_and_then (into xs) o
    at None = refl
    at (Some i) = ap (option_and_then (λ (x : HalfEdge). let o : Option ℕ = if x.solid then None else Some i in o)) (plain_at xs i) ∙ same i (slice_get xs i)

module _ (xs : List HalfEdge) (source : ℕ) where
  plain_ways : (p : Pending) (x : HalfEdge) → ways_through (map plain xs) source p (plain x) ≡ ways_through xs source p x
  plain_ways p x = λ i. pending_way (ends_through p x) (plain_outside xs source x.left_way i) ++ pending_way (ends_through p x) (plain_outside xs source x.right_way i)

  to_plain : (n : Node) (ps qs : List Pending) (here : List ℕ) → AnswersFirst xs source ps n qs here → AnswersFirst (map plain xs) source ps n qs here
  to_plain Open ps qs here (p, rest, x, first, is, e, f) = (p, rest, plain x, first, plain_at xs p.edge ∙ ap (option_map plain) is, e ∙ ap (λ (us : List Pending). us ++ rest) (sym (plain_ways p x)), f)
  to_plain (Blocked d) ps qs here (p, rest, x, first, is, blocks, e, f) = (p, rest, plain x, first, plain_at xs p.edge ∙ ap (option_map plain) is, blocks, e, f)

  -- the element that was made plain
  back_at : (i : ℕ) (y : HalfEdge) → slice_get (map plain xs) i ≡ Some y → (x : HalfEdge) × (slice_get xs i ≡ Some x) × (y ≡ plain x)
  back_at i y e = by (slice_get xs i) refl (sym (plain_at xs i) ∙ e)
    where
      by : (o : Option HalfEdge) → slice_get xs i ≡ o → option_map plain o ≡ Some y → (x : HalfEdge) × (slice_get xs i ≡ Some x) × (y ≡ plain x)
      by None h q = absurd (none-some y q)
      by (Some x) h q = (x, h, sym (same_Some (plain x) y q))

  from_plain : (n : Node) (ps qs : List Pending) (here : List ℕ) → AnswersFirst (map plain xs) source ps n qs here → AnswersFirst xs source ps n qs here
  from_plain Open ps qs here (p, rest, y, first, is, e, f) = on (back_at p.edge y is)
    where
      on : (x : HalfEdge) × (slice_get xs p.edge ≡ Some x) × (y ≡ plain x) → AnswersFirst xs source ps Open qs here
      on (x, at, q) = (p, rest, x, first, at, e ∙ ap (λ (z : HalfEdge). ways_through (map plain xs) source p z ++ rest) q ∙ ap (λ (us : List Pending). us ++ rest) (plain_ways p x), f ∙ ap (λ (z : HalfEdge). list_of z.sector) q)
  from_plain (Blocked d) ps qs here (p, rest, y, first, is, blocks, e, f) = on (back_at p.edge y is)
    where
      on : (x : HalfEdge) × (slice_get xs p.edge ≡ Some x) × (y ≡ plain x) → AnswersFirst xs source ps (Blocked d) qs here
      on (x, at, q) = (p, rest, x, first, at, subst (λ (z : HalfEdge). BlocksEnds (ends_through p z) d) q blocks, e, f)

  all_plain : (ns : List Node) (ps qs : List Pending) (sectors : List ℕ) → AreAnswered xs source ps ns qs sectors → AreAnswered (map plain xs) source ps ns qs sectors
  all_plain [] ps qs sectors f = f
  all_plain (n ∷ ns) ps qs sectors (rs, here, more, answer, behind, e) = (rs, here, more, to_plain n ps rs here answer, all_plain ns rs qs more behind, e)

  first_plain : (ps : List Pending) (ns : List Node) (k : ℕ) → IsFirstWrongNode xs source ps ns k → IsFirstWrongNode (map plain xs) source ps ns k
  first_plain ps ns k f = record {
    left = f.left;
    sectors = f.sectors;
    within = f.within;
    before = all_plain (take k ns) ps f.left f.sectors f.before;
    wrong = λ n e qs here answer. f.wrong n e qs here (from_plain n f.left qs here answer);
    missing = f.missing;
  }

plain_roots : (m : Map) (ts : List Triangle) (xs : List HalfEdge) (source : ℕ) → root_edges ts (map plain xs) m source ≡ root_edges ts xs m source
plain_roots m ts xs source = each (roots_of m source)
  where
    one : (s : Side) → root_edge ts (map plain xs) m source s ≡ root_edge ts xs m source s
    one s = at (root_portal m s)
      where
        at : (o : Option Portal) → option_and_then (λ (p : Portal). way_out_of ts (map plain xs) source (entry_edge p)) o ≡ option_and_then (λ (p : Portal). way_out_of ts xs source (entry_edge p)) o
        at None = refl
        at (Some p) = plain_outside xs source (entering ts (map plain xs) (entry_edge p)) ∙ ap (way_outside xs source) (plain_entering ts xs (entry_edge p))

    each : (ss : List Side) → filter_map (root_edge ts (map plain xs) m source) ss ≡ filter_map (root_edge ts xs m source) ss
    each [] = refl
    each (s ∷ ss) = λ i. cons_option (one s i) (each ss i)

-- two lists of one map's half-edges are equal, made plain
module _ (m : Map) (ts : List Triangle) (ls : List (Option ℕ)) (good : IsGoodMesh m ts ls) (p q : PlanParts) (of_p : map_of p ≡ m) (of_q : map_of q ≡ m) where
  pub one_plain : (e : Edge) (x y : HalfEdge) (xs ys : List HalfEdge) → IsHalfEdge p ts ls xs e x → IsHalfEdge q ts ls ys e y → ((d : Edge) → entering ts xs d ≡ entering ts ys d) → plain x ≡ plain y
  one_plain e x y xs ys f g ways = all left right apex (f.left_at ∙ place_of x.left y.left left ∙ sym g.left_at) (f.right_at ∙ place_of x.right y.right right ∙ sym g.right_at) triangle (sym f.label ∙ ap (label_of ls) triangle ∙ g.label)
      (one_solid x.solid y.solid refl refl)
      (f.left_way ∙ ways (edge x.left x.apex) ∙ (λ i. entering ts ys (edge (left i) (apex i))) ∙ sym g.left_way) (f.right_way ∙ ways (edge x.apex x.right) ∙ (λ i. entering ts ys (edge (apex i) (right i))) ∙ sym g.right_way)
    where
      portals : portal_into x ≡ portal_into y
      portals = f.portal ∙ sym g.portal

      left : x.left ≡ y.left
      left = ap (λ (r : Portal). r.left) portals

      right : x.right ≡ y.right
      right = ap (λ (r : Portal). r.right) portals

      apex : x.apex ≡ y.apex
      apex = same_Some x.apex y.apex (sym f.third ∙ ap (apex_of ts) portals ∙ g.third)

      triangle : x.triangle ≡ y.triangle
      triangle = same_Some x.triangle y.triangle (sym f.triangle ∙ g.triangle)

      place_of : (a b : ℕ) → a ≡ b → place (map_of p) a ≡ place (map_of q) b
      place_of a b h = λ i. place ((of_p ∙ sym of_q) i) (h i)

      solid_to : IsSolidLine (map_of p) (portal_into x) → IsSolidLine (map_of q) (portal_into y)
      solid_to s = subst (λ (r : Portal). IsSolidLine (map_of q) r) portals (subst (λ (n : Map). IsSolidLine n (portal_into x)) (of_p ∙ sym of_q) s)

      solid_back : IsSolidLine (map_of q) (portal_into y) → IsSolidLine (map_of p) (portal_into x)
      solid_back s = subst (λ (r : Portal). IsSolidLine (map_of p) r) (sym portals) (subst (λ (n : Map). IsSolidLine n (portal_into y)) (of_q ∙ sym of_p) s)

      one_solid : (b c : Bool) → x.solid ≡ b → y.solid ≡ c → x.solid ≡ y.solid
      one_solid true c h k = h ∙ sym (g.solid.1 (solid_to (f.solid.0 h)))
      one_solid false true h k = f.solid.1 (solid_back (g.solid.0 k)) ∙ sym k
      one_solid false false h k = h ∙ sym k

      all : x.left ≡ y.left → x.right ≡ y.right → x.apex ≡ y.apex → x.left_at ≡ y.left_at → x.right_at ≡ y.right_at → x.triangle ≡ y.triangle → x.sector ≡ y.sector → x.solid ≡ y.solid → x.left_way ≡ y.left_way → x.right_way ≡ y.right_way → plain x ≡ plain y
      all a b c d e f g h j k = λ i. record { left = a i; right = b i; apex = c i; left_at = d i; right_at = e i; triangle = f i; sector = g i; solid = h i; entered = None; left_way = j i; right_way = k i }

  -- the ways of the two agree
  pub one_way : (xs ys : List HalfEdge) → AreHalfEdges p ts ls xs → AreHalfEdges q ts ls ys → (d : Edge) → entering ts xs d ≡ entering ts ys d
  one_way xs ys f g d = at (entering ts xs d) (entering ts ys d) refl refl
    where
      to : IsSolidLine (map_of p) (portal_on d) → IsSolidLine (map_of q) (portal_on d)
      to s = subst (λ (n : Map). IsSolidLine n (portal_on d)) (of_p ∙ sym of_q) s

      back : IsSolidLine (map_of q) (portal_on d) → IsSolidLine (map_of p) (portal_on d)
      back s = subst (λ (n : Map). IsSolidLine n (portal_on d)) (of_q ∙ sym of_p) s

      closed_one : (i : ℕ) → entering ts xs d ≡ Some i → (triangle_at ts d ≡ None) ⊎ IsSolidLine (map_of q) (portal_on d) → ⊥
      closed_one i h (inl n) = (let r = reached p ts ls xs f d i h in none-some r.x.triangle (sym n ∙ r.is.triangle))
      closed_one i h (inr s) = (let r = reached p ts ls xs f d i h in r.no_wall (subst (IsSolidLine (map_of p)) (sym r.is.portal) (back s)))

      closed_other : (i : ℕ) → entering ts ys d ≡ Some i → (triangle_at ts d ≡ None) ⊎ IsSolidLine (map_of p) (portal_on d) → ⊥
      closed_other i h (inl n) = (let r = reached q ts ls ys g d i h in none-some r.x.triangle (sym n ∙ r.is.triangle))
      closed_other i h (inr s) = (let r = reached q ts ls ys g d i h in r.no_wall (subst (IsSolidLine (map_of q)) (sym r.is.portal) (to s)))

      at : (a b : Option ℕ) → entering ts xs d ≡ a → entering ts ys d ≡ b → entering ts xs d ≡ entering ts ys d
      at None None h k = h ∙ sym k
      at (Some i) (Some j) h k = h ∙ (let r = reached p ts ls xs f d i h in let s = reached q ts ls ys g d j k in sym r.number ∙ s.number) ∙ sym k
      at (Some i) None h k = absurd (closed_one i h (not_reached q ts ls ys g d k))
      at None (Some j) h k = absurd (closed_other j k (not_reached p ts ls xs f d h))

  one_list : (xs ys : List HalfEdge) → AreHalfEdges p ts ls xs → AreHalfEdges q ts ls ys → map plain xs ≡ map plain ys
  one_list xs ys f g = same_lists (map plain xs) (map plain ys) (length-map xs plain ∙ f.len ∙ sym g.len ∙ sym (length-map ys plain)) at
    where
      at : (i : ℕ) (a b : HalfEdge) → slice_get (map plain xs) i ≡ Some a → slice_get (map plain ys) i ≡ Some b → a ≡ b
      at i a b h k =
          let x = back_at xs 0 i a h in
          let y = back_at ys 0 i b k in
          let e = edge_of_number m ts ls good i (let s = slice_get_within xs i x.0 x.1 in omega (arith, s, f.len)) in
          let u = f.each e.0 i e.1 in
          let v = g.each e.0 i e.1 in
          x.2 ∙ ap plain (same_Some x.0 u.0 (sym x.1 ∙ u.1)) ∙ one_plain e.0 u.0 v.0 xs ys u.2 v.2 (one_way xs ys f g) ∙ ap plain (same_Some v.0 y.0 (sym v.1 ∙ y.1)) ∙ sym y.2

-- ---- trees

module _ (xs : List HalfEdge) (source : ℕ) where
  -- a node that is answered isn't the first wrong one
  not_yet : (ns : List Node) (j k : ℕ) (ps left last : List Pending) (some all : List ℕ) → j < k → k ≤ length ns → AreAnswered xs source ps (take j ns) left some → AreAnswered xs source ps (take k ns) last all
      → ((n : Node) → slice_get ns j ≡ Some n → (qs : List Pending) (here : List ℕ) → ¬ AnswersFirst xs source left n qs here) → ⊥
  not_yet [] j k ps left last some all l few before whole wrong = omega (arith, l, few)
  not_yet (n ∷ ns) j zero ps left last some all l few before whole wrong = omega (arith, l)
  not_yet (n ∷ ns) zero (suc k) ps left last some all l few before (rs, here, more, answer, behind, e) wrong = wrong n refl rs here (subst (λ (us : List Pending). AnswersFirst xs source us n rs here) (sym before.0) answer)
  not_yet (n ∷ ns) (suc j) (suc k) ps left last some all l few (us, there, others, first, before, f) (rs, here, more, answer, behind, e) wrong =
      not_yet ns j k us left last others more (omega (arith, l)) (omega (arith, few)) before (subst (λ (qs : List Pending). AreAnswered xs source qs (take k ns) last more) (one_answer xs source n ps rs us here there answer first).0 behind) wrong

  no_later : (ps : List Pending) (ns : List Node) (j k : ℕ) → j < k → IsFirstWrongNode xs source ps ns j → IsFirstWrongNode xs source ps ns k → ⊥
  no_later ps ns j k l f g = not_yet ns j k ps f.left g.left f.sectors g.sectors l g.within f.before g.before f.wrong

  one_first_wrong : (ps : List Pending) (ns : List Node) (j k : ℕ) → IsFirstWrongNode xs source ps ns j → IsFirstWrongNode xs source ps ns k → j ≡ k
  one_first_wrong ps ns j k f g = by (below_same_or_above j k)
    where
      by : (j < k) ⊎ (j ≡ k) ⊎ (k < j) → j ≡ k
      by (inl l) = absurd (no_later ps ns j k l f g)
      by (inr (inl e)) = e
      by (inr (inr l)) = absurd (no_later ps ns k j l g f)

module _ (m : Map) (c : CertParts) (good : IsGoodMesh m (triangles_of c) (labels_of c)) where
  -- the first tree that isn't whole is one, and so is its first wrong node
  pub one_wrong_tree : (s k t j : ℕ) → IsFirstTreeNotWhole m c s k → IsFirstTreeNotWhole m c t j → (s ≡ t) × (k ≡ j)
  one_wrong_tree s k t j f g = by (below_same_or_above f.place g.place)
    where
      edges : map plain g.edges ≡ map plain f.edges
      edges = one_list m (triangles_of c) (labels_of c) good g.plan f.plan g.of_map f.of_map g.edges f.edges g.are_edges f.are_edges

      by : (f.place < g.place) ⊎ (f.place ≡ g.place) ⊎ (g.place < f.place) → (s ≡ t) × (k ≡ j)
      by (inl l) = absurd (let w = g.before f.place f.tree l f.is in f.not_whole w.0 w.1)
      by (inr (inr l)) = absurd (let w = f.before g.place g.tree l g.is in g.not_whole w.0 w.1)
      by (inr (inl e)) = (sym f.of ∙ ap (λ (x : Tree). x.source) (sym same) ∙ g.of, number)
        where
          same : g.tree ≡ f.tree
          same = one_value (slice_get c.trees f.place) g.tree f.tree (ap (slice_get c.trees) e ∙ g.is) f.is

          -- made plain, the two tell of one list
          IsNode : ℕ → List HalfEdge → Tree → Type 0
          IsNode n xs x = IsFirstWrongNode xs x.source (map root_pending (root_edges (triangles_of c) xs m x.source)) x.nodes n

          plainly : (n : ℕ) (xs : List HalfEdge) (x : Tree) → IsNode n xs x → IsNode n (map plain xs) x
          plainly n xs x h = subst (λ (es : List ℕ). IsFirstWrongNode (map plain xs) x.source (map root_pending es) x.nodes n) (sym (plain_roots m (triangles_of c) xs x.source)) (first_plain xs x.source (map root_pending (root_edges (triangles_of c) xs m x.source)) x.nodes n h)

          moved : IsNode j (map plain f.edges) f.tree
          moved = subst (IsNode j (map plain f.edges)) same (subst (λ (xs : List HalfEdge). IsNode j xs g.tree) edges (plainly j g.edges g.tree g.node))

          number : k ≡ j
          number = one_first_wrong (map plain f.edges) f.tree.source _ f.tree.nodes k j (plainly k f.edges f.tree f.node) moved
