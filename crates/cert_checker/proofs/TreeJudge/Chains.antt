-- The chains of the sources' roots, a root and a line at a time.
use Rattle.std.proofs.Common.{◌≡◌, ◌≢◌, ℕ, zero, suc, ◌+◌, ◌<◌, ◌≤◌, ◌⊎◌, inl, inr, List, [], ◌∷◌, ◌++◌, Option, Some, None, length, get_or, map, drop, set, Bool, true, false, not, ◌&&◌, ◌==◌, refl, sym, ◌∙◌, ap, subst, arith, if◌then◌else◌, cond, eqb, eqb-true, eq-eqb, true≢false, replicate, drop-cons}
use Rattle.std.specs.List.{slice_get, filter, filter_map, cons_option, flat_map, enumerate_from}
use Rattle.std.specs.Option.{option_eq}
use Rattle.std.specs.Prelude.{option_and_then, option_map, IfOk, Result, Ok, Err}
use Rattle.std.proofs.lemmas.Bool.{cases_lt}
use Rattle.std.proofs.lemmas.Option.{slice_get_within, get_or_from_slice_get}
use Rattle.std.proofs.lemmas.Bool.Decides.{eqb_tells}
use Rattle.std.proofs.lemmas.List.{append_assoc, append-nil, length-set, drop_all, length-replicate}
use Rattle.std.proofs.lemmas.List.Elements.{filter-append, filter_map-append}
use Rattle.sight_names.specs.declared.names.Side.{Side}
use Rattle.sight_names.specs.declared.names.Triangle.{Triangle}
use Rattle.sight_names.specs.declared.plan.Line.{Line}
use Rattle.sight_names.specs.Plan.{PlanParts, IsPlan}
use Rattle.sight_names.specs.Points.{Edge, line_edge}
use Rattle.sight_names.specs.Map.{MapLine, map_of, looked_up}
use Rattle.sight_names.specs.Sequence.{Portal, entry_edge, both_sides, is_root, names_it, root_portal}
use Rattle.sight_names.proofs.PlanNumbers.{line_edge_of_plan}
use Rattle.geom_exact.proofs.ExtremeLines.EndsLemmas.{get_append}
use Rattle.mesh_shape.proofs.RuleLemmas.{plan_line_at}
use Rattle.cert_checker.specs.declared.tree_judge.roots.Root.{Root}
use Rattle.mesh_shape.specs.declared.half_edges.table.HalfEdge.{HalfEdge}
use Rattle.mesh_shape.specs.HalfEdges.Numbers.{edge}
use Rattle.mesh_shape.specs.HalfEdges.HalfEdges.{entering, way_outside}
use Rattle.cert_checker.specs.TreeJudge.Path.{IsRootChain, list_of}
use Rattle.cert_checker.specs.TreeJudge.Roots.{first_at, PutsFirst, PutsBefore, way_out_of, side_edges, half_edges_of_line, root_edge, AreRootChains}
use Rattle.sight_names.proofs.Roots.{root_test, names_true}

-- ---- roots put before others

chain_kept : (roots more : List Root) (o : Option ℕ) (es : List ℕ) → IsRootChain roots o es → IsRootChain (roots ++ more) o es
chain_kept roots more o [] c = c
chain_kept roots more o (e ∷ es) (k, r, p, q, f, c) = (k, r, p, get_append roots more k r q, f, chain_kept roots more r.next es c)

last_root : (roots : List Root) (r : Root) → slice_get (roots ++ r ∷ []) (length roots) ≡ Some r
last_root [] r = refl
last_root (s ∷ roots) r = last_root roots r

get_set : (xs : List (Option ℕ)) (i : ℕ) (x : Option ℕ) → i < length xs → slice_get (set xs i x) i ≡ Some x
get_set [] i x l = absurd (omega arith)
get_set (y ∷ xs) zero x l = refl
get_set (y ∷ xs) (suc i) x l = get_set xs i x (omega arith)

get_other : (xs : List (Option ℕ)) (i j : ℕ) (x : Option ℕ) → i ≢ j → slice_get (set xs i x) j ≡ slice_get xs j
get_other [] i j x n = refl
get_other (y ∷ xs) zero zero x n = absurd (n refl)
get_other (y ∷ xs) zero (suc j) x n = refl
get_other (y ∷ xs) (suc i) zero x n = refl
get_other (y ∷ xs) (suc i) (suc j) x n = get_other xs i j x (λ e. n (ap suc e))

pub before_none : (edges : ℕ → List ℕ) (roots : List Root) (firsts : List (Option ℕ)) → ((s : ℕ) → edges s ≡ []) → PutsBefore edges roots firsts roots firsts
before_none edges roots firsts e = record { len = refl; chains = λ s l es c. subst (IsRootChain roots (first_at firsts s)) (ap (λ (fs : List ℕ). fs ++ es) (sym (e s))) c }

pub before_as : (edges others : ℕ → List ℕ) (roots new : List Root) (firsts firsts_new : List (Option ℕ)) → ((s : ℕ) → edges s ≡ others s) → PutsBefore edges roots firsts new firsts_new → PutsBefore others roots firsts new firsts_new
before_as edges others roots new firsts firsts_new e p = record { len = p.len; chains = λ s l es c. subst (IsRootChain new (first_at firsts_new s)) (ap (λ (fs : List ℕ). fs ++ es) (e s)) (p.chains s l es c) }

pub before_both : (edges others : ℕ → List ℕ) (roots middle new : List Root) (firsts firsts_middle firsts_new : List (Option ℕ)) → PutsBefore edges roots firsts middle firsts_middle → PutsBefore others middle firsts_middle new firsts_new
    → PutsBefore (λ s. others s ++ edges s) roots firsts new firsts_new
before_both edges others roots middle new firsts firsts_middle firsts_new p q = record {
  len = q.len ∙ p.len;
  chains = λ s l es c. subst (IsRootChain new (first_at firsts_new s)) (sym (append_assoc (others s) (edges s) es)) (q.chains s (let h : length firsts_middle ≡ length firsts = p.len in omega (arith, h, l)) (edges s ++ es) (p.chains s l es c));
}

abbrev pub one_edge : ℕ → ℕ → ℕ → List ℕ
one_edge source number s = if source == s then number ∷ [] else []

pub puts_before : (source number : ℕ) (roots new : List Root) (firsts firsts_new : List (Option ℕ)) → PutsFirst source number roots firsts new firsts_new → PutsBefore (one_edge source number) roots firsts new firsts_new
puts_before source number roots new firsts firsts_new p = record {
  len = elim (cases_lt source (length firsts)) as (λ _. length firsts_new ≡ length firsts) [ inl l ↦ ap length (p.first l) ∙ length-set firsts source (Some (length roots)) | inr l ↦ ap length (p.no_place l).1 ];
  chains = λ s l es c. by s l es c (eqb_tells source s);
}
  where
    put : Root
    put = record { edge = number; next = first_at firsts source }

    here : (s : ℕ) → source ≡ s → source < length firsts → first_at firsts_new s ≡ Some (length roots)
    here s e l = ap (λ (o : Option (Option ℕ)). option_and_then (λ (q : Option ℕ). q) o) (ap (slice_get firsts_new) (sym e) ∙ ap (λ (fs : List (Option ℕ)). slice_get fs source) (p.first l) ∙ get_set firsts source (Some (length roots)) l)

    there : (s : ℕ) → source ≢ s → source < length firsts → first_at firsts_new s ≡ first_at firsts s
    there s n l = ap (λ (o : Option (Option ℕ)). option_and_then (λ (q : Option ℕ). q) o) (ap (λ (fs : List (Option ℕ)). slice_get fs s) (p.first l) ∙ get_other firsts source s (Some (length roots)) n)

    more : (o : Option ℕ) (es : List ℕ) → source < length firsts → IsRootChain roots o es → IsRootChain new o es
    more o es l c = subst (λ (rs : List Root). IsRootChain rs o es) (sym (p.put l)) (chain_kept roots (put ∷ []) o es c)

    first : (s : ℕ) (es : List ℕ) → source ≡ s → source < length firsts → IsRootChain roots (first_at firsts s) es → IsRootChain new (first_at firsts_new s) (number ∷ es)
    first s es e l c = (length roots, put, here s e l, ap (λ (rs : List Root). slice_get rs (length roots)) (p.put l) ∙ last_root roots put, refl, more (first_at firsts source) es l (subst (λ (k : ℕ). IsRootChain roots (first_at firsts k) es) (sym e) c))

    other : (s : ℕ) (es : List ℕ) → source ≢ s → IsRootChain roots (first_at firsts s) es → IsRootChain new (first_at firsts_new s) es
    other s es n c = elim (cases_lt source (length firsts)) as (λ _. IsRootChain new (first_at firsts_new s) es) [
      | inl l ↦ subst (λ (o : Option ℕ). IsRootChain new o es) (sym (there s n l)) (more (first_at firsts s) es l c)
      | inr l ↦ subst (λ (rs : List Root). IsRootChain rs (first_at firsts_new s) es) (sym (p.no_place l).0) (subst (λ (fs : List (Option ℕ)). IsRootChain roots (first_at fs s) es) (sym (p.no_place l).1) c)
    ]

    by : (s : ℕ) → s < length firsts → (es : List ℕ) → IsRootChain roots (first_at firsts s) es → (((source == s) ≡ true) × (source ≡ s)) ⊎ (((source == s) ≡ false) × (source ≢ s)) → IsRootChain new (first_at firsts_new s) (one_edge source number s ++ es)
    by s l es c (inl e) = subst (λ (b : Bool). IsRootChain new (first_at firsts_new s) ((let es : List ℕ = if b then number ∷ [] else [] in es) ++ es)) (sym e.0) (first s es e.1 (omega (arith, l, e.1)) c)
    by s l es c (inr e) = subst (λ (b : Bool). IsRootChain new (first_at firsts_new s) ((let es : List ℕ = if b then number ∷ [] else [] in es) ++ es)) (sym e.0) (other s es e.1 c)

-- ---- one side and one line

by_flag : (b : Bool) (u v : List ℕ) → (b ≡ true → u ≡ v) → (let us : List ℕ = if b then u else [] in us) ≡ (if b then v else [])
by_flag true u v e = e refl
by_flag false u v e = refl

module _ (ts : List Triangle) (xs : List HalfEdge) where
  out_is : (source : ℕ) (e : Edge) (way o : Option ℕ) → way ≡ entering ts xs e → o ≡ way_outside xs source way → o ≡ way_out_of ts xs source e
  out_is source e way o is f = f ∙ ap (way_outside xs source) is

  same_out : (source s : ℕ) (e : Edge) (o : Option ℕ) → (source == s) ≡ true → o ≡ way_out_of ts xs source e → list_of o ≡ list_of (way_out_of ts xs s e)
  same_out source s e o h f = ap list_of (f ∙ ap (λ (k : ℕ). way_out_of ts xs k e) (eqb-true source s h))

  pub side_put : (source number : ℕ) (e : Edge) (way : Option ℕ) (roots new : List Root) (firsts firsts_new : List (Option ℕ)) → way ≡ entering ts xs e → Some number ≡ way_outside xs source way
      → PutsFirst source number roots firsts new firsts_new → PutsBefore (side_edges ts xs (Some source) e) roots firsts new firsts_new
  side_put source number e way roots new firsts firsts_new is f p = before_as (one_edge source number) (side_edges ts xs (Some source) e) roots new firsts firsts_new
      (λ s. by_flag (source == s) (number ∷ []) (list_of (way_out_of ts xs s e)) (λ h. same_out source s e (Some number) h (out_is source e way (Some number) is f)))
      (puts_before source number roots new firsts firsts_new p)

  pub side_left_out : (source : ℕ) (e : Edge) (way : Option ℕ) (roots : List Root) (firsts : List (Option ℕ)) → way ≡ entering ts xs e → None ≡ way_outside xs source way → PutsBefore (side_edges ts xs (Some source) e) roots firsts roots firsts
  side_left_out source e way roots firsts is f = before_none (side_edges ts xs (Some source) e) roots firsts
      (λ s. sym (by_flag (source == s) [] (list_of (way_out_of ts xs s e)) (λ h. same_out source s e None h (out_is source e way None is f))) ∙ nothing (source == s))
    where
      nothing : (b : Bool) → (let us : List ℕ = if b then [] else [] in us) ≡ []
      nothing true = refl
      nothing false = refl

  pub side_unnamed : (e : Edge) (roots : List Root) (firsts : List (Option ℕ)) → PutsBefore (side_edges ts xs None e) roots firsts roots firsts
  side_unnamed e roots firsts = before_none (side_edges ts xs None e) roots firsts (λ s. refl)

  -- of two sides that name different sectors, or none, one at most names this one
  alone : (o other : Option ℕ) (s : ℕ) → (o ≡ other → ⊥) → (names_it o s && not (names_it other s)) ≡ names_it o s
  alone o other s n = at (names_it o s) (names_it other s) refl refl
    where
      join : (x y b c : Bool) → x ≡ b → y ≡ c → (b && not c) ≡ b → (x && not y) ≡ x
      join x y b c e f g = cc

      at : (b c : Bool) → names_it o s ≡ b → names_it other s ≡ c → (names_it o s && not (names_it other s)) ≡ names_it o s
      at true true e f = absurd (n (names_true o s e ∙ sym (names_true other s f)))
      at true false e f = join (names_it o s) (names_it other s) true false e f refl
      at false true e f = join (names_it o s) (names_it other s) false true e f refl
      at false false e f = join (names_it o s) (names_it other s) false false e f refl

  pub line_apart : (l : Line) (s : ℕ) → l.solid ≡ false → (l.left ≡ l.right → ⊥) → side_edges ts xs l.right (edge l.a l.b) s ++ side_edges ts xs l.left (edge l.b l.a) s ≡ half_edges_of_line ts xs (Some l) s
  line_apart l s e n = sym (
      ap (λ (b : Bool). let us : List ℕ = if b then [] else (if names_it l.right s && not (names_it l.left s) then list_of (way_out_of ts xs s (edge l.a l.b)) else []) ++ (if names_it l.left s && not (names_it l.right s) then list_of (way_out_of ts xs s (edge l.b l.a)) else []) in us) e
      ∙ ap (λ (b : Bool). (let us : List ℕ = if b then list_of (way_out_of ts xs s (edge l.a l.b)) else [] in us) ++ (let vs : List ℕ = if names_it l.left s && not (names_it l.right s) then list_of (way_out_of ts xs s (edge l.b l.a)) else [] in vs)) (alone l.right l.left s (λ h. n (sym h)))
      ∙ ap (λ (b : Bool). side_edges ts xs l.right (edge l.a l.b) s ++ (let vs : List ℕ = if b then list_of (way_out_of ts xs s (edge l.b l.a)) else [] in vs)) (alone l.left l.right s n))

  pub line_solid : (l : Line) (s : ℕ) → l.solid ≡ true → half_edges_of_line ts xs (Some l) s ≡ []
  line_solid l s e = ap (λ (b : Bool). let us : List ℕ = if b then [] else (if names_it l.right s && not (names_it l.left s) then list_of (way_out_of ts xs s (edge l.a l.b)) else []) ++ (if names_it l.left s && not (names_it l.right s) then list_of (way_out_of ts xs s (edge l.b l.a)) else []) in us) e

  pub line_within : (l : Line) (s : ℕ) → l.left ≡ l.right → half_edges_of_line ts xs (Some l) s ≡ []
  line_within l s e = ap (λ (o : Option ℕ). let us : List ℕ = if l.solid then [] else (if names_it l.right s && not (names_it o s) then list_of (way_out_of ts xs s (edge l.a l.b)) else []) ++ (if names_it o s && not (names_it l.right s) then list_of (way_out_of ts xs s (edge l.b l.a)) else []) in us) e
      ∙ both l.solid (names_it l.right s) (list_of (way_out_of ts xs s (edge l.a l.b))) (list_of (way_out_of ts xs s (edge l.b l.a)))
    where
      both : (solid b : Bool) (u v : List ℕ) → (let us : List ℕ = if solid then [] else (if b && not b then u else []) ++ (if b && not b then v else []) in us) ≡ []
      both true b u v = refl
      both false true u v = refl
      both false false u v = refl

-- ---- the lines from one on

kept_one : {X : Type 0} (f : X → Option ℕ) (P : X → Bool) (x : X) (ys : List X) → filter_map f (filter P (x ∷ ys)) ≡ (if P x then list_of (f x) else []) ++ filter_map f (filter P ys)
kept_one {X = X} f P x ys = at (P x)
  where
    head : (o : Option ℕ) (zs : List ℕ) → cons_option o zs ≡ list_of o ++ zs
    head None zs = refl
    head (Some i) zs = refl

    at : (b : Bool) → filter_map f (cond b (x ∷ filter P ys) (filter P ys)) ≡ (if b then list_of (f x) else []) ++ filter_map f (filter P ys)
    at true = head (f x) (filter_map f (filter P ys))
    at false = refl

shape : (s r l : Bool) (u v : List ℕ) → (let us : List ℕ = if not s && r && not l then u else [] in us) ++ ((let vs : List ℕ = if not s && l && not r then v else [] in vs) ++ [])
    ≡ (if s then [] else (if r && not l then u else []) ++ (if l && not r then v else []))
shape true r l u v = refl
shape false true true u v = refl
shape false true false u v = refl
shape false false true u v = append-nil v
shape false false false u v = refl

module _ (ts : List Triangle) (xs : List HalfEdge) (p : PlanParts) where
  abbrev the_root : ℕ → Side → Option ℕ
  the_root s side = root_edge ts xs (map_of p) s side

  right_portal : IsPlan p → (k : ℕ) (l : Line) → slice_get p.lines k ≡ Some (Some l) → ◌≡◌ {A = Option Portal} (root_portal (map_of p) (record { line = k; left = false })) (Some (record { left = l.a; right = l.b }))
  right_portal is k l e = ap (option_map (λ (x : MapLine). let q : Portal = record { left = (line_edge (map_of p) x).from; right = (line_edge (map_of p) x).to } in q)) (plan_line_at p k l e)
      ∙ ap (λ (d : Edge). let q : Portal = record { left = d.from; right = d.to } in Some q) (line_edge_of_plan p is k l e)

  left_portal : IsPlan p → (k : ℕ) (l : Line) → slice_get p.lines k ≡ Some (Some l) → ◌≡◌ {A = Option Portal} (root_portal (map_of p) (record { line = k; left = true })) (Some (record { left = l.b; right = l.a }))
  left_portal is k l e = ap (option_map (λ (x : MapLine). let q : Portal = record { left = (line_edge (map_of p) x).to; right = (line_edge (map_of p) x).from } in q)) (plan_line_at p k l e)
      ∙ ap (λ (d : Edge). let q : Portal = record { left = d.to; right = d.from } in Some q) (line_edge_of_plan p is k l e)

  line_part : IsPlan p → (s k : ℕ) (entry : Option Line) → slice_get p.lines k ≡ Some entry → filter_map (the_root s) (filter (is_root (map_of p) s) (both_sides (k, option_map (looked_up p.points) entry))) ≡ half_edges_of_line ts xs entry s
  line_part is s k None e = refl
  line_part is s k (Some l) e =
      kept_one (the_root s) (is_root (map_of p) s) right (left ∷ [])
      ∙ ap (λ (us : List ℕ). (if is_root (map_of p) s right then list_of (the_root s right) else []) ++ us) (kept_one (the_root s) (is_root (map_of p) s) left [])
      ∙ join (is_root (map_of p) s right) (is_root (map_of p) s left) (the_root s right) (the_root s left)
      (root_test (map_of p) s right (looked_up p.points l) (plan_line_at p k l e)) (root_test (map_of p) s left (looked_up p.points l) (plan_line_at p k l e))
      (ap (option_and_then (λ (q : Portal). way_out_of ts xs s (entry_edge q))) (right_portal is k l e)) (ap (option_and_then (λ (q : Portal). way_out_of ts xs s (entry_edge q))) (left_portal is k l e))
      ∙ shape l.solid (names_it l.right s) (names_it l.left s) (list_of (way_out_of ts xs s (edge l.a l.b))) (list_of (way_out_of ts xs s (edge l.b l.a)))
    where
      right : Side
      right = record { line = k; left = false }

      left : Side
      left = record { line = k; left = true }

      join : (b c : Bool) (u v : Option ℕ) {d f : Bool} {x y : Option ℕ} → b ≡ d → c ≡ f → u ≡ x → v ≡ y → (let us : List ℕ = if b then list_of u else [] in us) ++ ((let vs : List ℕ = if c then list_of v else [] in vs) ++ [])
          ≡ (if d then list_of x else []) ++ ((if f then list_of y else []) ++ [])
      join b c u v e f g h = λ i. (let us : List ℕ = if e i then list_of (g i) else [] in us) ++ ((let vs : List ℕ = if f i then list_of (h i) else [] in vs) ++ [])

  -- the half-edges of the roots on the lines from number k on
  abbrev pub roots_from : ℕ → ℕ → List ℕ
  roots_from s k = filter_map (the_root s) (filter (is_root (map_of p) s) (flat_map both_sides (enumerate_from k (map (option_map (looked_up p.points)) (drop k p.lines)))))

  one_more : IsPlan p → (s k : ℕ) (entry : Option Line) → slice_get p.lines k ≡ Some entry → roots_from s k ≡ half_edges_of_line ts xs entry s ++ roots_from s (k + 1)
  one_more is s k entry e = ap (λ (ls : List (Option Line)). filter_map (the_root s) (filter (is_root (map_of p) s) (flat_map both_sides (enumerate_from k (map (option_map (looked_up p.points)) ls))))) (drop_at p.lines k entry e)
      ∙ ap (filter_map (the_root s)) (filter-append (is_root (map_of p) s) here behind)
      ∙ filter_map-append (the_root s) (filter (is_root (map_of p) s) here) (filter (is_root (map_of p) s) behind)
      ∙ ap (λ (us : List ℕ). us ++ roots_from s (k + 1)) (line_part is s k entry e)
    where
      here : List Side
      here = both_sides (k, option_map (looked_up p.points) entry)

      behind : List Side
      behind = flat_map both_sides (enumerate_from (k + 1) (map (option_map (looked_up p.points)) (drop (k + 1) p.lines)))

      drop_at : (ls : List (Option Line)) (n : ℕ) (x : Option Line) → slice_get ls n ≡ Some x → drop n ls ≡ x ∷ drop (n + 1) ls
      drop_at ls n x h = let q : get_or ls n x ≡ x = get_or_from_slice_get ls n x x h in let l : n < length ls = slice_get_within ls n x h in
          drop-cons ls n x l ∙ ap (λ (y : Option Line). y ∷ drop (suc n) ls) q ∙ (let m : suc n ≡ n + 1 = omega arith in ap (λ (j : ℕ). x ∷ drop j ls) m)

  -- each source has the roots on those lines
  pub record HasRootsFrom (k : ℕ) (roots : List Root) (firsts : List (Option ℕ)) : Type 0 where
    pub len : length firsts ≡ p.sectors
    pub chains : (s : ℕ) → s < p.sectors → IsRootChain roots (first_at firsts s) (roots_from s k)

  pub roots_more : IsPlan p → (k : ℕ) (entry : Option Line) (roots new : List Root) (firsts firsts_new : List (Option ℕ)) → slice_get p.lines k ≡ Some entry → HasRootsFrom (k + 1) roots firsts → PutsBefore (half_edges_of_line ts xs entry) roots firsts new firsts_new → HasRootsFrom k new firsts_new
  roots_more is k entry roots new firsts firsts_new e h q = record {
    len = q.len ∙ h.len;
    chains = λ s l. subst (IsRootChain new (first_at firsts_new s)) (sym (one_more is s k entry e)) (q.chains s (omega (arith, h.len, l)) (roots_from s (k + 1)) (h.chains s l));
  }

  pub roots_none : (k : ℕ) (firsts : List (Option ℕ)) → length p.lines ≤ k → firsts ≡ replicate p.sectors None → HasRootsFrom k [] firsts
  roots_none k firsts l e = record { len = ap length e ∙ length-replicate p.sectors None; chains = λ s h. subst (IsRootChain [] (first_at firsts s)) (sym (nothing s)) (none firsts s e) }
    where
      nothing : (s : ℕ) → roots_from s k ≡ []
      nothing s = ap (λ (ls : List (Option Line)). filter_map (the_root s) (filter (is_root (map_of p) s) (flat_map both_sides (enumerate_from k (map (option_map (looked_up p.points)) ls))))) (drop_all k p.lines l)

      empty : (n s : ℕ) → first_at (replicate n None) s ≡ None
      empty zero s = refl
      empty (suc n) zero = refl
      empty (suc n) (suc s) = empty n s

      none : (fs : List (Option ℕ)) (s : ℕ) → fs ≡ replicate p.sectors None → first_at fs s ≡ None
      none fs s h = ap (λ (gs : List (Option ℕ)). first_at gs s) h ∙ empty p.sectors s

  pub roots_all : (k : ℕ) (roots : List Root) (firsts : List (Option ℕ)) → k ≡ 0 → HasRootsFrom k roots firsts → AreRootChains (map_of p) ts xs roots firsts
  roots_all k roots firsts e h = record { chains = λ s l. subst (λ (n : ℕ). IsRootChain roots (first_at firsts s) (roots_from s n)) e (h.chains s l) }

pub if_ok : {A E : Type 0} {P Q : Type 0} (r : Result A E) → IfOk r (λ _. P) → (P → Q) → IfOk r (λ _. Q)
if_ok (Ok a) p f = f p
if_ok (Err e) p f = p

pub differ_if : (a b : Option ℕ) → false ≡ option_eq eqb a b → a ≡ b → ⊥
differ_if None None e f = cc
differ_if (Some x) None e f = cc
differ_if None (Some x) e f = cc
differ_if (Some x) (Some y) e f = differ (eq-eqb x y (one f))
  where
    one : ◌≡◌ {A = Option ℕ} (Some x) (Some y) → x ≡ y
    one h = cc

    differ : eqb x y ≡ true → ⊥
    differ h = true≢false (sym h ∙ sym e)

pub same_if : (a b : Option ℕ) → true ≡ option_eq eqb a b → a ≡ b
same_if None None e = refl
same_if (Some x) None e = absurd (cc)
same_if None (Some x) e = absurd (cc)
same_if (Some x) (Some y) e = ap Some (eqb-true x y (sym e))
