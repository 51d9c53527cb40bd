-- Nodes that answer for all that is asked are a tree that keeps by rows over the mesh, and the other way round.
use Rattle.std.proofs.Common.{◌≡◌, ℕ, zero, suc, ◌+◌, ◌≤◌, ◌⊎◌, inl, inr, List, [], ◌∷◌, ◌++◌, Option, Some, None, length, Bool, true, false, not, Contains, refl, sym, ◌∙◌, ap, subst, arith, if◌then◌else◌}
use Rattle.std.specs.List.{slice_get, last_or, filter_map, cons_option}
use Rattle.std.specs.Prelude.{option_and_then, option_map}
use Rattle.std.proofs.lemmas.List.{append_assoc, length-append, map-append}
use Rattle.math_base.proofs.Bools.{not_both_values, false_of_not}
use Rattle.math_base.proofs.Lists.{contains_here, last_pushed}
use Rattle.math_base.proofs.Options.{some_is_same, some_is_not_none}
use Rattle.sight_names.proofs.Lists.{contains_tail}
use Rattle.sight_names.specs.declared.names.Side.{Side}
use Rattle.sight_names.specs.declared.names.Triangle.{Triangle}
use Rattle.sight_names.specs.Plan.{PlanParts}
use Rattle.sight_names.specs.Points.{place}
use Rattle.sight_names.specs.Map.{MapLine, IsMap, map_of}
use Rattle.sight_names.specs.Mesh.{label_of, triangle_at, side_edge}
use Rattle.sight_names.specs.Splitting.{EndPoints}
use Rattle.sight_names.specs.Sequence.{Portal, Left, Right, entry_edge, way_out, apex, third_point, root_portal, roots, reached, end_points, IsSolidLine}
use Rattle.sight_names.proofs.PlanMap.{plan_is_map}
use Rattle.sight_lift.proofs.Doors.{has_name, named_is}
use Rattle.sight_lift.proofs.Sequences.{root_is}
use Rattle.block_evidence.specs.declared.Evidence.{Evidence}
use Rattle.block_evidence.specs.Stuck.{BlocksEnds}
use Rattle.block_evidence.specs.declared.sight_tree.Node.{Node}
use Rattle.block_evidence.specs.declared.sight_tree.Node.TheVariants.{Open, Blocked}
use Rattle.block_evidence.specs.SightTree.WholeTree.{HasNode, HasNoNode}
use Rattle.mesh_shape.specs.declared.half_edges.table.HalfEdge.{HalfEdge}
use Rattle.mesh_shape.specs.HalfEdges.HalfEdges.{portal_into, AreOfGoodMesh, way_outside}
use Rattle.cert_checker.specs.TreeJudge.Roots.{way_out_of, root_edge}
use Rattle.cert_checker.proofs.TreeJudge.Meshed.{AreAllNamed, Enters, IsInner, IsAsked, asked, not_asked, no_node_unasked, node_asked, left_inner, right_inner, passable}
use Rattle.gate_floods.specs.Gates.{IsGate}
use Rattle.gate_floods.specs.Rows.{IsInRow, IsEmptyRow, HasRow, EntersNone, AnswersUnskipped, no_node, skipped, blocked, open_node, RootsAsked}
use Rattle.gate_floods.proofs.RowsOn.{row_none, row_same, row_behind, row_masked, goes_on}
use Rattle.gate_floods.specs.RowJudge.Masks.{MaskRows}
use Rattle.gate_floods.specs.RowJudge.Words.{AreBitsOf, both_words, has_bit_in_words, is_away, is_in}
use Rattle.gate_floods.specs.RowJudge.Asked.{mask_of_edge, row_left, leaves, with_rest, Pending, pending_way, pending_roots, ends_through, row_through, ways_through, AnswersFirstInRow, AreAnswered}
use Rattle.gate_floods.specs.RowJudge.Laws.{IsPortalMask, AreHalfEdgeMasks}
use Rattle.gate_floods.proofs.RowJudge.Bits.{found_bit, bit_found, in_both, in_each}
use Rattle.math_base.proofs.Numbers.{tells_same, is_told_same}

nothing_left : (p : Pending) (ps : List Pending) → ◌≡◌ {A = List Pending} [] (p ∷ ps) → ⊥
nothing_left p ps e = cc

first_same : (p q : Pending) (ps qs : List Pending) → p ∷ ps ≡ q ∷ qs → p ≡ q
first_same p q ps qs e = cc

rest_same : (p q : Pending) (ps qs : List Pending) → p ∷ ps ≡ q ∷ qs → ps ≡ qs
rest_same p q ps qs e = cc

module _ (p : PlanParts) (ts : List Triangle) (xs : List HalfEdge) (w : AreOfGoodMesh p ts xs) (named : AreAllNamed ts w.labels) (ms : MaskRows) (Claims : ℕ → ℕ → Type 0) (Keeps : ℕ → Type 0) (masks : AreHalfEdgeMasks (map_of p) Claims xs ms) (a : ℕ) where
  -- the sectors of the triangles
  abbrev ls : List (Option ℕ)
  ls = w.labels

  is_map : IsMap (map_of p)
  is_map = plan_is_map p w.plan

  abbrev In : List Portal → ℕ → Type 0
  In ps c = IsInRow (map_of p) Claims Keeps ps c

  abbrev Answered : List Portal → List Node → Type 0
  Answered ps ns = AnswersUnskipped (map_of p) ts w.labels a (λ qs. IsEmptyRow (map_of p) Claims Keeps qs) (λ qs. HasRow (map_of p) Claims Keeps qs) (λ qs. EntersNone (map_of p) ts w.labels Claims Keeps qs) ps ns

  -- ---- rows

  -- the row behind a portal
  row_on : (front : List Portal) (q : Portal) (row : List ℕ) (o : Option (List ℕ)) → IsPortalMask (map_of p) Claims q o → AreBitsOf row (In front) → AreBitsOf (row_left row o) (In (front ++ q ∷ []))
  row_on front q row None none tells c = (
    (λ h. row_same (map_of p) is_map ts w.labels w.good Claims Keeps front q c none ((tells c).0 h)),
    (λ h. (tells c).1 (((goes_on (map_of p) is_map ts w.labels w.good Claims Keeps c).1 front q none).0 h)),
  )
  row_on front q row (Some mask) (b, d, gate, bits) tells c = (
    (λ h. let e = in_each row mask c h in row_masked (map_of p) is_map ts w.labels w.good Claims Keeps front q b d c gate ((tells c).0 e.0) ((bits c).0 e.1)),
    (λ h. let e = row_behind (map_of p) is_map ts w.labels w.good Claims Keeps front q b d c gate h in in_both row mask c ((tells c).1 e.0) ((bits c).1 e.1)),
  )

  -- something is left of the row before, or the portal is a gate, whose mask tells
  abbrev Begins : List Portal → Portal → Type 0
  Begins front q = HasRow (map_of p) Claims Keeps front ⊎ ((b : ℕ) × (d : ℕ) × IsGate (map_of p) b d q)

  -- something is left behind it
  left_on : (front : List Portal) (q : Portal) (row : List ℕ) (o : Option (List ℕ)) → IsPortalMask (map_of p) Claims q o → AreBitsOf row (In front) → Begins front q → leaves row o ≡ true → HasRow (map_of p) Claims Keeps (front ++ q ∷ [])
  left_on front q row None none tells (inl (c, h)) some = (c, row_same (map_of p) is_map ts w.labels w.good Claims Keeps front q c none h)
  left_on front q row None none tells (inr (b, d, gate)) some = absurd (none b d gate)
  left_on front q row (Some mask) is tells begins some = let f = found_bit (both_words row mask) some in (f.0, (row_on front q row (Some mask) is tells f.0).0 f.1)

  nothing_on : (front : List Portal) (q : Portal) (row : List ℕ) (o : Option (List ℕ)) → IsPortalMask (map_of p) Claims q o → AreBitsOf row (In front) → leaves row o ≡ false → IsEmptyRow (map_of p) Claims Keeps (front ++ q ∷ [])
  nothing_on front q row None none tells e = absurd (not_both_values true refl e)
  nothing_on front q row (Some mask) is tells e = λ c h. not_both_values (has_bit_in_words (both_words row mask)) (bit_found (both_words row mask) c ((row_on front q row (Some mask) is tells c).1 h)) e

  -- where something is left
  leaves_on : (front : List Portal) (q : Portal) (row : List ℕ) (o : Option (List ℕ)) → IsPortalMask (map_of p) Claims q o → AreBitsOf row (In front) → HasRow (map_of p) Claims Keeps (front ++ q ∷ []) → leaves row o ≡ true
  leaves_on front q row None none tells h = refl
  leaves_on front q row (Some mask) is tells (c, h) = bit_found (both_words row mask) c ((row_on front q row (Some mask) is tells c).1 h)

  -- where nothing is
  leaves_none : (front : List Portal) (q : Portal) (row : List ℕ) (o : Option (List ℕ)) → IsPortalMask (map_of p) Claims q o → AreBitsOf row (In front) → Begins front q → IsEmptyRow (map_of p) Claims Keeps (front ++ q ∷ []) → leaves row o ≡ false
  leaves_none front q row o is tells begins empty = by (leaves row o) refl
    where
      by : (b : Bool) → leaves row o ≡ b → leaves row o ≡ false
      by false e = e
      by true e = absurd (let h = left_on front q row o is tells begins e in empty h.0 h.1)

  -- ---- what is asked

  abbrev the_way : Portal → Option ℕ
  the_way q = way_out_of ts xs a (entry_edge q)

  abbrev if_rest : List ℕ → Option ℕ → Option ℕ
  if_rest row o = option_and_then (with_rest ms row) o

  -- what is asked of a portal behind these
  abbrev asks : List Portal → List ℕ → Portal → List Pending
  asks front row q = pending_way (end_points (map_of p) front) row (if_rest row (the_way q))

  abbrev this : List Portal → List ℕ → ℕ → Pending
  this front row i = record { path = end_points (map_of p) front; row = row; edge = i }

  -- the first of the nodes answer for the sequence, the others for the rest
  record Splits (front : List Portal) (q : Portal) (rest : List Pending) (ns : List Node) : Type 0 where
    here : List Node
    back : List Node
    nodes : ns ≡ here ++ back
    answers : Answered (front ++ q ∷ []) here
    behind : AreAnswered xs ms a rest back []

  sequence_ends : (front : List Portal) (q : Portal) → end_points (map_of p) (front ++ q ∷ []) ≡ end_points (map_of p) front ++ record { left = place (map_of p) q.left; right = place (map_of p) q.right } ∷ []
  sequence_ends front q = map-append (λ (r : Portal). let e : EndPoints = record { left = place (map_of p) r.left; right = place (map_of p) r.right } in e) front (q ∷ [])

  through : (front : List Portal) (row : List ℕ) (q : Portal) (i : ℕ) (x : HalfEdge) → x.left_at ≡ place (map_of p) q.left → x.right_at ≡ place (map_of p) q.right → ends_through (this front row i) x ≡ end_points (map_of p) (front ++ q ∷ [])
  through front row q i x e f = (λ j. end_points (map_of p) front ++ record { left = e j; right = f j } ∷ []) ∙ sym (sequence_ends front q)

  has_node : (front : List Portal) (q : Portal) (i : ℕ) (n : IsAsked p ts xs w a q i) → HasNode (map_of p) ts w.labels a (front ++ q ∷ []) q n.enters.k
  has_node front q i n = record { last = last_pushed q front None; no_wall = n.no_wall; entered = n.enters.found; outside = λ e. n.outside (sym n.enters.label ∙ e) }

  apex_is : (q : Portal) (i : ℕ) (n : Enters p ts w.labels xs q i) → apex ts q ≡ Some n.x.apex
  apex_is q i n = ap (option_map (third_point (entry_edge q))) (ap (option_and_then (slice_get ts)) n.found ∙ n.there) ∙ ap Some n.third

  -- the last portal leads into the half-edge's sector
  reached_is : (front : List Portal) (q : Portal) (i : ℕ) (n : Enters p ts w.labels xs q i) → reached ts w.labels (front ++ q ∷ []) ≡ n.x.sector
  reached_is front q i n = ap (λ (o : Option Portal). option_and_then (λ (r : Portal). option_and_then (label_of w.labels) (triangle_at ts (entry_edge r))) o) (last_pushed q front None) ∙ ap (λ (o : Option ℕ). option_and_then (label_of w.labels) o) n.found ∙ n.label

  same_portal : (q : Portal) (i : ℕ) (n : Enters p ts w.labels xs q i) → portal_into n.x ≡ q
  same_portal q i n = λ j. record { left = n.left j; right = n.right j }

  -- its mask is the portal's
  mask_is : (q : Portal) (i : ℕ) → IsAsked p ts xs w a q i → IsPortalMask (map_of p) Claims q (mask_of_edge ms i)
  mask_is q i n = subst (λ (r : Portal). IsPortalMask (map_of p) Claims r (mask_of_edge ms i)) (same_portal q i n.enters) (masks i n.enters.x n.enters.is (λ s. n.no_wall (subst (λ (r : Portal). IsSolidLine (map_of p) r) (same_portal q i n.enters) s)))

  -- the two ways behind the half-edge are those of the sequences
  ways_are : (front : List Portal) (row : List ℕ) (q : Portal) (i : ℕ) (n : Enters p ts w.labels xs q i)
      → ways_through xs ms a (this front row i) n.x ≡ asks (front ++ q ∷ []) (row_left row (mask_of_edge ms i)) (way_out q Left n.x.apex) ++ asks (front ++ q ∷ []) (row_left row (mask_of_edge ms i)) (way_out q Right n.x.apex)
  ways_are front row q i n = λ j. pending_way (ends j) behind (if_rest behind (way_outside xs a (n.left_way j))) ++ pending_way (ends j) behind (if_rest behind (way_outside xs a (n.right_way j)))
    where
      behind : List ℕ
      behind = row_left row (mask_of_edge ms i)

      ends : ends_through (this front row i) n.x ≡ end_points (map_of p) (front ++ q ∷ [])
      ends = through front row q i n.x n.left_at n.right_at

  rest_if : (row : List ℕ) (i : ℕ) (b : Bool) → leaves row (mask_of_edge ms i) ≡ b → with_rest ms row i ≡ (let o : Option ℕ = if b then Some i else None in o)
  rest_if row i b h = ap (λ (c : Bool). let o : Option ℕ = if c then Some i else None in o) h

  -- ---- whether the row has the sector that is entered

  away_so : (ps : List Portal) (row : List ℕ) (sector : Option ℕ) → AreBitsOf row (In ps) → reached ts w.labels ps ≡ sector → is_away row sector ≡ true → EntersNone (map_of p) ts w.labels Claims Keeps ps
  away_so ps row None tells e away = λ c h k. some_is_not_none c (sym h ∙ e)
  away_so ps row (Some s) tells e away = λ c h k. not_both_values (is_in row s) (tells_same _ 1 ((tells s).1 (subst (λ (n : ℕ). In ps n) (some_is_same c s (sym h ∙ e)) k))) (false_of_not (is_in row s) away)

  so_away : (ps : List Portal) (row : List ℕ) (sector : Option ℕ) → AreBitsOf row (In ps) → reached ts w.labels ps ≡ sector → EntersNone (map_of p) ts w.labels Claims Keeps ps → is_away row sector ≡ true
  so_away ps row None tells e none = refl
  so_away ps row (Some s) tells e none = by (is_in row s) refl
    where
      by : (b : Bool) → is_in row s ≡ b → not (is_in row s) ≡ true
      by false h = ap (λ (b : Bool). not b) h
      by true h = absurd (none s e ((tells s).0 (is_told_same _ 1 h)))

  -- ---- from the nodes to the tree

  -- for all that begins with what is asked of a portal, with at most so many nodes
  abbrev SplitsAll : ℕ → Type 0
  SplitsAll n = (front : List Portal) (row : List ℕ) (q : Portal) (rest : List Pending) (ns : List Node) → IsInner p ts xs w q → AreBitsOf row (In front) → Begins front q → length ns ≤ n → AreAnswered xs ms a (asks front row q ++ rest) ns [] → Splits front q rest ns

  module _ (front : List Portal) (row : List ℕ) (q : Portal) (i : ℕ) (rest : List Pending) (n : IsAsked p ts xs w a q i) (tells : AreBitsOf row (In front)) (left : HasRow (map_of p) Claims Keeps (front ++ q ∷ [])) where
    abbrev further : List ℕ
    further = row_left row (mask_of_edge ms i)

    tells_on : AreBitsOf (row_left row (mask_of_edge ms i)) (In (front ++ q ∷ []))
    tells_on = row_on front q row (mask_of_edge ms i) (mask_is q i n) tells

    same_half_edge : (r : Pending) (x : HalfEdge) → r ≡ this front row i → slice_get xs r.edge ≡ Some x → x ≡ n.enters.x
    same_half_edge r x e f = some_is_same x n.enters.x (sym f ∙ ap (λ (s : Pending). slice_get xs s.edge) e ∙ n.enters.is)

    closed : (e : Evidence) (ns : List Node) → AreAnswered xs ms a (this front row i ∷ rest) (Blocked e ∷ ns) [] → Splits front q rest (Blocked e ∷ ns)
    closed e ns (rs, (r, others, x, first, is, blocks, g), behind) = record {
      here = Blocked e ∷ [];
      back = ns;
      nodes = refl;
      answers = blocked q n.enters.k e (has_node front q i n) left (subst (λ (es : List EndPoints). BlocksEnds es e) ends blocks) refl;
      behind = subst (λ (qs : List Pending). AreAnswered xs ms a qs ns []) (g ∙ sym (rest_same (this front row i) r rest others first)) behind;
    }
      where
        same : r ≡ this front row i
        same = sym (first_same (this front row i) r rest others first)

        found : x ≡ n.enters.x
        found = same_half_edge r x same is

        ends : ends_through r x ≡ end_points (map_of p) (front ++ q ∷ [])
        ends = (λ j. ends_through (same j) (found j)) ∙ through front row q i n.enters.x n.enters.left_at n.enters.right_at

    opens : (c : ℕ) → SplitsAll c → (ns : List Node) → length ns ≤ c → AreAnswered xs ms a (this front row i ∷ rest) (Open ∷ ns) [] → Splits front q rest (Open ∷ ns)
    opens c all ns few (rs, (r, others, x, first, is, away, g), behind) = join one two
      where
        same : r ≡ this front row i
        same = sym (first_same (this front row i) r rest others first)

        found : x ≡ n.enters.x
        found = same_half_edge r x same is

        ql : Portal
        ql = way_out q Left n.enters.x.apex

        qr : Portal
        qr = way_out q Right n.enters.x.apex

        none_entered : EntersNone (map_of p) ts w.labels Claims Keeps (front ++ q ∷ [])
        none_entered = away_so (front ++ q ∷ []) (row_left row (mask_of_edge ms i)) n.enters.x.sector tells_on (reached_is front q i n.enters) (subst (λ (s : Pending). is_away (row_through ms s) n.enters.x.sector ≡ true) same (subst (λ (y : HalfEdge). is_away (row_through ms r) y.sector ≡ true) found away))

        asked_next : rs ≡ asks (front ++ q ∷ []) (row_left row (mask_of_edge ms i)) ql ++ (asks (front ++ q ∷ []) (row_left row (mask_of_edge ms i)) qr ++ rest)
        asked_next = g ∙ (λ j. ways_through xs ms a (same j) (found j) ++ (sym (rest_same (this front row i) r rest others first)) j) ∙ ap (λ (ps : List Pending). ps ++ rest) (ways_are front row q i n.enters)
            ∙ append_assoc (asks (front ++ q ∷ []) (row_left row (mask_of_edge ms i)) ql) (asks (front ++ q ∷ []) (row_left row (mask_of_edge ms i)) qr) rest

        one : Splits (front ++ q ∷ []) ql (asks (front ++ q ∷ []) (row_left row (mask_of_edge ms i)) qr ++ rest) ns
        one = all (front ++ q ∷ []) (row_left row (mask_of_edge ms i)) ql (asks (front ++ q ∷ []) (row_left row (mask_of_edge ms i)) qr ++ rest) ns (left_inner p ts xs w named q i n.enters) tells_on (inl left) few (subst (λ (ps : List Pending). AreAnswered xs ms a ps ns []) asked_next behind)

        fewer : length one.back ≤ c
        fewer = let e : length ns ≡ length one.here + length one.back = ap (λ (us : List Node). length us) one.nodes ∙ length-append one.here one.back in omega (arith, e, few)

        two : Splits (front ++ q ∷ []) qr rest one.back
        two = all (front ++ q ∷ []) (row_left row (mask_of_edge ms i)) qr rest one.back (right_inner p ts xs w named q i n.enters) tells_on (inl left) fewer one.behind

        join : (l : Splits (front ++ q ∷ []) ql (asks (front ++ q ∷ []) (row_left row (mask_of_edge ms i)) qr ++ rest) ns) → Splits (front ++ q ∷ []) qr rest l.back → Splits front q rest (Open ∷ ns)
        join l k = record {
          here = Open ∷ (l.here ++ k.here);
          back = k.back;
          nodes = ap (λ (us : List Node). Open ∷ us) (l.nodes ∙ ap (λ (us : List Node). l.here ++ us) k.nodes ∙ sym (append_assoc l.here k.here k.back));
          answers = open_node q n.enters.k n.enters.x.apex l.here k.here (has_node front q i n) left none_entered (apex_is q i n.enters) l.answers k.answers refl;
          behind = k.behind;
        }

    at_node : (c : ℕ) → SplitsAll c → (ns : List Node) → length ns ≤ suc c → AreAnswered xs ms a (this front row i ∷ rest) ns [] → Splits front q rest ns
    at_node c all [] few answered = absurd (nothing_left (this front row i) rest answered)
    at_node c all (Open ∷ ns) few answered = opens c all ns (omega (arith, few)) answered
    at_node c all (Blocked e ∷ ns) few answered = closed e ns answered

    no_node_left : (ns : List Node) → length ns ≤ 0 → AreAnswered xs ms a (this front row i ∷ rest) ns [] → Splits front q rest ns
    no_node_left [] few answered = absurd (nothing_left (this front row i) rest answered)
    no_node_left (k ∷ ns) few answered = absurd (omega (arith, few))

  at_portal : (front : List Portal) (row : List ℕ) (q : Portal) (rest : List Pending) (ns : List Node) → IsInner p ts xs w q → AreBitsOf row (In front) → Begins front q
      → ((i : ℕ) → IsAsked p ts xs w a q i → HasRow (map_of p) Claims Keeps (front ++ q ∷ []) → AreAnswered xs ms a (this front row i ∷ rest) ns [] → Splits front q rest ns)
      → AreAnswered xs ms a (asks front row q ++ rest) ns [] → Splits front q rest ns
  at_portal front row q rest ns inner tells begins f answered = by (the_way q) refl
    where
      moved : (o : Option ℕ) → if_rest row (the_way q) ≡ o → AreAnswered xs ms a (pending_way (end_points (map_of p) front) row o ++ rest) ns []
      moved o e = subst (λ (u : Option ℕ). AreAnswered xs ms a (pending_way (end_points (map_of p) front) row u ++ rest) ns []) e answered

      at : (i : ℕ) → the_way q ≡ Some i → IsAsked p ts xs w a q i → (b : Bool) → leaves row (mask_of_edge ms i) ≡ b → Splits front q rest ns
      at i e n false h = record {
        here = [];
        back = ns;
        nodes = refl;
        answers = skipped q n.enters.k (has_node front q i n) (nothing_on front q row (mask_of_edge ms i) (mask_is q i n) tells h) refl;
        behind = moved None (ap (if_rest row) e ∙ rest_if row i false h);
      }
      at i e n true h = f i n (left_on front q row (mask_of_edge ms i) (mask_is q i n) tells begins h) (moved (Some i) (ap (if_rest row) e ∙ rest_if row i true h))

      by : (o : Option ℕ) → the_way q ≡ o → Splits front q rest ns
      by None e = record { here = []; back = ns; nodes = refl; answers = no_node q (last_pushed q front None) (not_asked p ts xs w a q inner e) refl; behind = moved None (ap (if_rest row) e) }
      by (Some i) e = at i e (asked p ts xs w a q i e) (leaves row (mask_of_edge ms i)) refl

  subtree : (c : ℕ) → SplitsAll c
  subtree zero front row q rest ns inner tells begins few answered = at_portal front row q rest ns inner tells begins (λ i n left now. no_node_left front row q i rest n tells left ns few now) answered
  subtree (suc c) front row q rest ns inner tells begins few answered = at_portal front row q rest ns inner tells begins (λ i n left now. at_node front row q i rest n tells left c (subtree c) ns few now) answered

  -- ---- from the tree to the nodes

  last_same : (ps front : List Portal) (r q : Portal) → ps ≡ front ++ q ∷ [] → last_or None ps ≡ Some r → r ≡ q
  last_same ps front r q e f = some_is_same r q (sym f ∙ ap (λ (us : List Portal). last_or None us) e ∙ last_pushed q front None)

  moved_to : (front : List Portal) (row : List ℕ) (q : Portal) (o : Option ℕ) (rest : List Pending) (ns us : List Node) → if_rest row (the_way q) ≡ o → ns ≡ us → AreAnswered xs ms a (pending_way (end_points (map_of p) front) row o ++ rest) us [] → AreAnswered xs ms a (asks front row q ++ rest) ns []
  moved_to front row q o rest ns us e f answered = subst (λ (ks : List Node). AreAnswered xs ms a (asks front row q ++ rest) ks []) (sym f) (subst (λ (u : Option ℕ). AreAnswered xs ms a (pending_way (end_points (map_of p) front) row u ++ rest) us []) (sym e) answered)

  -- a node's half-edge
  record NodeAt (q : Portal) : Type 0 where
    i : ℕ
    way : way_out_of ts xs a (entry_edge q) ≡ Some i
    is_asked : IsAsked p ts xs w a q i

  node_at : (front : List Portal) (q : Portal) (k : ℕ) → HasNode (map_of p) ts w.labels a (front ++ q ∷ []) q k → NodeAt q
  node_at front q k has = let n = node_asked p ts xs w a q k has.no_wall has.entered has.outside in record { i = n.0; way = n.1; is_asked = asked p ts xs w a q n.0 n.1 }

  at_none : (front : List Portal) (row : List ℕ) (q : Portal) (rest : List Pending) (here back : List Node) → HasNoNode (map_of p) ts w.labels a q → here ≡ [] → AreAnswered xs ms a rest back [] → AreAnswered xs ms a (asks front row q ++ rest) (here ++ back) []
  at_none front row q rest here back none e answered = moved_to front row q None rest (here ++ back) back (ap (if_rest row) (no_node_unasked p ts xs w a q none)) (ap (λ (ns : List Node). ns ++ back) e) answered

  at_skipped : (front : List Portal) (row : List ℕ) (q : Portal) (rest : List Pending) (here back : List Node) → NodeAt q → AreBitsOf row (In front) → Begins front q → IsEmptyRow (map_of p) Claims Keeps (front ++ q ∷ []) → here ≡ [] → AreAnswered xs ms a rest back []
      → AreAnswered xs ms a (asks front row q ++ rest) (here ++ back) []
  at_skipped front row q rest here back n tells begins empty e answered =
      moved_to front row q None rest (here ++ back) back (ap (if_rest row) n.way ∙ rest_if row n.i false (leaves_none front q row (mask_of_edge ms n.i) (mask_is q n.i n.is_asked) tells begins empty)) (ap (λ (ns : List Node). ns ++ back) e) answered

  way_is : (front : List Portal) (row : List ℕ) (q : Portal) (n : NodeAt q) → AreBitsOf row (In front) → HasRow (map_of p) Claims Keeps (front ++ q ∷ []) → if_rest row (the_way q) ≡ Some n.i
  way_is front row q n tells left = ap (if_rest row) n.way ∙ rest_if row n.i true (leaves_on front q row (mask_of_edge ms n.i) (mask_is q n.i n.is_asked) tells left)

  at_blocked : (front : List Portal) (row : List ℕ) (q : Portal) (d : Evidence) (rest : List Pending) (here back : List Node) → NodeAt q → AreBitsOf row (In front) → HasRow (map_of p) Claims Keeps (front ++ q ∷ []) → BlocksEnds (end_points (map_of p) (front ++ q ∷ [])) d → here ≡ Blocked d ∷ []
      → AreAnswered xs ms a rest back [] → AreAnswered xs ms a (asks front row q ++ rest) (here ++ back) []
  at_blocked front row q d rest here back n tells left blocks e answered =
      let x = n.is_asked.enters in
      moved_to front row q (Some n.i) rest (here ++ back) (Blocked d ∷ back) (way_is front row q n tells left) (ap (λ (ns : List Node). ns ++ back) e)
      (rest, (this front row n.i, rest, x.x, refl, x.is, subst (λ (es : List EndPoints). BlocksEnds es d) (sym (through front row q n.i x.x x.left_at x.right_at)) blocks, refl), answered)

  at_open : (front : List Portal) (row : List ℕ) (q : Portal) (t : ℕ) (rest : List Pending) (here back left right : List Node) (n : NodeAt q) → AreBitsOf row (In front) → HasRow (map_of p) Claims Keeps (front ++ q ∷ []) → EntersNone (map_of p) ts w.labels Claims Keeps (front ++ q ∷ [])
      → apex ts q ≡ Some t → here ≡ Open ∷ (left ++ right)
      → AreAnswered xs ms a (asks (front ++ q ∷ []) (row_left row (mask_of_edge ms n.i)) (way_out q Left t) ++ (asks (front ++ q ∷ []) (row_left row (mask_of_edge ms n.i)) (way_out q Right t) ++ rest)) (left ++ (right ++ back)) []
      → AreAnswered xs ms a (asks front row q ++ rest) (here ++ back) []
  at_open front row q t rest here back left right n tells some enters third e answered =
      moved_to front row q (Some n.i) rest (here ++ back) (Open ∷ (left ++ (right ++ back))) (way_is front row q n tells some) (ap (λ (ns : List Node). ns ++ back) e ∙ ap (λ (ns : List Node). Open ∷ ns) (append_assoc left right back)) (
        ways_through xs ms a (this front row n.i) n.is_asked.enters.x ++ rest,
        (this front row n.i, rest, n.is_asked.enters.x, refl, n.is_asked.enters.is, so_away (front ++ q ∷ []) further n.is_asked.enters.x.sector (row_on front q row (mask_of_edge ms n.i) (mask_is q n.i n.is_asked) tells) (reached_is front q n.i n.is_asked.enters) enters, refl),
        subst (λ (ps : List Pending). AreAnswered xs ms a ps (left ++ (right ++ back)) []) (sym ways) answered,
      )
    where
      further : List ℕ
      further = row_left row (mask_of_edge ms n.i)

      ways : ways_through xs ms a (this front row n.i) n.is_asked.enters.x ++ rest ≡ asks (front ++ q ∷ []) further (way_out q Left t) ++ (asks (front ++ q ∷ []) further (way_out q Right t) ++ rest)
      ways = ap (λ (ps : List Pending). ps ++ rest) (ways_are front row q n.i n.is_asked.enters) ∙ append_assoc (asks (front ++ q ∷ []) further (way_out q Left n.is_asked.enters.x.apex)) (asks (front ++ q ∷ []) further (way_out q Right n.is_asked.enters.x.apex)) rest
          ∙ ap (λ (z : ℕ). asks (front ++ q ∷ []) further (way_out q Left z) ++ (asks (front ++ q ∷ []) further (way_out q Right z) ++ rest)) (some_is_same n.is_asked.enters.x.apex t (sym (apex_is q n.i n.is_asked.enters) ∙ third))

  has_at : (ps front : List Portal) (r q : Portal) (k : ℕ) → ps ≡ front ++ q ∷ [] → HasNode (map_of p) ts w.labels a ps r k → HasNode (map_of p) ts w.labels a (front ++ q ∷ []) q k
  has_at ps front r q k same has = subst (λ (us : List Portal). HasNode (map_of p) ts w.labels a us q k) same (subst (λ (s : Portal). HasNode (map_of p) ts w.labels a ps s k) (last_same ps front r q same has.last) has)

  complete : {ps : List Portal} {here : List Node} → Answered ps here → (front : List Portal) (row : List ℕ) (q : Portal) → ps ≡ front ++ q ∷ [] → AreBitsOf row (In front) → Begins front q → (rest : List Pending) (back : List Node) → AreAnswered xs ms a rest back []
      → AreAnswered xs ms a (asks front row q ++ rest) (here ++ back) []
  complete {ps = ps} {here = here} (no_node r last none e) front row q same tells begins rest back answered = at_none front row q rest here back (subst (λ (s : Portal). HasNoNode (map_of p) ts w.labels a s) (last_same ps front r q same last) none) e answered
  complete {ps = ps} {here = here} (skipped r k has empty e) front row q same tells begins rest back answered = at_skipped front row q rest here back (node_at front q k (has_at ps front r q k same has)) tells begins (subst (λ (us : List Portal). IsEmptyRow (map_of p) Claims Keeps us) same empty) e answered
  complete {ps = ps} {here = here} (blocked r k d has some blocks e) front row q same tells begins rest back answered =
      at_blocked front row q d rest here back (node_at front q k (has_at ps front r q k same has)) tells (subst (λ (us : List Portal). HasRow (map_of p) Claims Keeps us) same some) (subst (λ (us : List Portal). BlocksEnds (end_points (map_of p) us) d) same blocks) e answered
  complete {ps = ps} {here = here} (open_node r k t left right has some enters third one other e) front row q same tells begins rest back answered =
      let is : r ≡ q = last_same ps front r q same has.last in
      let n : NodeAt q = node_at front q k (has_at ps front r q k same has) in
      let further : List ℕ = row_left row (mask_of_edge ms n.i) in
      let tells_on : AreBitsOf further (In (front ++ q ∷ [])) = row_on front q row (mask_of_edge ms n.i) (mask_is q n.i n.is_asked) tells in
      let left_on : HasRow (map_of p) Claims Keeps (front ++ q ∷ []) = subst (λ (us : List Portal). HasRow (map_of p) Claims Keeps us) same some in
      let behind_right : AreAnswered xs ms a (asks (front ++ q ∷ []) further (way_out r Right t) ++ rest) (right ++ back) [] = complete other (front ++ q ∷ []) further (way_out r Right t) (ap (λ (us : List Portal). us ++ way_out r Right t ∷ []) same) tells_on (inl left_on) rest back answered in
      let behind_left : AreAnswered xs ms a (asks (front ++ q ∷ []) further (way_out r Left t) ++ (asks (front ++ q ∷ []) further (way_out r Right t) ++ rest)) (left ++ (right ++ back)) [] = complete one (front ++ q ∷ []) further (way_out r Left t) (ap (λ (us : List Portal). us ++ way_out r Left t ∷ []) same) tells_on (inl left_on)
      (asks (front ++ q ∷ []) further (way_out r Right t) ++ rest) (right ++ back) behind_right in
      at_open front row q t rest here back left right n tells left_on (subst (λ (us : List Portal). EntersNone (map_of p) ts w.labels Claims Keeps us) same enters) (ap (λ (s : Portal). apex ts s) (sym is) ∙ third) e
      (subst (λ (s : Portal). AreAnswered xs ms a (asks (front ++ q ∷ []) (row_left row (mask_of_edge ms n.i)) (way_out s Left t) ++ (asks (front ++ q ∷ []) (row_left row (mask_of_edge ms n.i)) (way_out s Right t) ++ rest)) (left ++ (right ++ back)) []) is behind_left)

  -- ---- roots

  abbrev the_edge : Side → Option ℕ
  the_edge s = root_edge ts xs (map_of p) a s

  record RootAt (s : Side) : Type 0 where
    q : Portal
    portal : root_portal (map_of p) s ≡ Some q
    inner : IsInner p ts xs w q
    d : ℕ
    gate : IsGate (map_of p) a d q

  root_at : (s : Side) → Contains (roots (map_of p) a) s → RootAt s
  root_at s root =
      let r = root_is (map_of p) a s root in
      let n = has_name p.sectors r.line (not s.left) (is_map s.line r.line r.is) r.passable in
      let portal : root_portal (map_of p) s ≡ Some (of r.line) = ap (option_map of) r.is in
      record {
        q = of r.line;
        portal = portal;
        inner = inr (passable p ts xs w s.line r.line (not s.left) r.is r.passable);
        d = n.0;
        gate = record { side = s; root = root; portal = portal; far = named_is (map_of p) s.line r.line (not s.left) n.0 r.is n.1 };
      }
    where
      of : MapLine → Portal
      of x = record { left = (side_edge (map_of p) x (not s.left)).from; right = (side_edge (map_of p) x (not s.left)).to }

  no_answer : (n : Node) (rs : List Pending) → AnswersFirstInRow xs ms a [] n rs → ⊥
  no_answer Open rs answer = nothing_left answer.0 answer.1 answer.3
  no_answer (Blocked e) rs answer = nothing_left answer.0 answer.1 answer.3

  pending_more : (row : List ℕ) (o : Option ℕ) (es : List ℕ) → pending_roots ms row (cons_option o es) ≡ pending_way [] row (if_rest row o) ++ pending_roots ms row es
  pending_more row None es = refl
  pending_more row (Some i) es = refl

  abbrev Rooted : List Side → List Node → Type 0
  Rooted ss ns = RootsAsked (map_of p) ts w.labels a (λ qs. IsEmptyRow (map_of p) Claims Keeps qs) (λ qs. HasRow (map_of p) Claims Keeps qs) (λ qs. EntersNone (map_of p) ts w.labels Claims Keeps qs) ss ns

  module _ (row : List ℕ) (kept : AreBitsOf row Keeps) where
    tells_first : AreBitsOf row (In [])
    tells_first c = ((λ h. row_none (map_of p) is_map ts w.labels w.good Claims Keeps c ((kept c).0 h)), (λ h. (kept c).1 h.keeps))

    from_roots : (ss : List Side) → ((s : Side) → Contains ss s → Contains (roots (map_of p) a) s) → (ns : List Node) → AreAnswered xs ms a (pending_roots ms row (filter_map the_edge ss)) ns [] → Rooted ss ns
    from_roots [] all [] answered = refl
    from_roots [] all (n ∷ ns) (rs, answer, behind) = absurd (no_answer n rs answer)
    from_roots (s ∷ ss) all ns answered = go (root_at s (all s (contains_here s ss))) (λ us h. from_roots ss (λ r c. all r (contains_tail s r ss c)) us h)
      where
        go : RootAt s → ((us : List Node) → AreAnswered xs ms a (pending_roots ms row (filter_map the_edge ss)) us [] → Rooted ss us) → Rooted (s ∷ ss) ns
        go r later = join (subtree (length ns) [] row r.q (pending_roots ms row (filter_map the_edge ss)) ns r.inner tells_first (inr (a, r.d, r.gate)) (omega arith) moved)
          where
            edge : the_edge s ≡ the_way r.q
            edge = ap (option_and_then (λ (q : Portal). the_way q)) r.portal

            moved : AreAnswered xs ms a (asks [] row r.q ++ pending_roots ms row (filter_map the_edge ss)) ns []
            moved = subst (λ (ps : List Pending). AreAnswered xs ms a ps ns []) (pending_more row (the_edge s) (filter_map the_edge ss) ∙ ap (λ (o : Option ℕ). pending_way [] row (if_rest row o) ++ pending_roots ms row (filter_map the_edge ss)) edge) answered

            join : Splits [] r.q (pending_roots ms row (filter_map the_edge ss)) ns → Rooted (s ∷ ss) ns
            join l = (r.q, l.here, l.back, r.portal, l.nodes, l.answers, later l.back l.behind)

    pub keeps : (ns : List Node) → AreAnswered xs ms a (pending_roots ms row (filter_map the_edge (roots (map_of p) a))) ns [] → Rooted (roots (map_of p) a) ns
    keeps ns answered = from_roots (roots (map_of p) a) (λ s c. c) ns answered

    all_roots : (ss : List Side) → ((s : Side) → Contains ss s → Contains (roots (map_of p) a) s) → (ns : List Node) → Rooted ss ns → AreAnswered xs ms a (pending_roots ms row (filter_map the_edge ss)) ns []
    all_roots [] all ns e = subst (λ (us : List Node). AreAnswered xs ms a [] us []) (sym e) refl
    all_roots (s ∷ ss) all ns (q, front, back, is, split, answers, others) =
        let r = root_at s (all s (contains_here s ss)) in
        let same : r.q ≡ q = some_is_same r.q q (sym r.portal ∙ is) in
        subst (λ (us : List Node). AreAnswered xs ms a (pending_roots ms row (cons_option (the_edge s) (filter_map the_edge ss))) us []) (sym split)
        (subst (λ (ps : List Pending). AreAnswered xs ms a ps (front ++ back) []) (sym (pending_more row (the_edge s) (filter_map the_edge ss) ∙ ap (λ (o : Option ℕ). pending_way [] row (if_rest row o) ++ pending_roots ms row (filter_map the_edge ss)) (ap (option_and_then (λ (x : Portal). the_way x)) is)))
        (complete answers [] row q refl tells_first (inr (a, r.d, subst (λ (x : Portal). IsGate (map_of p) a r.d x) same r.gate)) (pending_roots ms row (filter_map the_edge ss)) back (all_roots ss (λ x c. all x (contains_tail s x ss c)) back others)))

    pub kept_answers : (ns : List Node) → Rooted (roots (map_of p) a) ns → AreAnswered xs ms a (pending_roots ms row (filter_map the_edge (roots (map_of p) a))) ns []
    kept_answers ns rooted = all_roots (roots (map_of p) a) (λ s c. c) ns rooted
