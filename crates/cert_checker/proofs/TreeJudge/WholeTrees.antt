-- Nodes that answer for all that is asked are a whole tree over the mesh.
use Rattle.std.proofs.Common.{◌≡◌, ◌≢◌, ℕ, zero, suc, ◌+◌, ◌≤◌, inr, List, [], ◌∷◌, ◌++◌, Option, Some, None, length, map, Bool, true, false, not, IsTrue, Contains, refl, sym, ◌∙◌, ap, subst, arith, cond}
use Rattle.std.specs.List.{slice_get, last_or, filter, filter_map, cons_option, AllByRecursion}
use Rattle.std.specs.Prelude.{option_and_then, option_map}
use Rattle.std.proofs.lemmas.List.{append_assoc, length-append, map-append}
use Rattle.std.proofs.lemmas.List.Elements.{filter_map-append}
use Rattle.math_base.proofs.Lists.{contains_none, last_pushed}
use Rattle.sight_names.specs.declared.names.Side.{Side}
use Rattle.sight_names.specs.declared.names.Triangle.{Triangle}
use Rattle.sight_names.specs.Plan.{PlanParts}
use Rattle.sight_names.specs.Points.{place}
use Rattle.sight_names.specs.Map.{MapLine, map_of, line_at, sector_on}
use Rattle.sight_names.specs.Mesh.{label_of, side_edge}
use Rattle.sight_names.specs.Splitting.{EndPoints}
use Rattle.sight_names.specs.Sequence.{Portal, Left, Right, entry_edge, way_out, apex, third_point, root_portal, roots, sides_of, is_root, names_it, end_points}
use Rattle.block_evidence.specs.declared.Evidence.{Evidence}
use Rattle.block_evidence.specs.declared.sight_tree.Node.{Node}
use Rattle.block_evidence.specs.declared.sight_tree.Node.TheVariants.{Open, Blocked}
use Rattle.block_evidence.specs.Stuck.{BlocksEnds}
use Rattle.block_evidence.specs.SightTree.WholeTree.{HasNode, HasNoNode, NodesAnswer as AnswersFor, no_node, blocked, open_node, AnswersRoots}
use Rattle.mesh_shape.specs.declared.half_edges.table.HalfEdge.{HalfEdge}
use Rattle.mesh_shape.specs.HalfEdges.HalfEdges.{AreOfGoodMesh, way_outside}
use Rattle.cert_checker.specs.TreeJudge.Roots.{way_out_of, root_edge}
use Rattle.cert_checker.specs.TreeJudge.Path.{Pending, pending_way, root_pending, list_of}
use Rattle.cert_checker.specs.TreeJudge.Whole.{ends_through, ways_through, AnswersFirst, AreAnswered}
use Rattle.cert_checker.proofs.TreeJudge.Meshed.{AreAllNamed, Enters, IsInner, IsAsked, asked, not_asked, no_node_unasked, node_asked, left_inner, right_inner, passable}
use Rattle.math_base.proofs.Options.{some_is_same}
use Rattle.math_base.proofs.Bools.{first_is_not}
use Rattle.sight_names.proofs.Roots.{root_test}

nothing_left : (p : Pending) (ps : List Pending) → ◌≡◌ {A = List Pending} [] (p ∷ ps) → ⊥
nothing_left p ps e = cc

first_same : (p q : Pending) (ps qs : List Pending) → p ∷ ps ≡ q ∷ qs → p ≡ q
first_same p q ps qs e = cc

rest_same : (p q : Pending) (ps qs : List Pending) → p ∷ ps ≡ q ∷ qs → ps ≡ qs
rest_same p q ps qs e = cc

module _ (p : PlanParts) (ts : List Triangle) (xs : List HalfEdge) (w : AreOfGoodMesh p ts xs) (named : AreAllNamed ts w.labels) (a : ℕ) where
  -- the sectors of the triangles
  abbrev ls : List (Option ℕ)
  ls = w.labels

  abbrev the_way : Portal → Option ℕ
  the_way q = way_out_of ts xs a (entry_edge q)

  -- what is asked of a portal behind these
  abbrev asks : List Portal → Portal → List Pending
  asks front q = pending_way (end_points (map_of p) front) (the_way q)

  abbrev AreMarkedWith : List ℕ → List ℕ → Type 0
  AreMarkedWith opened sectors = filter_map (label_of ls) opened ≡ sectors

  -- the first of the nodes answer for the sequence, the others for the rest
  record Splits (front : List Portal) (q : Portal) (rest : List Pending) (ns : List Node) (sectors : List ℕ) : Type 0 where
    here : List Node
    back : List Node
    opened : List ℕ
    reached : List ℕ
    others : List ℕ
    nodes : ns ≡ here ++ back
    parts : sectors ≡ reached ++ others
    marked : AreMarkedWith opened reached
    answers : AnswersFor (map_of p) ts ls a (front ++ q ∷ []) here opened
    behind : AreAnswered xs a rest back [] others

  sequence_ends : (front : List Portal) (q : Portal) → end_points (map_of p) (front ++ q ∷ []) ≡ end_points (map_of p) front ++ record { left = place (map_of p) q.left; right = place (map_of p) q.right } ∷ []
  sequence_ends front q = map-append (λ (r : Portal). let e : EndPoints = record { left = place (map_of p) r.left; right = place (map_of p) r.right } in e) front (q ∷ [])

  through : (front : List Portal) (q : Portal) (i : ℕ) (x : HalfEdge) → x.left_at ≡ place (map_of p) q.left → x.right_at ≡ place (map_of p) q.right → ends_through (record { path = end_points (map_of p) front; edge = i }) x ≡ end_points (map_of p) (front ++ q ∷ [])
  through front q i x e f = (λ j. end_points (map_of p) front ++ record { left = e j; right = f j } ∷ []) ∙ sym (sequence_ends front q)

  has_node : (front : List Portal) (q : Portal) (i : ℕ) (n : IsAsked p ts xs w a q i) → HasNode (map_of p) ts ls a (front ++ q ∷ []) q n.enters.k
  has_node front q i n = record { last = last_pushed q front None; no_wall = n.no_wall; entered = n.enters.found; outside = λ e. n.outside (sym n.enters.label ∙ e) }

  apex_is : (q : Portal) (i : ℕ) (n : Enters p ts ls xs q i) → apex ts q ≡ Some n.x.apex
  apex_is q i n = ap (option_map (third_point (entry_edge q))) (ap (option_and_then (slice_get ts)) n.found ∙ n.there) ∙ ap Some n.third

  -- the two ways behind the half-edge are those of the sequences
  ways_are : (front : List Portal) (q : Portal) (i : ℕ) (n : Enters p ts ls xs q i) → ways_through xs a (record { path = end_points (map_of p) front; edge = i }) n.x ≡ asks (front ++ q ∷ []) (way_out q Left n.x.apex) ++ asks (front ++ q ∷ []) (way_out q Right n.x.apex)
  ways_are front q i n = λ j. pending_way (ends j) (way_outside xs a (n.left_way j)) ++ pending_way (ends j) (way_outside xs a (n.right_way j))
    where
      ends : ends_through (record { path = end_points (map_of p) front; edge = i }) n.x ≡ end_points (map_of p) (front ++ q ∷ [])
      ends = through front q i n.x n.left_at n.right_at

  marked_both : (ks ms ss us : List ℕ) → AreMarkedWith ks ss → AreMarkedWith ms us → AreMarkedWith (ks ++ ms) (ss ++ us)
  marked_both ks ms ss us e f = filter_map-append (label_of ls) ks ms ∙ (λ j. e j ++ f j)

  marked_more : (k : ℕ) (o : Option ℕ) (ks ss : List ℕ) → label_of ls k ≡ o → AreMarkedWith ks ss → AreMarkedWith (k ∷ ks) (list_of o ++ ss)
  marked_more k o ks ss e f = ap (λ (n : Option ℕ). cons_option n (filter_map (label_of ls) ks)) e ∙ ap (cons_option o) f ∙ put_first o ss
    where
      put_first : (o : Option ℕ) (ss : List ℕ) → cons_option o ss ≡ list_of o ++ ss
      put_first None ss = refl
      put_first (Some s) ss = refl

  -- for all that begins with what is asked of a portal, with at most so many nodes
  abbrev SplitsAll : ℕ → Type 0
  SplitsAll n = (front : List Portal) (q : Portal) (rest : List Pending) (ns : List Node) (sectors : List ℕ) → IsInner p ts xs w q → length ns ≤ n → AreAnswered xs a (asks front q ++ rest) ns [] sectors → Splits front q rest ns sectors

  module _ (front : List Portal) (q : Portal) (i : ℕ) (rest : List Pending) (n : IsAsked p ts xs w a q i) where
    abbrev this : Pending
    this = record { path = end_points (map_of p) front; edge = i }

    abbrev through_it : Enters p ts ls xs q i
    through_it = n.enters

    abbrev onward : List Portal
    onward = front ++ q ∷ []

    same_half_edge : (r : Pending) (x : HalfEdge) → r ≡ this → slice_get xs r.edge ≡ Some x → x ≡ through_it.x
    same_half_edge r x e f = some_is_same x through_it.x (sym f ∙ ap (λ (s : Pending). slice_get xs s.edge) e ∙ through_it.is)

    closed : (e : Evidence) (ns : List Node) (sectors : List ℕ) → AreAnswered xs a (this ∷ rest) (Blocked e ∷ ns) [] sectors → Splits front q rest (Blocked e ∷ ns) sectors
    closed e ns sectors (rs, here, more, (r, others, x, first, is, blocks, g, h), behind, parts) = record {
      here = Blocked e ∷ [];
      back = ns;
      opened = [];
      reached = [];
      others = more;
      nodes = refl;
      parts = parts ∙ ap (λ (ss : List ℕ). ss ++ more) h;
      marked = refl;
      answers = blocked q through_it.k e (has_node front q i n) (subst (λ (es : List EndPoints). BlocksEnds es e) ends blocks) refl refl;
      behind = subst (λ (qs : List Pending). AreAnswered xs a qs ns [] more) (g ∙ sym (rest_same this r rest others first)) behind;
    }
      where
        same : r ≡ this
        same = sym (first_same this r rest others first)

        found : x ≡ through_it.x
        found = same_half_edge r x same is

        ends : ends_through r x ≡ end_points (map_of p) onward
        ends = (λ j. ends_through (same j) (found j)) ∙ through front q i through_it.x through_it.left_at through_it.right_at

    opens : (c : ℕ) → SplitsAll c → (ns : List Node) (sectors : List ℕ) → length ns ≤ c → AreAnswered xs a (this ∷ rest) (Open ∷ ns) [] sectors → Splits front q rest (Open ∷ ns) sectors
    opens c all ns sectors few (rs, here, more, (r, others, x, first, is, g, h), behind, parts) = join left right
      where
        same : r ≡ this
        same = sym (first_same this r rest others first)

        found : x ≡ through_it.x
        found = same_half_edge r x same is

        ql : Portal
        ql = way_out q Left through_it.x.apex

        qr : Portal
        qr = way_out q Right through_it.x.apex

        asked_next : rs ≡ asks onward ql ++ (asks onward qr ++ rest)
        asked_next = g ∙ (λ j. ways_through xs a (same j) (found j) ++ (sym (rest_same this r rest others first)) j) ∙ ap (λ (ps : List Pending). ps ++ rest) (ways_are front q i through_it) ∙ append_assoc (asks onward ql) (asks onward qr) rest

        left : Splits onward ql (asks onward qr ++ rest) ns more
        left = all onward ql (asks onward qr ++ rest) ns more (left_inner p ts xs w named q i through_it) few (subst (λ (ps : List Pending). AreAnswered xs a ps ns [] more) asked_next behind)

        fewer : length left.back ≤ c
        fewer = let e : length ns ≡ length left.here + length left.back = ap length left.nodes ∙ length-append left.here left.back in omega (arith, e, few)

        right : Splits onward qr rest left.back left.others
        right = all onward qr rest left.back left.others (right_inner p ts xs w named q i through_it) fewer left.behind

        join : (l : Splits onward ql (asks onward qr ++ rest) ns more) → Splits onward qr rest l.back l.others → Splits front q rest (Open ∷ ns) sectors
        join l k = record {
          here = Open ∷ (l.here ++ k.here);
          back = k.back;
          opened = through_it.k ∷ (l.opened ++ k.opened);
          reached = list_of through_it.x.sector ++ (l.reached ++ k.reached);
          others = k.others;
          nodes = ap (λ (ms : List Node). Open ∷ ms) (l.nodes ∙ ap (λ (ms : List Node). l.here ++ ms) k.nodes ∙ sym (append_assoc l.here k.here k.back));
          parts = parts ∙ ap (λ (ss : List ℕ). ss ++ more) (h ∙ ap (λ (y : HalfEdge). list_of y.sector) found)
              ∙ ap (λ (ss : List ℕ). list_of through_it.x.sector ++ ss) (l.parts ∙ ap (λ (ss : List ℕ). l.reached ++ ss) k.parts ∙ sym (append_assoc l.reached k.reached k.others)) ∙ sym (append_assoc (list_of through_it.x.sector) (l.reached ++ k.reached) k.others);
          marked = marked_more through_it.k through_it.x.sector (l.opened ++ k.opened) (l.reached ++ k.reached) through_it.label (marked_both l.opened k.opened l.reached k.reached l.marked k.marked);
          answers = open_node q through_it.k through_it.x.apex l.here k.here l.opened k.opened (has_node front q i n) (apex_is q i through_it) l.answers k.answers refl refl;
          behind = k.behind;
        }

  none_left : (front : List Portal) (i : ℕ) (rest : List Pending) (ns : List Node) (sectors : List ℕ) → length ns ≤ 0 → AreAnswered xs a (record { path = end_points (map_of p) front; edge = i } ∷ rest) ns [] sectors → ⊥
  none_left front i rest [] sectors few answered = nothing_left (record { path = end_points (map_of p) front; edge = i }) rest answered.0
  none_left front i rest (n ∷ ns) sectors few answered = omega (arith, few)

  at_node : (c : ℕ) → SplitsAll c → (front : List Portal) (q : Portal) (i : ℕ) (rest : List Pending) → IsAsked p ts xs w a q i → (ns : List Node) (sectors : List ℕ) → length ns ≤ suc c
      → AreAnswered xs a (record { path = end_points (map_of p) front; edge = i } ∷ rest) ns [] sectors → Splits front q rest ns sectors
  at_node c all front q i rest n [] sectors few answered = absurd (nothing_left (record { path = end_points (map_of p) front; edge = i }) rest answered.0)
  at_node c all front q i rest n (Open ∷ ns) sectors few answered = opens front q i rest n c all ns sectors (omega (arith, few)) answered
  at_node c all front q i rest n (Blocked e ∷ ns) sectors few answered = closed front q i rest n e ns sectors answered

  at_portal : (front : List Portal) (q : Portal) (rest : List Pending) (ns : List Node) (sectors : List ℕ) → IsInner p ts xs w q
      → ((i : ℕ) → IsAsked p ts xs w a q i → AreAnswered xs a (record { path = end_points (map_of p) front; edge = i } ∷ rest) ns [] sectors → Splits front q rest ns sectors)
      → AreAnswered xs a (asks front q ++ rest) ns [] sectors → Splits front q rest ns sectors
  at_portal front q rest ns sectors inner f answered = by (the_way q) refl
    where
      moved : (o : Option ℕ) → the_way q ≡ o → AreAnswered xs a (pending_way (end_points (map_of p) front) o ++ rest) ns [] sectors
      moved o e = subst (λ (u : Option ℕ). AreAnswered xs a (pending_way (end_points (map_of p) front) u ++ rest) ns [] sectors) e answered

      by : (o : Option ℕ) → the_way q ≡ o → Splits front q rest ns sectors
      by None e = record { here = []; back = ns; opened = []; reached = []; others = sectors; nodes = refl; parts = refl; marked = refl; answers = no_node q (last_pushed q front None) (not_asked p ts xs w a q inner e) refl refl; behind = moved None e }
      by (Some i) e = f i (asked p ts xs w a q i e) (moved (Some i) e)

  subtree : (n : ℕ) → SplitsAll n
  subtree zero front q rest ns sectors inner few answered = at_portal front q rest ns sectors inner (λ i n more. absurd (none_left front i rest ns sectors few more)) answered
  subtree (suc c) front q rest ns sectors inner few answered = at_portal front q rest ns sectors inner (λ i n more. at_node c (subtree c) front q i rest n ns sectors few more) answered

  -- ---- roots

  abbrev the_edge : Side → Option ℕ
  the_edge s = root_edge ts xs (map_of p) a s

  root_portals : (s : Side) → IsTrue (is_root (map_of p) a s) → (q : Portal) × (root_portal (map_of p) s ≡ Some q) × IsInner p ts xs w q
  root_portals s root = at (line_at (map_of p) s.line) refl
    where
      not_true : ◌≡◌ {A = Bool} false true → ⊥
      not_true e = cc

      none : line_at (map_of p) s.line ≡ None → is_root (map_of p) a s ≡ false
      none e = rw e refl

      at : (o : Option MapLine) → line_at (map_of p) s.line ≡ o → (q : Portal) × (root_portal (map_of p) s ≡ Some q) × IsInner p ts xs w q
      at None e = absurd (not_true (sym (none e) ∙ root))
      at (Some l) e = (
        record { left = (side_edge (map_of p) l (not s.left)).from; right = (side_edge (map_of p) l (not s.left)).to },
        ap (option_map (λ (x : MapLine). let q : Portal = record { left = (side_edge (map_of p) x (not s.left)).from; right = (side_edge (map_of p) x (not s.left)).to } in q)) e,
        inr (passable p ts xs w s.line l (not s.left) e (first_is_not l.solid (names_it (sector_on l s.left) a) (not (names_it (sector_on l (not s.left)) a)) (sym (root_test (map_of p) a s l e) ∙ root))),
      )

  no_answer : (n : Node) (rs : List Pending) (here : List ℕ) → AnswersFirst xs a [] n rs here → ⊥
  no_answer Open rs here answer = nothing_left answer.0 answer.1 answer.3
  no_answer (Blocked e) rs here answer = nothing_left answer.0 answer.1 answer.3

  pending_more : (o : Option ℕ) (es : List ℕ) → map root_pending (cons_option o es) ≡ pending_way [] o ++ map root_pending es
  pending_more None es = refl
  pending_more (Some i) es = refl

  abbrev AreRooted : List Side → List Node → List ℕ → Type 0
  AreRooted ss ns sectors = (opened : List ℕ) × AnswersRoots (map_of p) ts ls a ss ns opened × AreMarkedWith opened sectors

  from_roots : (ss : List Side) → AllByRecursion (λ s. IsTrue (is_root (map_of p) a s)) ss → (ns : List Node) (sectors : List ℕ) → AreAnswered xs a (map root_pending (filter_map the_edge ss)) ns [] sectors → AreRooted ss ns sectors
  from_roots [] all [] sectors answered = ([], (refl, refl), sym answered.1)
  from_roots [] all (n ∷ ns) sectors answered = absurd (no_answer n answer.0 answer.1 answer.3)
    where
      answer : AreAnswered xs a [] (n ∷ ns) [] sectors
      answer = answered
  from_roots (s ∷ ss) all ns sectors answered = go (root_portals s all.0) (from_roots ss all.1)
    where
      go : (q : Portal) × (root_portal (map_of p) s ≡ Some q) × IsInner p ts xs w q
          → ((ms : List Node) (more : List ℕ) → AreAnswered xs a (map root_pending (filter_map the_edge ss)) ms [] more → AreRooted ss ms more) → AreRooted (s ∷ ss) ns sectors
      go (q, is, inner) later = join (subtree (length ns) [] q (map root_pending (filter_map the_edge ss)) ns sectors inner (omega arith) moved)
        where
          edge : the_edge s ≡ the_way q
          edge = ap (option_and_then (λ (r : Portal). the_way r)) is

          moved : AreAnswered xs a (asks [] q ++ map root_pending (filter_map the_edge ss)) ns [] sectors
          moved = subst (λ (ps : List Pending). AreAnswered xs a ps ns [] sectors) (pending_more (the_edge s) (filter_map the_edge ss) ∙ ap (λ (o : Option ℕ). pending_way [] o ++ map root_pending (filter_map the_edge ss)) edge) answered

          join : Splits [] q (map root_pending (filter_map the_edge ss)) ns sectors → AreRooted (s ∷ ss) ns sectors
          join l = with_later (later l.back l.others l.behind)
            where
              with_later : AreRooted ss l.back l.others → AreRooted (s ∷ ss) ns sectors
              with_later (opened, rooted, marked) = (l.opened ++ opened, (q, l.here, l.back, l.opened, opened, is, l.nodes, refl, l.answers, rooted), marked_both l.opened opened l.reached l.others l.marked marked ∙ sym l.parts)

  all_kept : (P : Side → Bool) (ss : List Side) → AllByRecursion (λ s. IsTrue (P s)) (filter P ss)
  all_kept P [] = tt
  all_kept P (s ∷ ss) = at (P s) refl (all_kept P ss)
    where
      at : (b : Bool) → P s ≡ b → AllByRecursion (λ s. IsTrue (P s)) (filter P ss) → AllByRecursion (λ s. IsTrue (P s)) (cond b (s ∷ filter P ss) (filter P ss))
      at true e all = (e, all)
      at false e all = all

  -- nodes that answer for the roots of the source and all that follows are a whole tree
  pub whole_tree : (ns : List Node) (sectors : List ℕ) → AreAnswered xs a (map root_pending (filter_map the_edge (roots (map_of p) a))) ns [] sectors → AreRooted (roots (map_of p) a) ns sectors
  whole_tree ns sectors answered = from_roots (roots (map_of p) a) (all_kept (is_root (map_of p) a) (sides_of (map_of p))) ns sectors answered

  -- ---- a whole tree answers for all that is asked

  -- the nodes answer, and enter sectors that are the labels of these triangles
  abbrev IsAnswered : List Pending → List Node → List ℕ → Type 0
  IsAnswered ps ns opened = (sectors : List ℕ) × AreAnswered xs a ps ns [] sectors × AreMarkedWith opened sectors

  abbrev asked_at : List Portal → ℕ → Pending
  asked_at front i = record { path = end_points (map_of p) front; edge = i }

  last_same : (ps front : List Portal) (r q : Portal) → ps ≡ front ++ q ∷ [] → last_or None ps ≡ Some r → r ≡ q
  last_same ps front r q e f = same (sym f ∙ ap (last_or None) e ∙ last_pushed q front None)
    where
      same : ◌≡◌ {A = Option Portal} (Some r) (Some q) → r ≡ q
      same h = cc

  moved_to : (front : List Portal) (q : Portal) (o : Option ℕ) (rest : List Pending) (ns ms : List Node) (ks us : List ℕ) → the_way q ≡ o → ns ≡ ms → ks ≡ us → IsAnswered (pending_way (end_points (map_of p) front) o ++ rest) ms us → IsAnswered (asks front q ++ rest) ns ks
  moved_to front q o rest ns ms ks us e f g answered = subst (λ (vs : List ℕ). IsAnswered (asks front q ++ rest) ns vs) (sym g) (subst (λ (ks : List Node). IsAnswered (asks front q ++ rest) ks us) (sym f) (subst (λ (u : Option ℕ). IsAnswered (pending_way (end_points (map_of p) front) u ++ rest) ms us) (sym e) answered))

  at_none : (front : List Portal) (q : Portal) (rest : List Pending) (here back : List Node) (via others : List ℕ) → HasNoNode (map_of p) ts ls a q → here ≡ [] → via ≡ [] → IsAnswered rest back others → IsAnswered (asks front q ++ rest) (here ++ back) (via ++ others)
  at_none front q rest here back via others none e o answered = moved_to front q None rest (here ++ back) back (via ++ others) others (no_node_unasked p ts xs w a q none) (ap (λ (ns : List Node). ns ++ back) e) (ap (λ (ks : List ℕ). ks ++ others) o) answered

  at_blocked : (front : List Portal) (q : Portal) (k : ℕ) (d : Evidence) (rest : List Pending) (here back : List Node) (via others : List ℕ) → HasNode (map_of p) ts ls a (front ++ q ∷ []) q k → BlocksEnds (end_points (map_of p) (front ++ q ∷ [])) d → here ≡ Blocked d ∷ [] → via ≡ [] → IsAnswered rest back others
      → IsAnswered (asks front q ++ rest) (here ++ back) (via ++ others)
  at_blocked front q k d rest here back via others has blocks e o (sectors, answered, marked) = go (node_asked p ts xs w a q k has.no_wall has.entered has.outside)
    where
      go : (i : ℕ) × (the_way q ≡ Some i) → IsAnswered (asks front q ++ rest) (here ++ back) (via ++ others)
      go (i, way) = moved_to front q (Some i) rest (here ++ back) (Blocked d ∷ back) (via ++ others) others way (ap (λ (ns : List Node). ns ++ back) e) (ap (λ (ks : List ℕ). ks ++ others) o)
          (sectors, (rest, [], sectors, (asked_at front i, rest, n.x, refl, n.is, subst (λ (es : List EndPoints). BlocksEnds es d) (sym (through front q i n.x n.left_at n.right_at)) blocks, refl, refl), answered, refl), marked)
        where
          n : Enters p ts ls xs q i
          n = (asked p ts xs w a q i way).enters

  at_open : (front : List Portal) (q : Portal) (k t : ℕ) (rest : List Pending) (here back left right : List Node) (via others via_left via_right : List ℕ) → HasNode (map_of p) ts ls a (front ++ q ∷ []) q k → apex ts q ≡ Some t → here ≡ Open ∷ (left ++ right) → via ≡ k ∷ (via_left ++ via_right)
      → IsAnswered (asks (front ++ q ∷ []) (way_out q Left t) ++ (asks (front ++ q ∷ []) (way_out q Right t) ++ rest)) (left ++ (right ++ back)) (via_left ++ (via_right ++ others)) → IsAnswered (asks front q ++ rest) (here ++ back) (via ++ others)
  at_open front q k t rest here back left right via others via_left via_right has third e o (sectors, answered, marked) = go (node_asked p ts xs w a q k has.no_wall has.entered has.outside)
    where
      go : (i : ℕ) × (the_way q ≡ Some i) → IsAnswered (asks front q ++ rest) (here ++ back) (via ++ others)
      go (i, way) = moved_to front q (Some i) rest (here ++ back) (Open ∷ (left ++ (right ++ back))) (via ++ others) (k ∷ (via_left ++ (via_right ++ others))) way (ap (λ (ns : List Node). ns ++ back) e ∙ ap (λ (ns : List Node). Open ∷ ns) (append_assoc left right back))
          (ap (λ (ks : List ℕ). ks ++ others) o ∙ ap (λ (ks : List ℕ). k ∷ ks) (append_assoc via_left via_right others)) (
            list_of n.x.sector ++ sectors,
            (
              ways_through xs a (asked_at front i) n.x ++ rest,
              list_of n.x.sector,
              sectors,
              (asked_at front i, rest, n.x, refl, n.is, refl, refl),
              subst (λ (ps : List Pending). AreAnswered xs a ps (left ++ (right ++ back)) [] sectors) (sym ways) answered,
              refl,
            ),
            marked_more k n.x.sector (via_left ++ (via_right ++ others)) sectors label marked,
          )
        where
          n : Enters p ts ls xs q i
          n = (asked p ts xs w a q i way).enters

          same : (b c : ℕ) → ◌≡◌ {A = Option ℕ} (Some b) (Some c) → b ≡ c
          same b c h = cc

          label : label_of ls k ≡ n.x.sector
          label = ap (label_of ls) (same k n.k (sym has.entered ∙ n.found)) ∙ n.label

          ways : ways_through xs a (asked_at front i) n.x ++ rest ≡ asks (front ++ q ∷ []) (way_out q Left t) ++ (asks (front ++ q ∷ []) (way_out q Right t) ++ rest)
          ways = ap (λ (ps : List Pending). ps ++ rest) (ways_are front q i n) ∙ append_assoc (asks (front ++ q ∷ []) (way_out q Left n.x.apex)) (asks (front ++ q ∷ []) (way_out q Right n.x.apex)) rest
              ∙ ap (λ (z : ℕ). asks (front ++ q ∷ []) (way_out q Left z) ++ (asks (front ++ q ∷ []) (way_out q Right z) ++ rest)) (same n.x.apex t (sym (apex_is q i n) ∙ third))

  complete : {ps : List Portal} {here : List Node} {opened : List ℕ} → AnswersFor (map_of p) ts ls a ps here opened → (front : List Portal) (q : Portal) → ps ≡ front ++ q ∷ [] → (rest : List Pending) (back : List Node) (others : List ℕ) → IsAnswered rest back others → IsAnswered (asks front q ++ rest) (here ++ back) (opened ++ others)
  complete {ps = ps} {here = here} {opened = opened} (no_node r last none e o) front q same rest back others answered = at_none front q rest here back opened others (subst (HasNoNode (map_of p) ts ls a) (last_same ps front r q same last) none) e o answered
  complete {ps = ps} {here = here} {opened = opened} (blocked r k d has blocks e o) front q same rest back others answered =
      at_blocked front q k d rest here back opened others (subst (λ (us : List Portal). HasNode (map_of p) ts ls a us q k) same (subst (λ (s : Portal). HasNode (map_of p) ts ls a ps s k) (last_same ps front r q same has.last) has)) (subst (λ (us : List Portal). BlocksEnds (end_points (map_of p) us) d) same blocks) e o answered
  complete {ps = ps} {here = here} {opened = opened} (open_node r k t left right via_left via_right has third one other e o) front q same rest back others answered =
      let is : r ≡ q = last_same ps front r q same has.last in
      let behind_right : IsAnswered (asks (front ++ q ∷ []) (way_out r Right t) ++ rest) (right ++ back) (via_right ++ others) = complete other (front ++ q ∷ []) (way_out r Right t) (ap (λ (us : List Portal). us ++ way_out r Right t ∷ []) same) rest back others answered in
      let behind_left : IsAnswered (asks (front ++ q ∷ []) (way_out r Left t) ++ (asks (front ++ q ∷ []) (way_out r Right t) ++ rest)) (left ++ (right ++ back)) (via_left ++ (via_right ++ others)) = complete one (front ++ q ∷ []) (way_out r Left t) (ap (λ (us : List Portal). us ++ way_out r Left t ∷ []) same)
      (asks (front ++ q ∷ []) (way_out r Right t) ++ rest) (right ++ back) (via_right ++ others) behind_right in
      at_open front q k t rest here back left right opened others via_left via_right (subst (λ (us : List Portal). HasNode (map_of p) ts ls a us q k) same (subst (λ (s : Portal). HasNode (map_of p) ts ls a ps s k) is has)) (ap (apex ts) (sym is) ∙ third) e o
      (subst (λ (s : Portal). IsAnswered (asks (front ++ q ∷ []) (way_out s Left t) ++ (asks (front ++ q ∷ []) (way_out s Right t) ++ rest)) (left ++ (right ++ back)) (via_left ++ (via_right ++ others))) is behind_left)

  all_roots : (ss : List Side) → AllByRecursion (λ s. IsTrue (is_root (map_of p) a s)) ss → (ns : List Node) (opened : List ℕ) → AnswersRoots (map_of p) ts ls a ss ns opened → IsAnswered (map root_pending (filter_map the_edge ss)) ns opened
  all_roots [] all ns opened (e, f) = subst (λ (ks : List ℕ). IsAnswered [] ns ks) (sym f) (subst (λ (ms : List Node). IsAnswered [] ms []) (sym e) ([], (refl, refl), refl))
  all_roots (s ∷ ss) all ns opened (q, front, back, one, more, is, split, parts, answers, others) =
      subst (λ (ks : List ℕ). IsAnswered (map root_pending (cons_option (the_edge s) (filter_map the_edge ss))) ns ks) (sym parts)
      (subst (λ (ms : List Node). IsAnswered (map root_pending (cons_option (the_edge s) (filter_map the_edge ss))) ms (one ++ more)) (sym split)
      (subst (λ (ps : List Pending). IsAnswered ps (front ++ back) (one ++ more)) (sym (pending_more (the_edge s) (filter_map the_edge ss) ∙ ap (λ (o : Option ℕ). pending_way [] o ++ map root_pending (filter_map the_edge ss)) (ap (option_and_then (λ (r : Portal). the_way r)) is)))
      (complete answers [] q refl (map root_pending (filter_map the_edge ss)) back more (all_roots ss all.1 back more others))))

  pub whole_answers : (ns : List Node) (opened : List ℕ) → AnswersRoots (map_of p) ts ls a (roots (map_of p) a) ns opened → (sectors : List ℕ) × AreAnswered xs a (map root_pending (filter_map the_edge (roots (map_of p) a))) ns [] sectors × AreMarkedWith opened sectors
  whole_answers ns opened answers = all_roots (roots (map_of p) a) (all_kept (is_root (map_of p) a) (sides_of (map_of p))) ns opened answers

-- no open node enters a triangle of the sector
pub none_reached : (ls : List (Option ℕ)) (b : ℕ) (opened sectors : List ℕ) → filter_map (label_of ls) opened ≡ sectors → (Contains sectors b → ⊥) → AllByRecursion (λ k. label_of ls k ≢ Some b) opened
none_reached ls b opened sectors e n = of_labels opened (λ c. n (subst (λ (ss : List ℕ). Contains ss b) e c))
  where
    later : (o : Option ℕ) (ss : List ℕ) → Contains ss b → Contains (cons_option o ss) b
    later None ss c = c
    later (Some s) ss (i, l, h) = (suc i, omega (arith, l), h)

    of_labels : (ks : List ℕ) → (Contains (filter_map (label_of ls) ks) b → ⊥) → AllByRecursion (λ k. label_of ls k ≢ Some b) ks
    of_labels [] n = tt
    of_labels (k ∷ ks) n = (λ h. n (subst (λ (o : Option ℕ). Contains (cons_option o (filter_map (label_of ls) ks)) b) (sym h) (0, omega arith, refl)), of_labels ks (λ c. n (later (label_of ls k) (filter_map (label_of ls) ks) c)))

-- it enters no triangle of a sector that isn't among these
pub none_entered : (ls : List (Option ℕ)) (b : ℕ) (opened sectors : List ℕ) → filter_map (label_of ls) opened ≡ sectors → AllByRecursion (λ k. label_of ls k ≢ Some b) opened → Contains sectors b → ⊥
none_entered ls b opened sectors e all c = of_labels opened all (subst (λ (ss : List ℕ). Contains ss b) (sym e) c)
  where
    of_labels : (ks : List ℕ) → AllByRecursion (λ k. label_of ls k ≢ Some b) ks → Contains (filter_map (label_of ls) ks) b → ⊥
    of_labels [] all c = contains_none b c
    of_labels (k ∷ ks) all c = by (label_of ls k) refl c (of_labels ks all.1)
      where
        by : (o : Option ℕ) → label_of ls k ≡ o → Contains (cons_option o (filter_map (label_of ls) ks)) b → (Contains (filter_map (label_of ls) ks) b → ⊥) → ⊥
        by None h c others = others c
        by (Some s) h (zero, l, q) others = all.0 (h ∙ ap (λ (n : ℕ). let o : Option ℕ = Some n in o) q)
        by (Some s) h (suc i, l, q) others = others (i, omega (arith, l), q)
