-- A tree that is whole over a good mesh is whole over the labelled triangles alone, and its open nodes lead into triangles of the same labels: a walk that begins beside a labelled triangle passes no line that is solid, so it comes into labelled triangles alone.
use Rattle.std.proofs.Common.{◌≡◌, ◌≢◌, ℕ, inl, inr, List, [], ◌∷◌, ◌++◌, map, slice_get, Contains, Option, Some, None, not, refl, sym, ap, ◌∙◌, subst, option_and_then, option_map}
use Rattle.std.specs.List.{last_or, AllByRecursion}
use Rattle.std.proofs.lemmas.List.{map-append}
use Rattle.std.proofs.lemmas.Option.{same_Some}
use Rattle.sight_names.proofs.Lists.{contains_tail}
use Rattle.sight_names.specs.declared.names.Side.{Side}
use Rattle.sight_names.specs.declared.names.Triangle.{Triangle}
use Rattle.sight_names.specs.Map.{Map, MapLine, IsMap}
use Rattle.sight_names.specs.Mesh.{IsGoodMesh, triangle_at, label_of, side_edge}
use Rattle.sight_names.specs.Sequence.{Portal, Left, Right, entry_edge, way_out, apex, third_point, root_portal, roots, IsSolidLine}
use Rattle.mesh_base.proofs.GoodMesh.{PointFacts}
use Rattle.sight_lift.proofs.Behind.{Third, third_first, third_turned, behind}
use Rattle.sight_lift.proofs.Doors.{has_name, named_is, step_over}
use Rattle.sight_lift.proofs.Sequences.{IsRoot, root_is}
use Rattle.block_evidence.specs.declared.sight_tree.Node.{Node}
use Rattle.block_evidence.specs.declared.sight_tree.Tree.{Tree}
use Rattle.block_evidence.specs.SightTree.WholeTree.{HasNoNode, HasNode, NodesAnswer, no_node, blocked, open_node, AnswersRoots, IsWholeTree, KeepsFrom}
use Rattle.group_job.specs.Labelled.{labelled_of}
use Rattle.group_job.proofs.GoodLabelled.{triangle_list, label_list, found_too}
use Rattle.math_base.proofs.Lists.{contains_here, last_pushed}

-- ---- lists of labels

module _ (f g : ℕ → Option ℕ) where
  joined : (xs ys us vs : List ℕ) → map f xs ≡ map g us → map f ys ≡ map g vs → map f (xs ++ ys) ≡ map g (us ++ vs)
  joined xs ys us vs e h = map-append f xs ys ∙ (ap (λ (ls : List (Option ℕ)). ls ++ map f ys) e ∙ (ap (λ (ls : List (Option ℕ)). map g us ++ ls) h ∙ sym (map-append g us vs)))

  one_more : (x u : ℕ) (xs us : List ℕ) → f x ≡ g u → map f xs ≡ map g us → map f (x ∷ xs) ≡ map g (u ∷ us)
  one_more x u xs us e h = ap (λ (l : Option ℕ). l ∷ map f xs) e ∙ ap (λ (ls : List (Option ℕ)). g u ∷ ls) h

all_of_map : (f : ℕ → Option ℕ) (P : Option ℕ → Type 0) (xs : List ℕ) → AllByRecursion (λ (x : ℕ). P (f x)) xs → AllByRecursion P (map f xs)
all_of_map f P [] h = tt
all_of_map f P (x ∷ xs) h = (h.0, all_of_map f P xs h.1)

map_of_all : (f : ℕ → Option ℕ) (P : Option ℕ → Type 0) (xs : List ℕ) → AllByRecursion P (map f xs) → AllByRecursion (λ (x : ℕ). P (f x)) xs
map_of_all f P [] h = tt
map_of_all f P (x ∷ xs) h = (h.0, map_of_all f P xs h.1)

-- the third point is that of the triangle behind the portal
same_apex : (ts us : List Triangle) (p : Portal) (k j : ℕ) → triangle_at ts (entry_edge p) ≡ Some k → triangle_at us (entry_edge p) ≡ Some j → slice_get us j ≡ slice_get ts k → apex us p ≡ apex ts p
same_apex ts us p k j at there same =
    let third : Option Triangle → Option ℕ = option_map (third_point (entry_edge p)) in
    ap (λ (o : Option ℕ). third (option_and_then (slice_get us) o)) there ∙ (ap third same ∙ sym (ap (λ (o : Option ℕ). third (option_and_then (slice_get ts) o)) at))

module _ (m : Map) (is_map : IsMap m) (facts : PointFacts m) (ts : List Triangle) (ls : List (Option ℕ)) (good : IsGoodMesh m ts ls) where
  abbrev pub us : List Triangle
  us = triangle_list (labelled_of ts ls)

  abbrev pub ms : List (Option ℕ)
  ms = label_list (labelled_of ts ls)

  -- the portal is a solid line, or it leads into a labelled triangle
  abbrev LeadsOn : Portal → Type 0
  LeadsOn q = ¬ IsSolidLine m q → (k b : ℕ) × (triangle_at ts (entry_edge q) ≡ Some k) × (label_of ls k ≡ Some b)

  left_leads_on : (k b t : ℕ) (u : Triangle) → slice_get ts k ≡ Some u → label_of ls k ≡ Some b → (q : Portal) → Third u q.left q.right t → LeadsOn (way_out q Left t)
  left_leads_on k b t u is label q third free =
      let o = step_over m is_map facts ts ls good k b u is label (way_out q Left t) (third_first u t q.left q.right (third_turned u q.right t q.left (third_turned u q.left q.right t third))) free in
      (o.k, o.b, o.found, o.label)

  right_leads_on : (k b t : ℕ) (u : Triangle) → slice_get ts k ≡ Some u → label_of ls k ≡ Some b → (q : Portal) → Third u q.left q.right t → LeadsOn (way_out q Right t)
  right_leads_on k b t u is label q third free =
      let o = step_over m is_map facts ts ls good k b u is label (way_out q Right t) (third_first u q.right t q.left (third_turned u q.left q.right t third)) free in
      (o.k, o.b, o.found, o.label)

  root_leads_on : (a : ℕ) (s : Side) → IsRoot m a s → (p : Portal) → root_portal m s ≡ Some p → LeadsOn p
  root_leads_on a s root p first free =
      let l = root.line in
      let e = side_edge m l (not s.left) in
      let own : Portal = record { left = e.from; right = e.to } in
      let there : root_portal m s ≡ Some own = ap (option_map (λ (x : MapLine). let d = side_edge m x (not s.left) in let q : Portal = record { left = d.from; right = d.to } in q)) root.is in
      let same : p ≡ own = same_Some p own (sym first ∙ there) in
      let n = has_name m.sectors l (not s.left) (is_map s.line l root.is) root.passable in
      let f = good.fits.sides (record { line = s.line; left = not s.left }) l n.0 root.is (named_is m s.line l (not s.left) n.0 root.is n.1) in
      (f.0, n.0, ap (λ (q : Portal). triangle_at ts (entry_edge q)) same ∙ f.1, f.2)

  module _ (a : ℕ) where
    -- ---- one sequence and all that follow it

    no_node_too : (q : Portal) → HasNoNode m ts ls a q → HasNoNode m us ms a q
    no_node_too q (inl wall) = inl wall
    no_node_too q (inr (k, at, label)) = let f = found_too m ts ls good (entry_edge q) k a at label in inr (f.0, f.1, f.2)

    -- the triangle behind the portal, among the labelled ones
    record NodeToo (ps : List Portal) (q : Portal) (k : ℕ) : Type 0 where
      b : ℕ
      named : label_of ls k ≡ Some b
      j : ℕ
      node : HasNode m us ms a ps q j
      label : label_of ms j ≡ label_of ls k
      triangle : apex us q ≡ apex ts q

    node_too : (ps : List Portal) (q : Portal) (k : ℕ) → HasNode m ts ls a ps q k → LeadsOn q → NodeToo ps q k
    node_too ps q k has on =
        let o = on has.no_wall in
        let same : o.0 ≡ k = same_Some o.0 k (sym o.2 ∙ has.entered) in
        let named : label_of ls k ≡ Some o.1 = ap (label_of ls) (sym same) ∙ o.3 in
        let f = found_too m ts ls good (entry_edge q) k o.1 has.entered named in
        let label : label_of ms f.0 ≡ label_of ls k = f.2 ∙ sym named in
        record {
          b = o.1;
          named = named;
          j = f.0;
          node = record { last = has.last; no_wall = has.no_wall; entered = f.1; outside = λ e. has.outside (sym label ∙ e) };
          label = label;
          triangle = same_apex ts us q k f.0 has.entered f.1 f.3;
        }

    -- the nodes answer over the labelled triangles too
    record AnswersToo (ps : List Portal) (ns : List Node) (opened : List ℕ) : Type 0 where
      among : List ℕ
      answers : NodesAnswer m us ms a ps ns among
      labels : map (label_of ms) among ≡ map (label_of ls) opened

    answers_too : (ps : List Portal) (ns : List Node) (opened : List ℕ) → NodesAnswer m ts ls a ps ns opened → (p : Portal) → last_or None ps ≡ Some p → LeadsOn p → AnswersToo ps ns opened
    answers_too ps ns opened (no_node q last none e o) p at on = record { among = []; answers = no_node q last (no_node_too q none) e refl; labels = sym (ap (map (label_of ls)) o) }
    answers_too ps ns opened (blocked q k evidence has blocks e o) p at on =
        let n = node_too ps q k has (subst LeadsOn (same_Some p q (sym at ∙ has.last)) on) in
        record { among = []; answers = blocked q n.j evidence n.node blocks e refl; labels = sym (ap (map (label_of ls)) o) }
    answers_too ps ns opened (open_node q k t left right via_left via_right has tip on_left on_right e o) p at on =
        let n = node_too ps q k has (subst LeadsOn (same_Some p q (sym at ∙ has.last)) on) in
        let b = behind m ts ls good q k has.entered in
        let third : Third b.1.tri q.left q.right t = subst (λ (x : ℕ). Third b.1.tri q.left q.right x) (same_Some b.0 t (sym b.1.tip ∙ tip)) b.1.third in
        let l = answers_too (ps ++ way_out q Left t ∷ []) left via_left on_left (way_out q Left t) (last_pushed (way_out q Left t) ps None) (left_leads_on k n.b t b.1.tri b.1.is n.named q third) in
        let r = answers_too (ps ++ way_out q Right t ∷ []) right via_right on_right (way_out q Right t) (last_pushed (way_out q Right t) ps None) (right_leads_on k n.b t b.1.tri b.1.is n.named q third) in
        record {
          among = n.j ∷ (l.among ++ r.among);
          answers = open_node q n.j t left right l.among r.among n.node (n.triangle ∙ tip) l.answers r.answers e refl;
          labels = one_more (label_of ms) (label_of ls) n.j k (l.among ++ r.among) (via_left ++ via_right) n.label (joined (label_of ms) (label_of ls) l.among r.among via_left via_right l.labels r.labels) ∙ sym (ap (map (label_of ls)) o);
        }

    -- ---- all roots

    record RootsToo (ss : List Side) (ns : List Node) (opened : List ℕ) : Type 0 where
      among : List ℕ
      answers : AnswersRoots m us ms a ss ns among
      labels : map (label_of ms) among ≡ map (label_of ls) opened

    roots_too : (ss : List Side) → ((s : Side) → Contains ss s → IsRoot m a s) → (ns : List Node) (opened : List ℕ) → AnswersRoots m ts ls a ss ns opened → RootsToo ss ns opened
    roots_too [] are ns opened h = record { among = []; answers = (h.0, refl); labels = sym (ap (map (label_of ls)) h.1) }
    roots_too (s ∷ ss) are ns opened (p, front, back, via_front, via_back, root, e, o, first, rest) =
        let f = answers_too (p ∷ []) front via_front first p refl (root_leads_on a s (are s (contains_here s ss)) p root) in
        let r = roots_too ss (λ x c. are x (contains_tail s x ss c)) back via_back rest in
        record {
          among = f.among ++ r.among;
          answers = (p, front, back, f.among, r.among, root, e, refl, f.answers, r.answers);
          labels = joined (label_of ms) (label_of ls) f.among r.among via_front via_back f.labels r.labels ∙ sym (ap (map (label_of ls)) o);
        }

  -- ---- a whole tree

  pub whole_too : (t : Tree) (opened : List ℕ) → IsWholeTree m ts ls t opened → (among : List ℕ) × IsWholeTree m us ms t among × (map (label_of ms) among ≡ map (label_of ls) opened)
  whole_too t opened whole = let r = roots_too t.source (roots m t.source) (λ s c. root_is m t.source s c) t.nodes opened whole in (r.among, r.answers, r.labels)

  pub keeps_too : (t : Tree) (b : ℕ) → KeepsFrom m ts ls t b → KeepsFrom m us ms t b
  keeps_too t b (opened, whole, away) =
      let w = whole_too t opened whole in
      let Away : Option ℕ → Type 0 = λ l. l ≢ Some b in
      (w.0, w.1, map_of_all (label_of ms) Away w.0 (subst (AllByRecursion Away) (sym w.2) (all_of_map (label_of ls) Away opened away)))
