-- The sequences that are pending, step by step: nodes that answer for what is pending next answer with the new one for what was pending.
use Rattle.std.proofs.Common.{◌≡◌, ◌≢◌, ℕ, ◌⊎◌, inl, inr, List, [], ◌∷◌, ◌++◌, Option, Some, None, slice_get, option_map, option_and_then, map, Bool, true, false, IsTrue, cond, Contains, All, refl, sym, ap, ◌∙◌, subst}
use Rattle.std.specs.List.{AllByRecursion, filter}
use Rattle.std.proofs.lemmas.Bool.{cases_eq}
use Rattle.std.proofs.lemmas.Option.{none-some, same_Some}
use Rattle.std.proofs.lemmas.List.{append_assoc, append-nil}
use Rattle.std.proofs.lemmas.List.Elements.{All-head, All-tail}
use Rattle.sight_names.specs.declared.names.Side.{Side}
use Rattle.sight_names.specs.declared.names.Triangle.{Triangle}
use Rattle.sight_names.specs.Plan.{PlanParts}
use Rattle.sight_names.specs.Map.{map_of}
use Rattle.sight_names.specs.Mesh.{triangle_at, label_of, HasEdge}
use Rattle.sight_names.specs.Sequence.{Portal, Sequence, Way, Left, Right, IsSequence, IsSolidLine, LeadsOutside, entry_edge, way_out, apex, third_point, portals, portals_from, root_portal, roots, sides_of, is_root}
use Rattle.sight_names.proofs.Lists.{contains_tail}
use Rattle.block_evidence.specs.declared.Evidence.{Evidence}
use Rattle.block_evidence.specs.declared.sight_tree.Node.{Node}
use Rattle.block_evidence.specs.declared.sight_tree.Node.TheVariants.{Open, Blocked}
use Rattle.block_evidence.specs.Stuck.{BlocksSequence}
use Rattle.block_evidence.specs.SightTree.WholeTree.{NodesAnswer, HasNoNode, HasNode, no_node, blocked, open_node, AnswersRoots}
use Rattle.sight_lift.specs.SequenceLaws.Ways.{root_alone, one_way_on, both_ways_on}
use Rattle.portal_walk.proofs.Sequences.{portals_more, all_last}
use Rattle.portal_walk.specs.Whole.{IsWalkGround, IsOfKnown, AnswersPending, IsWayIn, EndsAtGap, AnswersSoFar}
use Rattle.portal_walk.proofs.Gaps.{ways_end, root_gap}
use Rattle.math_base.proofs.Lists.{all_so, all_front, all_join, last_pushed, contains_here as contains_head}
use Rattle.mesh_base.proofs.GoodMesh.{found_at}

-- ---- lists

pub all_rest : {X : Type 0} (P : X → Type 0) (xs ys : List X) → AllByRecursion P (xs ++ ys) → AllByRecursion P ys
all_rest P [] ys h = h
all_rest P (x ∷ xs) ys h = all_rest P xs ys h.1

-- ---- more sectors that are known

pub known_more : (ls : List (Option ℕ)) (Known Later : ℕ → Type 0) → ((b : ℕ) → Known b → Later b) → (k : ℕ) → IsOfKnown ls Known k → IsOfKnown ls Later k
known_more ls Known Later keeps k (b, labelled, known) = (b, labelled, keeps b known)

module _ (p : PlanParts) (ts : List Triangle) (ls : List (Option ℕ)) (a : ℕ) where
  pub end_more : (Known Later : ℕ → Type 0) → ((b : ℕ) → Known b → Later b) → (d : Portal) → IsSolidLine (map_of p) d ⊎ IsWayIn p ts ls a Known d → IsSolidLine (map_of p) d ⊎ IsWayIn p ts ls a Later d
  end_more Known Later keeps d (inl s) = inl s
  end_more Known Later keeps d (inr g) = inr (record { k = g.k; behind = g.behind; free = g.free; known = λ none. known_more ls Known Later keeps g.k (g.known none) })

  abbrev pub gap_more : (Known Later : ℕ → Type 0) → ((b : ℕ) → Known b → Later b) → (s : Sequence) → EndsAtGap p ts ls a Known s → EndsAtGap p ts ls a Later s
  gap_more Known Later keeps s c = record { before = c.before; last = c.last; root = c.root; way = c.way; no_wall = c.no_wall; outside = c.outside; end = end_more Known Later keeps c.last c.end }

  -- ---- one sequence

  module _ (Known : ℕ → Type 0) (s : Sequence) (c : EndsAtGap p ts ls a Known s) where
    abbrev all_of : List Portal
    all_of = c.before ++ c.last ∷ []

    outside_or : (k : ℕ) → (label_of ls k ≡ Some a) ⊎ (label_of ls k ≢ Some a)
    outside_or k = at (label_of ls k) refl
      where
        at : (o : Option ℕ) → label_of ls k ≡ o → (label_of ls k ≡ Some a) ⊎ (label_of ls k ≢ Some a)
        at None e = inr (λ h. none-some a (sym e ∙ h))
        at (Some b) e = elim (cases_eq b a) as (λ _. (label_of ls k ≡ Some a) ⊎ (label_of ls k ≢ Some a)) [
          | inl h ↦ inl (e ∙ ap Some h)
          | inr n ↦ inr (λ h. n (same_Some b a (sym e ∙ h)))
        ]

    -- what isn't a sequence has no node
    has_none : ((ds : List Portal) → ¬ IsSequence (map_of p) ts ls a s ds) → HasNoNode (map_of p) ts ls a c.last
    has_none none = at c.end
      where
        at : IsSolidLine (map_of p) c.last ⊎ IsWayIn p ts ls a Known c.last → HasNoNode (map_of p) ts ls a c.last
        at (inl solid) = inl solid
        at (inr g) = elim (outside_or g.k) as (λ _. HasNoNode (map_of p) ts ls a c.last) [
          | inl is ↦ inr (g.k, g.behind, is)
          | inr out ↦ absurd (none all_of (record {
            root = c.root;
            portals = c.way;
            no_wall = all_join (λ (d : Portal). ¬ IsSolidLine (map_of p) d) c.before (c.last ∷ []) c.no_wall (g.free, tt);
            outside = all_join (LeadsOutside ts ls a) c.before (c.last ∷ []) c.outside ((g.k, g.behind, out), tt);
          }))
        ]

    pub skip_one : ((ds : List Portal) → ¬ IsSequence (map_of p) ts ls a s ds) → (rest : List Sequence) (ns : List Node) (opened : List ℕ) → AnswersPending p ts ls a rest ns opened → AnswersPending p ts ls a (s ∷ rest) ns opened
    skip_one none rest ns opened h = (all_of, [], ns, [], opened, c.way, refl, refl, no_node c.last (last_pushed c.last c.before None) (has_none none) refl refl, h)

    module _ (ps : List Portal) (q : IsSequence (map_of p) ts ls a s ps) where
      pub same_portals : ps ≡ all_of
      same_portals = same_Some ps all_of (sym q.portals ∙ c.way)

      walls_free : AllByRecursion (λ (d : Portal). ¬ IsSolidLine (map_of p) d) all_of
      walls_free = subst (AllByRecursion (λ (d : Portal). ¬ IsSolidLine (map_of p) d)) same_portals q.no_wall

      all_outside : AllByRecursion (LeadsOutside ts ls a) all_of
      all_outside = subst (AllByRecursion (LeadsOutside ts ls a)) same_portals q.outside

      last_outside : LeadsOutside ts ls a c.last
      last_outside = all_last (LeadsOutside ts ls a) c.before c.last all_outside

      has_node : HasNode (map_of p) ts ls a all_of c.last last_outside.0
      has_node = record {
        last = last_pushed c.last c.before None;
        no_wall = all_last (λ (d : Portal). ¬ IsSolidLine (map_of p) d) c.before c.last walls_free;
        entered = last_outside.1;
        outside = last_outside.2;
      }

      pub block_one : (e : Evidence) → BlocksSequence (map_of p) ps e → (rest : List Sequence) (ns : List Node) (opened : List ℕ) → AnswersPending p ts ls a rest ns opened → AnswersPending p ts ls a (s ∷ rest) (Blocked e ∷ ns) opened
      block_one e blocks rest ns opened h = (all_of, Blocked e ∷ [], ns, [], opened, c.way, refl, refl, blocked c.last last_outside.0 e has_node (subst (λ (ds : List Portal). BlocksSequence (map_of p) ds e) same_portals blocks) refl refl, h)

      module _ (k : ℕ) (at : triangle_at ts (entry_edge c.last) ≡ Some k) where
        same_triangle : last_outside.0 ≡ k
        same_triangle = same_Some last_outside.0 k (sym last_outside.1 ∙ at)

        third_there : (x : ℕ) × (apex ts c.last ≡ Some x)
        third_there = by (found_at ts (entry_edge c.last) k at)
          where
            by : (t : Triangle) × (slice_get ts k ≡ Some t) × HasEdge t (entry_edge c.last) → (x : ℕ) × (apex ts c.last ≡ Some x)
            by (t, is, has) = (third_point (entry_edge c.last) t, ap (option_map (third_point (entry_edge c.last))) (ap (option_and_then (slice_get ts)) at ∙ is))

        onward : (w : Way) → portals (map_of p) ts (one_way_on s w) ≡ Some (all_of ++ way_out c.last w third_there.0 ∷ [])
        onward w = portals_more ts (root_portal (map_of p) s.root) s.ways w c.before c.last third_there.0 c.way third_there.1

        pub open_one : (rest : List Sequence) (ns : List Node) (opened : List ℕ) → AnswersPending p ts ls a (both_ways_on s ++ rest) ns opened → AnswersPending p ts ls a (s ∷ rest) (Open ∷ ns) (k ∷ opened)
        open_one rest ns opened (lps, left, ns1, via_left, o1, lway, e1, f1, lanswers, (rps, right, back, via_right, via_back, rway, e2, f2, ranswers, h)) = (
          all_of,
          Open ∷ (left ++ right),
          back,
          k ∷ (via_left ++ via_right),
          via_back,
          c.way,
          ap (λ (ms : List Node). Open ∷ ms) (e1 ∙ ap (λ (ms : List Node). left ++ ms) e2 ∙ sym (append_assoc left right back)),
          ap (λ (ks : List ℕ). k ∷ ks) (f1 ∙ ap (λ (ks : List ℕ). via_left ++ ks) f2 ∙ sym (append_assoc via_left via_right via_back)),
          open_node c.last k third_there.0 left right via_left via_right (subst (λ (j : ℕ). HasNode (map_of p) ts ls a all_of c.last j) same_triangle has_node) third_there.1
              (subst (λ (ds : List Portal). NodesAnswer (map_of p) ts ls a ds left via_left) (same_Some lps (all_of ++ way_out c.last Left third_there.0 ∷ []) (sym lway ∙ onward Left)) lanswers)
              (subst (λ (ds : List Portal). NodesAnswer (map_of p) ts ls a ds right via_right) (same_Some rps (all_of ++ way_out c.last Right third_there.0 ∷ []) (sym rway ∙ onward Right)) ranswers)
              refl refl,
          h,
        )

        pub ways_at_gaps : IsWalkGround p ts ls → IsOfKnown ls Known k → AllByRecursion (EndsAtGap p ts ls a Known) (both_ways_on s)
        ways_at_gaps g known = (comes Left ends.0, (comes Right ends.1, tt))
          where
            ends : (IsSolidLine (map_of p) (way_out c.last Left third_there.0) ⊎ IsWayIn p ts ls a Known (way_out c.last Left third_there.0)) × (IsSolidLine (map_of p) (way_out c.last Right third_there.0) ⊎ IsWayIn p ts ls a Known (way_out c.last Right third_there.0))
            ends = ways_end p ts ls g a Known c.last k third_there.0 at known third_there.1

            comes : (w : Way) → IsSolidLine (map_of p) (way_out c.last w third_there.0) ⊎ IsWayIn p ts ls a Known (way_out c.last w third_there.0) → EndsAtGap p ts ls a Known (one_way_on s w)
            comes w e = record { before = all_of; last = way_out c.last w third_there.0; root = c.root; way = onward w; no_wall = walls_free; outside = all_outside; end = e }

  -- ---- the sequences that were passed over

  pub skip_all : (Known : ℕ → Type 0) (skipped rest : List Sequence) → All (λ (s : Sequence). (ds : List Portal) → ¬ IsSequence (map_of p) ts ls a s ds) skipped → AllByRecursion (EndsAtGap p ts ls a Known) skipped
      → (ns : List Node) (opened : List ℕ) → AnswersPending p ts ls a rest ns opened → AnswersPending p ts ls a (skipped ++ rest) ns opened
  skip_all Known [] rest none at_gaps ns opened h = h
  skip_all Known (s ∷ ss) rest none at_gaps ns opened h =
      skip_one Known s at_gaps.0 (All-head (λ (s : Sequence). (ds : List Portal) → ¬ IsSequence (map_of p) ts ls a s ds) s ss none) (ss ++ rest) ns opened
      (skip_all Known ss rest (All-tail (λ (s : Sequence). (ds : List Portal) → ¬ IsSequence (map_of p) ts ls a s ds) s ss none) at_gaps.1 ns opened h)

  -- ---- roots

  all_kept : (P : Side → Bool) (ss : List Side) → AllByRecursion (λ s. IsTrue (P s)) (filter P ss)
  all_kept P [] = tt
  all_kept P (s ∷ ss) = at (P s) refl (all_kept P ss)
    where
      at : (b : Bool) → P s ≡ b → AllByRecursion (λ s. IsTrue (P s)) (filter P ss) → AllByRecursion (λ s. IsTrue (P s)) (cond b (s ∷ filter P ss) (filter P ss))
      at true e all = (e, all)
      at false e all = all

  roots_in : IsWalkGround p ts ls → (Known : ℕ → Type 0) (ss : List Side) → ((s : Side) → Contains ss s → Contains (roots (map_of p) a) s) → AllByRecursion (λ s. IsTrue (is_root (map_of p) a s)) ss → AllByRecursion (EndsAtGap p ts ls a Known) (map root_alone ss)
  roots_in g Known [] within all = tt
  roots_in g Known (s ∷ ss) within all = (first (root_gap p ts ls g a Known s all.0), roots_in g Known ss (λ t c. within t (contains_tail s t ss c)) all.1)
    where
      first : (d : Portal) × (root_portal (map_of p) s ≡ Some d) × IsWayIn p ts ls a Known d → EndsAtGap p ts ls a Known (root_alone s)
      first (d, is, gap) = record { before = []; last = d; root = within s (contains_head s ss); way = ap (λ (o : Option Portal). portals_from ts o []) is; no_wall = tt; outside = tt; end = inr gap }

  pub roots_at_gaps : IsWalkGround p ts ls → (Known : ℕ → Type 0) → AllByRecursion (EndsAtGap p ts ls a Known) (map root_alone (roots (map_of p) a))
  roots_at_gaps g Known = roots_in g Known (roots (map_of p) a) (λ s c. c) (all_kept (is_root (map_of p) a) (sides_of (map_of p)))

  -- what answers for the roots alone answers for the roots
  pub answers_roots : (ss : List Side) (ns : List Node) (opened : List ℕ) → AnswersPending p ts ls a (map root_alone ss) ns opened → AnswersRoots (map_of p) ts ls a ss ns opened
  answers_roots [] ns opened h = h
  answers_roots (s ∷ ss) ns opened (ps, front, back, via_front, via_back, way, e, f, answers, rest) = at (root_portal (map_of p) s) refl (answers_roots ss back via_back rest)
    where
      at : (o : Option Portal) → root_portal (map_of p) s ≡ o → AnswersRoots (map_of p) ts ls a ss back via_back → AnswersRoots (map_of p) ts ls a (s ∷ ss) ns opened
      at None is others = absurd (none-some ps (sym (ap (λ (o : Option Portal). portals_from ts o []) is) ∙ way))
      at (Some d) is others =
          let same : ps ≡ d ∷ [] = same_Some ps (d ∷ []) (sym way ∙ ap (λ (o : Option Portal). portals_from ts o []) is) in
          (d, front, back, via_front, via_back, is, e, f, subst (λ (ds : List Portal). NodesAnswer (map_of p) ts ls a ds front via_front) same answers, others)

  -- ---- nodes that answer so far

  module _ (Known : ℕ → Type 0) (first : List Sequence) where
    abbrev SoFar : List Sequence → List Node → List ℕ → Type 0
    SoFar pending ns opened = AnswersSoFar p ts ls a Known first pending ns opened

    -- what was passed over needs no node
    pub past_skipped : (skipped rest : List Sequence) (ns : List Node) (opened : List ℕ) → All (λ (s : Sequence). (ds : List Portal) → ¬ IsSequence (map_of p) ts ls a s ds) skipped → SoFar (skipped ++ rest) ns opened → SoFar rest ns opened
    past_skipped skipped rest ns opened none h = record {
      goes_on = λ more onward d. h.goes_on more onward (skip_all Known skipped rest none (all_front (EndsAtGap p ts ls a Known) skipped rest h.at_gaps) more onward d);
      at_gaps = all_rest (EndsAtGap p ts ls a Known) skipped rest h.at_gaps;
    }

    module _ (s : Sequence) (rest : List Sequence) (ns : List Node) (opened : List ℕ) (h : AnswersSoFar p ts ls a Known first (s ∷ rest) ns opened) (ps : List Portal) (is : IsSequence (map_of p) ts ls a s ps) where
      pub past_blocked : (e : Evidence) → BlocksSequence (map_of p) ps e → SoFar rest (ns ++ Blocked e ∷ []) opened
      past_blocked e blocks = record {
        goes_on = λ more onward d.
            subst (λ (ms : List Node). AnswersPending p ts ls a first ms (opened ++ onward)) (sym (append_assoc ns (Blocked e ∷ []) more))
            (h.goes_on (Blocked e ∷ more) onward (block_one Known s h.at_gaps.0 ps is e blocks rest more onward d));
        at_gaps = h.at_gaps.1;
      }

      pub past_open : (c : EndsAtGap p ts ls a Known s) (k : ℕ) → triangle_at ts (entry_edge c.last) ≡ Some k → IsWalkGround p ts ls → (Later : ℕ → Type 0) → ((b : ℕ) → Known b → Later b) → IsOfKnown ls Later k
          → AnswersSoFar p ts ls a Later first (both_ways_on s ++ rest) (ns ++ Open ∷ []) (opened ++ k ∷ [])
      past_open c k at g Later keeps known = record {
        goes_on = λ more onward d.
            subst (λ (ms : List Node). AnswersPending p ts ls a first ms ((opened ++ k ∷ []) ++ onward)) (sym (append_assoc ns (Open ∷ []) more))
            (subst (λ (ks : List ℕ). AnswersPending p ts ls a first (ns ++ Open ∷ more) ks) (sym (append_assoc opened (k ∷ []) onward))
            (h.goes_on (Open ∷ more) (k ∷ onward) (open_one Known s c ps is k at rest more onward d)));
        at_gaps = all_join (EndsAtGap p ts ls a Later) (both_ways_on s) rest
            (ways_at_gaps Later s (gap_more Known Later keeps s c) ps is k at g known)
            (all_so (EndsAtGap p ts ls a Known) (EndsAtGap p ts ls a Later) rest (gap_more Known Later keeps) h.at_gaps.1);
      }

    -- with nothing pending the nodes answer for all
    pub all_answered : (ns : List Node) (opened : List ℕ) → SoFar [] ns opened → AnswersPending p ts ls a first ns opened
    all_answered ns opened h = subst (λ (ks : List ℕ). AnswersPending p ts ls a first ns ks) (append-nil opened) (subst (λ (ms : List Node). AnswersPending p ts ls a first ms (opened ++ [])) (append-nil ns) (h.goes_on [] [] (refl, refl)))
