-- In a tree of asked ways each stabbable sequence of the source is followed to its end, or a way on it is skipped.
use Rattle.std.proofs.Common.{◌≡◌, ℕ, ◌⊎◌, inl, inr, List, [], ◌∷◌, ◌++◌, Option, Some, None, Contains, sym, ap, ◌∙◌, subst}
use Rattle.std.specs.List.{last_or, AllByRecursion}
use Rattle.std.proofs.lemmas.List.{append_assoc}
use Rattle.sight_names.specs.declared.names.Side.{Side}
use Rattle.sight_names.specs.declared.names.Triangle.{Triangle}
use Rattle.sight_names.specs.Map.{Map}
use Rattle.sight_names.specs.Mesh.{label_of}
use Rattle.sight_names.specs.Sequence.{Portal, Way, Left, Right, Sequence, way_out, apex, root_portal, roots, portals_from, end_points, IsSequence, IsStabbable, IsSolidLine, LeadsOutside}
use Rattle.sight_names.proofs.Lists.{contains_cases}
use Rattle.block_evidence.specs.declared.Evidence.{Evidence}
use Rattle.block_evidence.specs.Stuck.{BlocksSequence}
use Rattle.block_evidence.proofs.Answering.{blocked_no_line}
use Rattle.block_evidence.specs.declared.sight_tree.Node.{Node}
use Rattle.block_evidence.specs.SightTree.WholeTree.{HasNoNode}
use Rattle.math_base.proofs.Options.{some_is_same}
use Rattle.math_base.proofs.Lists.{last_pushed, contains_none}
use Rattle.sight_lift.proofs.Sequences.{begins, next_portals}
use Rattle.cert_checker.proofs.Seeing.{front_stabbable}
use Rattle.gate_floods.specs.Rows.{AnswersUnskipped, no_node, skipped, blocked, open_node, RootsAsked}

module _ (m : Map) (ts : List Triangle) (ls : List (Option ℕ)) (a : ℕ) (Skips Asks Enters : List Portal → Type 0) where
  -- the last of the first ones of these portals is skipped
  pub record HasSkipped (ps : List Portal) : Type 0 where
    pub front : List Portal
    pub back : List Portal
    pub parts : ps ≡ front ++ back
    pub skips : Skips front

  -- all of them have a node, or one of them is skipped
  abbrev pub IsFollowed : List Portal → Type 0
  IsFollowed ps = Enters ps ⊎ HasSkipped ps

  no_way_out : (p : Portal) → ¬ IsSolidLine m p → LeadsOutside ts ls a p → HasNoNode m ts ls a p → ⊥
  no_way_out p wall out (inl s) = wall s
  no_way_out p wall out (inr (k, found, label)) = out.2 (ap (label_of ls) (some_is_same out.0 k (sym out.1 ∙ found)) ∙ label)

  same_last : (front : List Portal) (p q : Portal) → last_or None (front ++ p ∷ []) ≡ Some q → p ≡ q
  same_last front p q e = some_is_same p q (sym (last_pushed p front None) ∙ e)

  one_more : (front : List Portal) (p : Portal) (qs : List Portal) → front ++ p ∷ qs ≡ (front ++ p ∷ []) ++ qs
  one_more front p qs = sym (append_assoc front (p ∷ []) qs)

  -- the sequence goes on from the portal p, which comes behind those in front
  record IsGoing (front : List Portal) (p : Portal) (ws : List Way) (qs : List Portal) : Type 0 where
    pub from : portals_from ts (Some p) ws ≡ Some (p ∷ qs)
    pub walls : AllByRecursion (λ q. ¬ IsSolidLine m q) (p ∷ qs)
    pub outs : AllByRecursion (LeadsOutside ts ls a) (p ∷ qs)
    pub line : IsStabbable m (front ++ p ∷ qs)

  no_skip : (front : List Portal) (p q : Portal) (ws : List Way) (qs : List Portal) → IsGoing front p ws qs → last_or None (front ++ p ∷ []) ≡ Some q → HasNoNode m ts ls a q → ⊥
  no_skip front p q ws qs g last none = no_way_out p g.walls.0 g.outs.0 (subst (λ (r : Portal). HasNoNode m ts ls a r) (sym (same_last front p q last)) none)

  no_block : (front : List Portal) (p : Portal) (ws : List Way) (qs : List Portal) (e : Evidence) → IsGoing front p ws qs → BlocksSequence m (front ++ p ∷ []) e → ⊥
  no_block front p ws qs e g blocks = blocked_no_line (end_points m (front ++ p ∷ [])) e blocks (front_stabbable m (front ++ p ∷ []) qs (subst (IsStabbable m) (one_more front p qs) g.line))

  -- whatever goes on by these ways is followed
  abbrev Follows : List Way → Type 0
  Follows ws = (front : List Portal) (p : Portal) (qs : List Portal) (ns : List Node) → IsGoing front p ws qs → AnswersUnskipped m ts ls a Skips Asks Enters (front ++ p ∷ []) ns → IsFollowed (front ++ p ∷ qs)

  skipped_here : (front : List Portal) (p : Portal) (qs : List Portal) → Skips (front ++ p ∷ []) → HasSkipped (front ++ p ∷ qs)
  skipped_here front p qs s = record { front = front ++ p ∷ []; back = qs; parts = one_more front p qs; skips = s }

  follows_here : Follows []
  follows_here front p qs ns going (no_node q last none e) = absurd (no_skip front p q [] qs going last none)
  follows_here front p qs ns going (skipped q k has skips f) = inr (skipped_here front p qs skips)
  follows_here front p qs ns going (blocked q k e has asks blocks f) = absurd (no_block front p [] qs e going blocks)
  follows_here front p qs ns going (open_node q k t left right has asks enters third in_left in_right f) = inl (subst (λ (us : List Portal). Enters (front ++ us)) (some_is_same (p ∷ []) (p ∷ qs) going.from) enters)

  module _ (w : Way) (ws : List Way) (rest : Follows ws) where
    follows_behind : (v : Way) (front : List Portal) (p : Portal) (t : ℕ) (qs rs : List Portal) (ns : List Node) → portals_from ts (Some (way_out p v t)) ws ≡ Some (way_out p v t ∷ rs) → qs ≡ way_out p v t ∷ rs
        → AllByRecursion (λ q. ¬ IsSolidLine m q) (p ∷ qs) → AllByRecursion (LeadsOutside ts ls a) (p ∷ qs) → IsStabbable m (front ++ p ∷ qs) → AnswersUnskipped m ts ls a Skips Asks Enters ((front ++ p ∷ []) ++ way_out p v t ∷ []) ns → IsFollowed (front ++ p ∷ qs)
    follows_behind v front p t qs rs ns h is walls outs line answers =
        let q = way_out p v t in
        let moved_walls : AllByRecursion (λ r. ¬ IsSolidLine m r) (p ∷ q ∷ rs) = subst (λ (us : List Portal). AllByRecursion (λ r. ¬ IsSolidLine m r) (p ∷ us)) is walls in
        let moved_outs : AllByRecursion (LeadsOutside ts ls a) (p ∷ q ∷ rs) = subst (λ (us : List Portal). AllByRecursion (LeadsOutside ts ls a) (p ∷ us)) is outs in
        let all : front ++ p ∷ qs ≡ (front ++ p ∷ []) ++ q ∷ rs = ap (λ (us : List Portal). front ++ p ∷ us) is ∙ one_more front p (q ∷ rs) in
        subst IsFollowed (sym all) (rest (front ++ p ∷ []) q rs ns (record { from = h; walls = moved_walls.1; outs = moved_outs.1; line = subst (IsStabbable m) all line }) answers)

    follows_next : Follows (w ∷ ws)
    follows_next front p qs ns going (no_node q last none e) = absurd (no_skip front p q (w ∷ ws) qs going last none)
    follows_next front p qs ns going (skipped q k has skips f) = inr (skipped_here front p qs skips)
    follows_next front p qs ns going (blocked q k e has asks blocks f) = absurd (no_block front p (w ∷ ws) qs e going blocks)
    follows_next front p qs ns going (open_node q k t left right has asks enters third in_left in_right f) = by w (next_portals ts p w ws qs t third_is going.from)
      where
        same : p ≡ q
        same = same_last front p q has.last

        third_is : apex ts p ≡ Some t
        third_is = subst (λ (r : Portal). apex ts r ≡ Some t) (sym same) third

        by : (v : Way) → (rs : List Portal) × (qs ≡ way_out p v t ∷ rs) × (portals_from ts (Some (way_out p v t)) ws ≡ Some (way_out p v t ∷ rs)) → IsFollowed (front ++ p ∷ qs)
        by Left (rs, is, h) = follows_behind Left front p t qs rs left h is going.walls going.outs going.line (subst (λ (r : Portal). AnswersUnskipped m ts ls a Skips Asks Enters ((front ++ p ∷ []) ++ way_out r Left t ∷ []) left) (sym same) in_left)
        by Right (rs, is, h) = follows_behind Right front p t qs rs right h is going.walls going.outs going.line (subst (λ (r : Portal). AnswersUnskipped m ts ls a Skips Asks Enters ((front ++ p ∷ []) ++ way_out r Right t ∷ []) right) (sym same) in_right)

  going_followed : (ws : List Way) → Follows ws
  going_followed [] = follows_here
  going_followed (w ∷ ws) = follows_next w ws (going_followed ws)

  at_first : (p : Portal) (ws : List Way) (ps : List Portal) (ns : List Node) → portals_from ts (Some p) ws ≡ Some ps → AllByRecursion (λ q. ¬ IsSolidLine m q) ps → AllByRecursion (LeadsOutside ts ls a) ps → IsStabbable m ps
      → AnswersUnskipped m ts ls a Skips Asks Enters (p ∷ []) ns → IsFollowed ps
  at_first p ws ps ns e walls outs line here =
      let b = begins ts p ws ps e in
      subst IsFollowed (sym b.1) (going_followed ws [] p b.0 ns (record {
        from = e ∙ ap (λ (us : List Portal). Some us) b.1;
        walls = subst (λ (us : List Portal). AllByRecursion (λ r. ¬ IsSolidLine m r) us) b.1 walls;
        outs = subst (λ (us : List Portal). AllByRecursion (LeadsOutside ts ls a) us) b.1 outs;
        line = subst (IsStabbable m) b.1 line;
      }) here)

  at_root : (ss : List Side) (s : Side) (ws : List Way) (ps : List Portal) (ns : List Node) → Contains ss s → portals_from ts (root_portal m s) ws ≡ Some ps → AllByRecursion (λ q. ¬ IsSolidLine m q) ps → AllByRecursion (LeadsOutside ts ls a) ps → IsStabbable m ps
      → RootsAsked m ts ls a Skips Asks Enters ss ns → IsFollowed ps
  at_root [] s ws ps ns there e walls outs line all = absurd (contains_none s there)
  at_root (r ∷ ss) s ws ps ns there e walls outs line (p, front, back, is, f, here, behind) = elim (contains_cases r s ss there) as (λ _. IsFollowed ps) [
    | inl same ↦ at_first p ws ps front (sym (ap (λ (o : Option Portal). portals_from ts o ws) (ap (root_portal m) (sym same) ∙ is)) ∙ e) walls outs line here
    | inr k ↦ at_root ss s ws ps back k e walls outs line behind
  ]

  pub followed_or_skipped : (s : Sequence) (ps : List Portal) (ns : List Node) → RootsAsked m ts ls a Skips Asks Enters (roots m a) ns → IsSequence m ts ls a s ps → IsStabbable m ps → IsFollowed ps
  followed_or_skipped s ps ns whole sequence line = at_root (roots m a) s.root s.ways ps ns sequence.root sequence.portals sequence.no_wall sequence.outside line whole
