-- The nodes of a walk answer, with what is still pending, for all roots of its source: at its beginning, after each step, and at its end, where they are a whole tree.
use Rattle.std.proofs.Common.{◌≡◌, ℕ, ◌⊎◌, inl, inr, List, [], ◌∷◌, ◌++◌, Option, Some, None, Result, Ok, Err, IfOk, OnErr, IsSome, map, refl, sym, ap, ◌∙◌, subst}
use Rattle.std.specs.List.{AllByRecursion}
use Rattle.std.proofs.lemmas.Option.{same_Some}
use Rattle.std.proofs.lemmas.List.{append-nil, same_from_push}
use Rattle.sight_names.specs.declared.names.Memory.{Memory}
use Rattle.sight_names.specs.declared.names.Side.{Side}
use Rattle.sight_names.specs.Plan.{PlanParts, IsPlan}
use Rattle.sight_names.specs.Map.{map_of}
use Rattle.sight_names.specs.Mesh.{label_of, triangle_at, IsLineEdge, IsGoodMesh}
use Rattle.sight_names.specs.Sequence.{Portal, Sequence, entry_edge, IsSolidLine, roots}
use Rattle.sight_names.specs.Sound.{LinesMeetAtEnds}
use Rattle.mesh_shape.specs.Shape.{MeshParts}
use Rattle.block_evidence.specs.declared.Evidence.{Evidence}
use Rattle.block_evidence.specs.declared.sight_tree.Node.{Node}
use Rattle.block_evidence.specs.declared.sight_tree.Node.TheVariants.{Open as OpenNode, Blocked as BlockedNode}
use Rattle.block_evidence.specs.declared.sight_tree.Tree.{Tree}
use Rattle.block_evidence.specs.SightTree.WholeTree.{AnswersRoots, IsWholeTree}
use Rattle.sight_lift.specs.SequenceLaws.Ways.{root_alone, both_ways_on}
use Rattle.mesh_shape.specs.HalfEdges.Kinds.{IsEnteredAt}
use Rattle.portal_walk.specs.declared.step.Step.{Step}
use Rattle.portal_walk.specs.declared.step.Step.TheVariants.{Open, Blocked, End}
use Rattle.portal_walk.specs.declared.step.Went.{Went}
use Rattle.portal_walk.specs.declared.step.Went.TheVariants as went
use Rattle.portal_walk.specs.Sides.{ArrivesAt}
use Rattle.portal_walk.specs.Walk.{WalkParts, SameWalk, AnswersSequence, Rests, BlocksPending, Ends, Goes, LeadsPending, TakesStep, pending, sequences_left}
use Rattle.portal_walk.specs.Whole.{IsWalkGround, IsOfKnown, IsWayIn, EndsAtGap, AnswersPending, AnswersSoFar, IsAnySector, IsWholeSoFar, all_roots}
use Rattle.portal_walk.proofs.Sequences.{all_last}
use Rattle.portal_walk.proofs.Steps.{leads_by, leads_to}
use Rattle.portal_walk.proofs.Upcoming.{none_pending}
use Rattle.portal_walk.proofs.Covering.{known_more, same_portals, past_skipped, past_blocked, past_open, all_answered, roots_at_gaps, answers_roots}

-- over the walk's own map
abbrev pub IsOver : WalkParts → Type 0
IsOver w = IsWalkGround w.plan w.mesh.triangles w.labels

abbrev pub HasAnswered : (ℕ → Type 0) → List Sequence → WalkParts → List ℕ → Type 0
HasAnswered Known first w opened = AnswersSoFar w.plan w.mesh.triangles w.labels w.source Known first (pending w) w.nodes opened

pub over_moved : (old new : WalkParts) → SameWalk old new → IsOver old → IsOver new
over_moved old new k h = rw (k.plan, k.mesh, k.labels) h

so_far_moved : (old new : WalkParts) → SameWalk old new → (Known : ℕ → Type 0) (first ss : List Sequence) (ns : List Node) (opened : List ℕ) → AnswersSoFar old.plan old.mesh.triangles old.labels old.source Known first ss ns opened → AnswersSoFar new.plan new.mesh.triangles new.labels new.source Known first ss ns opened
so_far_moved old new k Known first ss ns opened h = rw (k.plan, k.mesh, k.labels, k.source) h

-- ---- the beginning

pub begins_so_far : (w : WalkParts) → IsOver w → (Known : ℕ → Type 0) → pending w ≡ all_roots w → w.nodes ≡ [] → HasAnswered Known (pending w) w []
begins_so_far w g Known first none = record {
  goes_on = λ more onward h. subst (λ (ns : List Node). AnswersPending w.plan w.mesh.triangles w.labels w.source (pending w) (ns ++ more) onward) (sym none) h;
  at_gaps = subst (AllByRecursion (EndsAtGap w.plan w.mesh.triangles w.labels w.source Known)) (sym first) (roots_at_gaps w.plan w.mesh.triangles w.labels w.source g Known);
}

-- ---- steps

module _ (Known : ℕ → Type 0) (first : List Sequence) (old new : WalkParts) (opened : List ℕ) (h : HasAnswered Known first old opened) (same : SameWalk old new) where
  abbrev Over : List Sequence → List Node → Type 0
  Over ss ns = AnswersSoFar old.plan old.mesh.triangles old.labels old.source Known first ss ns opened

  pub answers_resting : Rests old new → HasAnswered Known first new opened
  answers_resting r = so_far_moved old new same Known first (pending new) new.nodes opened
      (subst (λ (ns : List Node). Over (pending new) ns) (sym r.nodes)
      (past_skipped old.plan old.mesh.triangles old.labels old.source Known first r.skips.skipped (pending new) old.nodes opened r.skips.none
      (subst (λ (ss : List Sequence). Over ss old.nodes) r.skips.first h)))

  pub answers_ended : Ends old new → HasAnswered Known first new opened
  answers_ended e = so_far_moved old new same Known first (pending new) new.nodes opened
      (subst (λ (ss : List Sequence). Over ss new.nodes) (sym e.over)
      (subst (λ (ns : List Node). Over [] ns) (sym e.nodes)
      (past_skipped old.plan old.mesh.triangles old.labels old.source Known first (pending old) [] old.nodes opened e.past
      (subst (λ (ss : List Sequence). Over ss old.nodes) (sym (append-nil (pending old))) h))))

  -- once the sequences before it were passed over
  at_step : (s : Sequence) (node : Node) (more : List Sequence) (step : AnswersSequence old new s node more) → Over (s ∷ step.rest) old.nodes
  at_step s node more step = past_skipped old.plan old.mesh.triangles old.labels old.source Known first step.skipped (s ∷ step.rest) old.nodes opened step.none
      (subst (λ (ss : List Sequence). Over ss old.nodes) step.first h)

  pub answers_blocked : (e : Evidence) → BlocksPending old new e → HasAnswered Known first new opened
  answers_blocked e b = so_far_moved old new same Known first (pending new) new.nodes opened
      (subst (λ (ss : List Sequence). Over ss new.nodes) (sym b.answers.next)
      (subst (λ (ns : List Node). Over b.answers.rest ns) (sym b.answers.nodes)
      (past_blocked old.plan old.mesh.triangles old.labels old.source Known first b.sequence b.answers.rest old.nodes opened (at_step b.sequence (BlockedNode e) [] b.answers) b.blocked.portals b.blocked.sequence e b.blocked.evidence)))

  module _ (k : ℕ) (entered : Option Side) (o : LeadsPending old new k entered) (Later : ℕ → Type 0) (keeps : (n : ℕ) → Known n → Later n) where
    abbrev all_of : List Portal
    all_of = o.opened.before ++ o.opened.last ∷ []

    here : Over (o.sequence ∷ o.answers.rest) old.nodes
    here = at_step o.sequence OpenNode (both_ways_on o.sequence) o.answers

    coming_it : EndsAtGap old.plan old.mesh.triangles old.labels old.source Known o.sequence
    coming_it = here.at_gaps.0

    same_last : o.opened.last ≡ coming_it.last
    same_last = last_same o.opened.before coming_it.before o.opened.last coming_it.last (same_portals old.plan old.mesh.triangles old.labels old.source Known o.sequence coming_it all_of o.opened.sequence)
      where
        last_same : (ps qs : List Portal) (d e : Portal) → ps ++ d ∷ [] ≡ qs ++ e ∷ [] → d ≡ e
        last_same ps qs d e h = (same_from_push ps qs d e h).1

    -- the triangle is of a known sector: of that where the walk arrived, or of the one before, where no line is between
    pub known_by : (side : Option Side) → IsEnteredAt old.plan o.opened.last side → ArrivesAt old.plan old.labels k side → ((sector : ℕ) → label_of old.labels k ≡ Some sector → IsSome side → Later sector) → IsOfKnown old.labels Later k
    known_by (Some side) at arrives noted = (arrives.sector, arrives.label, noted arrives.sector arrives.label refl)
    known_by None at arrives noted = by coming_it.end
      where
        by : IsSolidLine (map_of old.plan) coming_it.last ⊎ IsWayIn old.plan old.mesh.triangles old.labels old.source Known coming_it.last → IsOfKnown old.labels Later k
        by (inl solid) = absurd (all_last (λ (d : Portal). ¬ IsSolidLine (map_of old.plan) d) o.opened.before o.opened.last o.opened.sequence.no_wall (subst (IsSolidLine (map_of old.plan)) (sym same_last) solid))
        by (inr gap) =
            let behind : gap.k ≡ k = same_Some gap.k k (sym gap.behind ∙ ap (λ (d : Portal). triangle_at old.mesh.triangles (entry_edge d)) (sym same_last) ∙ o.opened.triangle) in
            known_more old.labels Known Later keeps k (subst (IsOfKnown old.labels Known) behind (gap.known (subst (λ (d : Portal). ¬ IsLineEdge (map_of old.plan) (entry_edge d)) same_last at)))

    pub answers_open : IsOver old → ((sector : ℕ) → label_of old.labels k ≡ Some sector → IsSome entered → Later sector) → HasAnswered Later first new (opened ++ k ∷ [])
    answers_open g noted = so_far_moved old new same Later first (pending new) new.nodes (opened ++ k ∷ [])
        (subst (λ (ss : List Sequence). AnswersSoFar old.plan old.mesh.triangles old.labels old.source Later first ss new.nodes (opened ++ k ∷ [])) (sym o.answers.next)
        (subst (λ (ns : List Node). AnswersSoFar old.plan old.mesh.triangles old.labels old.source Later first (both_ways_on o.sequence ++ o.answers.rest) ns (opened ++ k ∷ [])) (sym o.answers.nodes)
        (past_open old.plan old.mesh.triangles old.labels old.source Known first o.sequence o.answers.rest old.nodes opened here all_of o.opened.sequence coming_it k
        (ap (λ (d : Portal). triangle_at old.mesh.triangles (entry_edge d)) (sym same_last) ∙ o.opened.triangle) g Later keeps
        (known_by entered o.opened.entry o.opened.arrives noted))))

-- ---- the end

-- where nothing is pending the nodes are those of a whole tree
pub whole_at_end : (w : WalkParts) (Known : ℕ → Type 0) (opened : List ℕ) → HasAnswered Known (all_roots w) w opened → pending w ≡ [] → (t : Tree) → t.source ≡ w.source → t.nodes ≡ w.nodes → IsWholeTree (map_of w.plan) w.mesh.triangles w.labels t opened
whole_at_end w Known opened h none t source nodes =
    subst (λ (a : ℕ). AnswersRoots (map_of w.plan) w.mesh.triangles w.labels a (roots (map_of w.plan) a) t.nodes opened) (sym source)
    (subst (λ (ns : List Node). AnswersRoots (map_of w.plan) w.mesh.triangles w.labels w.source (roots (map_of w.plan) w.source) ns opened) (sym nodes)
    (answers_roots w.plan w.mesh.triangles w.labels w.source (roots (map_of w.plan) w.source) w.nodes opened
    (all_answered w.plan w.mesh.triangles w.labels w.source Known (all_roots w) w.nodes opened
    (subst (λ (ss : List Sequence). AnswersSoFar w.plan w.mesh.triangles w.labels w.source Known (all_roots w) ss w.nodes opened) none h))))

-- ---- a walk that is whole so far

pub roots_moved : (old new : WalkParts) → SameWalk old new → map root_alone (roots (map_of old.plan) old.source) ≡ map root_alone (roots (map_of new.plan) new.source)
roots_moved old new k = rw (k.plan, k.source) refl

pub whole_begins : (w : WalkParts) (p : PlanParts) (mesh : MeshParts) (ls : List (Option ℕ)) (a : ℕ) → w.plan ≡ p → w.mesh ≡ mesh → w.labels ≡ ls → w.source ≡ a → IsPlan w.plan → LinesMeetAtEnds (map_of p) → IsGoodMesh (map_of p) mesh.triangles ls
    → pending w ≡ map root_alone (roots (map_of p) a) → w.nodes ≡ [] → IsWholeSoFar w
whole_begins w p mesh ls a e f g k rules audited good first none = record {
  ground = over;
  opened = [];
  so_far = subst (λ (ss : List Sequence). HasAnswered IsAnySector ss w []) all (begins_so_far w over IsAnySector all none);
}
  where
    over : IsOver w
    over = record { rules = rules; audited = rw e audited; good = rw (e, f, g) good }

    all : pending w ≡ map root_alone (roots (map_of w.plan) w.source)
    all = rw (e, k) first

after : (old new : WalkParts) (opened : List ℕ) → SameWalk old new → IsOver old → HasAnswered IsAnySector (all_roots old) new opened → IsWholeSoFar new
after old new opened same over h = record {
  ground = over_moved old new same over;
  opened = opened;
  so_far = subst (λ (ss : List Sequence). HasAnswered IsAnySector ss new opened) (roots_moved old new same) h;
}

whole_open : (old new : WalkParts) (k : ℕ) (entered : Option Side) → SameWalk old new → LeadsPending old new k entered → IsWholeSoFar old → IsWholeSoFar new
whole_open old new k entered same leads h =
    after old new (h.opened ++ k ∷ []) same h.ground (answers_open IsAnySector (all_roots old) old new h.opened h.so_far same k entered leads IsAnySector (λ n x. x) h.ground (λ sector l s. tt))

-- and stays so whatever the next step answers
pub whole_after : (old new : WalkParts) (r : Result Step Memory) → SameWalk old new → IfOk r (TakesStep old new) → OnErr r (Rests old new) → IsWholeSoFar old → IsWholeSoFar new
whole_after old new (Err m) same takes rests h = after old new h.opened same h.ground (answers_resting IsAnySector (all_roots old) old new h.opened h.so_far same rests)
whole_after old new (Ok End) same takes rests h = after old new h.opened same h.ground (answers_ended IsAnySector (all_roots old) old new h.opened h.so_far same takes)
whole_after old new (Ok (Blocked e)) same takes rests h = after old new h.opened same h.ground (answers_blocked IsAnySector (all_roots old) old new h.opened h.so_far same e takes)
whole_after old new (Ok (Open k entered a b c)) same takes rests h = whole_open old new k entered same (leads_by old new k entered a b c takes) h

pub whole_gone : (old new : WalkParts) (r : Result Went Memory) → SameWalk old new → IfOk r (Goes old new) → OnErr r (Rests old new) → IsWholeSoFar old → IsWholeSoFar new
whole_gone old new (Err m) same goes rests h = after old new h.opened same h.ground (answers_resting IsAnySector (all_roots old) old new h.opened h.so_far same rests)
whole_gone old new (Ok went.End) same goes rests h = after old new h.opened same h.ground (answers_ended IsAnySector (all_roots old) old new h.opened h.so_far same goes)
whole_gone old new (Ok went.Blocked) same goes rests h = after old new h.opened same h.ground (answers_blocked IsAnySector (all_roots old) old new h.opened h.so_far same goes.0 goes.1)
whole_gone old new (Ok (went.Open is_line)) same goes rests h = whole_open old new goes.0.opened.edge.triangle goes.0.opened.edge.entered same (leads_to old new goes.0 goes.0.opened.edge goes.0.opened.top) h

pub whole_tree : (w : WalkParts) (t : Tree) → IsWholeSoFar w → sequences_left w ≡ 0 → t.source ≡ w.source → t.nodes ≡ w.nodes → (opened : List ℕ) × IsWholeTree (map_of w.plan) w.mesh.triangles w.labels t opened
whole_tree w t h none source nodes = (h.opened, whole_at_end w IsAnySector h.opened h.so_far (none_pending w none) t source nodes)
