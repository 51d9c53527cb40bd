-- What the nodes of a walk answer for while it is under way: at its end they are a whole tree.
use Rattle.std.specs.Prelude.{◌≡◌, ℕ, ◌⊎◌, List, [], ◌∷◌, ◌++◌, Option, Some, Contains, map}
use Rattle.std.specs.List.{AllByRecursion}
use Rattle.sight_names.specs.declared.names.Triangle.{Triangle}
use Rattle.sight_names.specs.Map.{map_of}
use Rattle.sight_names.specs.Mesh.{triangle_at, label_of, IsGoodMesh, IsLineEdge}
use Rattle.sight_names.specs.Plan.{PlanParts, IsPlan}
use Rattle.sight_names.specs.Sequence.{Portal, Sequence, entry_edge, portals, roots, IsSolidLine, LeadsOutside}
use Rattle.sight_names.specs.Sound.{LinesMeetAtEnds}
use Rattle.block_evidence.specs.declared.sight_tree.Node.{Node}
use Rattle.block_evidence.specs.SightTree.WholeTree.{NodesAnswer}
use Rattle.sight_lift.specs.SequenceLaws.Ways.{root_alone}
use Rattle.portal_walk.specs.Walk.{WalkParts, pending}

-- the triangles are a good mesh of a plan whose lines meet at ends alone
pub record IsWalkGround (p : PlanParts) (ts : List Triangle) (ls : List (Option ℕ)) : Type 0 where
  pub rules : IsPlan p
  pub audited : LinesMeetAtEnds (map_of p)
  pub good : IsGoodMesh (map_of p) ts ls

-- the label of the triangle is a sector that is known
abbrev pub IsOfKnown : List (Option ℕ) → (ℕ → Type 0) → ℕ → Type 0
IsOfKnown ls Known k = (b : ℕ) × (label_of ls k ≡ Some b) × Known b

-- over the triangles ts with labels ls, from the source a
module _ (p : PlanParts) (ts : List Triangle) (ls : List (Option ℕ)) (a : ℕ) where
  -- the nodes answer for each of these sequences in order, and for all that follows it
  abbrev pub AnswersPending : List Sequence → List Node → List ℕ → Type 0
  AnswersPending [] ns opened = (ns ≡ []) × (opened ≡ [])
  AnswersPending (s ∷ ss) ns opened = (ps : List Portal) × (front back : List Node) × (via_front via_back : List ℕ) × (portals (map_of p) ts s ≡ Some ps) × (ns ≡ front ++ back) × (opened ≡ via_front ++ via_back)
      × NodesAnswer (map_of p) ts ls a ps front via_front × AnswersPending ss back via_back

  -- no wall, and a triangle behind it; where no line is there, the triangle is of a sector that is known
  pub record IsWayIn (Known : ℕ → Type 0) (d : Portal) : Type 0 where
    pub k : ℕ
    pub behind : triangle_at ts (entry_edge d) ≡ Some k
    pub free : ¬ IsSolidLine (map_of p) d
    pub known : ¬ IsLineEdge (map_of p) (entry_edge d) → IsOfKnown ls Known k

  -- a sequence but for its last portal, which is a wall or a gap
  pub record EndsAtGap (Known : ℕ → Type 0) (s : Sequence) : Type 0 where
    pub before : List Portal
    pub last : Portal
    pub root : Contains (roots (map_of p) a) s.root
    pub way : portals (map_of p) ts s ≡ Some (before ++ last ∷ [])
    pub no_wall : AllByRecursion (λ d. ¬ IsSolidLine (map_of p) d) before
    pub outside : AllByRecursion (LeadsOutside ts ls a) before
    pub end : IsSolidLine (map_of p) last ⊎ IsWayIn Known last

  -- These nodes, followed by any that answer for what is still pending, answer for all that was pending at first. The open
  -- ones lead into the triangles of the last list, in order.
  pub record AnswersSoFar (Known : ℕ → Type 0) (first pending : List Sequence) (ns : List Node) (opened : List ℕ) : Type 0 where
    pub goes_on : (more : List Node) (onward : List ℕ) → AnswersPending pending more onward → AnswersPending first (ns ++ more) (opened ++ onward)
    pub at_gaps : AllByRecursion (EndsAtGap Known) pending

-- whichever sector it is
abbrev pub IsAnySector : ℕ → Type 0
IsAnySector b = Unit {0}

-- all that a walk has to come to
abbrev pub all_roots : WalkParts → List Sequence
all_roots w = map root_alone (roots (map_of w.plan) w.source)

-- the nodes of the walk, followed by any that answer for what is still pending, answer for all roots of its source
pub record IsWholeSoFar (w : WalkParts) : Type 0 where
  pub ground : IsWalkGround w.plan w.mesh.triangles w.labels
  pub opened : List ℕ
  pub so_far : AnswersSoFar w.plan w.mesh.triangles w.labels w.source IsAnySector (all_roots w) (pending w) w.nodes opened
