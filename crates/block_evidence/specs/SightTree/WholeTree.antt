-- Whole trees, over a mesh ts with labels ls.
use Rattle.std.specs.Prelude.{◌≡◌, ◌≢◌, ℕ, ◌⊎◌, List, [], ◌∷◌, ◌++◌, Option, Some, None}
use Rattle.std.specs.List.{last_or, AllByRecursion}
use Rattle.sight_names.specs.declared.names.Side.{Side}
use Rattle.sight_names.specs.declared.names.Triangle.{Triangle}
use Rattle.sight_names.specs.Map.{Map}
use Rattle.sight_names.specs.Mesh.{triangle_at, label_of}
use Rattle.sight_names.specs.Sequence.{Portal, Left, Right, entry_edge, way_out, apex, root_portal, roots, IsSolidLine}
use Rattle.block_evidence.specs.declared.Evidence.{Evidence}
use Rattle.block_evidence.specs.declared.sight_tree.Node.{Node}
use Rattle.block_evidence.specs.declared.sight_tree.Node.TheVariants.{Open, Blocked}
use Rattle.block_evidence.specs.declared.sight_tree.Tree.{Tree}
use Rattle.block_evidence.specs.Stuck.{BlocksSequence}

module _ (m : Map) (ts : List Triangle) (ls : List (Option ℕ)) (a : ℕ) where
  -- a way has no node where it is a solid line or leads to a triangle of the source
  abbrev pub HasNoNode : Portal → Type 0
  HasNoNode p = IsSolidLine m p ⊎ ((k : ℕ) × (triangle_at ts (entry_edge p) ≡ Some k) × (label_of ls k ≡ Some a))

  -- the last of these portals has a node, since it leads into triangle k
  pub record HasNode (ps : List Portal) (p : Portal) (k : ℕ) : Type 0 where
    pub last : last_or None ps ≡ Some p
    pub no_wall : ¬ IsSolidLine m p
    pub entered : triangle_at ts (entry_edge p) ≡ Some k
    pub outside : label_of ls k ≢ Some a

  -- The nodes answer for the sequence with these portals and for all that follows it. The open ones lead into the
  -- triangles of the last list, in order.
  pub data NodesAnswer : List Portal → List Node → List ℕ → Type 0 where
    no_node : {ps : List Portal} {ns : List Node} {opened : List ℕ} (p : Portal) → last_or None ps ≡ Some p → HasNoNode p → ns ≡ [] → opened ≡ [] → NodesAnswer ps ns opened
    blocked : {ps : List Portal} {ns : List Node} {opened : List ℕ} (p : Portal) (k : ℕ) (e : Evidence) → HasNode ps p k → BlocksSequence m ps e → ns ≡ Blocked e ∷ [] → opened ≡ [] → NodesAnswer ps ns opened
    open_node : {ps : List Portal} {ns : List Node} {opened : List ℕ} (p : Portal) (k t : ℕ) (left right : List Node) (via_left via_right : List ℕ) → HasNode ps p k → apex ts p ≡ Some t
        → NodesAnswer (ps ++ way_out p Left t ∷ []) left via_left → NodesAnswer (ps ++ way_out p Right t ∷ []) right via_right
        → ns ≡ Open ∷ (left ++ right) → opened ≡ k ∷ (via_left ++ via_right) → NodesAnswer ps ns opened

  -- the nodes answer for each of these roots in order, and no node is left over
  abbrev pub AnswersRoots : List Side → List Node → List ℕ → Type 0
  AnswersRoots [] ns opened = (ns ≡ []) × (opened ≡ [])
  AnswersRoots (s ∷ ss) ns opened = (p : Portal) × (front back : List Node) × (via_front via_back : List ℕ) × (root_portal m s ≡ Some p) × (ns ≡ front ++ back) × (opened ≡ via_front ++ via_back)
      × NodesAnswer (p ∷ []) front via_front × AnswersRoots ss back via_back

-- the tree is whole, and its open nodes lead into these triangles
abbrev pub IsWholeTree : Map → List Triangle → List (Option ℕ) → Tree → List ℕ → Type 0
IsWholeTree m ts ls tree opened = AnswersRoots m ts ls tree.source (roots m tree.source) tree.nodes opened

-- a whole tree none of whose open nodes has b as the label of its triangle
abbrev pub KeepsFrom : Map → List Triangle → List (Option ℕ) → Tree → ℕ → Type 0
KeepsFrom m ts ls tree b = (opened : List ℕ) × IsWholeTree m ts ls tree opened × AllByRecursion (λ k. label_of ls k ≢ Some b) opened
