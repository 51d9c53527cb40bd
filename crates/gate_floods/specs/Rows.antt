-- Trees whose walks ask no gate behind which nothing is left of their row, over a mesh ts with labels ls.
use Rattle.std.specs.Prelude.{◌≡◌, ℕ, List, [], ◌∷◌, ◌++◌, Option, Some, None, Contains}
use Rattle.std.specs.List.{last_or}
use Rattle.sight_names.specs.declared.names.Side.{Side}
use Rattle.sight_names.specs.declared.names.Triangle.{Triangle}
use Rattle.sight_names.specs.Map.{Map}
use Rattle.sight_names.specs.Sequence.{Portal, Left, Right, way_out, apex, root_portal, roots, reached}
use Rattle.block_evidence.specs.declared.Evidence.{Evidence}
use Rattle.block_evidence.specs.Stuck.{BlocksSequence}
use Rattle.block_evidence.specs.declared.sight_tree.Node.{Node}
use Rattle.block_evidence.specs.declared.sight_tree.Node.TheVariants.{Open, Blocked}
use Rattle.block_evidence.specs.declared.sight_tree.Tree.{Tree}
use Rattle.block_evidence.specs.SightTree.WholeTree.{HasNoNode, HasNode}
use Rattle.gate_floods.specs.Gates.{IsGate, IsInMask}

-- c is in the row behind these portals: the tree is to keep from it, and it is in the mask of each gate among them
pub record IsInRow (m : Map) (Claims : ℕ → ℕ → Type 0) (Keeps : ℕ → Type 0) (ps : List Portal) (c : ℕ) : Type 0 where
  pub keeps : Keeps c
  pub masked : (p : Portal) (b d : ℕ) → Contains ps p → IsGate m b d p → IsInMask m Claims b d p c

abbrev pub IsEmptyRow : Map → (ℕ → ℕ → Type 0) → (ℕ → Type 0) → List Portal → Type 0
IsEmptyRow m Claims Keeps ps = (c : ℕ) → ¬ IsInRow m Claims Keeps ps c

abbrev pub HasRow : Map → (ℕ → ℕ → Type 0) → (ℕ → Type 0) → List Portal → Type 0
HasRow m Claims Keeps ps = (c : ℕ) × IsInRow m Claims Keeps ps c

-- the last of the portals leads into no sector that the row still has
abbrev pub EntersNone : Map → List Triangle → List (Option ℕ) → (ℕ → ℕ → Type 0) → (ℕ → Type 0) → List Portal → Type 0
EntersNone m ts ls Claims Keeps ps = (c : ℕ) → reached ts ls ps ≡ Some c → ¬ IsInRow m Claims Keeps ps c

module _ (m : Map) (ts : List Triangle) (ls : List (Option ℕ)) (a : ℕ) (Skips Asks Enters : List Portal → Type 0) where
  -- the nodes answer for the sequence with these portals and for all that follows it, but for what is skipped
  pub data AnswersUnskipped : List Portal → List Node → Type 0 where
    no_node : {ps : List Portal} {ns : List Node} (p : Portal) → last_or None ps ≡ Some p → HasNoNode m ts ls a p → ns ≡ [] → AnswersUnskipped ps ns
    skipped : {ps : List Portal} {ns : List Node} (p : Portal) (k : ℕ) → HasNode m ts ls a ps p k → Skips ps → ns ≡ [] → AnswersUnskipped ps ns
    blocked : {ps : List Portal} {ns : List Node} (p : Portal) (k : ℕ) (e : Evidence) → HasNode m ts ls a ps p k → Asks ps → BlocksSequence m ps e → ns ≡ Blocked e ∷ [] → AnswersUnskipped ps ns
    open_node : {ps : List Portal} {ns : List Node} (p : Portal) (k t : ℕ) (left right : List Node) → HasNode m ts ls a ps p k → Asks ps → Enters ps → apex ts p ≡ Some t
        → AnswersUnskipped (ps ++ way_out p Left t ∷ []) left → AnswersUnskipped (ps ++ way_out p Right t ∷ []) right → ns ≡ Open ∷ (left ++ right) → AnswersUnskipped ps ns

  -- the nodes answer for each of these roots in order, and no node is left over
  abbrev pub RootsAsked : List Side → List Node → Type 0
  RootsAsked [] ns = ns ≡ []
  RootsAsked (s ∷ ss) ns = (p : Portal) × (front back : List Node) × (root_portal m s ≡ Some p) × (ns ≡ front ++ back) × AnswersUnskipped (p ∷ []) front × RootsAsked ss back

-- The tree has a node for each way that a walk could take with something left in its row, and it enters nothing that the row has.
abbrev pub KeepsByRows : Map → List Triangle → List (Option ℕ) → (ℕ → ℕ → Type 0) → (ℕ → Type 0) → Tree → Type 0
KeepsByRows m ts ls Claims Keeps t = RootsAsked m ts ls t.source (IsEmptyRow m Claims Keeps) (HasRow m Claims Keeps) (EntersNone m ts ls Claims Keeps) (roots m t.source) t.nodes
