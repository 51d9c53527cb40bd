-- A line that splits the ends of a sequence crosses its portals one after another: so they are no more than the triangles.
use Rattle.std.proofs.Common.{ℕ, ◌≤◌, ℤ, sym, subst, List, length, Option}
use Rattle.sight_names.specs.declared.names.Triangle.{Triangle}
use Rattle.sight_names.specs.Map.{Map}
use Rattle.sight_names.specs.Sequence.{Portal, Sequence, IsSequence, IsStabbable, Splits}
use Rattle.sight_lift.proofs.EnoughBase.Depth.{AllTurn, few_portals}
use Rattle.sight_lift.proofs.EnoughBase.Sources.{split_of}

module _ (m : Map) (ts : List Triangle) (turns : AllTurn m ts) where
  module _ (ls : List (Option ℕ)) (a : ℕ) (s : Sequence) (ps : List Portal) (is : IsSequence m ts ls a s ps) (x y z : ℤ) (splits : Splits m ps x y z) where
    -- so the portals are at most the triangles
    pub portals_few : length ps ≤ length ts
    portals_few =
        let h = split_of m ts ls a s ps is x y z splits in
        subst (λ (qs : List Portal). length qs ≤ length ts) (sym h.is) (few_portals m ts turns x y z h.first h.rest h.linked h.parted h.triangles)

  -- the portals of a stabbable sequence are at most the triangles
  pub depth_bound : (ls : List (Option ℕ)) (a : ℕ) (s : Sequence) (ps : List Portal) → IsSequence m ts ls a s ps → IsStabbable m ps → length ps ≤ length ts
  depth_bound ls a s ps is (x, y, z, splits) = portals_few ls a s ps is x y z splits
