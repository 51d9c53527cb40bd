-- A stabbable sequence has no more portals than there are triangles.
use Rattle.std.proofs.Common.{◌≡◌, ℕ, ◌≤◌, List, length, Option, Some, slice_get}
use Rattle.sight_names.specs.declared.names.Triangle.{Triangle}
use Rattle.sight_names.specs.Map.{Map}
use Rattle.sight_names.specs.Mesh.{IsCounterclockwise}
use Rattle.sight_names.specs.Sequence.{Portal, Sequence, IsSequence, IsStabbable}
use Rattle.sight_lift.proofs.EnoughBase.Passes.{depth_bound}

pub few_portals : (m : Map) (ts : List Triangle) (ls : List (Option ℕ)) (a : ℕ) → ((k : ℕ) (t : Triangle) → slice_get ts k ≡ Some t → IsCounterclockwise m t) → (s : Sequence) (ps : List Portal) → IsSequence m ts ls a s ps → IsStabbable m ps → length ps ≤ length ts
few_portals m ts ls a turns s ps is stabs = depth_bound m ts turns ls a s ps is stabs
