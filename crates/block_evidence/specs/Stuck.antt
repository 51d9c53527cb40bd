-- Ends that no line splits.
use Rattle.std.specs.Prelude.{◌≡◌, ℕ, ◌-◌, ◌<◌, ◌≤◌, ◌⊎◌, List, ◌∷◌, Some, None, length, sum, take, drop, map, filter_map, replicate, if◌then◌else◌, nat_lt, ℤ, pos, ◌+ℤ◌, ◌*ℤ◌, IsSome, All, Contains}
use Rattle.std.specs.List.{AllByRecursion}
use Rattle.std.specs.List.Sorted.{IsStrictlyIncreasing}
use Rattle.sight_names.specs.declared.limits.TheConstants.{RIGHT_END}
use Rattle.sight_names.specs.declared.names.Pt.{Pt}
use Rattle.sight_names.specs.declared.names.EndAt.{EndAt}
use Rattle.sight_names.specs.declared.names.EndPair.{EndPair}
use Rattle.sight_names.specs.Point.{Point}
use Rattle.sight_names.specs.Map.{Map}
use Rattle.sight_names.specs.Sequence.{Portal, end_points}
use Rattle.sight_names.specs.Splitting.{EndPoints, end_of}
use Rattle.block_evidence.specs.declared.Evidence.{Evidence}

abbrev pub weighed_x : List ℕ → List Pt → ℤ
weighed_x (w ∷ ws) (p ∷ ps) = pos w *ℤ p.x +ℤ weighed_x ws ps
weighed_x _ _ = pos 0

abbrev pub weighed_y : List ℕ → List Pt → ℤ
weighed_y (w ∷ ws) (p ∷ ps) = pos w *ℤ p.y +ℤ weighed_y ws ps
weighed_y _ _ = pos 0

-- r is a weighted mean of the points, with whole weights that aren't all 0: a point of their convex hull
pub record IsMeanOf (ps : List Pt) (r : Point) : Type 0 where
  pub weights : List ℕ
  pub one_each : length weights ≡ length ps
  pub weighed : 0 < sum weights
  pub x : r.x *ℤ pos (sum weights) ≡ weighed_x weights ps *ℤ pos r.d
  pub y : r.y *ℤ pos (sum weights) ≡ weighed_y weights ps *ℤ pos r.d

-- some point is a weighted mean of the left ends and also of the right ends
abbrev pub HullsMeet : List Pt → List Pt → Type 0
HullsMeet lefts rights = (r : Point) × IsMeanOf lefts r × IsMeanOf rights r

-- the left ones and the right ones of a list of ends: the code of a right one is 32,768 or more
abbrev pub left_ends : List EndAt → List Pt
left_ends ends = filter_map (λ (e : EndAt). if nat_lt e.code RIGHT_END then Some e.at else None) ends

abbrev pub right_ends : List EndAt → List Pt
right_ends ends = filter_map (λ (e : EndAt). if nat_lt e.code RIGHT_END then None else Some e.at) ends

abbrev pub AreStuck : List EndAt → Type 0
AreStuck ends = HullsMeet (left_ends ends) (right_ends ends)

-- ---- evidence, as ends of portals

abbrev pub end_codes : Evidence → List ℕ
end_codes e = take e.count e.ends

-- they are ends of these portals, and they are stuck
pub record BlocksEnds (es : List EndPoints) (e : Evidence) : Type 0 where
  pub ends : AllByRecursion (λ code. IsSome (end_of es code)) (end_codes e)
  pub stuck : AreStuck (filter_map (end_of es) (end_codes e))

-- they are ends of the sequence with these portals, and they are stuck
abbrev pub BlocksSequence : Map → List Portal → Evidence → Type 0
BlocksSequence m ps e = BlocksEnds (end_points m ps) e

-- ---- evidence that is made of pairs

-- the left ends' codes are below 32,768, the right ends' aren't, and ends of equal code are equal
pub record AreCoded (pairs : List EndPair) : Type 0 where
  pub lefts : All (λ (p : EndPair). p.left.code < RIGHT_END) pairs
  pub rights : All (λ (p : EndPair). RIGHT_END ≤ p.right.code) pairs
  pub same_lefts : (p q : EndPair) → Contains pairs p → Contains pairs q → p.left.code ≡ q.left.code → p.left ≡ q.left
  pub same_rights : (p q : EndPair) → Contains pairs p → Contains pairs q → p.right.code ≡ q.right.code → p.right ≡ q.right

-- one of the ends of these pairs
abbrev pub IsEndOfPairs : List EndPair → EndAt → Type 0
IsEndOfPairs pairs e = (p : EndPair) × Contains pairs p × ((p.left ≡ e) ⊎ (p.right ≡ e))

-- two to four ends of these pairs that are stuck, by codes that ascend strictly; the places left over are 0
pub record IsEvidenceOf (pairs : List EndPair) (e : Evidence) : Type 0 where
  pub two : 2 ≤ e.count
  pub four : e.count ≤ 4
  pub ascending : IsStrictlyIncreasing (end_codes e)
  pub unused : drop e.count e.ends ≡ replicate (4 - e.count) 0
  pub ends : List EndAt
  pub coded : map (λ (d : EndAt). d.code) ends ≡ end_codes e
  pub from_pairs : All (IsEndOfPairs pairs) ends
  pub stuck : AreStuck ends
