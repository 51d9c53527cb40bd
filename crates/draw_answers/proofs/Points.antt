-- The map of groups has the points of the map, and its groups the map's sectors.
use Rattle.std.proofs.Common.{◌≡◌, ℕ, ◌<◌, List, length, get_or, Contains, All, Option, Some, None, IfSome, Bool, true, false, option_and_then, sym, ap, ◌∙◌, subst, refl}
use Rattle.std.proofs.lemmas.List.Elements.{Contains-get_or}
use Rattle.std.proofs.lemmas.Option.{none-some}
use Rattle.sight_names.specs.declared.names.Pt.{Pt}
use Rattle.sight_names.specs.declared.names.Side.{Side}
use Rattle.sight_names.specs.Groups.{AreGroups}
use Rattle.sight_names.specs.Map.{IsMap, IsMapLine, Map, MapLine, Names, line_at, map_of, sector_on}
use Rattle.sight_names.specs.Mesh.{AreTriangles}
use Rattle.sight_names.specs.Plan.{IsPlan, PlanParts}
use Rattle.sight_names.proofs.PlanPoints.{plan_points}
use Rattle.face_groups.proofs.GroupsBase.SamePoints.{points_alike}
use Rattle.map_answers.specs.declared.groups.MeshGroups.{MeshGroups}
use Rattle.map_answers.specs.Groups.{AreGroupsOverPlan}

-- ---- sectors

line_names : (m : Map) (n : ℕ) (l : MapLine) (left : Bool) (a : ℕ) → IsMapLine n l → sector_on l left ≡ Some a → a < n
line_names m n l true a h e = subst (λ (o : Option ℕ). IfSome o (λ b. b < n)) e h.left
line_names m n l false a h e = subst (λ (o : Option ℕ). IfSome o (λ b. b < n)) e h.right

named_below : (m : Map) → IsMap m → (s : Side) (a : ℕ) → Names m s a → a < m.sectors
named_below m is_map s a names = go (line_at m s.line) refl names
  where
    go : (o : Option MapLine) → line_at m s.line ≡ o → option_and_then (λ l. sector_on l s.left) o ≡ Some a → a < m.sectors
    go None at e = absurd (none-some a e)
    go (Some l) at e = line_names m m.sectors l s.left a (is_map s.line l at) e

-- the names of each group are sectors
module _ (m : Map) (is_map : IsMap m) (groups : List (List ℕ)) (are : AreGroups m groups) where
  in_group : (g : List ℕ) → Contains groups g → (a : ℕ) → Contains g a → a < m.sectors
  in_group g c a has =
      let x = (are.exactly g).0 c in
      let q = (x.4.exactly a).0 has in
      named_below m is_map q.2.side a q.2.names

  pub groups_below : (n : ℕ) → n ≡ m.sectors → All (All (λ b. b < n)) groups
  groups_below n is = λ k d lt i e within. subst (λ (x : ℕ). get_or (get_or groups k d) i e < x) (sym is)
      (in_group (get_or groups k d) (Contains-get_or groups k d lt) (get_or (get_or groups k d) i e) (Contains-get_or (get_or groups k d) i e within))

-- ---- points

module _ (p : PlanParts) (plan : IsPlan p) (g : MeshGroups) (over : AreGroupsOverPlan p g) where
  pub as_many : IsPlan g.grouped.plan → g.mesh.points ≡ length p.points
  as_many own = over.points ∙ ap (λ (ps : List Pt). length ps) (sym (plan_points g.grouped.plan own) ∙ sym (points_alike (map_of p) (map_of g.grouped.plan) over.over.is.lines) ∙ plan_points p plan)

  pub triangles_over : AreTriangles (length p.points) g.mesh.triangles
  triangles_over = subst (λ (ps : List Pt). AreTriangles (length ps) g.mesh.triangles) (sym (points_alike (map_of p) (map_of g.grouped.plan) over.over.is.lines) ∙ plan_points p plan) over.good.plain.triangles
