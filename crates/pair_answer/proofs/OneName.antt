-- In a sound map each side of a face of a group names each sector of the group; so a ray of the map of groups is one of the map.
use Rattle.std.proofs.Common.{◌≡◌, ℕ, List, [], Contains, Some, slice_get, Bool, true, false, not, sym, subst, ◌∙◌}
use Rattle.std.proofs.lemmas.Option.{MatchOption-at_some, same_Some}
use Rattle.sight_names.specs.declared.names.Ask.{Ask}
use Rattle.sight_names.specs.declared.names.Pair.{Pair}
use Rattle.sight_names.specs.declared.names.Pt.{Pt}
use Rattle.sight_names.specs.declared.names.Ray.{Ray}
use Rattle.sight_names.specs.declared.names.Side.{Side}
use Rattle.sight_names.specs.Groups.{IsGroupedMap, IsInGroup}
use Rattle.sight_names.specs.Map.{Map, MapLine, Names, line_at, map_of}
use Rattle.sight_names.specs.Mesh.{IsMeshOf}
use Rattle.sight_names.specs.Path.{OnLine}
use Rattle.sight_names.specs.Plan.{PlanParts, IsPlan}
use Rattle.sight_names.specs.Point.{Point}
use Rattle.sight_names.specs.Ray.{IsCrossing, IsSightRay, SplitsLine}
use Rattle.sight_names.specs.Sound.{IsSound, NamesAgree}
use Rattle.face_groups.proofs.GroupsBase.GroupLaws.{HasLists}
use Rattle.face_groups.proofs.GroupsBase.SameLines.{HaveSameLines, IsSameLine, line_of, lines_alike, misses_solid_alike, same_lines_sym}
use Rattle.face_groups.proofs.GroupsBase.SamePoints.{mesh_alike}
use Rattle.triangulate.proofs.GroupLaws.WholeLaws.{each_has_list}
use Rattle.pair_answer.specs.declared.answer.PairAnswer.TheVariants as answer
use Rattle.pair_answer.specs.Answer.{IsAnswerFor}

-- ---- lines with the same ends

ends_so : (l k : MapLine) → IsSameLine l k → (P : Pt → Pt → Type 0) → P l.first l.second → P k.first k.second
ends_so l k h P x = subst (λ (q : Pt). P q k.second) h.first (subst (λ (q : Pt). P l.first q) h.second x)

-- a line with these ends
abbrev between : MapLine → Pt → Pt → MapLine
between l p q = record { first = p; second = q; solid = l.solid; right = l.right; left = l.left }

pub splits_so : (ray : Ray) (l k : MapLine) (left : Bool) → IsSameLine l k → SplitsLine ray l left → SplitsLine ray k left
splits_so ray l k true h x = ends_so l k h (λ p q. SplitsLine ray (between l p q) true) x
splits_so ray l k false h x = ends_so l k h (λ p q. SplitsLine ray (between l p q) false) x

pub crosses_so : (ray : Ray) (l k : MapLine) (r : Point) → IsSameLine l k → IsCrossing ray l r → IsCrossing ray k r
crosses_so ray l k r h x = (ends_so l k h (λ p q. OnLine (between l p q) r) x.0, x.1)

-- ---- rays

module _ (m : Map) (groups : List (List ℕ)) (g : Map) (is : IsGroupedMap m groups g) (lists : HasLists m) (agree : NamesAgree m) where
  back : HaveSameLines g m
  back = same_lines_sym m g (lines_alike m g is.lines)

  -- a side of the group names each sector of it
  side_named : (s : Side) (l : MapLine) (f a : ℕ) → line_at m s.line ≡ Some l → Names g s f → IsInGroup groups a f → Names m s a
  side_named s l f a at names ha =
      let x = lists s l at in
      let there : slice_get groups f ≡ Some x.0 = MatchOption-at_some (x.0 ≡ []) (λ k. slice_get groups k ≡ Some x.0) f names (is.names s l x.0 at x.1) in
      let has : Contains x.0 a = subst (λ (xs : List ℕ). Contains xs a) (same_Some ha.0 x.0 (sym ha.1 ∙ there)) ha.2 in
      let q = (x.1.exactly a).0 has in
      agree q.2.side s a q.0 q.2.names q.2.touches q.1

  pub ray_so : (ray : Ray) (f k a b : ℕ) → IsInGroup groups a f → IsInGroup groups b k → IsSightRay g ray f k → IsSightRay m ray a b
  ray_so ray f k a b ha hb r =
      let x = line_of g m back ray.first.line r.first r.is_first in
      let y = line_of g m back ray.last.line r.last r.is_last in record {
        range = r.range;
        from = side_named ray.first x.0 f a x.1 r.from ha;
        to = side_named ray.last y.0 k b y.1 r.to hb;
        first = x.0;
        is_first = x.1;
        last = y.0;
        is_last = y.1;
        leaves = splits_so ray r.first x.0 (not ray.first.left) x.2 r.leaves;
        arrives = splits_so ray r.last y.0 ray.last.left y.2 r.arrives;
        start = r.start;
        stop = r.stop;
        starts = crosses_so ray r.first x.0 r.start x.2 r.starts;
        stops = crosses_so ray r.last y.0 r.stop y.2 r.stops;
        forward = r.forward;
        clear = misses_solid_alike g m back r.start r.stop r.clear;
      }

pub ray_of_sectors : (p : PlanParts) (ask : Ask) (pair : Pair) (ray : Ray) → IsPlan p → IsSound (map_of p) → IsAnswerFor (map_of p) ask pair (answer.Sight ray) → IsSightRay (map_of p) ray pair.a pair.b
ray_of_sectors p ask pair ray plan sound h =
    let w = h.walked in
    let mesh : IsMeshOf (map_of p) w.triangles = mesh_alike w.g (map_of p) (sym w.grouped.lines) w.triangles w.mesh in
    let r = h.is.1 in
    ray_so (map_of p) h.groups w.g w.grouped (each_has_list p plan (record { ends = sound.ends; closed = sound.closed }) w.triangles mesh) sound.agree ray r.f r.k pair.a pair.b r.from r.to r.sight
