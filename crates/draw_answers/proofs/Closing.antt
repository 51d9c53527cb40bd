-- What is entered out of the groups of a sector encloses all that is seen from it.
use Rattle.std.proofs.Common.{◌≡◌, ℕ, ◌⊎◌, inl, inr, subst, sym, pos, ◌≤ℤ◌}
use Rattle.sight_names.specs.declared.names.Budget.{Budget}
use Rattle.sight_names.specs.declared.names.Pt.{Pt}
use Rattle.sight_names.specs.declared.names.Triangle.{Triangle}
use Rattle.sight_names.specs.Groups.{IsInGroup}
use Rattle.sight_names.specs.Map.{IsMap, map_of}
use Rattle.sight_names.specs.Mesh.{IsGoodMesh}
use Rattle.sight_names.specs.Path.{InSector, MissesSolid}
use Rattle.sight_names.specs.Plan.{IsPlan, PlanParts}
use Rattle.sight_names.specs.Point.{OnSegment, Point, turn_at}
use Rattle.sight_names.specs.Points.{place}
use Rattle.sight_names.specs.Sound.{IsSound}
use Rattle.sight_lift.specs.Lift.{InClosedTriangle, InLabelled}
use Rattle.sight_lift.proofs.LiftLaws.{sectors_are_labels}
use Rattle.face_groups.proofs.GroupsBase.SameLines.{lines_alike, misses_solid_alike}
use Rattle.face_groups.proofs.GroupsBase.SamePoints.{mesh_alike, place_alike}
use Rattle.triangulate.proofs.GroupLaws.WholeLaws.{groups_are_map, groups_are_sound, in_sector_by_groups, sectors_see_by_groups}
use Rattle.group_job.proofs.KeptFaces.{good_mesh}
use Rattle.map_answers.specs.Groups.{IsMapWithGroups, MapGroups}
use Rattle.pair_answer.specs.declared.entered_triangles.entered.Entered.{Entered}
use Rattle.pair_answer.specs.EnteredTriangles.Laws.{InNumbered}
use Rattle.pair_answer.proofs.EnteredTriangles.Told.{sight_stays, unseen_not_entered}
use Rattle.draw_answers.specs.Pair.{IsEnteredOver}
use Rattle.draw_answers.specs.Laws.{BlindIsClosed, InEntered, InFaceOf, UnseenIsNotShown}

module _ (p : PlanParts) (plan : IsPlan p) (g : MapGroups) (over : IsMapWithGroups (map_of p) g) where
  is_map : IsMap g.grouped
  is_map = groups_are_map p plan over.faces g.triangles over.mesh g.groups over.are g.grouped over.is

  sound : IsSound g.grouped
  sound = groups_are_sound p plan over.faces g.triangles over.mesh g.groups over.are g.grouped over.is

  good : IsGoodMesh g.grouped g.triangles g.labels
  good = good_mesh p plan over.faces g.groups over.are g.grouped over.is g.triangles (mesh_alike (map_of p) g.grouped over.is.lines g.triangles over.mesh) g.labels over.labelled

  same_place : (k : ℕ) → place g.grouped k ≡ place (map_of p) k
  same_place k = sym (place_alike (map_of p) g.grouped over.is.lines k)

  turns : (j k : ℕ) (q : Point) → pos 0 ≤ℤ turn_at (place g.grouped j) (place g.grouped k) q → pos 0 ≤ℤ turn_at (place (map_of p) j) (place (map_of p) k) q
  turns j k q h = subst (λ (x : Pt). pos 0 ≤ℤ turn_at x (place (map_of p) k) q) (same_place j) (subst (λ (x : Pt). pos 0 ≤ℤ turn_at (place g.grouped j) x q) (same_place k) h)

  closed_too : (t : Triangle) (q : Point) → InClosedTriangle g.grouped t q → InClosedTriangle (map_of p) t q
  closed_too t q h = record { pq = turns t.p t.q q h.pq; qr = turns t.q t.r q h.qr; rp = turns t.r t.p q h.rp }

  module _ (budget : Budget) (a : ℕ) (e : Entered) (entered : IsEnteredOver g budget a e) where
    stays : (q r s : Point) (f : ℕ) → IsInGroup g.groups a f → InSector g.grouped q f → MissesSolid (map_of p) q r → OnSegment q r s → InFaceOf (map_of p) g a s ⊎ InEntered (map_of p) g e s
    stays q r s f has at clear on =
        by (sight_stays g.grouped g.triangles g.labels entered.sources e f q r s is_map good entered.within.entered ((entered.places f).1 has)
        ((sectors_are_labels g.grouped g.triangles g.labels q f is_map good at.free).0 at)
        (misses_solid_alike (map_of p) g.grouped (lines_alike (map_of p) g.grouped over.is.lines) q r clear) on)
      where
        by : InLabelled g.grouped g.triangles g.labels s f ⊎ InNumbered g.grouped g.triangles e.triangles.items s → InFaceOf (map_of p) g a s ⊎ InEntered (map_of p) g e s
        by (inl x) = inl (record { f = f; contains = has; k = x.k; t = x.t; is = x.is; label = x.label; closed = closed_too x.t s x.closed })
        by (inr x) = inr (record { k = x.k; t = x.t; entered = x.one; is = x.is; closed = closed_too x.t s x.closed })

pub blind_closed : BlindIsClosed
blind_closed p g budget a e q r s plan over entered at clear on =
    let x = (in_sector_by_groups p plan over.faces g.triangles over.mesh g.groups over.are g.grouped over.is q a).0 at in
    stays p plan g over budget a e entered q r s x.0 x.1 x.2 clear on

pub unseen_not_shown : UnseenIsNotShown
unseen_not_shown p g budget a b e plan over entered unseen k f shown has labelled =
    unseen_not_entered g.grouped g.triangles g.labels entered.sources e f (is_map p plan g over) (sound p plan g over).ends (good p plan g over) entered.within.entered
    (λ n source sees. unseen ((sectors_see_by_groups p plan over.faces g.triangles over.mesh g.groups over.are g.grouped over.is a b).1 (n, f, (entered.places n).0 source, has, sees))) k shown labelled
