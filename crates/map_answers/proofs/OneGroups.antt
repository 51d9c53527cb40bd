-- A map has one list of groups, one map of groups, and one mesh with one list of labels.
use Rattle.std.proofs.Common.{◌≡◌, ℕ, List, subst}
use Rattle.sight_names.specs.declared.names.Triangle.{Triangle}
use Rattle.sight_names.specs.Map.{Map, map_of}
use Rattle.sight_names.specs.Groups.{IsGroupedMap}
use Rattle.sight_names.specs.Mesh.{AreLabelsOf}
use Rattle.sight_names.specs.Plan.{IsPlan, PlanParts}
use Rattle.sight_names.proofs.OneMesh.{one_labels, one_mesh}
use Rattle.face_groups.proofs.GroupsBase.OneGrouped.{one_grouped}
use Rattle.face_groups.proofs.GroupsBase.Ordered.{same_groups}
use Rattle.triangulate.proofs.GroupLaws.WholeLaws.{each_has_list, groups_are_sound, groups_have_mesh}
use Rattle.map_answers.specs.Groups.{IsMapWithGroups, MapGroups}

module _ (p : PlanParts) (plan : IsPlan p) (f g : MapGroups) (of_f : IsMapWithGroups (map_of p) f) (of_g : IsMapWithGroups (map_of p) g) where
  groups : g.groups ≡ f.groups
  groups = same_groups (map_of p) g.groups f.groups of_g.are of_f.are

  grouped : g.grouped ≡ f.grouped
  grouped = one_grouped (map_of p) f.groups of_f.are (each_has_list p plan of_f.faces f.triangles of_f.mesh) g.grouped f.grouped (subst (λ (x : List (List ℕ)). IsGroupedMap (map_of p) x g.grouped) groups of_g.is) of_f.is

  triangles : g.triangles ≡ f.triangles
  triangles = one_mesh (map_of p) g.triangles f.triangles of_g.mesh of_f.mesh

  labels : g.labels ≡ f.labels
  labels =
      let theirs = subst (λ (x : Map). AreLabelsOf x f.triangles g.labels) grouped (subst (λ (ts : List Triangle). AreLabelsOf g.grouped ts g.labels) triangles of_g.labelled) in
      one_labels f.grouped f.triangles g.labels f.labels (groups_are_sound p plan of_f.faces f.triangles of_f.mesh f.groups of_f.are f.grouped of_f.is).agree
      (groups_have_mesh p plan of_f.faces f.triangles of_f.mesh f.groups of_f.are f.grouped of_f.is) theirs of_f.labelled

  pub one_groups : g ≡ f
  one_groups = λ i. record { groups = groups i; grouped = grouped i; triangles = triangles i; labels = labels i }
