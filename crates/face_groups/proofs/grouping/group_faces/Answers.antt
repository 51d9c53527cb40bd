use Rattle.std.proofs.Common.{◌≡◌, ℕ, List, length, vec_len, Option, sym, ap, ◌∙◌, subst, arith}
use Rattle.sight_names.specs.Map.{map_of}
use Rattle.face_groups.specs.GroupsBase.Table.{NamedAreLabelled}
use Rattle.face_groups.specs.declared.namings.Naming.{Naming}
use Rattle.face_groups.specs.Namings.{AreOnFaces}
use Rattle.face_groups.specs.NamedFaces.{AreListLabels}
use Rattle.face_groups.specs.Regrouped.{regrouped_plan}
use Rattle.face_groups.proofs.Verdicts.{on_faces, named_are_labelled}
use Rattle.face_groups.proofs.grouping.group_faces.Goals as goal

pub labelled_groups-requires-clause-on : goal.labelled_groups-requires-clause-on
labelled_groups-requires-clause-on c =
    subst (AreOnFaces c.args.faces.now) (sym c.as_slice.ensures.value)
    (on_faces (map_of c.args.plan.now) c.args.mesh.now.triangles c.args.faces.now c.in_ok-namings.namings.items c.in_ok-namings.ensures c.requires.marked.are_faces.named c.requires.marked.are_faces.one_each c.requires.range)

pub regrouped_map-requires-clause-named : goal.regrouped_map-requires-clause-named
regrouped_map-requires-clause-named c =
    subst (NamedAreLabelled (map_of c.args.plan.now) c.args.mesh.now.triangles) (sym c.as_slice-2.ensures.value)
    (named_are_labelled (map_of c.args.plan.now) c.args.mesh.now.triangles c.args.faces.now c.in_ok-namings.namings.items c.in_ok-namings.ensures c.args.marks.now c.in_default.ensures.search c.requires.marked.are_faces.one_each c.in_ok-groups.field-0.groups.items c.in_ok-groups.field-0.labels.items
    (subst (λ (ns : List Naming). AreListLabels ns c.args.faces.now c.in_ok-groups.field-0.groups.items c.in_ok-groups.field-0.labels.items) c.as_slice.ensures.value c.in_ok-groups.ensures))

pub returns-clause-verdict : goal.returns-clause-verdict
returns-clause-verdict c = let count : vec_len c.in_ok-groups.field-0.groups ≡ length c.in_ok-groups.field-0.groups.items = omega arith in record {
  sealed = c.in_default.ensures.search;
  namings = c.in_ok-namings.namings.items;
  are_namings = c.in_ok-namings.ensures;
  labels =
      subst (λ (ls : List (Option ℕ)). AreListLabels c.in_ok-namings.namings.items c.args.faces.now c.of.result ls) (sym c.of-2.ensures)
      (subst (λ (gs : List (List ℕ)). AreListLabels c.in_ok-namings.namings.items c.args.faces.now gs c.in_ok-groups.field-0.labels.items) (sym c.of.ensures)
      (subst (λ (ns : List Naming). AreListLabels ns c.args.faces.now c.in_ok-groups.field-0.groups.items c.in_ok-groups.field-0.labels.items) c.as_slice.ensures.value c.in_ok-groups.ensures));
  plan =
      c.in_ok-plan.ensures
      ∙ ap (λ (ls : List (Option ℕ)). regrouped_plan c.args.mesh.now.triangles ls c.len.result c.args.plan.now) (c.as_slice-2.ensures.value ∙ sym c.of-2.ensures)
      ∙ ap (λ (n : ℕ). regrouped_plan c.args.mesh.now.triangles c.of-2.result n c.args.plan.now) (c.len.ensures ∙ count ∙ ap length (sym c.of.ensures));
}
