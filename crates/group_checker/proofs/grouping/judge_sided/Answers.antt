use Rattle.std.proofs.Common.{◌∙◌, List, Option, ℕ, length, ap, sym, subst}
use Rattle.sight_names.specs.Map.{map_of}
use Rattle.sight_names.specs.Mesh.{label_of}
use Rattle.face_groups.specs.GroupsBase.Table.{NamedAreLabelled}
use Rattle.face_groups.specs.Regrouped.{regrouped_plan}
use Rattle.group_checker.specs.Lists.{IsFirstListFault}
use Rattle.group_checker.proofs.Ending.{fault_told, group_fault_told, named_labelled, plain_is}
use Rattle.group_checker.proofs.grouping.judge_sided.Goals as goal

pub regrouped_map-requires-clause-range : goal.regrouped_map-requires-clause-range
regrouped_map-requires-clause-range c = λ k f label. c.requires.labels.below k f (ap (λ (ls : List (Option ℕ)). label_of ls k) (sym c.as_slice.ensures) ∙ label)

pub regrouped_map-requires-clause-named : goal.regrouped_map-requires-clause-named
regrouped_map-requires-clause-named c = subst (NamedAreLabelled (map_of c.args.plan.now) c.args.mesh.triangles) (sym c.as_slice.ensures) (named_labelled c.args.plan.now c.requires.plan c.args.mesh.triangles c.args.labels c.args.groups.now c.requires.labels c.requires.sides)

pub returns-in-Some : goal.returns-in-Some
returns-in-Some c =
    let p = c.args.plan.now in
    let ts = c.args.mesh.triangles in
    let n = length c.args.groups.now in
    fault_told p c.requires.plan ts c.args.labels c.args.groups.now c.requires.labels c.requires.sides c.in_ok-grouped.grouped (c.in_ok-grouped.ensures ∙ ap (λ (ls : List (Option ℕ)). regrouped_plan ts ls n p) c.as_slice.ensures) c.in-Some.fault c.in-Some.ensures

pub group_fault-requires-clause-plain : goal.group_fault-requires-clause-plain
group_fault-requires-clause-plain c =
    let p = c.args.plan.now in
    let ts = c.args.mesh.triangles in
    let n = length c.args.groups.now in
    plain_is p c.requires.plan ts c.args.labels c.args.groups.now c.in_ok-grouped.grouped (c.in_ok-grouped.ensures ∙ ap (λ (ls : List (Option ℕ)). regrouped_plan ts ls n p) c.as_slice.ensures) c.in_default.ensures

pub returns-in-Some-fault : goal.returns-in-Some-fault
returns-in-Some-fault c =
    let p = c.args.plan.now in
    let ts = c.args.mesh.triangles in
    let n = length c.args.groups.now in
    group_fault_told p c.requires.plan ts c.args.labels c.args.groups.now c.in_ok-grouped.grouped (c.in_ok-grouped.ensures ∙ ap (λ (ls : List (Option ℕ)). regrouped_plan ts ls n p) c.as_slice.ensures) c.in_default.ensures c.requires.sides c.in-Some-fault.fault
    (subst (IsFirstListFault (map_of p) ts c.args.groups.now c.args.labels) c.in-Some-fault.is c.in_ok-fault.ensures)
