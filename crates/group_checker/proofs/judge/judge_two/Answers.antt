use Rattle.std.proofs.Common.{◌∙◌, List, length, ap, sym, subst}
use Rattle.sight_names.specs.declared.names.Triangle.{Triangle}
use Rattle.sight_names.specs.Map.{map_of}
use Rattle.sight_names.specs.Mesh.{IsGoodMesh}
use Rattle.sight_names.specs.Plan.{PlanParts}
use Rattle.cert_format.specs.Accepted.{triangles_of, labels_of}
use Rattle.group_checker.specs.declared.grouping.MeshVerdict.TheVariants.{Good, Broken}
use Rattle.group_checker.proofs.Ending.{grouped_judged, its_own, own_told}
use Rattle.group_checker.proofs.OneMap.{few_groups, few_triangles, sectors_below, triangles_between}
use Rattle.group_checker.proofs.judge.judge_two.Goals as goal

pub judge_mesh-requires-clause-triangles : goal.judge_mesh-requires-clause-triangles
judge_mesh-requires-clause-triangles g c = triangles_between c.args.plan.now c.args.two.now c.requires.cert c.triangles.result.now c.triangles.ensures.list

pub judge_mesh-requires-clause-few : goal.judge_mesh-requires-clause-few
judge_mesh-requires-clause-few g c = few_triangles c.args.plan.now c.args.two.now c.requires.cert c.triangles.result.now c.triangles.ensures.list

pub judge_mesh-requires-clause-few_groups : goal.judge_mesh-requires-clause-few_groups
judge_mesh-requires-clause-few_groups g c = few_groups c.args.plan.now c.args.two.now c.requires.cert c.as_slice.result.now c.as_slice.ensures

pub judge_mesh-requires-clause-sectors : goal.judge_mesh-requires-clause-sectors
judge_mesh-requires-clause-sectors g c = sectors_below c.args.plan.now c.args.two.now c.requires.cert (length c.as_slice.result.now) (ap length c.as_slice.ensures) c.triangles.result.now c.triangles.ensures.list

pub returns-in-Broken : goal.returns-in-Broken
returns-in-Broken g c =
    let told = own_told c.args.plan.now c.args.two.now c.triangles.result.now c.as_slice.result.now c.in_ok-judged.judged (Broken c.in-Broken.fault) c.triangles.ensures.list c.as_slice.ensures c.in-Broken.is c.in_ok-judged.ensures in
    told c.args.table.now c.args.two.now (its_own c.args.two.now)

pub judge_grouped-requires : goal.judge_grouped-requires
judge_grouped-requires g c =
    let two = c.args.two.now in
    let told = own_told c.args.plan.now two c.triangles.result.now c.as_slice.result.now c.in_ok-judged.judged (Good c.in-Good.over) c.triangles.ensures.list c.as_slice.ensures c.in-Good.is c.in_ok-judged.ensures in
    record {
      can = c.requires.can;
      cert = (c.requires.cert.sizes, c.requires.cert.in_order, c.requires.cert.sectors ∙ sym c.requires.table);
      triangles = told.0;
      labels = told.1;
      sectors = ap (λ (x : PlanParts). x.sectors) told.2.grouped_is;
      plan = told.2.plan;
      good = subst (λ (ts : List Triangle). IsGoodMesh (map_of c.in-Good.over.plan) ts (labels_of two.cert)) (sym told.0) told.2.good;
    }

pub returns-in_ok-verdict-in-Good : goal.returns-in_ok-verdict-in-Good
returns-in_ok-verdict-in-Good g c =
    let two = c.args.two.now in
    let told = own_told c.args.plan.now two c.triangles.result.now c.as_slice.result.now c.in_ok-judged.judged (Good c.in-Good.over) c.triangles.ensures.list c.as_slice.ensures c.in-Good.is c.in_ok-judged.ensures in
    let e = c.in_ok-verdict-in-Good.ensures in
    rw c.any_of.ensures (grouped_judged c.args.plan.now c.args.table.now two (triangles_of two.cert) (labels_of two.cert) two.groups c.in-Good.over.plan told.2 (its_own two) c.in_ok-verdict-in-Good.verdict e.later e.rays e.trees e.pairs)
