-- What an accepted certificate of version 2 shows: no rejected pair sees, and each clear pair that isn't listed does.
use Rattle.std.proofs.Common.{◌≡◌}
use Rattle.sight_names.specs.Plan.{PlanParts, IsPlan}
use Rattle.sight_names.specs.Map.{Map, map_of}
use Rattle.sight_names.specs.Sound.{LinesMeetAtEnds}
use Rattle.sight_names.specs.Groups.{IsInGroup}
use Rattle.sight_names.proofs.PlanMap.{plan_is_map}
use Rattle.mesh_base.proofs.GoodMesh.{PointFacts}
use Rattle.mesh_base.proofs.PlanFacts.{plan_facts}
use Rattle.reject_bits.specs.Parts.{TableParts}
use Rattle.cert_format.specs.Accepted.{triangles_of, labels_of}
use Rattle.cert_format.specs.declared.cert_groups.cert.CertTwo.{CertTwo}
use Rattle.face_groups.specs.GroupsBase.Table.{IsTableFor, NamesTheLabels}
use Rattle.face_groups.proofs.GroupsBase.CheckedGroups.{table_is_good, table_is_map, table_is_sound, table_sees, table_one_group}
use Rattle.cert_checker.specs.AcceptedGroups.Accepted.{IsAcceptedTwo}
use Rattle.cert_checker.specs.Sight.{TellsSightOne}
use Rattle.cert_checker.proofs.Seeing.{SightIsBy, accepted_tells_by}
use Rattle.group_checker.specs.Judged.{with_list}

-- sectors see each other where some of their groups do
grouped_sight : (m : Map) → PointFacts m → (c : CertTwo) (g : Map) → IsTableFor m (triangles_of c.cert) c.groups (labels_of c.cert) → NamesTheLabels m (triangles_of c.cert) c.groups (labels_of c.cert) g → SightIsBy m g (IsInGroup c.groups)
grouped_sight m facts c g table names = record {
  down = λ a b sees. (table_sees m facts (triangles_of c.cert) c.groups (labels_of c.cert) table g names a b).0 sees;
  up = λ a b f k in_f in_k sees. (table_sees m facts (triangles_of c.cert) c.groups (labels_of c.cert) table g names a b).1 (f, k, in_f, in_k, sees);
  one = λ a b f in_a in_b. table_one_group m facts (triangles_of c.cert) c.groups (labels_of c.cert) table g names f a b in_a in_b;
}

-- an accepted table tells of sight what is so
pub accepted_two_tells : (p : PlanParts) → IsPlan p → LinesMeetAtEnds (map_of p) → (t : TableParts) (c : CertTwo) → t.n ≡ p.sectors → IsAcceptedTwo (map_of p) t.bytes c → TellsSightOne (map_of p) t (with_list c)
accepted_two_tells p is ends t c size (g, names, all) =
    let m = map_of p in
    let facts = plan_facts p is in
    accepted_tells_by m g (IsInGroup c.groups) t c.cert (with_list c) size (table_is_map m facts (triangles_of c.cert) c.groups (labels_of c.cert) all.table_for g names (plan_is_map p is) ends)
    (table_is_sound m facts (triangles_of c.cert) c.groups (labels_of c.cert) all.table_for g names ends).ends (table_is_good m facts (triangles_of c.cert) c.groups (labels_of c.cert) all.table_for g names) (grouped_sight m facts c g all.table_for names) all.on
