use Rattle.sight_names.specs.Map.{map_of}
use Rattle.sight_names.proofs.PlanMap.{plan_is_map}
use Rattle.mesh_base.proofs.PlanFacts.{plan_facts}
use Rattle.face_groups.proofs.GroupsBase.CheckedGroups.{table_closes, table_has_groups, table_has_grouped, table_is_good, table_is_map, table_is_sound, table_sees, table_one_group}
use Rattle.face_groups.proofs.GroupsBase.FewGroups.{few_groups}
use Rattle.triangulate.proofs.group_laws.laws.tables_show_groups.Goals as goal

pub returns : goal.returns
returns c = λ p ts groups ls g plan table names. record {
  closed = table_closes (map_of p) (plan_facts p plan) ts groups ls table;
  its = record { are = table_has_groups (map_of p) (plan_facts p plan) ts groups ls table; is = table_has_grouped (map_of p) (plan_facts p plan) ts groups ls table g names };
  is_map = table_is_map (map_of p) (plan_facts p plan) ts groups ls table g names (plan_is_map p plan);
  sound = table_is_sound (map_of p) (plan_facts p plan) ts groups ls table g names;
  good = table_is_good (map_of p) (plan_facts p plan) ts groups ls table g names;
  sees = table_sees (map_of p) (plan_facts p plan) ts groups ls table g names;
  one_group = table_one_group (map_of p) (plan_facts p plan) ts groups ls table g names;
  few = few_groups ts groups ls table.one_each table.used;
}
