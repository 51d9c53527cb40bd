use Rattle.triangulate.proofs.GroupLaws.WholeLaws.{in_sector_by_groups}
use Rattle.triangulate.proofs.group_laws.laws.points_are_in_groups.Goals as goal

pub returns : goal.returns
returns c = λ p ts h groups g its. in_sector_by_groups p h.plan h.faces ts h.mesh groups its.are g its.is
