use Rattle.triangulate.proofs.GroupLaws.WholeLaws.{sectors_see_by_groups}
use Rattle.triangulate.proofs.group_laws.laws.sight_by_groups.Goals as goal

pub returns : goal.returns
returns c = λ p ts h groups g its. sectors_see_by_groups p h.plan h.faces ts h.mesh groups its.are g its.is
