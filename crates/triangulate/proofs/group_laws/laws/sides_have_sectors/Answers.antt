use Rattle.triangulate.proofs.GroupLaws.WholeLaws.{each_has_list}
use Rattle.triangulate.proofs.group_laws.laws.sides_have_sectors.Goals as goal

pub returns : goal.returns
returns c = λ p ts h. each_has_list p h.plan h.faces ts h.mesh
